-- Document 01, 'Receive session' and 'Refusal numbers', over the C interface: the answers of a feed and of a step back
-- as numbers, 0 for accepted; a refused call has the bit 0 and the session as it went in.
use Rattle.std.specs.Prelude.{◌≡◌, ℕ}
use Rattle.ground.specs.Refusal.{code}
use Rattle.tps.specs.Receive.{bit_number, bit_in}
use Rattle.session.specs.declared.Called.{Called}
use Rattle.session.specs.Session.{step_number}
use Rattle.saltkernel.specs.declared.sessions.SaltSessionFed.{SaltSessionFed}
use Rattle.saltkernel.specs.declared.sessions.SaltSessionStepped.{SaltSessionStepped}

-- the number, the bit and the session are what the answer says
pub record SaysSessionFed (r : SaltSessionFed) (a : Called ℕ) : Type 0 where
  pub says_number : r.number ≡ code (bit_number a.answer)
  pub says_bit : r.bit ≡ bit_in a.answer
  pub says_session : r.session ≡ a.session

-- the number and the session are what the answer says
pub record SaysStepped (r : SaltSessionStepped) (a : Called (Unit {0})) : Type 0 where
  pub says_number : r.number ≡ code (step_number a.answer)
  pub says_session : r.session ≡ a.session
