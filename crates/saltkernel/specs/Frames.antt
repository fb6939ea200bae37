-- Document 01, 'TPS' and 'Refusal numbers', over the C interface: the answers of the sender and of the receiver as
-- numbers, 0 for accepted; a refused call has the bit 0 and the state as it went in.
use Rattle.std.specs.Prelude.{◌≡◌, ℕ, Result}
use Rattle.ground.specs.declared.Refusal.{Refusal}
use Rattle.ground.specs.Refusal.{code}
use Rattle.tps.specs.declared.sender.Sent.{Sent}
use Rattle.tps.specs.declared.receiver.Fed.{Fed}
use Rattle.tps.specs.Receive.{bit_number, bit_in}
use Rattle.saltkernel.specs.Numbers.{Says}
use Rattle.saltkernel.specs.declared.frames.SaltSent.{SaltSent}
use Rattle.saltkernel.specs.declared.frames.SaltTpsBit.{SaltTpsBit}
use Rattle.saltkernel.specs.declared.frames.SaltTpsFed.{SaltTpsFed}

-- the numbers and the sender are what the answer says
pub record SaysSent (r : SaltSent) (a : Sent) : Type 0 where
  pub says_answer : Says r.answer a.answer
  pub says_encoder : r.encoder ≡ a.encoder

-- the number and the bit are what the answer says
pub record SaysBit (r : SaltTpsBit) (a : Result ℕ Refusal) : Type 0 where
  pub says_number : r.number ≡ code (bit_number a)
  pub says_bit : r.bit ≡ bit_in a

-- the number, the bit and the receiver are what the answer says
pub record SaysFed (r : SaltTpsFed) (a : Fed) : Type 0 where
  pub says_number : r.number ≡ code (bit_number a.answer)
  pub says_bit : r.bit ≡ bit_in a.answer
  pub says_decoder : r.decoder ≡ a.decoder
