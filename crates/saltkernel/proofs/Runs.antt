-- A call over C that meets its promise is the call of a run (session's History), so that demand 3's theorems hold for runs over C: the journal is lent up
-- to `lent`, and what isn't lent of it stays. Assumes nothing.
use mathlib.Core.Path.{◌≡◌, refl}
use mathlib.Core.List.{List, [], ◌++◌}
use Prim.Native.Nat.{ℕ}
use lib.Ieee.{Float}
use lib.ListN.{length, take, drop}
use Rattle.carriers.specs.Mode.{mode2k}
use Rattle.session.specs.declared.Session.{Session}
use Rattle.session.specs.Session.{fresh, feed_answer, feed_data_leaves, feed_journal_leaves, step_back_answer}
use Rattle.session.specs.History.{feed, back, reset, Call, Run, start}
use Rattle.saltkernel.specs.declared.sessions.SaltSessionFed.{SaltSessionFed}
use Rattle.saltkernel.specs.declared.sessions.SaltSessionStepped.{SaltSessionStepped}
use Rattle.saltkernel.specs.Sessions.{SaysSessionFed, SaysStepped}

pub salt_new_is_start : {s : Session} (j : List Float) → s ≡ fresh mode2k → Run mode2k j [] s j
salt_new_is_start j e = start e

pub salt_reset_is_call : (s : Session) (j : List Float) {s' : Session} → s' ≡ fresh mode2k → Call mode2k reset s j s' j
salt_reset_is_call s j e = record { promise = e; journal = refl }

module _ (s : Session) (j : List Float) (lent : ℕ) where
  pub salt_feed_is_call : (symbol out : List Float) {r : SaltSessionFed} {out' part : List Float}
      → SaysSessionFed r (feed_answer mode2k s symbol out (take lent j))
      → out' ≡ feed_data_leaves mode2k s symbol out (take lent j)
      → part ≡ feed_journal_leaves mode2k s symbol out (take lent j)
      → Call mode2k (feed symbol (length out) lent) s j r.session (part ++ drop lent j)
  salt_feed_is_call symbol out {r} {out'} {part} says data-left journal-left =
      record {
        given = out;
        given_length = refl;
        answer = feed_answer mode2k s symbol out (take lent j);
        out = out';
        part = part;
        promise = record { result = refl; data_cells = data-left; journal_cells = journal-left };
        session = says.says_session;
        journal = refl;
      }

  pub salt_step_back_is_call : {r : SaltSessionStepped} → SaysStepped r (step_back_answer mode2k s (take lent j)) → Call mode2k (back lent) s j r.session j
  salt_step_back_is_call says =
      record { answer = step_back_answer mode2k s (take lent j); promise = refl; session = says.says_session; journal = refl }
