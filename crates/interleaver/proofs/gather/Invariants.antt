-- `interleaver::gather` meets its contract: a turn is one move more. Assumes nothing.
use mathlib.Core.Path.{◌≡◌}
use lib.ListN.{length, get_or}
use Rattle.interleaver.specs.Inner.{Moved}
use Rattle.interleaver.proofs.gather.Given as goal

abbrev pub invariant-loop-q : goal.invariant-loop-q
invariant-loop-q l =
    (length l.out ≡ length l.initial.out) × Moved (length l.places) (λ k. k) (λ k. get_or l.places k 0) l.q l.cells l.initial.out l.out
