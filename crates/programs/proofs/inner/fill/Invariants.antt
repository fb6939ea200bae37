-- `programs::inner::fill`: the count is within the buffer. Assumes nothing.
use Rattle.std.proofs.Common.{length, ◌-◌, ◌≤◌}
use Rattle.programs.proofs.inner.fill.Given as goal

abbrev pub invariant-loop-count : goal.invariant-loop-count
invariant-loop-count l = l.count ≤ length l.input

abbrev pub decreases-loop-count : goal.decreases-loop-count
decreases-loop-count l = length l.initial.input - l.count
