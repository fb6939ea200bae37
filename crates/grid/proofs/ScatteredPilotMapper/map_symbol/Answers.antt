-- `grid::ScatteredPilotMapper::map_symbol` meets its contract: the symbol is mapped in its front. Assumes nothing.
use borrow.Author.Rules.{rules}
use borrow.Author.Tests.{lt-ltb, le-ltb}
use mathlib.Core.Path.{refl, ap, ap₂, ◌∙◌}
use mathlib.Core.List.{List, ◌++◌}
use Prim.Native.Nat.{ℕ, ◌%◌, ◌≤◌, ◌<◌}
use native.Mathlib.Omega.{arith}
use lib.Ieee.{Float, of_bits, of_fields}
use lib.ListN.{length, drop, replicate}
use lib.Seq.{length-take-le}
use Rattle.carriers.specs.Mode.{mode2k}
use Rattle.carriers.specs.Carriers.{data_actives, reference_actives}
use Rattle.carriers.proofs.Facts.{facts2k}
use Rattle.ground.specs.Cells.{plus_zero}
use Rattle.grid.specs.Symbol.{stored, piloted}
use Rattle.grid.proofs.Behind.{mapped_in_front}
use Rattle.grid.proofs.ScatteredPilotMapper.map_symbol.Goals as goal

pub returns-in_default-first_chunk_mut-clause-value : goal.returns-in_default-first_chunk_mut-clause-value
returns-in_default-first_chunk_mut-clause-value c =
    let enough : 3024 ≤ length c.args.cells.now = c.in-Some.ensures.variant.0 refl in
    let short : length c.args.symbol.now < 4096 = c.in_default-first_chunk_mut.ensures.cases in
    simp (le-ltb _ _ enough, lt-ltb _ _ short) c.refused-in_default-first_chunk_mut.ensures

pub returns-in_default-first_chunk_mut-clause-symbol_after : goal.returns-in_default-first_chunk_mut-clause-symbol_after
returns-in_default-first_chunk_mut-clause-symbol_after c =
    let enough : 3024 ≤ length c.args.cells.now = c.in-Some.ensures.variant.0 refl in
    let short : length c.args.symbol.now < 4096 = c.in_default-first_chunk_mut.ensures.cases in
    simp (le-ltb _ _ enough, lt-ltb _ _ short)

pub returns-clause-symbol_after : goal.returns-clause-symbol_after
unfolding plus_zero of_bits of_fields
returns-clause-symbol_after c =
    let p = c.args.self.phase % 4 in
    let o = c.args.symbol.now in
    let enough : 3024 ≤ length c.args.cells.now = c.in-Some.ensures.variant.0 refl in
    let room : 4096 ≤ length o = c.in-Some-first_chunk_mut.ensures.variant.0 refl in
    let zeros = c.fill.ensures.after (λ y same. search rules)
    ∙ ap (λ (n : ℕ). replicate n plus_zero) (ap length c.in-Some-first_chunk_mut.ensures.cases.same ∙ length-take-le 4096 o room) in
    simp (le-ltb _ _ enough, le-ltb _ _ room)
    (ap (λ (s : List Float). s ++ drop 4096 o)
    (c.lay_pilots.ensures
    ∙ ap (λ (s : List Float). piloted mode2k mode2k.tps (piloted mode2k (reference_actives mode2k p) s))
    (c.lay_data.ensures ∙ ap₂ (stored mode2k (data_actives mode2k p)) c.in-Some.ensures.cases.same zeros))
    ∙ mapped_in_front mode2k facts2k p (omega arith) c.args.cells.now o)
