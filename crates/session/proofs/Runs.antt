-- There is a run of every list of operations, so that what is said of runs says something, and what it leads to is determined. Assumes nothing.
use mathlib.Core.Path.{◌≡◌, refl, sym, ap, ◌∙◌, subst}
use mathlib.Core.List.{List, [], ◌∷◌, ◌++◌}
use Prim.Native.Nat.{ℕ}
use lib.Ieee.{Float}
use lib.ListN.{length, take, drop, replicate, length-replicate}
use Rattle.ground.specs.Answer.{kept}
use Rattle.carriers.specs.Mode.{Mode}
use Rattle.ground.specs.Cells.{plus_zero}
use Rattle.session.specs.declared.Session.{Session}
use Rattle.session.specs.declared.Called.{Called}
use Rattle.session.specs.Journal.{tps_cells, in_place}
use Rattle.session.specs.Session.{standing, frame_of, fresh, feed_no_of, open_of, fed_by, called, feed_answer, feed_data_leaves, feed_journal_leaves, step_back_answer}
use Rattle.session.specs.History.{Op, feed, back, reset, Call, Run, start, next}

pub runs : (m : Mode) (j₀ : List Float) (os : List Op) → (s : Session) × (j : List Float) × Run m j₀ os s j
runs m j₀ [] = (fresh m, j₀, start refl)
runs m j₀ (feed y room l ∷ os) =
    let (s, j, r) = runs m j₀ os in
    let d : List Float = replicate room plus_zero in
    let a = feed_answer m s y d (take l j) in
    let p = feed_journal_leaves m s y d (take l j) in (
      a.session,
      p ++ drop l j,
      next (feed y room l) r (record {
        given = d;
        given_length = length-replicate room plus_zero;
        answer = a;
        out = feed_data_leaves m s y d (take l j);
        part = p;
        promise = record { result = refl; data_cells = refl; journal_cells = refl };
        session = refl;
        journal = refl;
      }),
    )
runs m j₀ (back l ∷ os) =
    let (s, j, r) = runs m j₀ os in
    let a = step_back_answer m s (take l j) in
    (a.session, j, next (back l) r (record { answer = a; promise = refl; session = refl; journal = refl }))
runs m j₀ (reset ∷ os) = let (s, j, r) = runs m j₀ os in (fresh m, j, next reset r (record { promise = refl; journal = refl }))

-- ---- two runs of the same operations

-- of the output that a feed is given only its length counts for the session and the journal
module _ (m : Mode) (s : Session) (y p d d' : List Float) (n : length d ≡ length d') where
  same-answers : feed_answer m s y d p ≡ feed_answer m s y d' p
  same-answers =
      ap (λ (k : ℕ). called (feed_no_of m (length y) k (length p) (frame_of s) (standing s)) (fed_by m (open_of m s) (tps_cells m y)) s) n

  same_journals : feed_journal_leaves m s y d p ≡ feed_journal_leaves m s y d' p
  same_journals =
      ap
      (λ (k : ℕ). kept (feed_no_of m (length y) k (length p) (frame_of s) (standing s)) (in_place m (open_of m s).frames (open_of m s).count (tps_cells m y) p) p) n

-- two calls that meet one promise lead to the same session and journal
same_call : (m : Mode) (o : Op) (s : Session) (j : List Float) {s₁ s₂ : Session} {j₁ j₂ : List Float} → Call m o s j s₁ j₁ → Call m o s j s₂ j₂
    → (s₁ ≡ s₂) × (j₁ ≡ j₂)
same_call m (feed y room l) s j a b =
    let n : length a.given ≡ length b.given = a.given_length ∙ sym b.given_length in (
      a.session
          ∙ ap (λ (x : Called ℕ). x.session) (a.promise.result ∙ same-answers m s y (take l j) a.given b.given n ∙ sym b.promise.result)
          ∙ sym b.session,
      a.journal
          ∙ ap (λ (x : List Float). x ++ drop l j) (a.promise.journal_cells ∙ same_journals m s y (take l j) a.given b.given n ∙ sym b.promise.journal_cells)
          ∙ sym b.journal,
    )
same_call m (back l) s j a b = (
  a.session ∙ ap (λ (x : Called (Unit {0})). x.session) (a.promise ∙ sym b.promise) ∙ sym b.session,
  a.journal ∙ sym b.journal,
)
same_call m reset s j a b = (a.promise ∙ sym b.promise, a.journal ∙ sym b.journal)

-- the session and the journal that a run leads to are determined by its operations and its first journal
pub same_run : {m : Mode} {j₀ j k : List Float} {os : List Op} {s t : Session} → Run m j₀ os s j → Run m j₀ os t k → (s ≡ t) × (j ≡ k)
same_run (start a) (start b) = (a ∙ sym b, refl)
same_run {m} {j₀} {j} {k} {os} {s} {t} (next {s = s₁} {j = j₁} o r a) (next {s = s₂} {j = j₂} o₂ q b) =
    let (e, i) = same_run r q in
    same_call m o s₁ j₁ a (subst (λ (z : Session). Call m o z j₁ t k) (sym e) (subst (λ (z : List Float). Call m o s₂ z t k) (sym i) b))
