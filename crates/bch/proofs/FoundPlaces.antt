-- What the search's answers say of the changed places: one, two, or that there are none that would do. Assumes
-- nothing.
use mathlib.Core.Path.{◌≡◌, refl, sym, ap, ap₂, ◌∙◌}
use mathlib.Core.List.{[], ◌∷◌}
use Prim.Native.Nat.{ℕ, suc, ◌+◌, ◌-◌, ◌<◌, ◌≤◌}
use native.Mathlib.Decide.{dec_lt}
use native.Mathlib.Omega.{arith}
use lib.Bits.{bit_xor}
use Rattle.bch.specs.Field.{times_x, mul, times_x2}
use Rattle.bch.specs.Search.{added, Rising, Syndromes, repeated, value_at, Passed, NextRoot, NoRoot, NoPattern}
use Rattle.bch.proofs.Point.{point}
use Rattle.bch.proofs.Locator.{locator}
use Rattle.bch.proofs.Roots.{one-root-added, two_roots_added, no-pattern}
use Rattle.bch.proofs.LocatorSearch.{from_start, passed_all, point-value}

module _ {s u v c sq1 : ℕ} (g : Syndromes s u v c) (e : sq1 ≡ mul u u) {p q d : ℕ} (f : Passed c u sq1 0 p q d) where
  from_first : (p ≡ repeated times_x2 d u) × (q ≡ repeated times_x d sq1) × ((k : ℕ) → 0 ≤ k → k < d → value_at u sq1 k ≡ c → ⊥)
  from_first = from_start refl refl f

  place-value : (k : ℕ) → k < 67 → locator u (point (66 - k)) ≡ value_at u sq1 k
  place-value k h =
      let z : 66 - (66 - k) ≡ k = omega arith in
      point-value u (66 - k) g.element ∙ ap₂ (value_at u) (sym e) z

  place-root : d < 67 → bit_xor p q ≡ c → locator u (point (66 - d)) ≡ c
  place-root h r = place-value d h ∙ sym (ap₂ bit_xor from_first.0 from_first.1) ∙ r

  -- no place is a root
  no-root-passed : 66 < d → NoPattern s
  no-root-passed h =
      no-pattern g 67 (λ l. absurd (omega arith))
      (λ j a b n r. from_first.2 (66 - j) (omega arith) (omega arith) (ap (λ (w : ℕ). value_at u w (66 - j)) e ∙ sym (point-value u j g.element) ∙ r))

  -- one root, and it is the sum of the places: one place
  one-root-at : d < 67 → bit_xor p q ≡ c → c ≡ 0 → Rising 0 ((66 - d) ∷ []) × (added ((66 - d) ∷ []) ≡ s)
  one-root-at h r z = ((omega arith, omega arith, tt), one-root-added g (66 - d) (place-root h r) z)

  module _ {p1 q1 p2 q2 d2 : ℕ} (h : d < 67) (r₀ : bit_xor p q ≡ c) (ep : p1 ≡ times_x2 p) (eq : q1 ≡ times_x q) (t : Passed c p1 q1 (d + 1) p2 q2 d2) where
    from_second : (p2 ≡ repeated times_x2 d2 u) × (q2 ≡ repeated times_x d2 sq1) × ((k : ℕ) → d + 1 ≤ k → k < d2 → value_at u sq1 k ≡ c → ⊥)
    from_second =
        let z : d + 1 ≡ suc d = omega arith in
        from_start
        (ep ∙ ap times_x2 from_first.0 ∙ sym (ap (λ (n : ℕ). repeated times_x2 n u) z))
        (eq ∙ ap times_x from_first.1 ∙ sym (ap (λ (n : ℕ). repeated times_x n sq1) z)) t

    -- two roots: the two places
    two-roots-at : d2 < 67 → bit_xor p2 q2 ≡ c → Rising 0 ((66 - d2) ∷ (66 - d) ∷ []) × (added ((66 - d2) ∷ (66 - d) ∷ []) ≡ s)
    two-roots-at l r =
        let o = t.on in (
          (omega arith, omega arith, (omega arith, omega arith, tt)),
          two_roots_added g (66 - d2) (66 - d) (omega arith) (omega arith)
              (place-value d2 l ∙ sym (ap₂ bit_xor from_second.0 from_second.1) ∙ r) (place-root h r₀),
        )

    -- a lone root, its partner in the shortened places: none
    lone-root-passed : 66 < d2 → (c ≡ 0 → ⊥) → NoPattern s
    lone-root-passed l z =
        no-pattern g (66 - d) (λ m. z)
        (λ j a b n r.
        by j b n (ap (λ (w : ℕ). value_at u w (66 - j)) e ∙ sym (point-value u j g.element) ∙ r) (dec_lt (66 - j) d))
      where
        by : (j : ℕ) → j < 67 → (j ≡ 66 - d → ⊥) → value_at u sq1 (66 - j) ≡ c → Dec (66 - j < d) → ⊥
        by j b n r (yes m) = from_first.2 (66 - j) (omega arith) m r
        by j b n r (no m) =
            let y : 66 - j ≡ d → ⊥ = λ x. n (omega arith) in
            from_second.2 (66 - j) (omega arith) (omega arith) r

-- ---- what the search answers

module _ {s u v c sq1 : ℕ} (g : Syndromes s u v c) (e : sq1 ≡ mul u u) where
  pub no-root-no-pattern : NoRoot c u sq1 0 → NoPattern s
  no-root-no-pattern n = no-root-passed g e (passed_all (omega arith) n) (omega arith)

  module _ {p q d : ℕ} (f : NextRoot c u sq1 0 p q d) where
    pub one_root_located : c ≡ 0 → Rising 0 ((66 - d) ∷ []) × (added ((66 - d) ∷ []) ≡ s)
    one_root_located z = one-root-at g e f.passed f.below f.root z

    module _ {p1 q1 : ℕ} (ep : p1 ≡ times_x2 p) (eq : q1 ≡ times_x q) where
      pub two_roots_located : {p2 q2 d2 : ℕ} → NextRoot c p1 q1 (d + 1) p2 q2 d2
          → Rising 0 ((66 - d2) ∷ (66 - d) ∷ []) × (added ((66 - d2) ∷ (66 - d) ∷ []) ≡ s)
      two_roots_located t = two-roots-at g e f.passed f.below f.root ep eq t.passed t.below t.root

      pub lone_root_no_pattern : NoRoot c p1 q1 (d + 1) → (c ≡ 0 → ⊥) → NoPattern s
      lone_root_no_pattern n z =
          let b = f.below in
          lone-root-passed g e f.passed f.below f.root ep eq (passed_all (omega arith) n) (omega arith) z
