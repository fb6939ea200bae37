-- The information as it is written: a copy is the first 53 bits, and with the named places flipped it is the mended
-- word's information. Assumes nothing.
use mathlib.Core.Path.{◌≡◌, sym, ap, ◌∙◌, subst}
use mathlib.Core.List.{List}
use Prim.Native.Nat.{ℕ}
use native.Mathlib.Omega.{arith}
use lib.ListN.{length, take}
use lib.Seq.{length-take-le}
use Rattle.ground.specs.Bits.{Bits}
use Rattle.ground.proofs.Bits.{bits-take}
use Rattle.bch.specs.Search.{flip, mended}
use Rattle.bch.specs.declared.search.Found.{Found}
use Rattle.bch.specs.declared.search.Found.TheVariants.{One, Two}
use Rattle.bch.proofs.Flipped.{flip-length, flip_bits, take-flip}

-- ---- the named places flipped

module _ (w b : List ℕ) (hl : length w ≡ 67) (e : b ≡ take 53 w) where
  pub copied_bits : Bits w → Bits b
  copied_bits h = subst (λ (l : List ℕ). Bits l) (sym e) (bits-take 53 w h)

  flipped_information : (a : List ℕ) (i : ℕ) → a ≡ flip b i → a ≡ take 53 (flip w i)
  flipped_information a i g = g ∙ ap (λ (l : List ℕ). flip l i) e ∙ take-flip 53 w i (length-take-le 53 w (omega arith))

  pub flipped_bits : (a : List ℕ) (i : ℕ) → Bits w → a ≡ flip b i → Bits a
  flipped_bits a i h g = subst (λ (l : List ℕ). Bits l) (sym g) (flip_bits b i (copied_bits h))

  module _ (r : Found) where
    pub one_written : (a : List ℕ) (i : ℕ) → r ≡ One i → a ≡ flip b i → a ≡ take 53 (mended w r)
    one_written a i f g = flipped_information a i g ∙ sym (ap (λ (x : Found). take 53 (mended w x)) f)

    pub two-written : (a d : List ℕ) (i j : ℕ) → r ≡ Two i j → d ≡ flip b i → a ≡ flip d j → a ≡ take 53 (mended w r)
    two-written a d i j f g k =
        k ∙ ap (λ (l : List ℕ). flip l j) (flipped_information d i g)
        ∙ take-flip 53 (flip w i) j (length-take-le 53 (flip w i) (omega (arith, flip-length w i)))
        ∙ sym (ap (λ (x : Found). take 53 (mended w x)) f)
