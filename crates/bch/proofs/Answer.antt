-- The answers of the public calls: the refusal of a call by its tests, and what the encoder's and the decoder's
-- promises ask for each refusal. Assumes nothing.
use mathlib.Core.Path.{◌≡◌, refl, sym, ap, ap₂, ◌∙◌, subst}
use mathlib.Core.Logic.{inl}
use mathlib.Core.Bool.{true}
use mathlib.Core.List.{List, ◌++◌}
use Prim.Native.Nat.{ℕ, ◌≤◌}
use native.Mathlib.Omega.{arith}
use lib.ListN.{length, take, drop}
use lib.Seq.{length-take-le}
use borrow.Author.Tests.{le-ltb, eq-eqb}
use Rattle.std.specs.Prelude.{Option, Some, None, Ok}
use Rattle.ground.specs.Refusal.{ACCEPTED}
use Rattle.ground.specs.declared.Refusal.{Refusal}
use Rattle.bch.specs.declared.Mended.{Mended}
use Rattle.ground.specs.Bits.{Bits, are_bits}
use Rattle.bch.specs.Code.{encode, Codeword, distance}
use Rattle.bch.specs.Promise.{lent_no, encode_no, encode_answer, encode_leaves, mended_at, Decoded, Answers, Decodes}
use Rattle.bch.specs.Search.{Rising, mended, named, Changes}
use Rattle.bch.specs.declared.search.Found.{Found}
use Rattle.bch.specs.declared.search.Found.TheVariants.{Clean, One, Two}
use Rattle.bch.proofs.Flipped.{mended-length, mended-places}

-- ---- the refusal of a call, by its slices

module _ (size needs : ℕ) (w o : List ℕ) where
  pub accepted : length w ≡ size → are_bits w ≡ true → needs ≤ length o → lent_no size needs w o ≡ ACCEPTED
  accepted h b l = simp (eq-eqb (length w) size h, b, le-ltb (length o) needs l) refl

-- ---- the encoder

module _ (info o : List ℕ) where
  pub encode-accepted : (a : List ℕ) → encode_no info o ≡ ACCEPTED → length (encode info) ≡ 67 → a ≡ encode info
      → (Ok 67 ≡ encode_answer info o) × (a ++ drop 67 o ≡ encode_leaves info o)
  encode-accepted a e l h = rw e (refl, ap₂ (λ (x : List ℕ) (n : ℕ). x ++ drop n o) h (sym l))

-- ---- the decoder

module _ (w o : List ℕ) where
  by_number_lem : (n : Option Refusal) (r : Decoded) (a : List ℕ) → lent_no 67 53 w o ≡ n → Answers n w o r a → Decodes w o r a
  by_number_lem n r a e h = subst (λ (k : Option Refusal). Answers k w o r a) (sym e) h

  named-few : (f : Found) → length (named f) ≤ 2
  named-few Clean = omega arith
  named-few (One i) = omega arith
  named-few (Two i j) = omega arith

  -- an answer that names places makes a codeword, within distance two
  changed_word : (f : Found) → Changes w (Some f) → Codeword (mended w f)
  changed_word Clean h = h
  changed_word (One i) h = h.1
  changed_word (Two i j) h = h.2

  -- and the places rise
  pub named_rise : (f : Found) → Changes w (Some f) → Rising 0 (named f)
  named_rise Clean h = tt
  named_rise (One i) h = (omega arith, h.0, tt)
  named_rise (Two i j) h = (omega arith, omega (arith, h.0, h.1), (h.0, h.1, tt))

  pub decode_found : (f : Found) (m : Mended) (a : List ℕ) → lent_no 67 53 w o ≡ ACCEPTED → Bits w → length w ≡ 67 → Changes w (Some f)
      → m ≡ mended_at (named f) → a ≡ take 53 (mended w f) → Decodes w o (Ok m) (a ++ drop 53 o)
  decode_found f m a e hb hl h em ea =
      let p = mended-places w f hb hl (named_rise f h) in
      let d : distance (mended w f) w ≡ length (named f) = ap length p in
      let s = named-few f in
      let l : length (take 53 (mended w f)) ≡ 53 = length-take-le 53 (mended w f) (omega (arith, mended-length w f)) in
      by_number_lem None (Ok m) (a ++ drop 53 o) e
      (inl record {
        word = mended w f;
        codeword = changed_word f h;
        near = omega arith;
        answers = ap Ok (em ∙ ap mended_at (sym p));
        leaves = ap₂ (λ (x : List ℕ) (k : ℕ). x ++ drop k o) ea (sym l);
      })
