-- Two results of a call that meet its promise are equal, for each public call but that of a receiver lent in parts
-- (Receiving); and unpacking and a call for the word have an answer, as a function. Assumes nothing.
use mathlib.Core.Path.{◌≡◌, refl, sym, ap, ◌∙◌}
use mathlib.Core.Logic.{inl, inr}
use mathlib.Core.Bool.{Bool, true, false, not, cond}
use mathlib.Core.List.{List, map}
use Prim.Native.Nat.{ℕ, min}
use lib.Dec.{eqb, ltb, leb}
use lib.Ieee.{Float}
use lib.ListN.{length, drop}
use borrow.Author.Tests.{eqb-true}
use Rattle.std.specs.Prelude.{Option, Some, None}
use Rattle.ground.specs.declared.Refusal.{Refusal}
use Rattle.ground.specs.declared.Refusal.TheVariants as the
use Rattle.ground.specs.Refusal.{ACCEPTED, LENGTH, NOT_A_BIT, INCOMPLETE}
use Rattle.ground.specs.Bits.{are_bits}
use Rattle.ground.proofs.Answers.{OneAnswer, one_answer, OneResult, one-result}
use Rattle.carriers.specs.Mode.{Mode}
use Rattle.bch.specs.NearCodeword.{Near, near_of}
use Rattle.bch.proofs.Distance.{unique}
use Rattle.bch.proofs.NearCodeword.{near-found, near_none}
use Rattle.tps.specs.declared.word.TpsWord.{TpsWord}
use Rattle.tps.specs.declared.sender.TpsEncoder.{TpsEncoder}
use Rattle.tps.specs.declared.receiver.TpsDecoder.{TpsDecoder}
use Rattle.tps.specs.Word.{SYMBOLS}
use Rattle.tps.specs.Packing.{Unpacked, pack_answer, pack_leaves, number_of, read_as, UnpacksBy, Unpacks, near_answer, refused_or, unpack_answer}
use Rattle.tps.specs.Send.{fresh_encoder, send_answer, send_leaves}
use Rattle.tps.specs.Receive.{fresh_decoder, feed_answer, bits_answer, bits_leaves, WordsBy, Words, word_answer}
use Rattle.tps.proofs.Unpacking.{refused_is, rest-length, rest-bits}

refused-one : (r q : Unpacked) (k : Refusal) → number_of r ≡ Some k → number_of q ≡ Some k → r ≡ q
refused-one r q k e f = refused_is r k e ∙ sym (refused_is q k f)

-- ---- unpacking

module _ (b : List ℕ) (hl : length b ≡ SYMBOLS) (hb : are_bits b ≡ true) where
  answers_one : (r q : Unpacked) → UnpacksBy None b r → UnpacksBy None b q → r ≡ q
  answers_one r q (inl h) (inl k) =
      h.says
      ∙ ap (λ (w : List ℕ). read_as w (drop 1 b))
      (unique h.word k.word (drop 1 b) h.codeword k.codeword (rest-bits b hl hb) (rest-length b hl hb) h.near k.near)
      ∙ sym k.says
  answers_one r q (inl h) (inr k) = absurd (k.0 h.word h.codeword h.near)
  answers_one r q (inr h) (inl k) = absurd (h.0 k.word k.codeword k.near)
  answers_one r q (inr h) (inr k) = refused-one r q the.NoWord h.1 k.1

  near_unpacks : (n : Near) → near_of (drop 1 b) ≡ n → UnpacksBy None b (near_answer n (drop 1 b))
  near_unpacks (Some c) e = let t = near-found (drop 1 b) c e in inl record { word = c; codeword = t.0; near = t.1; says = refl }
  near_unpacks None e = inr (near_none (drop 1 b) (rest-bits b hl hb) (rest-length b hl hb) e, refl)

-- by the two tests
abbrev no : Bool → Bool → Option Refusal
no x y = cond (not x) LENGTH (cond (not y) NOT_A_BIT ACCEPTED)

module _ (b : List ℕ) where
  determined_by : (r q : Unpacked) (x y : Bool) → eqb (length b) SYMBOLS ≡ x → are_bits b ≡ y → UnpacksBy (no x y) b r → UnpacksBy (no x y) b q → r ≡ q
  determined_by r q true true ex ey h k = answers_one b (eqb-true (length b) SYMBOLS ex) ey r q h k
  determined_by r q true false ex ey h k = refused-one r q the.NotABit h k
  determined_by r q false y ex ey h k = refused-one r q the.Length h k

  -- two answers to the same bits, each as unpacking promises, are equal
  pub unpack_determined : (r q : Unpacked) → Unpacks b r → Unpacks b q → r ≡ q
  unpack_determined r q h k = determined_by r q (eqb (length b) SYMBOLS) (are_bits b) refl refl h k

  unpacks_by : (x y : Bool) → eqb (length b) SYMBOLS ≡ x → are_bits b ≡ y
      → UnpacksBy (no x y) b (refused_or (no x y) (near_answer (near_of (drop 1 b)) (drop 1 b)))
  unpacks_by true true ex ey = near_unpacks b (eqb-true (length b) SYMBOLS ex) ey (near_of (drop 1 b)) refl
  unpacks_by true false ex ey = refl
  unpacks_by false y ex ey = refl

  -- every input has an answer
  pub unpack_answers : Unpacks b (unpack_answer b)
  unfolding unpack_answer
  unpack_answers = unpacks_by (eqb (length b) SYMBOLS) (are_bits b) refl refl

  -- and it is the only one
  pub unpack_is : (r : Unpacked) → Unpacks b r → r ≡ unpack_answer b
  unpack_is r h = unpack_determined r (unpack_answer b) h unpack_answers

-- ---- the word of a receiver

module _ (d : TpsDecoder) where
  word_determined_by : (r q : Unpacked) (x : Bool) → WordsBy (cond x INCOMPLETE ACCEPTED) d r → WordsBy (cond x INCOMPLETE ACCEPTED) d q → r ≡ q
  word_determined_by r q true h k = refused-one r q the.Incomplete h k
  word_determined_by r q false h k = unpack_determined (map (min 1) d.bits) r q h k

  -- two answers of one receiver to a call for the word are equal
  pub word_determined : (r q : Unpacked) → Words d r → Words d q → r ≡ q
  word_determined r q h k = word_determined_by r q (ltb d.count SYMBOLS) h k

  words_by : (x : Bool) (n : Option Refusal) → cond x INCOMPLETE ACCEPTED ≡ n → WordsBy n d (refused_or n (unpack_answer (map (min 1) d.bits)))
  words_by true n e = rw (sym e) refl
  words_by false n e = rw (sym e) (unpack_answers (map (min 1) d.bits))

  -- every receiver has one, and it is the only one
  pub word-answers : Words d (word_answer d)
  unfolding word_answer
  word-answers = words_by (ltb d.count SYMBOLS) _ refl

  pub word_is : (r : Unpacked) → Words d r → r ≡ word_answer d
  word_is r h = word_determined r (word_answer d) h word-answers

-- ---- the calls whose promise is an equation

pub pack_determined : (w : TpsWord) (o : List ℕ) → OneResult (pack_answer o) (pack_leaves w o)
pack_determined w o = one-result (pack_answer o) (pack_leaves w o)

module _ (m : Mode) where
  -- of a new sender, and of one that was reset
  pub encoder_determined : OneAnswer (fresh_encoder m)
  encoder_determined = one_answer (fresh_encoder m)

  pub send_determined : (e : TpsEncoder) (bit : ℕ) (o : List Float) → OneResult (send_answer m e bit o) (send_leaves m e bit o)
  send_determined e bit o = one-result (send_answer m e bit o) (send_leaves m e bit o)

  -- of a new receiver, and of one that was reset
  pub decoder_determined : OneAnswer (fresh_decoder m)
  decoder_determined = one_answer (fresh_decoder m)

  pub feed_determined : (d : TpsDecoder) (s : List Float) → OneAnswer (feed_answer m d s)
  feed_determined d s = one_answer (feed_answer m d s)

pub complete_determined : (d : TpsDecoder) → OneAnswer (leb SYMBOLS d.count)
complete_determined d = one_answer (leb SYMBOLS d.count)

pub bits_determined : (d : TpsDecoder) (o : List ℕ) → OneResult (bits_answer d o) (bits_leaves d o)
bits_determined d o = one-result (bits_answer d o) (bits_leaves d o)
