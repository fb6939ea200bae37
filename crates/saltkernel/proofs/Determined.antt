-- Where a promise over C is a relation (decoding, unpacking, the word of a receiver and of a session), two results that meet it are equal. Assumes nothing.
use mathlib.Core.Path.{◌≡◌, sym, ap, ap₂, ◌∙◌}
use mathlib.Core.List.{List}
use Prim.Native.Nat.{ℕ}
use Rattle.bch.specs.declared.Mended.{Mended}
use Rattle.ground.specs.Refusal.{code}
use Rattle.bch.specs.Promise.{Decoded, decoded_number, mended_in}
use Rattle.bch.proofs.Determined.{decode_determined}
use Rattle.tps.specs.declared.receiver.TpsDecoder.{TpsDecoder}
use Rattle.tps.specs.Packing.{Unpacked}
use Rattle.tps.specs.Packing as packing
use Rattle.tps.specs.Receive as receive
use Rattle.tps.proofs.Determined.{unpack_determined, word_determined}
use Rattle.session.specs.declared.Session.{Session}
use Rattle.session.specs.Session as session
use Rattle.session.proofs.Determined.{same_word}
use Rattle.saltkernel.specs.declared.codes.SaltDecoded.{SaltDecoded}
use Rattle.saltkernel.specs.declared.words.SaltTpsWord.{SaltTpsWord}
use Rattle.saltkernel.specs.declared.words.SaltUnpacked.{SaltUnpacked}
use Rattle.saltkernel.specs.Codes.{bits_written, DecodesAs}
use Rattle.saltkernel.specs.Words.{unpacked_codes, unpacked_mended, SaysOneThat}

-- numbers that say the one answer to a promise are one
one_unpacked : (meets : Unpacked → Type 0) → ((a b : Unpacked) → meets a → meets b → a ≡ b) → (r q : SaltUnpacked) → SaysOneThat meets r
    → SaysOneThat meets q → r ≡ q
one_unpacked meets one r q x y =
    let e : x.answer ≡ y.answer = one x.answer y.answer x.kept_promise y.kept_promise in
    let m = x.says.says_mended ∙ ap unpacked_mended e ∙ sym y.says.says_mended in
    ap₂ (λ (n : ℕ) (z : SaltTpsWord × Mended). record { number = n; word = z.0; mended = z.1.count; first = z.1.first; second = z.1.second })
    (x.says.says_number ∙ ap (λ (a : Unpacked). code (packing.number_of a)) e ∙ sym y.says.says_number)
    (ap₂ (λ (w : SaltTpsWord) (m : Mended). (w, m)) (x.says.says_word ∙ ap unpacked_codes e ∙ sym y.says.says_word) m)

pub salt_unpack_determined : (bits : List ℕ) (r q : SaltUnpacked) → SaysOneThat (packing.Unpacks bits) r → SaysOneThat (packing.Unpacks bits) q → r ≡ q
salt_unpack_determined bits = one_unpacked (packing.Unpacks bits) (unpack_determined bits)

pub salt_decoder_word_determined : (d : TpsDecoder) (r q : SaltUnpacked) → SaysOneThat (receive.Words d) r → SaysOneThat (receive.Words d) q → r ≡ q
salt_decoder_word_determined d = one_unpacked (receive.Words d) (word_determined d)

pub salt_session_word_determined : (s : Session) (r q : SaltUnpacked) → SaysOneThat (session.Words s) r → SaysOneThat (session.Words s) q → r ≡ q
salt_session_word_determined s = one_unpacked (session.Words s) (same_word s)

pub salt_decode_determined : (w o : List ℕ) (r q : SaltDecoded) (a b : List ℕ) → DecodesAs w o r a → DecodesAs w o q b → (r ≡ q) × (a ≡ b)
salt_decode_determined w o r q a b x y =
    let e = decode_determined w o a b x.answer y.answer x.decodes y.decodes in
    let m = x.says.says_mended ∙ ap mended_in e.0 ∙ sym y.says.says_mended in (
      ap₂ (λ (n : ℕ) (z : ℕ × Mended). record { number = n; count = z.0; mended = z.1.count; first = z.1.first; second = z.1.second })
          (x.says.says_number ∙ ap (λ (a : Decoded). code (decoded_number a)) e.0 ∙ sym y.says.says_number)
          (ap₂ (λ (k : ℕ) (m : Mended). (k, m)) (x.says.says_count ∙ ap bits_written e.0 ∙ sym y.says.says_count) m),
      e.1,
    )
