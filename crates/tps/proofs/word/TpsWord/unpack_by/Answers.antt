-- `tps::word::TpsWord::unpack_by` meets its contract: the tests give the refusal, and the answer is what the decoder's
-- information tells. Assumes nothing.
use mathlib.Core.Path.{◌≡◌, sym, ap, ◌∙◌}
use mathlib.Core.Bool.{true}
use lib.ListN.{length}
use Rattle.std.specs.Prelude.{Result, Err, Ok}
use Rattle.ground.specs.declared.Refusal.{Refusal}
use Rattle.ground.specs.Bits.{are_bits}
use Rattle.tps.specs.declared.word.TpsWord.{TpsWord}
use Rattle.tps.specs.Codes.{word_of}
use Rattle.tps.specs.Packing.{unpacked_by}
use Rattle.tps.proofs.Unpacking.{all-bits, information-bits, unpack_word}
use borrow.Author.Rules.{rules}
use Rattle.tps.proofs.word.TpsWord.unpack_by.Goals as goal

pub read_codes-requires : goal.read_codes-requires
read_codes-requires c =
    let z = c.args.bits.now in
    let sized : length z ≡ 68 = c.if-bits-ne-TPS_SYMBOLS_PER_FRAME.false in
    let bits : are_bits z ≡ true =
    all-bits z sized c.if-bits-gt1.false (sym c.all_bits.ensures ∙ c.if-not-all_bits.false) in
    let r = c.tps_bch_decode_by in
    information-bits z sized bits r.result r.new.out r.ensures _ c.in_ok-mended.was

pub returns-in_err-word : goal.returns-in_err-word
returns-in_err-word c =
    let z = c.args.bits.now in
    let sized : length z ≡ 68 = c.if-bits-ne-TPS_SYMBOLS_PER_FRAME.false in
    let bits : are_bits z ≡ true =
    all-bits z sized c.if-bits-gt1.false (sym c.all_bits.ensures ∙ c.if-not-all_bits.false) in
    let r = c.tps_bch_decode_by in
    let read = c.try_from.ensures ∙ ap word_of c.read_codes.ensures in
    let was = c.in_err-word.was in
    let turned : c.from_residual-in_err-word.result ≡ Err c.in_err-word.field-0.0 = search rules in
    let mended = c.in_ok-mended.mended in
    unpack_word z sized bits r.result r.new.out r.ensures mended c.in_ok-mended.was _
    (turned ∙ ap (λ (y : Result TpsWord Refusal). unpacked_by y mended) (sym was ∙ read))

pub returns : goal.returns
returns c =
    let z = c.args.bits.now in
    let sized : length z ≡ 68 = c.if-bits-ne-TPS_SYMBOLS_PER_FRAME.false in
    let bits : are_bits z ≡ true =
    all-bits z sized c.if-bits-gt1.false (sym c.all_bits.ensures ∙ c.if-not-all_bits.false) in
    let r = c.tps_bch_decode_by in
    let mended = c.in_ok-mended.mended in
    let word = c.in_ok-word.word in
    unpack_word z sized bits r.result r.new.out r.ensures mended c.in_ok-mended.was (unpacked_by (Ok word) mended)
    (ap (λ (y : Result TpsWord Refusal). unpacked_by y mended) (sym c.in_ok-word.was ∙ c.try_from.ensures ∙ ap word_of c.read_codes.ensures))
