-- Document 01, 'TPS': a frame that is sent and received, said over the two promises alone. Bits are newest first.
use Rattle.std.specs.Prelude.{◌≡◌, List, [], ◌∷◌, ◌++◌, ℕ, ◌<◌, ◌≤◌, Float, length}
use Rattle.carriers.specs.Mode.{Mode, tps_size}
use Rattle.tps.specs.declared.sender.TpsEncoder.{TpsEncoder}
use Rattle.tps.specs.declared.sender.Sent.{Sent}
use Rattle.tps.specs.declared.receiver.TpsDecoder.{TpsDecoder}
use Rattle.tps.specs.declared.receiver.Fed.{Fed}
use Rattle.tps.specs.Send.{fresh_encoder, send_answer, send_leaves}
use Rattle.tps.specs.Receive.{fresh_decoder, feed_answer}

-- one symbol: the bit is sent into an output with room for its cells, and what is left there is fed
pub record Symbol (m : Mode) (bit : ℕ) (e : TpsEncoder) (d : TpsDecoder) (e' : TpsEncoder) (d' : TpsDecoder)
    : Type 0 where
  pub out : List Float
  pub left : List Float
  pub sent : Sent
  pub fed : Fed
  pub is_bit : bit < 2
  pub room : tps_size m ≤ length out
  pub sends : sent ≡ send_answer m e bit out
  pub leaves : left ≡ send_leaves m e bit out
  pub feeds : fed ≡ feed_answer m d left
  pub sender : e' ≡ sent.encoder
  pub receiver : d' ≡ fed.decoder

-- the bits bs, newest first, were sent by a fresh sender and fed to a fresh receiver
pub data Frame (m : Mode) : List ℕ → TpsEncoder → TpsDecoder → Type 0 where
  start : {e : TpsEncoder} {d : TpsDecoder} → e ≡ fresh_encoder m → d ≡ fresh_decoder m → Frame m [] e d
  next : {bs : List ℕ} {e : TpsEncoder} {d : TpsDecoder} (bit : ℕ) {e' : TpsEncoder} {d' : TpsDecoder}
      → Frame m bs e d → Symbol m bit e d e' d' → Frame m (bit ∷ bs) e' d'

-- the bits as they are read, oldest first: s0 reads 0
unfoldable pub read_bits : List ℕ → List ℕ
read_bits [] = []
read_bits (b ∷ []) = 0 ∷ []
read_bits (b ∷ c ∷ bs) = read_bits (c ∷ bs) ++ (b ∷ [])
