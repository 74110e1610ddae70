-- What the putting of a text says.
use Rattle.std.specs.Prelude.{◌≡◌, ◌⊎◌, ℕ, ◌≤◌, List, Result, OnOk, OnErr}
use Rattle.std.specs.Fmt.{decimal}
use Rattle.hex.specs.Hex.{encode_lower}
use Rattle.mig_base.specs.FaultCounts.{Rose}
use Rattle.mig_io.specs.Held.{SinkState, Extends, ExtendsInPart}
use Rattle.mig_io.specs.declared.sink.SinkFailed.{SinkFailed}
use Rattle.mig_words.specs.declared.putting.TextPart.{TextPart}
use Rattle.mig_words.specs.declared.putting.TextPart.TheVariants.{Text, Number, Hex}

-- a number stands in decimal, and a digest in hexadecimal
abbrev pub part_text : TextPart → List ℕ
part_text (Text text) = text.now
part_text (Number n) = decimal n
part_text (Hex digest) = encode_lower digest.now

-- a text that is put in pieces: the sink is extended by all of it, or by a beginning where it fails
pub record Puts (text : List ℕ) (old new : SinkState) (result : Result (Unit {0}) SinkFailed) : Type 0 where
  pub extended : OnOk result (Extends text old new)
  pub in_part : OnErr result (ExtendsInPart text old new)
  pub later : old.faults ≤ new.faults
  pub failed : OnErr result (Rose old.faults new.faults)

-- the text of a command that is done was put, and this is the number of the status: 0, or 6 where the sink failed
pub record Shows (text : List ℕ) (old new : SinkState) (result : ℕ) : Type 0 where
  pub status : (result ≡ 0) ⊎ ((result ≡ 6) × Rose old.faults new.faults)
  pub begun : ExtendsInPart text old new
  pub done : result ≡ 0 → Extends text old new
  pub later : old.faults ≤ new.faults
