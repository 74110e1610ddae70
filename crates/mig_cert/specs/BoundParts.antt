-- What the line of a bound says.
use Rattle.std.specs.Prelude.{◌≡◌, ℕ, ◌≤◌, ◌<◌, List, [], ◌∷◌, length, codes}
use Rattle.std.specs.Fmt.{decimal}
use Rattle.mig_base.specs.InputLists.{InputLists, disk_at, most_ends}
use Rattle.mig_base.specs.Transfers.{side_limit}
use Rattle.mig_base.specs.declared.certs.Side.{Side}
use Rattle.mig_base.specs.Texts.{disk_name, BoundLine, Empty, One, OneSide, Many, bound_line, side_word}
use Rattle.mig_base.specs.CertLines.{FitsLine}
use Rattle.mig_cert.specs.declared.bounds.Head.{Head}
use Rattle.mig_cert.specs.declared.bounds.Head.TheVariants as head

-- the limit of a disk, and that of a side of it
abbrev pub limit_of : InputLists → ℕ → ℕ
limit_of input v = most_ends (disk_at input.disks v).limits

abbrev pub side_limit_of : InputLists → Side → ℕ → ℕ
side_limit_of input side v = side_limit side (disk_at input.disks v).limits

-- the words of a bound's line
abbrev pub bound_words : InputLists → BoundLine → List (List ℕ)
bound_words input Empty = codes "bound" ∷ codes "nothing" ∷ []
bound_words input (One v load value) = codes "bound" ∷ codes "disk" ∷ disk_name input v ∷ decimal load ∷ decimal (limit_of input v) ∷ decimal value ∷ []
bound_words input (OneSide v side load value) = codes "bound" ∷ codes "side" ∷ disk_name input v ∷ side_word side ∷ decimal load ∷ decimal (side_limit_of input side v) ∷ decimal value ∷ []
bound_words input (Many count inside value) = codes "bound" ∷ codes "set" ∷ decimal count ∷ decimal inside ∷ decimal value ∷ []

-- the line that a head stands for
abbrev pub line_of_head : Head → BoundLine
line_of_head head.Nothing = Empty
line_of_head (head.OfDisk disk load value) = One disk.0 load value
line_of_head (head.OfSide disk side load value) = OneSide disk.0 side load value
line_of_head (head.OfSet count inside value) = Many count inside value

-- the piece is the line of a bound that fits the input
abbrev pub IsBoundLine : InputLists → List ℕ → Type 0
IsBoundLine input piece = (b : BoundLine) × (FitsLine input b × (piece ≡ bound_line input b))

-- the piece is the name of the disk numbered `from` or a later one
abbrev pub IsMemberLine : InputLists → ℕ → List ℕ → Type 0
IsMemberLine input from piece = (d : ℕ) × ((from ≤ d) × (d < length input.disks) × (piece ≡ disk_name input d))
