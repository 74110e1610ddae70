-- A file that is refused for its length or its header.
use Rattle.mig_csv.proofs.Common.{FileFault, FileKind, InputError, IsRefusalOf, List, RefusesHeader, Row, Why, arith, has_sides, header_row, ℕ}
use Rattle.mig_base.specs.declared.faults.Why.TheVariants as why
use Rattle.mig_csv.specs.declared.errors.InputError.TheVariants as error

-- the refusal is the file's first fault, whatever is wrong with its rows
pub refusal_of_header : (f : FileKind) (has : List Row → Row → Why → Type 0) (bytes : List ℕ) (e : InputError) → RefusesHeader f bytes e → IsRefusalOf f (FileFault has (header_row f (has_sides bytes)) bytes) e
refusal_of_header f has bytes error.Memory h = tt
refusal_of_header f has bytes (error.Refused g n why.TooLong) h = grind arith
refusal_of_header f has bytes (error.Refused g n why.BadHeader) h = grind arith
refusal_of_header f has bytes (error.Refused g n w) h = absurd h
