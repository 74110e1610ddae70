-- A file whose header was read.
use Rattle.std.specs.Prelude.{◌≡◌, ◌≤◌, ◌∷◌, ℕ, List, length}
use Rattle.mig_base.specs.declared.faults.FileKind.{FileKind}
use Rattle.mig_base.specs.declared.limits.TheConstants.{MAX_FILE_BYTES}
use Rattle.mig_base.specs.Rows.{Row, has_sides, header_row, records_of}

-- the file isn't too long, and its records are its header and then those that are left
pub record IsOpened (file : FileKind) (bytes : List ℕ) (left : List Row) : Type 0 where
  pub short : length bytes ≤ MAX_FILE_BYTES
  pub rows : records_of bytes ≡ header_row file (has_sides bytes) ∷ left
