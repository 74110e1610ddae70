-- Rows and lines of a text.
use Rattle.std.specs.Prelude.{◌==◌, ◌&&◌, ◌||◌, ◌+◌, ◌-◌, Bool, List, ℕ, if◌then◌else◌, not, slice_index_or, suc, zero}

-- LF or CR
abbrev pub is_line_end : ℕ → Bool
is_line_end b = b == 10 || b == 13

-- the first byte of a line that is not empty; past the end of the text none is
abbrev pub begins_row : List ℕ → ℕ → Bool
begins_row bytes k = not (is_line_end (slice_index_or bytes k 10)) && (k == 0 || is_line_end (slice_index_or bytes (k - 1) 10))

-- LF, or CR with no LF after it
abbrev pub ends_line : List ℕ → ℕ → Bool
ends_line bytes k = slice_index_or bytes k 0 == 10 || (slice_index_or bytes k 0 == 13 && not (slice_index_or bytes (k + 1) 0 == 10))

-- how many rows begin before this byte
abbrev pub rows_before : List ℕ → ℕ → ℕ
rows_before bytes zero = 0
rows_before bytes (suc k) = rows_before bytes k + (if begins_row bytes k then 1 else 0)

-- how many lines end before this byte
abbrev pub ends_before : List ℕ → ℕ → ℕ
ends_before bytes zero = 0
ends_before bytes (suc k) = ends_before bytes k + (if ends_line bytes k then 1 else 0)
