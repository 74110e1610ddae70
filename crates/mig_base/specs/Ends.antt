-- The ends of edges between copies of disks.
use Rattle.std.specs.Prelude.{ℕ, Bool, ◌==◌, ◌||◌, List}
use Rattle.std.specs.List.{count_by}
use Rattle.mig_base.specs.declared.ids.CopyId.{CopyId}

-- the copy is an end of the edge
abbrev pub is_end : CopyId → CopyId × CopyId → Bool
is_end v p = (p.0.0 == v.0) || (p.1.0 == v.0)

-- how many edges have the copy as an end
abbrev pub ends_at : CopyId → List (CopyId × CopyId) → ℕ
ends_at v ends = count_by (is_end v) ends
