-- The writes by which a plan is carried out.
use Rattle.std.specs.Prelude.{◌++◌, Bool, true, false, ℕ, List, ◌∷◌, length, replicate, take, count_by}
use Rattle.std.specs.List.{flat_map}
use Rattle.mig_base.specs.declared.ids.Shift.{Shift}
use Rattle.mig_drill.specs.declared.writes.Write.{Write}
use Rattle.mig_drill.specs.declared.writes.Write.TheVariants.{ClearMark, Head, Gate, Copy, SetMark, Erase}

-- the writes of a round with so many shifts: a copy to each target, the mark, and zeros to each source
abbrev pub round_writes : ℕ → List Write
round_writes shifts = replicate shifts Copy ++ SetMark ∷ replicate shifts Erase

-- the writes of an undisturbed start, in order: zeros to each mark, the head, the gate, and those of each round
abbrev pub writes_of : List (List Shift) → List Write
writes_of plan = replicate (length plan) ClearMark ++ Head ∷ Gate ∷ flat_map (λ round. round_writes (length round)) plan

-- whether the write sets a mark to 1
abbrev pub sets_mark : Write → Bool
sets_mark SetMark = true
sets_mark write = false

-- how many marks the first n writes set
abbrev pub marks_after : List Write → ℕ → ℕ
marks_after writes n = count_by sets_mark (take n writes)
