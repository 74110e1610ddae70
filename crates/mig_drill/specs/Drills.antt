-- The text of a drill.
use Rattle.std.specs.Prelude.{◌≡◌, ◌+◌, ◌*◌, ◌++◌, ℕ, List, [], ◌∷◌, codes, length, map}
use Rattle.std.specs.Fmt.{decimal}
use Rattle.std.specs.List.{range_with_len}
use Rattle.mig_base.specs.declared.ids.Shift.{Shift}
use Rattle.mig_base.specs.Texts.{words, text_of_lines}
use Rattle.mig_base.specs.FaultCounts.{Rose}
use Rattle.mig_io.specs.Held.{SinkState}
use Rattle.mig_drill.specs.declared.faults.DrillFault.{DrillFault}
use Rattle.mig_drill.specs.declared.faults.DrillFault.TheVariants.{Sink, Memory}
use Rattle.mig_drill.specs.declared.writes.Write.{Write}
use Rattle.mig_drill.specs.Writes.{writes_of, marks_after}

-- `stop n marks A B A B`
abbrev pub marks_line : ℕ → ℕ → ℕ → List ℕ
marks_line n before after = words (codes "stop" ∷ decimal n ∷ codes "marks" ∷ decimal before ∷ decimal after ∷ decimal before ∷ decimal after ∷ [])

-- The stop that cuts off the write after the first n. The marks that are set are those of n writes where a crash leaves that write's cell as it was, and of n + 1 writes where it leaves the new byte. The first half of a mark's one byte is nothing, so the third pick is as the first; and a one is what sets a mark, so the fourth is as the second.
abbrev pub stop_line : List Write → ℕ → List ℕ
stop_line writes n = marks_line n (marks_after writes n) (marks_after writes (n + 1))

-- a line for the stop before each write
abbrev pub stop_lines : List Write → List (List ℕ)
stop_lines writes = map (stop_line writes) (range_with_len 0 (length writes))

-- `WHAT N`
abbrev pub count_line : List ℕ → ℕ → List ℕ
count_line what n = words (what ∷ decimal n ∷ [])

-- `writes W`, the lines of the stops, and `reached` with their number, four for each write
abbrev pub drill_lines : List Write → List (List ℕ)
drill_lines writes = count_line (codes "writes") (length writes) ∷ stop_lines writes ++ count_line (codes "reached") (4 * length writes) ∷ []

-- the text of a drill of the plan
abbrev pub drill_text : List (List Shift) → List ℕ
drill_text plan = text_of_lines (drill_lines (writes_of plan))

-- the sink failed; or memory was refused, and nothing was put
abbrev pub IsDrillFault : SinkState → SinkState → DrillFault → Type 0
IsDrillFault old new Sink = Rose old.faults new.faults
IsDrillFault old new Memory = new ≡ old
