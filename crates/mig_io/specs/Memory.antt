-- A folder in memory.
use Rattle.std.specs.Prelude.{◌≡◌, ℕ, ◌≤◌, Bool, false, List, length, refl, ◌==◌}
use Rattle.std.specs.Ordering.{nat_cmp}
use Rattle.std.specs.Option.{IsSomeAnd}
use Rattle.std.specs.List.{list_any}
use Rattle.std.specs.Cmp.Lexicographic.{slice_cmp}
use Rattle.std.specs.Coded.{Coded, code_by, coded×, coded_ℕ, coded_list}
use Rattle.std.specs.FinMap as map
use Rattle.mig_io.specs.Counts.{next_count}
use Rattle.mig_io.specs.Files.{Files}

-- how many bytes were granted to each name
abbrev pub Rooms : Type 0
Rooms = map.FinMap (slice_cmp nat_cmp) ℕ

-- the files, the rooms granted, the numbers of the calls that fail, the number of the next call, and the faults so far
pub record HeldFolder : Type 0 where
  pub files : Files
  pub rooms : Rooms
  pub failing : List ℕ
  pub calls : ℕ
  pub faults : ℕ

-- a code that stands for it
abbrev pub held_code : Coded HeldFolder
held_code =
    code_by (((Files × Rooms) × List ℕ) × (ℕ × ℕ)) (coded× (coded× (coded× (map.code (coded_list coded_ℕ) (coded_list coded_ℕ)) (map.code (coded_list coded_ℕ) coded_ℕ)) (coded_list coded_ℕ)) (coded× coded_ℕ coded_ℕ))
    (λ h. (((h.files, h.rooms), h.failing), (h.calls, h.faults)))
    (λ q. record { files = q.0.0.0; rooms = q.0.0.1; failing = q.0.1; calls = q.1.0; faults = q.1.1 }) (λ _. refl)

-- the next call is one of those that fail
abbrev pub folder_fails : HeldFolder → Bool
folder_fails h = list_any (λ n. n == h.calls) h.failing

-- the folder after a call, with its faults so far
abbrev pub folder_after : HeldFolder → ℕ → HeldFolder
folder_after h faults = record h { calls = next_count h.calls; faults = faults }

-- a save succeeds: its call isn't one that fails, and enough was granted to the name
abbrev pub SavesAll : HeldFolder → List ℕ → List ℕ → Type 0
SavesAll h name bytes = (folder_fails h ≡ false) × IsSomeAnd (map.get h.rooms name) (λ room. length bytes ≤ room)
