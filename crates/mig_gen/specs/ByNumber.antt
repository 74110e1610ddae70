-- The spots and the next disks of a made case, each by the number of its item.
use Rattle.std.specs.Prelude.{ℕ, ◌+◌, ◌/◌, ◌%◌, if◌then◌else◌, nat_lt}
use Rattle.mig_base.specs.declared.ids.DiskId.{DiskId}
use Rattle.mig_base.specs.declared.ids.Spot.{Spot}

-- the spot of item i, where each disk has so many items
abbrev pub numbered_spot : ℕ → ℕ → Spot
numbered_spot items i = record { disk = record { 0 = i / items }; slot = i % items }

-- the disk numbered k, from 0, among those other than v
abbrev pub other : ℕ → ℕ → ℕ
other v k = if nat_lt k v then k else k + 1

-- the next disk of item i, where each disk has so many items, so many for each other disk
abbrev pub next_at : ℕ → ℕ → ℕ → DiskId
next_at items per_pair i = record { 0 = other (i / items) (i % items / per_pair) }
