-- What shows that fewer rounds are too few to empty a disk.
use Rattle.std.specs.Prelude.{◌≡◌, ◌-◌, ◌<◌, ℕ, List}
use Rattle.mig_base.specs.InputLists.{InputLists}
use Rattle.mig_base.specs.Transfers.{div_ceil}
use Rattle.mig_base.specs.Targets.{present}
use Rattle.mig_base.specs.Draining.{others_can_take, outgoing_limit, own_rounds}
use Rattle.mig_drain.specs.declared.drained.Shown.{Shown}
use Rattle.mig_drain.specs.declared.drained.Shown.TheVariants.{Nothing, Others, Own}
use Rattle.mig_drain.specs.declared.receivers.Receiver.{Receiver}
use Rattle.mig_drain.specs.Receivers.{all_take}

-- The disk has no item; or its items need as many rounds to leave it; or that needs fewer, and in one round less the others
-- can take only so many items, which aren't all. No two of these hold together
abbrev pub IsShown : InputLists → ℕ → ℕ → Shown → Type 0
IsShown input v rounds Nothing = present input v ≡ 0
IsShown input v rounds (Own load limit) = (0 < load) × (load ≡ present input v) × (limit ≡ outgoing_limit input v) × (rounds ≡ own_rounds input v)
IsShown input v rounds (Others room) = (own_rounds input v < rounds) × (room ≡ others_can_take input v (rounds - 1)) × (room < present input v)

-- the same of the items that are to leave, the limit on what leaves, and the other disks
abbrev pub IsShownBy : List Receiver → ℕ → ℕ → ℕ → Shown → Type 0
IsShownBy list items limit rounds Nothing = items ≡ 0
IsShownBy list items limit rounds (Own load most) = (0 < load) × (load ≡ items) × (most ≡ limit) × (rounds ≡ div_ceil items limit)
IsShownBy list items limit rounds (Others room) = (div_ceil items limit < rounds) × (room ≡ all_take (rounds - 1) list) × (room < items)
