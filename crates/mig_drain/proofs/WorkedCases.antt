-- Worked cases, by computing: how many rounds are enough, and where the items go.
use Rattle.mig_drain.proofs.Common.{Disk, InputLists, Joint, List, Split, Spot, [], free_elsewhere, incoming, others_can_take, own_rounds, places, refl, ℕ, ◌∷◌, ◌≡◌}

abbrev at : ℕ → Spot
at s = record { disk = record { 0 = 0 }; slot = s }

abbrev joint : ℕ → ℕ → Disk
joint limit slots = record { name = []; limits = Joint limit; slots = slots }

abbrev split : ℕ → ℕ → ℕ → Disk
split outgoing incoming slots = record { name = []; limits = Split outgoing incoming; slots = slots }

-- six items on the first disk
abbrev six : List Disk → InputLists
six disks = record { disks = disks; items = [] ∷ [] ∷ [] ∷ [] ∷ [] ∷ [] ∷ []; spots = at 0 ∷ at 1 ∷ at 2 ∷ at 3 ∷ at 4 ∷ at 5 ∷ []; next = [] }

abbrev wide : InputLists
wide = six (joint 4 6 ∷ joint 1 4 ∷ joint 2 4 ∷ [])

own_of_wide : own_rounds wide 0 ≡ 2
own_of_wide = refl

taken_of_wide : others_can_take wide 0 2 ≡ 6
taken_of_wide = refl

places_of_wide : places wide 0 2 ≡ 1 ∷ 1 ∷ 2 ∷ 2 ∷ 2 ∷ 2 ∷ []
places_of_wide = refl

-- the others may take one item a round each
abbrev narrow : InputLists
narrow = six (joint 4 6 ∷ joint 1 4 ∷ joint 1 4 ∷ [])

taken_of_narrow : others_can_take narrow 0 2 ≡ 4
taken_of_narrow = refl

more_taken_of_narrow : others_can_take narrow 0 3 ≡ 6
more_taken_of_narrow = refl

-- what a disk may give away and what it may take are limits of their own
abbrev sides : InputLists
sides = six (split 4 1 6 ∷ split 9 1 4 ∷ split 9 2 4 ∷ [])

own_of_sides : own_rounds sides 0 ≡ 2
own_of_sides = refl

places_of_sides : places sides 0 2 ≡ 1 ∷ 1 ∷ 2 ∷ 2 ∷ 2 ∷ 2 ∷ []
places_of_sides = refl

free_of_cramped : free_elsewhere (six (joint 4 6 ∷ joint 1 4 ∷ joint 2 1 ∷ [])) 0 ≡ 5
free_of_cramped = refl
