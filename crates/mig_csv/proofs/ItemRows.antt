use Rattle.mig_csv.proofs.Common.{All, Any, AreDifferent, Contains, Disk, IsName, IsNumber, IsSpotOf, List, MAX_ITEMS, NowRowFault, Row, Some, Spot, Why, ap, arith, at_map, first}
use Rattle.mig_csv.proofs.Common.{get_or_from_slice_get, length, map, name_at, number_of, one_place, place_in, rank_of, refl, second, slice_get, slice_get-get_or, slice_get_within, spot_in_row}
use Rattle.mig_csv.proofs.Common.{some_and, some_map, subst, sym, third, ℕ, ◌<◌, ◌∙◌, ◌≡◌, ◌≤◌}
use Rattle.mig_base.specs.declared.faults.Why.TheVariants as why

pub Contains-at : {X : Type 0} (xs : List X) (k : ℕ) (x : X) → slice_get xs k ≡ Some x → Contains xs x
Contains-at xs k x e = (k, slice_get_within xs k x e, get_or_from_slice_get xs k x x e)

pub at-Contains : {X : Type 0} (xs : List X) (x : X) → Contains xs x → (k : ℕ) × (slice_get xs k ≡ Some x)
at-Contains xs x c = (c.0, slice_get-get_or xs c.0 x c.1 ∙ ap Some c.2)

pub place_at : (disks : List Disk) (s : Spot) (d : Disk) → slice_get disks s.disk.0 ≡ Some d → place_in disks s ≡ (d.name, s.slot)
place_at disks s d e = rw e refl

-- a spot that is taken has a place that a row before named
pub place_taken : (disks : List Disk) (spots : List Spot) (s : Spot) (d : Disk) → slice_get disks s.disk.0 ≡ Some d → Contains spots s → Contains (map (place_in disks) spots) (d.name, s.slot)
place_taken disks spots s d e c =
    let (k, at) = at-Contains spots s c in
    Contains-at (map (place_in disks) spots) k (d.name, s.slot) (at_map (place_in disks) spots k s at ∙ ap Some (place_at disks s d e))

-- and a spot whose place a row before named is taken
pub spot_taken : (disks : List Disk) (spots : List Spot) (s : Spot) (d : Disk) → AreDifferent (map name_at disks) → All (IsSpotOf disks) spots → slice_get disks s.disk.0 ≡ Some d
    → Contains (map (place_in disks) spots) (d.name, s.slot) → Contains spots s
spot_taken disks spots s d ne valid e c =
    let (k, at) = at-Contains (map (place_in disks) spots) (d.name, s.slot) c in
    let (t, t_at, place) = some_map (place_in disks) spots k (d.name, s.slot) at in
    let ok = subst (IsSpotOf disks) (get_or_from_slice_get spots k t t t_at) (valid k t (slice_get_within spots k t t_at)) in
    let (u, u_at, low) = some_and (λ (x : Disk). t.slot < x.slots) (slice_get disks t.disk.0) ok in
    let both : (d.name, s.slot) ≡ (u.name, t.slot) = place ∙ place_at disks t u u_at in
    let p : List ℕ × ℕ → List ℕ = λ x. x.0 in
    let q : List ℕ × ℕ → ℕ = λ x. x.1 in
    let same = one_place (map name_at disks) t.disk.0 s.disk.0 d.name ne (at_map name_at disks t.disk.0 u u_at ∙ ap Some (sym (ap p both))) (at_map name_at disks s.disk.0 d e) in
    let f : ℕ → ℕ → Spot = λ a b. record { disk = record { 0 = a }; slot = b } in
    let spot : t ≡ s = ap (λ a. f a t.slot) same ∙ ap (f s.disk.0) (sym (ap q both)) in
    Contains-at spots k s (t_at ∙ ap Some spot)

-- no cause before the place n in the order of causes holds of a row of the now file
pub none_before : (disks : List Disk) (items : List (List ℕ)) (places : List (List ℕ × ℕ)) (r : Row) (n : ℕ)
    → (2 < n → length items < MAX_ITEMS) → (3 < n → length r ≡ 3) → (4 < n → IsName (first r) × IsName (second r)) → (5 < n → IsNumber (third r))
    → (8 < n → ¬ (Contains items (first r))) → (9 < n → Any (λ d. d.name ≡ second r) disks)
    → (10 < n → ¬ (Any (λ d. (d.name ≡ second r) × (d.slots ≤ number_of (third r))) disks)) → (11 < n → ¬ (Contains places (spot_in_row r)))
    → (w : Why) → rank_of w < n → ¬ (NowRowFault disks items places r w)
none_before disks items places r n few width names number new there low free why.TooManyRows lt h = let f = few lt in omega arith
none_before disks items places r n few width names number new there low free why.BadWidth lt h = h (width lt)
none_before disks items places r n few width names number new there low free why.BadName lt h = h (names lt)
none_before disks items places r n few width names number new there low free why.BadNumber lt h = h (number lt)
none_before disks items places r n few width names number new there low free why.DuplicateItem lt h = new lt h
none_before disks items places r n few width names number new there low free why.UnknownDisk lt h = h (there lt)
none_before disks items places r n few width names number new there low free why.SlotTooHigh lt h = low lt h
none_before disks items places r n few width names number new there low free why.SlotTaken lt h = free lt h
none_before disks items places r n few width names number new there low free _ lt h = h

pub rank_small : (w : Why) → rank_of w < 15
rank_small (why.NoRoom a b c) = omega arith
rank_small _ = omega arith

-- the disk of a name that was found
pub found_disk : (disks : List Disk) (names : List (List ℕ)) (place : ℕ) (n : List ℕ) → names ≡ map name_at disks → slice_get names place ≡ Some n → (d : Disk) × (slice_get disks place ≡ Some d) × (n ≡ d.name)
found_disk disks names place n e at = some_map name_at disks place n (rw e at at)

pub no_disk : (disks : List Disk) (names : List (List ℕ)) (n : List ℕ) → names ≡ map name_at disks → ¬ (Contains names n) → ¬ (Any (λ (d : Disk). d.name ≡ n) disks)
no_disk disks names n e none a =
    let at : slice_get disks a.0 ≡ Some a.1 = slice_get-get_or disks a.0 a.1 a.2 ∙ ap Some a.3 in
    none (rw e (Contains-at (map name_at disks) a.0 n (at_map name_at disks a.0 a.1 at ∙ ap Some a.4)))

-- the slot is too high for a disk of the name exactly if it is for the disk that was found
pub too_high : (disks : List Disk) (place slot : ℕ) (d : Disk) → slice_get disks place ≡ Some d → d.slots ≤ slot → Any (λ (x : Disk). (x.name ≡ d.name) × (x.slots ≤ slot)) disks
too_high disks place slot d at h = (place, d, slice_get_within disks place d at, get_or_from_slice_get disks place d d at, (refl, h))

pub not_too_high : (disks : List Disk) (place slot : ℕ) (d : Disk) → AreDifferent (map name_at disks) → slice_get disks place ≡ Some d → slot < d.slots → ¬ (Any (λ (x : Disk). (x.name ≡ d.name) × (x.slots ≤ slot)) disks)
not_too_high disks place slot d ne at low a =
    let b : slice_get disks a.0 ≡ Some a.1 = slice_get-get_or disks a.0 a.1 a.2 ∙ ap Some a.3 in
    let same = one_place (map name_at disks) a.0 place d.name ne (at_map name_at disks a.0 a.1 b ∙ ap Some a.4.0) (at_map name_at disks place d at) in
    let eq : a.1 ≡ d = cc (sym b ∙ ap (slice_get disks) same ∙ at) in
    let high = subst (λ (x : Disk). x.slots ≤ slot) eq a.4.1 in
    omega arith
