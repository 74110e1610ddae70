-- A now file that is read row by row.
use Rattle.mig_csv.proofs.Common.{All, All-append, AllZip, Contains, Disk, IsFirstCause, IsFirstFault, IsSpotNamed, IsSpotOf, List, MAX_FILE_BYTES}
use Rattle.mig_csv.proofs.Common.{MAX_ITEMS, NowFault, NowRowFault, Row, Some, Spot, Why, [], all_zipped_more, ap, append-nil, append_assoc, arith}
use Rattle.mig_csv.proofs.Common.{at_map, first, has_sides, header_row, length, length-append, length-map, map, map-append, one_all, place_in}
use Rattle.mig_csv.proofs.Common.{records_of, refl, rows_of, some_and, spot_in_row, subst, sym, ℕ, ◌++◌, ◌+◌, ◌∙◌, ◌∷◌, ◌≡◌, ◌≤◌}
use Rattle.mig_base.specs.declared.faults.FileKind.TheVariants as file
use Rattle.mig_base.specs.declared.faults.Why.TheVariants as why
use Rattle.mig_csv.proofs.DiskFiles.{OfRows, Sound, Sound-nil, Sound-push, first_fault, no_fault}
use Rattle.mig_csv.proofs.ItemRows.{Contains-at, at-Contains, place_at}

abbrev pub now_has : List Disk → List Row → Row → Why → Type 0
now_has disks before r w = NowRowFault disks (map first before) (map spot_in_row before) r w

now_rows : (disks : List Disk) → OfRows (now_has disks)
now_rows disks = record { long = λ before r h. h; head = λ before r h. h }

named_place : (disks : List Disk) (r : Row) (s : Spot) → IsSpotNamed disks r s → place_in disks s ≡ spot_in_row r
named_place disks r s h = grind (arith, some_and, place_at)

named_places : (disks : List Disk) (rs : List Row) (ss : List Spot) → AllZip (IsSpotNamed disks) rs ss → map (place_in disks) ss ≡ map spot_in_row rs
named_places disks [] [] z = refl
named_places disks [] (s ∷ ss) z = absurd z
named_places disks (r ∷ rs) [] z = absurd z
named_places disks (r ∷ rs) (s ∷ ss) z = grind (arith, named_place, named_places disks rs ss z.1)

-- the records of the file are its header, rows that are done and those that are left; the items and the spots are those of the rows that are done
pub record ItemsSoFar (bytes : List ℕ) (disks : List Disk) (left : List Row) (names : List (List ℕ)) (taken : List Spot) (items : List (List ℕ)) (spots : List Spot) : Type 0 where
  pub short : length bytes ≤ MAX_FILE_BYTES
  pub done : List Row
  pub records : records_of bytes ≡ header_row file.Now (has_sides bytes) ∷ (done ++ left)
  pub sound : Sound (now_has disks) done
  pub few : length done ≤ MAX_ITEMS
  pub named : names ≡ map first done
  pub items_are : items ≡ names
  pub spots_are : spots ≡ taken
  pub spotted : AllZip (IsSpotNamed disks) done taken
  pub valid : All (IsSpotOf disks) taken

pub ItemsSoFar-start : {bytes : List ℕ} {disks : List Disk} (left : List Row) → length bytes ≤ MAX_FILE_BYTES → records_of bytes ≡ header_row file.Now (has_sides bytes) ∷ left → ItemsSoFar bytes disks left [] [] [] []
ItemsSoFar-start {bytes} {disks} left short e = grind (arith, Sound-nil)

pub ItemsSoFar-end : {bytes : List ℕ} {disks : List Disk} {left : List Row} {names : List (List ℕ)} {taken : List Spot} {items : List (List ℕ)} {spots : List Spot}
    → ItemsSoFar bytes disks left names taken items spots → left ≡ [] → (n : ℕ) (w : Why) → ¬ (NowFault disks bytes n w)
ItemsSoFar-end {bytes} {disks} s e = no_fault (now_has disks) (header_row file.Now (has_sides bytes)) bytes s.done s.short (rw (e, append-nil) at s.records) s.sound

rows_are : {bytes : List ℕ} {disks : List Disk} {left : List Row} {names : List (List ℕ)} {taken : List Spot} {items : List (List ℕ)} {spots : List Spot}
    → (s : ItemsSoFar bytes disks left names taken items spots) → left ≡ [] → rows_of bytes ≡ s.done
rows_are s e = rw (s.records, e, append-nil) refl

pub ItemsSoFar-items : {bytes : List ℕ} {disks : List Disk} {left : List Row} {names : List (List ℕ)} {taken : List Spot} {items : List (List ℕ)} {spots : List Spot}
    → ItemsSoFar bytes disks left names taken items spots → left ≡ [] → items ≡ map first (rows_of bytes)
ItemsSoFar-items s e = s.items_are ∙ s.named ∙ ap (map first) (sym (rows_are s e))

pub ItemsSoFar-spots : {bytes : List ℕ} {disks : List Disk} {left : List Row} {names : List (List ℕ)} {taken : List Spot} {items : List (List ℕ)} {spots : List Spot}
    → ItemsSoFar bytes disks left names taken items spots → left ≡ [] → AllZip (IsSpotNamed disks) (rows_of bytes) spots
ItemsSoFar-spots {bytes} {disks} s e = rw (rows_are s e, s.spots_are) s.spotted

pub ItemsSoFar-push : {bytes : List ℕ} {disks : List Disk} {left : List Row} {names : List (List ℕ)} {taken : List Spot} {items : List (List ℕ)} {spots : List Spot}
    → ItemsSoFar bytes disks left names taken items spots → (r : Row) (rest : List Row) (name : List ℕ) (spot : Spot) → left ≡ r ∷ rest → name ≡ first r → IsSpotNamed disks r spot → IsSpotOf disks spot
    → ((w : Why) → ¬ (NowRowFault disks names (map (place_in disks) taken) r w)) → ItemsSoFar bytes disks rest (names ++ name ∷ []) (taken ++ spot ∷ []) (items ++ name ∷ []) (spots ++ spot ∷ [])
ItemsSoFar-push {bytes} {disks} {left} {names} {taken} s r rest name spot e is spotted valid new =
    let new_here : (w : Why) → ¬ (now_has disks s.done r w) = rw (s.named, named_places disks s.done taken s.spotted) at new in
    let room : ¬ (MAX_ITEMS ≤ length names) = new why.TooManyRows in
    record {
      short = s.short;
      done = s.done ++ r ∷ [];
      records = rw (append_assoc, ← e) s.records;
      sound = Sound-push (now_has disks) s.done r s.sound new_here;
      few = let n : length names ≡ length s.done = rw (s.named, length-map) refl in omega (arith, length-append s.done (r ∷ []));
      named = rw (is, map-append, ← s.named) refl;
      items_are = rw s.items_are refl;
      spots_are = rw s.spots_are refl;
      spotted = all_zipped_more (IsSpotNamed disks) s.done taken r spot s.spotted spotted;
      valid = All-append (IsSpotOf disks) taken (spot ∷ []) s.valid (one_all (IsSpotOf disks) spot valid);
    }

pub ItemsSoFar-fault : {bytes : List ℕ} {disks : List Disk} {left : List Row} {names : List (List ℕ)} {taken : List Spot} {items : List (List ℕ)} {spots : List Spot}
    → ItemsSoFar bytes disks left names taken items spots → (r : Row) (rest : List Row) (w : Why) → left ≡ r ∷ rest → IsFirstCause (NowRowFault disks names (map (place_in disks) taken) r) w
    → IsFirstFault (NowFault disks bytes) (length names + 1) w
ItemsSoFar-fault {bytes} {disks} {left} {names} {taken} s r rest w e f =
    rw (s.named, length-map) (first_fault (now_has disks) (header_row file.Now (has_sides bytes)) bytes s.done rest r w (now_rows disks) s.short (rw e at s.records) s.sound
    (rw (s.named, named_places disks s.done taken s.spotted) at f))

-- the spot of a row whose place no row before named is not taken
pub not_taken : (disks : List Disk) (taken : List Spot) (r : Row) (s : Spot) → IsSpotNamed disks r s → ¬ (Contains (map (place_in disks) taken) (spot_in_row r)) → ¬ (Contains taken s)
not_taken disks taken r s named new c =
    let (k, at) = at-Contains taken s c in
    new (Contains-at (map (place_in disks) taken) k (spot_in_row r) (at_map (place_in disks) taken k s at ∙ ap Some (named_place disks r s named)))

pub ItemsSoFar-few : {bytes : List ℕ} {disks : List Disk} {left : List Row} {names : List (List ℕ)} {taken : List Spot} {items : List (List ℕ)} {spots : List Spot}
    → ItemsSoFar bytes disks left names taken items spots → length items ≤ MAX_ITEMS
ItemsSoFar-few {items = items} s = let n : length items ≡ length s.done = rw (s.items_are, s.named, length-map) refl in omega (arith, s.few)

-- the spots are slots of the disks
pub ItemsSoFar-on_disks : {bytes : List ℕ} {disks : List Disk} {left : List Row} {names : List (List ℕ)} {taken : List Spot} {items : List (List ℕ)} {spots : List Spot}
    → ItemsSoFar bytes disks left names taken items spots → All (IsSpotOf disks) spots
ItemsSoFar-on_disks {disks = disks} s = subst (λ (ss : List Spot). All (IsSpotOf disks) ss) (sym s.spots_are) s.valid

pub ItemsSoFar-few_names : {bytes : List ℕ} {disks : List Disk} {left : List Row} {names : List (List ℕ)} {taken : List Spot} {items : List (List ℕ)} {spots : List Spot}
    → ItemsSoFar bytes disks left names taken items spots → length names ≤ MAX_ITEMS
ItemsSoFar-few_names s = rw (s.named, length-map) s.few
