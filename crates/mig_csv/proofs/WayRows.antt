-- The rows of a next file.
use Rattle.mig_csv.proofs.Common.{All, All-append, Any, AreDifferent, AreNextOf, AreSeen, Contains, Disk, DiskId, IsFirstCause, IsFirstFault, IsName}
use Rattle.mig_csv.proofs.Common.{IsNextOf, IsSomeAnd, List, MAX_FILE_BYTES, MAX_ITEMS, MatchOption, NextFault, NextRowFault, None, Option, Row, Some}
use Rattle.mig_csv.proofs.Common.{Why, [], ap, append-nil, append_assoc, arith, cases_eq, first, get_or, has_sides, header_row, inl, inr, length}
use Rattle.mig_csv.proofs.Common.{length-append, length-map, length-set, map, map-append, one_all, one_place, rank_of, records_of, refl, replicate}
use Rattle.mig_csv.proofs.Common.{rows_of, second, set, slice_get, slice_get-set_other, slice_get-set_same, slice_get_within, some_and, subst, suc}
use Rattle.mig_csv.proofs.Common.{sym, zero, ℕ, ◌++◌, ◌+◌, ◌<◌, ◌∙◌, ◌∷◌, ◌≡◌, ◌≢◌, ◌≤◌, ◌⊎◌, at_map, slice_get-get_or}
use Rattle.mig_base.proofs.Common.{length-replicate}
use Rattle.std.proofs.lemmas.List.Elements.{Contains-append_left, Contains-push, Contains-push_cases}
use Rattle.mig_base.specs.declared.faults.FileKind.TheVariants as file
use Rattle.mig_base.specs.declared.faults.Why.TheVariants as why
use Rattle.mig_csv.proofs.DiskFiles.{OfRows, Sound, Sound-nil, Sound-push, first_fault, no_fault}
use Rattle.mig_csv.proofs.ItemRows.{Contains-at}

-- no cause before the place n in the order of causes holds of a row of the next file
pub none_before : (disks : List Disk) (present items : List (List ℕ)) (r : Row) (n : ℕ)
    → (2 < n → length items < MAX_ITEMS) → (3 < n → length r ≡ 2) → (4 < n → IsName (first r) × IsName (second r)) → (8 < n → ¬ (Contains items (first r)))
    → (9 < n → Any (λ (d : Disk). d.name ≡ second r) disks) → (12 < n → Contains present (first r))
    → (w : Why) → rank_of w < n → ¬ (NextRowFault disks present items r w)
none_before disks present items r n few width names new known here why.TooManyRows lt h = let f = few lt in omega arith
none_before disks present items r n few width names new known here why.BadWidth lt h = h (width lt)
none_before disks present items r n few width names new known here why.BadName lt h = h (names lt)
none_before disks present items r n few width names new known here why.DuplicateItem lt h = new lt h
none_before disks present items r n few width names new known here why.UnknownDisk lt h = h (known lt)
none_before disks present items r n few width names new known here why.NotInNow lt h = h (here lt)
none_before disks present items r n few width names new known here _ lt h = h

-- nothing is known before the first row
abbrev pub unknown : Option DiskId
unknown = None

none_at : (n k : ℕ) (v : DiskId) → slice_get (replicate n unknown) k ≡ Some (Some v) → ⊥
none_at zero k v e = cc e
none_at (suc n) zero v e = cc e
none_at (suc n) (suc k) v e = none_at n k v e

pub AreNextOf-start : (disks : List Disk) (items : List (List ℕ)) → AreNextOf disks items [] (replicate (length items) unknown)
AreNextOf-start disks items = grind (arith, length-replicate, none_at)

-- one more row
pub AreNextOf-push : (disks : List Disk) (items : List (List ℕ)) (done : List Row) (next : List (Option DiskId)) (r : Row) (k : ℕ) (v : DiskId) → AreNextOf disks items done next → AreDifferent items
    → slice_get items k ≡ Some (first r) → IsSomeAnd (slice_get disks v.0) (λ d. d.name ≡ second r) → ¬ (Contains (map first done) (first r)) → AreNextOf disks items (done ++ r ∷ []) (set next k (Some v))
AreNextOf-push disks items done next r k v a ne at is new = record {
  len = rw length-set a.len;
  named = All-append (IsNextOf disks items (set next k (Some v))) done (r ∷ []) old (one_all (IsNextOf disks items (set next k (Some v))) r (k, v, at, slice_get-set_same next k (Some v) within, is));
  listed = listed;
  missing = missing;
  on_disks = on_disks;
}
  where
    within : k < length next
    within = omega (arith, slice_get_within items k (first r) at, a.len)

    -- what is at a place after the write
    written : (j : ℕ) (o : Option DiskId) → slice_get (set next k (Some v)) j ≡ Some o
        → ((j ≡ k) × (o ≡ Some v)) ⊎ ((j ≢ k) × (slice_get next j ≡ Some o))
    written j o e = elim (cases_eq j k) [
      | inl same ↦ inl (same, cc (e, same, slice_get-set_same next k (Some v) within))
      | inr other ↦ inr (other, sym (slice_get-set_other next k j (Some v) other) ∙ e)
    ]

    on_disks : (j : ℕ) (w : DiskId) → slice_get (set next k (Some v)) j ≡ Some (Some w) → w.0 < length disks
    on_disks j w e = elim (written j (Some w) e) [
      | inl here ↦
          let d = some_and (λ (x : Disk). x.name ≡ second r) (slice_get disks v.0) is in
          let one : w ≡ v = cc here.1 in
          rw one (slice_get_within disks v.0 d.0 d.1)
      | inr other ↦ a.on_disks j w other.1
    ]

    rows_of_done : map first (done ++ r ∷ []) ≡ map first done ++ first r ∷ []
    rows_of_done = map-append first done (r ∷ [])

    old : All (IsNextOf disks items (set next k (Some v))) done
    old j d lt =
        let h = a.named j d lt in
        let there = Contains-at (map first done) j (first (get_or done j d)) (at_map first done j (get_or done j d) (slice_get-get_or done j d lt)) in
        let apart : h.0 ≢ k = λ e. new (let one : first r ≡ first (get_or done j d) = cc (h.2, at, e) in rw one there) in
        (h.0, h.1, h.2, slice_get-set_other next k h.0 (Some v) apart ∙ h.3, h.4)

    listed : (j : ℕ) (n : List ℕ) (w : DiskId) → slice_get items j ≡ Some n → slice_get (set next k (Some v)) j ≡ Some (Some w)
        → Contains (map first (done ++ r ∷ [])) n
    listed j n w item e = rw rows_of_done (elim (written j (Some w) e) [
      | inl here ↦ (let one : n ≡ first r = cc (item, at, here.0) in rw one (Contains-push (map first done) (first r)))
      | inr other ↦ Contains-append_left (map first done) (first r ∷ []) n (a.listed j n w item other.1)
    ])

    missing : (j : ℕ) (n : List ℕ) → slice_get items j ≡ Some n → slice_get (set next k (Some v)) j ≡ Some None → ¬ (Contains (map first (done ++ r ∷ [])) n)
    missing j n item e c = elim (written j None e) [
      | inl here ↦ cc here.1
      | inr other ↦ elim (Contains-push_cases (map first done) (first r) n (rw rows_of_done at c)) [
        | inl before ↦ a.missing j n item other.1 before
        | inr is_r ↦ other.0 (one_place items j k n ne item (at ∙ ap Some is_r))
      ]
    ]

-- A next file that is read row by row

abbrev pub next_has : List Disk → List (List ℕ) → List Row → Row → Why → Type 0
next_has disks present before r w = NextRowFault disks present (map first before) r w

next_rows : (disks : List Disk) (present : List (List ℕ)) → OfRows (next_has disks present)
next_rows disks present = record { long = λ before r h. h; head = λ before r h. h }

-- each row that is done names an item
items_of : (disks : List Disk) (items : List (List ℕ)) (next : List (Option DiskId)) (rs : List Row) → All (IsNextOf disks items next) rs → (n : List ℕ) → Contains (map first rs) n → Contains items n
items_of disks items next [] a n c = absurd (omega (arith, c.1))
items_of disks items next (r ∷ rs) a n (zero, lt, is) = let h = a 0 r (omega arith) in subst (λ m. Contains items m) is (Contains-at items h.0 (first r) h.2)
items_of disks items next (r ∷ rs) a n (suc k, lt, is) = items_of disks items next rs (λ j d l. a (suc j) d (omega (arith, l))) n (k, omega (arith, lt), is)

-- the records of the file are its header, rows that are done and those that are left
pub record WaysSoFar (bytes : List ℕ) (disks : List Disk) (present : List (List ℕ)) (left : List Row) (seen : ℕ) (next : List (Option DiskId)) : Type 0 where
  pub short : length bytes ≤ MAX_FILE_BYTES
  pub done : List Row
  pub records : records_of bytes ≡ header_row file.Next (has_sides bytes) ∷ (done ++ left)
  pub sound : Sound (next_has disks present) done
  pub few : seen ≤ MAX_ITEMS
  pub count : seen ≡ length done
  pub ways : AreNextOf disks present done next

pub WaysSoFar-start : {bytes : List ℕ} {disks : List Disk} {present : List (List ℕ)} (left : List Row) → length bytes ≤ MAX_FILE_BYTES → records_of bytes ≡ header_row file.Next (has_sides bytes) ∷ left
    → WaysSoFar bytes disks present left 0 (replicate (length present) unknown)
WaysSoFar-start {bytes} {disks} {present} left short e = record {
  short = short;
  done = [];
  records = e;
  sound = Sound-nil (next_has disks present);
  few = omega arith;
  count = refl;
  ways = AreNextOf-start disks present;
}

pub WaysSoFar-end : {bytes : List ℕ} {disks : List Disk} {present : List (List ℕ)} {left : List Row} {seen : ℕ} {next : List (Option DiskId)}
    → WaysSoFar bytes disks present left seen next → left ≡ [] → (n : ℕ) (w : Why) → ¬ (NextFault disks present bytes n w)
WaysSoFar-end {bytes} {disks} {present} s e = no_fault (next_has disks present) (header_row file.Next (has_sides bytes)) bytes s.done s.short (rw (e, append-nil) at s.records) s.sound

pub WaysSoFar-ways : {bytes : List ℕ} {disks : List Disk} {present : List (List ℕ)} {left : List Row} {seen : ℕ} {next : List (Option DiskId)}
    → WaysSoFar bytes disks present left seen next → left ≡ [] → AreNextOf disks present (rows_of bytes) next
WaysSoFar-ways {bytes} {disks} {present} {left} {seen} {next} s e = let rows : rows_of bytes ≡ s.done = rw (s.records, e, append-nil) refl in subst (λ rs. AreNextOf disks present rs next) (sym rows) s.ways

-- the names of the rows that are done
pub WaysSoFar-seen : {bytes : List ℕ} {disks : List Disk} {present : List (List ℕ)} {left : List Row} {seen : ℕ} {next : List (Option DiskId)}
    → (s : WaysSoFar bytes disks present left seen next) → AreSeen present next seen (map first s.done)
WaysSoFar-seen {bytes} {disks} {present} {left} {seen} {next} s = record {
  count = length-map s.done first ∙ sym s.count;
  listed = s.ways.listed;
  missing = s.ways.missing;
  there = items_of disks present next s.done s.ways.named;
}

pub WaysSoFar-push : {bytes : List ℕ} {disks : List Disk} {present : List (List ℕ)} {left : List Row} {seen : ℕ} {next : List (Option DiskId)}
    → WaysSoFar bytes disks present left seen next → (r : Row) (rest : List Row) (k : ℕ) (v : DiskId) → left ≡ r ∷ rest → AreDifferent present
    → slice_get present k ≡ Some (first r) → IsSomeAnd (slice_get disks v.0) (λ d. d.name ≡ second r) → ((names : List (List ℕ)) → AreSeen present next seen names → (w : Why) → ¬ (NextRowFault disks present names r w))
    → WaysSoFar bytes disks present rest (seen + 1) (set next k (Some v))
WaysSoFar-push {bytes} {disks} {present} {left} {seen} {next} s r rest k v e ne at disk new =
    let new_here : (w : Why) → ¬ (next_has disks present s.done r w) = new (map first s.done) (WaysSoFar-seen s) in
    let room : ¬ (MAX_ITEMS ≤ length (map first s.done)) = new_here why.TooManyRows in
    let n : length (map first s.done) ≡ seen = length-map s.done first ∙ sym s.count in
    record {
      short = s.short;
      done = s.done ++ r ∷ [];
      records = rw (append_assoc, ← e) s.records;
      sound = Sound-push (next_has disks present) s.done r s.sound new_here;
      few = omega (arith, room, n);
      count = omega (arith, s.count, length-append s.done (r ∷ []));
      ways = AreNextOf-push disks present s.done next r k v s.ways ne at disk (new_here why.DuplicateItem);
    }

pub WaysSoFar-fault : {bytes : List ℕ} {disks : List Disk} {present : List (List ℕ)} {left : List Row} {seen : ℕ} {next : List (Option DiskId)}
    → WaysSoFar bytes disks present left seen next → (r : Row) (rest : List Row) (w : Why) → left ≡ r ∷ rest → ((names : List (List ℕ)) → AreSeen present next seen names → IsFirstCause (NextRowFault disks present names r) w)
    → IsFirstFault (NextFault disks present bytes) (seen + 1) w
WaysSoFar-fault {bytes} {disks} {present} {left} {seen} s r rest w e f =
    subst (λ n. IsFirstFault (NextFault disks present bytes) (n + 1) w) (sym s.count)
    (first_fault (next_has disks present) (header_row file.Next (has_sides bytes)) bytes s.done rest r w (next_rows disks present) s.short (rw e at s.records) s.sound (f (map first s.done) (WaysSoFar-seen s)))

-- an item that has no next disk is named by no row that is done, and one that is not in the now file by none either
pub not_seen : (items : List (List ℕ)) (next : List (Option DiskId)) (rows : ℕ) (names : List (List ℕ)) (n : List ℕ) (o : Option ℕ) → AreSeen items next rows names
    → MatchOption o (¬ (Contains items n)) (λ k. slice_get items k ≡ Some n) → ((k : ℕ) → o ≡ Some k → slice_get next k ≡ Some None) → ¬ (Contains names n)
not_seen items next rows names n None a found free = λ c. found (a.there n c)
not_seen items next rows names n (Some k) a found free = a.missing k n found (free k refl)
