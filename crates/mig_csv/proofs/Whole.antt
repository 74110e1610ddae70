-- What the steps of the reading say of the three files.
use Rattle.mig_csv.proofs.Common.{Accepted, Accepted-clean, All, AllZip, AreListed, AreListed-unique, AreNextOf, Disk, DiskId, DisksFault, Fault}
use Rattle.mig_csv.proofs.Common.{FileKind, InputError, IsClean, ThreeFiles, InputLists, IsInputError, IsNextNamed, IsNotListed, IsRefusalOf, IsRoomy}
use Rattle.mig_csv.proofs.Common.{IsSpotNamed, LacksRoom, List, NextFault, None, NowFault, Option, Precedes, PrecedesInFile, RefusesMissing}
use Rattle.mig_csv.proofs.Common.{RefusesRoom, Some, Why, [], arith, disks_of, first, get_or, get_or_from_slice_get, incoming, inl, inr, length}
use Rattle.mig_csv.proofs.Common.{length-map, map, no_disk, present, refl, refused_in_file, rows_of, slice_get, slice_get-get_or, slice_get-map}
use Rattle.mig_csv.proofs.Common.{slice_get_within, stage_free, stage_of, subst, ℕ, ◌+◌, ◌<◌, ◌≡◌, ◌≤◌}
use Rattle.mig_base.specs.declared.faults.FileKind.TheVariants as file
use Rattle.mig_base.specs.declared.faults.Why.TheVariants as why
use Rattle.mig_csv.specs.declared.errors.InputError.TheVariants as error

-- a refusal of each file refuses the three
pub refusal_of_disks : (fs : ThreeFiles) (e : InputError) → IsRefusalOf file.Disks (DisksFault fs.disks) e → IsInputError fs e
refusal_of_disks fs (error.Refused f n w) h = rw h.0 (refused_in_file fs file.Disks n w (λ g m v lt. absurd (omega (arith, lt))) h.1)
refusal_of_disks fs error.Memory h = tt

pub refusal_of_now : (fs : ThreeFiles) (disks : List Disk) (e : InputError) → disks ≡ disks_of fs.disks → IsClean fs file.Disks
    → IsRefusalOf file.Now (NowFault disks fs.now) e → IsInputError fs e
refusal_of_now fs disks (error.Refused f n w) at d h =
    rw h.0 (refused_in_file fs file.Now n w
    (stage_free fs 1 (λ _. d) (λ lt. absurd (omega (arith, lt))) (λ lt. absurd (omega (arith, lt))) (λ lt. absurd (omega (arith, lt))) (λ lt. absurd (omega (arith, lt))))
    (rw at at h.1))
refusal_of_now fs disks error.Memory at d h = tt

pub refusal_of_next : (fs : ThreeFiles) (disks : List Disk) (items : List (List ℕ)) (e : InputError) → disks ≡ disks_of fs.disks → items ≡ map first (rows_of fs.now)
    → IsClean fs file.Disks → IsClean fs file.Now → IsRefusalOf file.Next (NextFault disks items fs.next) e → IsInputError fs e
refusal_of_next fs disks items (error.Refused f n w) at those d now h =
    rw h.0 (refused_in_file fs file.Next n w
    (stage_free fs 2 (λ _. d) (λ _. now) (λ lt. absurd (omega (arith, lt))) (λ lt. absurd (omega (arith, lt))) (λ lt. absurd (omega (arith, lt))))
    (rw (at, those) at h.1))
refusal_of_next fs disks items error.Memory at those d now h = tt

pub clean_now : (fs : ThreeFiles) (disks : List Disk) → disks ≡ disks_of fs.disks → ((n : ℕ) (w : Why) → ¬ (NowFault disks fs.now n w)) → IsClean fs file.Now
clean_now fs disks at s = rw at at s

pub clean_next : (fs : ThreeFiles) (disks : List Disk) (items : List (List ℕ)) → disks ≡ disks_of fs.disks → items ≡ map first (rows_of fs.now)
    → ((n : ℕ) (w : Why) → ¬ (NextFault disks items fs.next n w)) → IsClean fs file.Next
clean_next fs disks items at those s = rw (at, those) at s

some_of : (ds : List DiskId) (k : ℕ) (v : DiskId) → slice_get (map (λ (d : DiskId). Some d) ds) k ≡ Some (Some v) → slice_get ds k ≡ Some v
some_of ds k v e = grind (arith, slice_get-map)

a_disk : DiskId
a_disk = record { 0 = 0 }

-- each item has a next disk, so some row names it
pub none_missing : (fs : ThreeFiles) (disks : List Disk) (items : List (List ℕ)) (next : List (Option DiskId)) (ds : List DiskId) → items ≡ map first (rows_of fs.now)
    → AreNextOf disks items (rows_of fs.next) next → next ≡ map (λ (d : DiskId). Some d) ds → (n : ℕ) → ¬ (IsNotListed fs n)
none_missing fs disks items next ds those a e n h =
    let at : slice_get items h.place ≡ Some h.item = rw those h.at in
    let lt : h.place < length ds = let w = slice_get_within items h.place h.item at in let len = rw (e, length-map) at a.len in omega arith in
    let here : slice_get next h.place ≡ Some (Some (get_or ds h.place a_disk)) = rw (e, slice_get-map, slice_get-get_or ds h.place a_disk lt) refl in
    h.missing (a.listed h.place h.item (get_or ds h.place a_disk) at here)

-- the lists that were made are those that the rows list
pub listed_of : (fs : ThreeFiles) (i : InputLists) (next : List (Option DiskId)) → i.disks ≡ disks_of fs.disks → i.items ≡ map first (rows_of fs.now)
    → AllZip (IsSpotNamed i.disks) (rows_of fs.now) i.spots → AreNextOf i.disks i.items (rows_of fs.next) next → next ≡ map (λ (d : DiskId). Some d) i.next → AreListed fs i
listed_of fs i next at those spots a e = record {
  disks = at;
  items = those;
  spots = spots;
  next_len = rw (e, length-map) at a.len;
  next = named;
}
  where
    named : All (IsNextNamed i) (rows_of fs.next)
    named k d lt =
        let n = a.named k d lt in
        let v = some_of i.next n.0 n.1 (rw e at n.3) in
        (n.0, n.2, rw v n.4)

-- the first item with no next disk is the first fault, where the three files are clean
pub refusal_of_missing : (fs : ThreeFiles) (disks : List Disk) (items : List (List ℕ)) (next : List (Option DiskId)) (e : InputError) → items ≡ map first (rows_of fs.now)
    → IsClean fs file.Disks → IsClean fs file.Now → IsClean fs file.Next → AreNextOf disks items (rows_of fs.next) next → RefusesMissing next e → IsInputError fs e
refusal_of_missing fs disks items next error.Memory those d n x a h = tt
refusal_of_missing fs disks items next (error.Refused f row why.NotInNext) those d n x a h =
    rw h.0 (record { fault = (refl, here); first = first })
  where
    k : ℕ
    k = h.1

    here : IsNotListed fs row
    here =
        let w = slice_get_within next h.1 None h.3 in
        let len = a.len in
        let at : slice_get items h.1 ≡ Some (get_or items h.1 []) = slice_get-get_or items h.1 [] (omega arith) in
        record { place = h.1; item = get_or items h.1 []; number = h.2; at = rw (← those) at; missing = a.missing h.1 (get_or items h.1 []) at h.3 }

    at_three : (g : FileKind) (m : ℕ) (v : Why) → stage_of g v ≡ 3 → PrecedesInFile m v row why.NotInNext → ¬ (Fault fs g m v)
    at_three g m (why.NoRoom p q r) s o y = absurd (omega (arith, s))
    at_three g m why.NotInNext s o y =
        let z = y.1 in
        let number = z.number in
        let mine = h.2 in
        elim o [
          | inl lt ↦
              let before : z.place < h.1 = omega arith in
              let there = h.4 z.place before in
              let at : slice_get items z.place ≡ Some z.item = rw those z.at in
              z.missing (a.listed z.place z.item there.0 at there.1)
          | inr eq ↦ let r = eq.1 in absurd (omega arith)
        ]
    at_three file.Disks m v s o y = absurd (omega (arith, s))
    at_three file.Now m v s o y = absurd (omega (arith, s))
    at_three file.Next m v s o y = absurd (omega (arith, s))

    first : (g : FileKind) (m : ℕ) (v : Why) → Precedes g m v file.Now row why.NotInNext → ¬ (Fault fs g m v)
    first g m v p y = elim p [
      | inl lt ↦ stage_free fs 3 (λ _. d) (λ _. n) (λ _. x) (λ lt. absurd (omega (arith, lt))) (λ lt. absurd (omega (arith, lt))) g m v lt y
      | inr q ↦ at_three g m v q.0 q.1 y
    ]
refusal_of_missing fs disks items next (error.Refused f row w) those d n x a h = absurd h

-- the files list these, and nothing is wrong with them but that disks may lack room
pub record AreRead (fs : ThreeFiles) (i : InputLists) : Type 0 where
  pub disks : IsClean fs file.Disks
  pub now : IsClean fs file.Now
  pub next : IsClean fs file.Next
  pub missing : (n : ℕ) → ¬ (IsNotListed fs n)
  pub listed : AreListed fs i

-- the first disk that lacks room is the first fault then
pub refusal_of_room : (fs : ThreeFiles) (i : InputLists) (e : InputError) → AreRead fs i → RefusesRoom i e → IsInputError fs e
refusal_of_room fs i error.Memory r h = tt
refusal_of_room fs i (error.Refused f row (why.NoRoom name needs slots)) r h =
    rw h.0 (record {
      fault = (refl, record { lists = i; listed = r.listed; place = h.1; disk = h.2; number = h.3; at = h.4; named = h.5; sum = h.6; kept = h.7; short = h.8 });
      first = first;
    })
  where
    at_four : (g : FileKind) (m : ℕ) (v : Why) → stage_of g v ≡ 4 → PrecedesInFile m v row (why.NoRoom name needs slots) → ¬ (Fault fs g m v)
    at_four g m why.NotInNext s o y = absurd (omega (arith, s))
    at_four g m (why.NoRoom p q has) s o y =
        let z = y.1 in
        let number = z.number in
        let mine = h.3 in
        elim o [
          | inl lt ↦
              let before : z.place < h.1 = omega arith in
              let same = AreListed-unique fs z.lists i r.disks r.now r.next r.missing z.listed r.listed in
              let at : slice_get i.disks z.place ≡ Some z.disk = subst (λ (j : InputLists). slice_get j.disks z.place ≡ Some z.disk) same z.at in
              let sum : q ≡ present i z.place + incoming i z.place = subst (λ (j : InputLists). q ≡ present j z.place + incoming j z.place) same z.sum in
              let room = subst (λ (d : Disk). present i z.place + incoming i z.place ≤ d.slots) (get_or_from_slice_get i.disks z.place z.disk no_disk at) (h.9 z.place before) in
              let short = z.short in
              let kept = z.kept in
              absurd (omega (arith, room))
          | inr eq ↦ let row_is = eq.1 in absurd (omega arith)
        ]
    at_four file.Disks m v s o y = absurd (omega (arith, s))
    at_four file.Now m v s o y = absurd (omega (arith, s))
    at_four file.Next m v s o y = absurd (omega (arith, s))

    first : (g : FileKind) (m : ℕ) (v : Why) → Precedes g m v file.Disks row (why.NoRoom name needs slots) → ¬ (Fault fs g m v)
    first g m v p y = elim p [
      | inl lt ↦ stage_free fs 4 (λ _. r.disks) (λ _. r.now) (λ _. r.next) (λ _. r.missing) (λ lt. absurd (omega (arith, lt))) g m v lt y
      | inr q ↦ at_four g m v q.0 q.1 y
    ]
refusal_of_room fs i (error.Refused f row w) r h = absurd h

-- a roomy input lacks room nowhere
none_lacks : (fs : ThreeFiles) (i : InputLists) → AreRead fs i → IsRoomy i → (n : ℕ) (name : List ℕ) (needs slots : ℕ) → ¬ (LacksRoom fs n name needs slots)
none_lacks fs i r roomy m name needs slots z = grind (arith, AreListed-unique, get_or_from_slice_get, no_disk, slice_get_within)

pub Accepted-roomy : (fs : ThreeFiles) (i : InputLists) → AreRead fs i → IsRoomy i → Accepted fs i
Accepted-roomy fs i r roomy = Accepted-clean fs i r.disks r.now r.next r.missing (none_lacks fs i r roomy) r.listed
