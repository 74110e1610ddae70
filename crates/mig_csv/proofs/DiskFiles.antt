-- A file that is read row by row.
use Rattle.mig_csv.proofs.Common.{Bool, Disk, DisksFault, DisksRowFault, FileFault, IsFirstCause, IsFirstFault, IsRowFault, List, MAX_DISKS, MAX_FILE_BYTES, PrecedesInFile, Row, Some, Why, []}
use Rattle.mig_csv.proofs.Common.{ap, append-nil, append_assoc, arith, cases_lt, disk_of, disks_of, first, has_sides, header_row, inl, inr, length, length-append, length-map, map, map-append}
use Rattle.mig_csv.proofs.Common.{map-name, name_in_row, records_of, refl, rows_of, slice_get, slice_get_within, subst, suc, sym, take, take-append-le, take-append_seam, zero, ℕ, ◌++◌, ◌+◌, ◌<◌}
use Rattle.mig_csv.proofs.Common.{◌∙◌, ◌∷◌, ◌≡◌, ◌≤◌}
use Rattle.mig_base.specs.declared.faults.FileKind.TheVariants as file
use Rattle.mig_base.specs.declared.faults.Why.TheVariants as why

slice_get-append_left : {X : Type 0} (xs ys : List X) (k : ℕ) → k < length xs → slice_get (xs ++ ys) k ≡ slice_get xs k
slice_get-append_left [] ys k h = absurd (omega arith)
slice_get-append_left (x ∷ xs) ys zero h = refl
slice_get-append_left (x ∷ xs) ys (suc k) h = slice_get-append_left xs ys k (omega arith)

slice_get-append_seam : {X : Type 0} (xs ys : List X) (y : X) → slice_get (xs ++ y ∷ ys) (length xs) ≡ Some y
slice_get-append_seam [] ys y = refl
slice_get-append_seam (x ∷ xs) ys y = slice_get-append_seam xs ys y

-- no cause holds of these rows, each after the rows before it
pub record Sound (has : List Row → Row → Why → Type 0) (done : List Row) : Type 0 where
  pub each : (k : ℕ) (r : Row) (w : Why) → slice_get done k ≡ Some r → ¬ (has (take k done) r w)

pub Sound-nil : (has : List Row → Row → Why → Type 0) → Sound has []
Sound-nil has = record { each = λ k r w e h. cc e }

-- one more row of which no cause holds
pub Sound-push : (has : List Row → Row → Why → Type 0) (done : List Row) (r : Row) → Sound has done → ((w : Why) → ¬ (has done r w)) → Sound has (done ++ r ∷ [])
Sound-push has done r s new = record { each = each }
  where
    each : (k : ℕ) (q : Row) (w : Why) → slice_get (done ++ r ∷ []) k ≡ Some q → ¬ (has (take k (done ++ r ∷ [])) q w)
    each k q w e h =
        let in_list : k < length done + 1 = omega (arith, slice_get_within (done ++ r ∷ []) k q e, length-append done (r ∷ [])) in
        elim (cases_lt k (length done)) [
          | inl lt ↦
              s.each k q w (sym (slice_get-append_left done (r ∷ []) k lt) ∙ e)
              (subst (λ b. has b q w) (take-append-le k done (r ∷ []) (omega arith)) h)
          | inr ge ↦
              let k_is : k ≡ length done = omega arith in
              let at = subst (λ j. slice_get (done ++ r ∷ []) j ≡ Some q) k_is e in
              let same : r ≡ q = cc (sym (slice_get-append_seam done [] r) ∙ at) in
              let holds = subst (λ j. has (take j (done ++ r ∷ [])) q w) k_is h in
              new w (subst (λ x. has done x w) (sym same) (subst (λ b. has b q w) (take-append_seam done (r ∷ [])) holds))
        ]

-- the rows after the header
rows : (header : Row) (bytes : List ℕ) (done : List Row) → records_of bytes ≡ header ∷ done → rows_of bytes ≡ done
rows header bytes done e = rw e refl

-- a file whose rows are all sound has no fault
pub no_fault : (has : List Row → Row → Why → Type 0) (header : Row) (bytes : List ℕ) (done : List Row) → length bytes ≤ MAX_FILE_BYTES
    → records_of bytes ≡ header ∷ done → Sound has done → (n : ℕ) (w : Why) → ¬ (FileFault has header bytes n w)
no_fault has header bytes done short e s n why.TooLong h = let p = h.1 in omega arith
no_fault has header bytes done short e s n why.BadHeader h = h.1 (rw e refl)
no_fault has header bytes done short e s n w h = grind (arith, rows)

-- the causes of a row are none of those of the whole file
pub record OfRows (has : List Row → Row → Why → Type 0) : Type 0 where
  pub long : (before : List Row) (r : Row) → ¬ (has before r why.TooLong)
  pub head : (before : List Row) (r : Row) → ¬ (has before r why.BadHeader)

-- a row's fault is one of the file
row_fault : (has : List Row → Row → Why → Type 0) (header : Row) (bytes : List ℕ) → OfRows has → (n : ℕ) (w : Why) → IsRowFault has (rows_of bytes) n w → FileFault has header bytes n w
row_fault has header bytes o n why.TooLong f = absurd (o.long _ _ f.holds)
row_fault has header bytes o n why.BadHeader f = absurd (o.head _ _ f.holds)
row_fault has header bytes o n w f = f

-- no row has a fault before the first cause of the row after the sound rows
none_earlier : (has : List Row → Row → Why → Type 0) (done left : List Row) (r : Row) (w : Why) → Sound has done → IsFirstCause (has done r) w
    → (m : ℕ) (v : Why) → PrecedesInFile m v (length done + 1) w → ¬ (IsRowFault has (done ++ r ∷ left) m v)
none_earlier has done left r w s f m v p h =
    let number = h.number in
    elim p [
      | inl lt ↦
          let k : h.place < length done = omega arith in
          s.each h.place h.row v (sym (slice_get-append_left done (r ∷ left) h.place k) ∙ h.at)
          (subst (λ b. has b h.row v) (take-append-le h.place done (r ∷ left) (omega arith)) h.holds)
      | inr q ↦
          let m_is = q.0 in
          let k : h.place ≡ length done = omega arith in
          let at = subst (λ j. slice_get (done ++ r ∷ left) j ≡ Some h.row) k h.at in
          let same : r ≡ h.row = cc (sym (slice_get-append_seam done left r) ∙ at) in
          let holds = subst (λ j. has (take j (done ++ r ∷ left)) h.row v) k h.holds in
          f.first v q.1 (subst (λ x. has done x v) (sym same) (subst (λ b. has b h.row v) (take-append_seam done (r ∷ left)) holds))
    ]

-- the first fault of a file is that of the row after the sound rows
pub first_fault : (has : List Row → Row → Why → Type 0) (header : Row) (bytes : List ℕ) (done left : List Row) (r : Row) (w : Why) → OfRows has → length bytes ≤ MAX_FILE_BYTES
    → records_of bytes ≡ header ∷ (done ++ r ∷ left) → Sound has done → IsFirstCause (has done r) w → IsFirstFault (FileFault has header bytes) (length done + 1) w
first_fault has header bytes done left r w o short e s f = record { holds = row_fault has header bytes o (length done + 1) w here; first = first }
  where
    here : IsRowFault has (rows_of bytes) (length done + 1) w
    here = subst (λ rs. IsRowFault has rs (length done + 1) w) (sym (rows header bytes _ e)) (record {
      place = length done;
      row = r;
      number = refl;
      at = slice_get-append_seam done left r;
      holds = subst (λ b. has b r w) (sym (take-append_seam done (r ∷ left))) f.holds;
    })

    first : (m : ℕ) (v : Why) → PrecedesInFile m v (length done + 1) w → ¬ (FileFault has header bytes m v)
    first m why.TooLong p h = let q = h.1 in omega arith
    first m why.BadHeader p h = h.1 (rw e refl)
    first m v p h = none_earlier has done left r w s f m v p (subst (λ rs. IsRowFault has rs m v) (rows header bytes _ e) h)

abbrev has_fault : Bool → List Row → Row → Why → Type 0
has_fault sides before r w = DisksRowFault sides (map first before) r w

-- the records of the file are its header, rows that are done and those that are left; the disks are those of the rows that are done
pub record ReadSoFar (bytes : List ℕ) (left : List Row) (names : List (List ℕ)) (disks : List Disk) : Type 0 where
  pub short : length bytes ≤ MAX_FILE_BYTES
  pub done : List Row
  pub records : records_of bytes ≡ header_row file.Disks (has_sides bytes) ∷ (done ++ left)
  pub sound : Sound (has_fault (has_sides bytes)) done
  pub few : length done ≤ MAX_DISKS
  pub named : names ≡ map first done
  pub listed : disks ≡ map (disk_of (has_sides bytes)) done

of_rows : (sides : Bool) → OfRows (has_fault sides)
of_rows sides = record { long = λ before r h. h; head = λ before r h. h }

-- a file that was read to its end has no fault
pub ReadSoFar-end : {bytes : List ℕ} {left : List Row} {names : List (List ℕ)} {disks : List Disk} → ReadSoFar bytes left names disks → left ≡ [] → (n : ℕ) (w : Why) → ¬ (DisksFault bytes n w)
ReadSoFar-end {bytes} s e = no_fault (has_fault (has_sides bytes)) (header_row file.Disks (has_sides bytes)) bytes s.done s.short (rw (e, append-nil) at s.records) s.sound

-- one more row of which no cause holds
pub ReadSoFar-push : {bytes : List ℕ} {left : List Row} {names : List (List ℕ)} {disks : List Disk} → ReadSoFar bytes left names disks → (r : Row) (rest : List Row) (d : Disk)
    → left ≡ r ∷ rest → d ≡ disk_of (has_sides bytes) r → ((w : Why) → ¬ (DisksRowFault (has_sides bytes) names r w)) → ReadSoFar bytes rest (names ++ d.name ∷ []) (disks ++ d ∷ [])
ReadSoFar-push {bytes} {left} {names} s r rest d e listed new =
    let new_here : (w : Why) → ¬ (has_fault (has_sides bytes) s.done r w) = rw s.named at new in
    let room : ¬ (MAX_DISKS ≤ length names) = new why.TooManyRows in
    record {
      short = s.short;
      done = s.done ++ r ∷ [];
      records = rw (append_assoc, ← e) s.records;
      sound = Sound-push (has_fault (has_sides bytes)) s.done r s.sound new_here;
      few = let n : length names ≡ length s.done = rw (s.named, length-map) refl in omega (arith, length-append s.done (r ∷ []));
      named = rw (listed, name_in_row, map-append, ← s.named) refl;
      listed = rw (listed, map-append, ← s.listed) refl;
    }

-- the first cause that holds of the next row is the file's first fault
pub ReadSoFar-fault : {bytes : List ℕ} {left : List Row} {names : List (List ℕ)} {disks : List Disk} → ReadSoFar bytes left names disks → (r : Row) (rest : List Row) (w : Why)
    → left ≡ r ∷ rest → IsFirstCause (DisksRowFault (has_sides bytes) names r) w → IsFirstFault (DisksFault bytes) (length names + 1) w
ReadSoFar-fault {bytes} {left} {names} s r rest w e f =
    rw (s.named, length-map) (first_fault (has_fault (has_sides bytes)) (header_row file.Disks (has_sides bytes)) bytes s.done rest r w (of_rows (has_sides bytes)) s.short (rw e at s.records) s.sound (rw s.named at f))

-- a file whose header was read
pub ReadSoFar-start : {bytes : List ℕ} (left : List Row) → length bytes ≤ MAX_FILE_BYTES → records_of bytes ≡ header_row file.Disks (has_sides bytes) ∷ left → ReadSoFar bytes left [] []
ReadSoFar-start {bytes} left short e = grind (arith, Sound-nil)

-- the names are those of the disks
pub ReadSoFar-names : {bytes : List ℕ} {left : List Row} {names : List (List ℕ)} {disks : List Disk} → ReadSoFar bytes left names disks → names ≡ map (λ (d : Disk). d.name) disks
ReadSoFar-names {bytes} s = s.named ∙ map-name (has_sides bytes) s.done ∙ ap (map (λ (d : Disk). d.name)) (sym s.listed)

-- the disks are those of the rows of a file that was read to its end
pub ReadSoFar-value : {bytes : List ℕ} {left : List Row} {names : List (List ℕ)} {disks : List Disk} → ReadSoFar bytes left names disks → left ≡ [] → disks ≡ disks_of bytes
ReadSoFar-value {bytes} s e = s.listed ∙ ap (map (disk_of (has_sides bytes))) (sym (rows (header_row file.Disks (has_sides bytes)) bytes s.done (rw (e, append-nil) at s.records)))

pub ReadSoFar-few : {bytes : List ℕ} {left : List Row} {names : List (List ℕ)} {disks : List Disk} → ReadSoFar bytes left names disks → length disks ≤ MAX_DISKS
ReadSoFar-few s = rw (s.listed, length-map) s.few

pub ReadSoFar-few_names : {bytes : List ℕ} {left : List Row} {names : List (List ℕ)} {disks : List Disk} → ReadSoFar bytes left names disks → length names ≤ MAX_DISKS
ReadSoFar-few_names s = rw (s.named, length-map) s.few
