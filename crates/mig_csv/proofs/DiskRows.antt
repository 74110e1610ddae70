use Rattle.mig_csv.proofs.Common.{AreInRange, AreNumbersOf, Bool, Contains, DisksRowFault, HasNumbers, IsDiskInRange, IsName, List, MAX_DISKS}
use Rattle.mig_csv.proofs.Common.{MatchOption, None, Numbers, Option, Row, Some, Why, [], arith, disk_of, disk_width, false, false≢true, first}
use Rattle.mig_csv.proofs.Common.{get_or_from_slice_get, is_some, length, rank_of, refl, slice_get, slice_get_within, suc, sym, true, zero, ℕ, ◌<◌}
use Rattle.mig_csv.proofs.Common.{◌↔◌, ◌∷◌, ◌≡◌}
use Rattle.csv.specs.Records.{field_at}
use Rattle.mig_base.specs.declared.faults.Why.TheVariants as why

-- no cause before the place n in the order of causes holds of a row of the disks file
pub none_before : (sides : Bool) (names : List (List ℕ)) (r : Row) (n : ℕ)
    → (2 < n → length names < MAX_DISKS) → (3 < n → length r ≡ disk_width sides) → (4 < n → IsName (first r)) → (5 < n → HasNumbers sides r)
    → (6 < n → IsDiskInRange (disk_of sides r)) → (7 < n → ¬ (Contains names (first r)))
    → (w : Why) → rank_of w < n → ¬ (DisksRowFault sides names r w)
none_before sides names r n few width name numbers range new why.TooManyRows lt h = let f = few lt in omega arith
none_before sides names r n few width name numbers range new why.BadWidth lt h = h (width lt)
none_before sides names r n few width name numbers range new why.BadName lt h = h (name lt)
none_before sides names r n few width name numbers range new why.BadNumber lt h = h (numbers lt)
none_before sides names r n few width name numbers range new why.OutOfRange lt h = h (range lt)
none_before sides names r n few width name numbers range new why.DuplicateDisk lt h = new lt h
none_before sides names r n few width name numbers range new _ lt h = h

-- the two words for the field at a place
pub field_at-slice_get : (fs : List (List ℕ)) (i : ℕ) → field_at fs i ≡ slice_get fs i
unfolding field_at
field_at-slice_get [] i = refl
field_at-slice_get (f ∷ fs) zero = refl
field_at-slice_get (f ∷ fs) (suc i) = field_at-slice_get fs i

-- a name that was found is among the names
pub Contains-found : (names : List (List ℕ)) (n : List ℕ) (o : Option ℕ) → MatchOption o (¬ (Contains names n)) (λ k. slice_get names k ≡ Some n) → is_some o ≡ true → Contains names n
Contains-found names n None m e = absurd (false≢true e)
Contains-found names n (Some k) m e = (k, slice_get_within names k n m, get_or_from_slice_get names k n n m)

-- a name that was not found is not among the names
pub not_found : (names : List (List ℕ)) (n : List ℕ) (o : Option ℕ) → MatchOption o (¬ (Contains names n)) (λ k. slice_get names k ≡ Some n) → is_some o ≡ false → ¬ (Contains names n)
not_found names n None m e = m
not_found names n (Some k) m e = absurd (false≢true (sym e))

-- numbers are in range exactly where the row's disk is
pub range_of : (sides : Bool) (r : Row) (n : Numbers) → AreNumbersOf sides r n → AreInRange n ↔ IsDiskInRange (disk_of sides r)
range_of false r n a = grind arith
range_of true r n a = grind arith
