-- Where a file is too long, that is the first thing that is wrong with it.
use Rattle.mig_csv.proofs.Common.{Fault, FileKind, List, ListingFault, Precedes, Why, arith, cases_lt, inl, inr, rank_of, refl, stage_of, ℕ, ◌<◌, ◌≡◌}
use Rattle.mig_csv.proofs.Common.{◌≤◌}
use Rattle.mig_base.specs.Refusals.{IsFirstOf}
use Rattle.mig_base.specs.declared.faults.FileKind.TheVariants.{Disks, Next, Now}
use Rattle.mig_base.specs.declared.faults.Why.TheVariants as why

-- a fault of the disks file says nothing of the other two
pub disks_alone : (d n x m y : List ℕ) (f : FileKind) (r : ℕ) (w : Why) → stage_of f w < 1 → Fault (record { disks = d; now = n; next = x }) f r w → Fault (record { disks = d; now = m; next = y }) f r w
disks_alone d n x m y f r why.NotInNext s h = absurd (omega arith)
disks_alone d n x m y f r (why.NoRoom a b c) s h = absurd (omega arith)
disks_alone d n x m y Disks r _ s h = h
disks_alone d n x m y Now r _ s h = absurd (omega arith)
disks_alone d n x m y Next r _ s h = absurd (omega arith)

-- a fault of these two says nothing of the next file
pub next_apart : (d n x y : List ℕ) (f : FileKind) (r : ℕ) (w : Why) → stage_of f w < 2 → Fault (record { disks = d; now = n; next = x }) f r w → Fault (record { disks = d; now = n; next = y }) f r w
next_apart d n x y f r why.NotInNext s h = absurd (omega arith)
next_apart d n x y f r (why.NoRoom a b c) s h = absurd (omega arith)
next_apart d n x y Disks r _ s h = h
next_apart d n x y Now r _ s h = h
next_apart d n x y Next r _ s h = absurd (omega arith)

-- only a file that is too long has the first rank
rank_zero : (w : Why) → rank_of w ≡ 0 → w ≡ why.TooLong
rank_zero why.TooLong e = refl
rank_zero (why.NoRoom a b c) e = absurd (omega (arith, e))
rank_zero _ e = absurd (omega (arith, e))

same_file : (f g : FileKind) → stage_of f why.TooLong ≡ stage_of g why.TooLong → f ≡ g
same_file Disks Disks e = refl
same_file Now Now e = refl
same_file Next Next e = refl
same_file _ _ e = absurd (omega (arith, e))

-- Two sets of faults, each with a file that is too long: what is first in the one is first in the other, where they agree before that file.

module _ (a b : FileKind → ℕ → Why → Type 0) (g : FileKind)
    (to : (k : FileKind) (m : ℕ) (v : Why) → stage_of k v < stage_of g why.TooLong → a k m v → b k m v)
    (back : (k : FileKind) (m : ℕ) (v : Why) → stage_of k v < stage_of g why.TooLong → b k m v → a k m v)
    (long_a : a g 0 why.TooLong) (long_b : b g 0 why.TooLong) where
  no_later : (k f : FileKind) (m r : ℕ) (v w : Why) → Precedes k m v f r w → stage_of k v ≤ stage_of f w
  no_later k f m r v w (inl lt) = omega (arith, lt)
  no_later k f m r v w (inr same) = omega (arith, same.0)

  none_before : (k : FileKind) (m : ℕ) (v : Why) → Precedes k m v g 0 why.TooLong → stage_of k v < stage_of g why.TooLong
  none_before k m v (inl lt) = lt
  none_before k m v (inr (same, inl lt)) = absurd (omega (arith, lt))
  none_before k m v (inr (same, inr (at, lt))) = absurd (omega (arith, lt))

  long_refused : IsFirstOf a g 0 why.TooLong → IsFirstOf b g 0 why.TooLong
  long_refused h = grind (arith, none_before)

  is_long : (f : FileKind) (r : ℕ) (w : Why) → stage_of g why.TooLong ≤ stage_of f w → IsFirstOf a f r w → (f ≡ g) × (r ≡ 0) × (w ≡ why.TooLong)
  is_long f r w le h = grind (arith, rank_zero, same_file, cases_lt)

  pub carried_first : (f : FileKind) (r : ℕ) (w : Why) → IsFirstOf a f r w → IsFirstOf b f r w
  carried_first f r w h = grind (arith, cases_lt, no_later, is_long, long_refused)

-- a fault in the now file comes after those in the disks file
pub now_stage : (w : Why) → 1 ≤ stage_of Now w
now_stage why.NotInNext = omega arith
now_stage (why.NoRoom a b c) = omega arith
now_stage _ = omega arith

pub disks_apart : (d n m : List ℕ) (f : FileKind) (r : ℕ) (w : Why) → stage_of f w < 1 → ListingFault d n f r w → ListingFault d m f r w
disks_apart d n m Disks r w s h = h
disks_apart d n m Now r w s h = absurd (omega (arith, s, now_stage w))
disks_apart d n m Next r w s h = absurd h
