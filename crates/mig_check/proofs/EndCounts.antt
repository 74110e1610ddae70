-- Counts of the ends of a round's shifts.
use Rattle.mig_check.proofs.Common.{All, All-head, All-tail, Disk, DiskId, IsCovered, IsFoundOver, IsLeastOver, IsPartOver, KeepsPart, List, None, Part, Shift, Some, Transfer, [], add-one, ap, arith}
use Rattle.mig_check.proofs.Common.{cases_eq, cases_lt, cond, drop, drop-cons, drop_all, get_or, get_or-set_other, get_or-set_same, get_or_default, inl, inr, length, length-set, load, map}
use Rattle.mig_check.proofs.Common.{ne_eqb, part_load, set, subst, suc, sum_by-cons, sym, touches, transfer_of, zero-add, ℕ, ◌+◌, ◌<◌, ◌∙◌, ◌∷◌, ◌≡◌, ◌≤◌}
use Rattle.mig_check.proofs.PartLimits.{part_in_load}

load_cons : (v : ℕ) (s : Shift) (ss : List Shift) → load v (map transfer_of (s ∷ ss)) ≡ cond (touches v (transfer_of s)) 1 0 + load v (map transfer_of ss)
load_cons v s ss = sum_by-cons (λ (t : Transfer). cond (touches v t) 1 0) (transfer_of s) (map transfer_of ss)

load_other : (v : ℕ) (s : Shift) (ss : List Shift) → (v ≡ s.from.disk.0 → ⊥) → (v ≡ s.to.disk.0 → ⊥) → load v (map transfer_of (s ∷ ss)) ≡ load v (map transfer_of ss)
load_other v s ss from to = load_cons v s ss ∙ rw (ne_eqb v s.from.disk.0 from, ne_eqb v s.to.disk.0 to) (zero-add (load v (map transfer_of ss)))

-- a disk that some shift has as an end is one of the ends
pub touched : (P : ℕ → Type 0) (v : ℕ) (round : List Shift) → All (λ s. P s.from.disk.0 × P s.to.disk.0) round → 0 < load v (map transfer_of round) → P v
touched P v [] each some = absurd (omega (arith, some))
touched P v (s ∷ ss) each some =
    let ends = All-head (λ (t : Shift). P t.from.disk.0 × P t.to.disk.0) s ss each in
    elim (cases_eq v s.from.disk.0) [
      | inl from ↦ subst P (sym from) ends.0
      | inr from ↦ elim (cases_eq v s.to.disk.0) [
        | inl to ↦ subst P (sym to) ends.1
        | inr to ↦ touched P v ss (All-tail (λ (t : Shift). P t.from.disk.0 × P t.to.disk.0) s ss each) (omega (arith, load_other v s ss from to, some))
      ]
    ]

-- Clearing, shift by shift

pub cleared : (counts : List ℕ) (round : List Shift) (i : ℕ) (d : Shift) → i < length round → ((v : ℕ) → v < length counts → get_or counts v 0 ≤ load v (map transfer_of (drop i round)))
    → (v : ℕ) → v < length (set (set counts (get_or round i d).from.disk.0 0) (get_or round i d).to.disk.0 0) → get_or (set (set counts (get_or round i d).from.disk.0 0) (get_or round i d).to.disk.0 0) v 0 ≤ load v (map transfer_of (drop (i + 1) round))
cleared counts round i d within each v there = elim (cases_eq v s.to.disk.0) [
  | inl to ↦ omega (arith, at_to to)
  | inr to ↦ elim (cases_eq v s.from.disk.0) [
    | inl from ↦ omega (arith, get_or-set_other (set counts s.from.disk.0 0) s.to.disk.0 v 0 0 to, at_from from)
    | inr from ↦ omega (arith, get_or-set_other (set counts s.from.disk.0 0) s.to.disk.0 v 0 0 to, get_or-set_other counts s.from.disk.0 v 0 0 from, each v there_first, later from to)
  ]
]
  where
    s : Shift
    s = get_or round i d

    there_first : v < length counts
    there_first = omega (arith, length-set (set counts s.from.disk.0 0) s.to.disk.0 0, length-set counts s.from.disk.0 0, there)

    at_to : v ≡ s.to.disk.0 → get_or (set (set counts s.from.disk.0 0) s.to.disk.0 0) v 0 ≡ 0
    at_to e = rw e (get_or-set_same (set counts s.from.disk.0 0) s.to.disk.0 0 0 (omega (arith, length-set (set counts s.from.disk.0 0) s.to.disk.0 0, there, e)))

    at_from : v ≡ s.from.disk.0 → get_or (set counts s.from.disk.0 0) v 0 ≡ 0
    at_from e = rw e (get_or-set_same counts s.from.disk.0 0 0 (omega (arith, there_first, e)))

    later : (v ≡ s.from.disk.0 → ⊥) → (v ≡ s.to.disk.0 → ⊥) → load v (map transfer_of (drop i round)) ≡ load v (map transfer_of (drop (i + 1) round))
    later from to = rw (add-one, drop-cons round i d within) (load_other v s (drop (suc i) round) from to)

pub all_cleared : (counts : List ℕ) (round : List Shift) (i : ℕ) → length round ≤ i → ((v : ℕ) → v < length counts → get_or counts v 0 ≤ load v (map transfer_of (drop i round))) → All (λ n. n ≡ 0) counts
all_cleared counts round i past each k d there =
    let e : load k (map transfer_of (drop i round)) ≡ 0 = ap (λ (r : List Shift). load k (map transfer_of r)) (drop_all i round past) in
    omega (arith, get_or_default counts k d 0 there, each k there, e)

-- The least disk over its limit

pub All-more : {X : Type 0} (P : X → Type 0) (xs : List X) (i : ℕ) (e : X) → i < length xs → P (get_or xs i e) → ((k : ℕ) (d : X) → k < i → P (get_or xs k d)) → (k : ℕ) (d : X) → k < i + 1 → P (get_or xs k d)
All-more P xs i e within this before k d lt = elim (cases_lt k i) [
  | inl l ↦ before k d l
  | inr g ↦ (let same : k ≡ i = omega arith in subst P (get_or_default xs i e d within ∙ ap (λ (n : ℕ). get_or xs n d) (sym same)) this)
]

module _ (part : Part) (disks : List Disk) (counts : List ℕ) (round : List Shift) (len : length counts ≡ length disks) (counted : (v : ℕ) → v < length counts → get_or counts v 0 ≡ part_load part v (map transfer_of round)) where
  some_end : (v : ℕ) → 0 < part_load part v (map transfer_of round) → 0 < load v (map transfer_of round)
  some_end v some = omega (arith, some, part_in_load part v (map transfer_of round))

  pub part_kept : All (λ s. IsCovered part disks counts None s.from.disk.0 × IsCovered part disks counts None s.to.disk.0) round → KeepsPart part disks (map transfer_of round)
  part_kept covered v there = elim (cases_lt 0 (part_load part v (map transfer_of round))) [
    | inl some ↦ elim (touched (IsCovered part disks counts None) v round covered (some_end v some)) [
      | inl keeps ↦ omega (arith, keeps, counted v (omega (arith, len, there)))
      | inr h ↦ absurd h
    ]
    | inr none ↦ omega (arith, none)
  ]

  pub part_passed : (disk : DiskId) → IsFoundOver part disks counts (Some disk) → All (λ s. IsCovered part disks counts (Some disk) s.from.disk.0 × IsCovered part disks counts (Some disk) s.to.disk.0) round
      → IsLeastOver part disks round disk.0 (get_or counts disk.0 0)
  part_passed disk found covered = (found.0, (found.1, counted disk.0 (omega (arith, len, found.0))), λ v c before over. least v c before over)
    where
      least : (v c : ℕ) → v < disk.0 → IsPartOver part disks round v c → ⊥
      least v c before over = elim (touched (IsCovered part disks counts (Some disk)) v round covered (some_end v (omega (arith, over.0, over.1)))) [
        | inl keeps ↦ omega (arith, keeps, over.0, over.1, counted v (omega (arith, len, found.0, before)))
        | inr behind ↦ omega (arith, behind, before)
      ]
