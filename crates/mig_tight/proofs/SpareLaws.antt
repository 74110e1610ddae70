-- The free slots of the disks, slot by slot.
use Rattle.mig_tight.proofs.Common.{All, All-append, All-map, All-push, All-weaker, AreCounts, AreEnds, ArePlaced, Contains}
use Rattle.mig_tight.proofs.Common.{Contains-append_left, Contains-append_right, Contains-push, DiskId, HasSpares, InputLists, IsBefore, IsInput}
use Rattle.mig_tight.proofs.Common.{List, SparesBefore, Spot, [], ap, arith, cases_eq, count_by-le-length, eqb, first_slots, get_or, inl}
use Rattle.mig_tight.proofs.Common.{inr, length, length-append, length-map, map, occurrences, one, pigeons, refl, spot, spot_by}
use Rattle.mig_tight.proofs.Common.{spot_disk, subst, sum_by-append, sum_by-map, sym, ℕ, ⊎_elim, ◌++◌, ◌+◌, ◌<◌, ◌∷◌, ◌≡◌, ◌⊎◌}
use Rattle.mig_base.proofs.SlotCounts.{spot_is_of}
use Rattle.mig_tight.proofs.FirstQueues.{apart_push}

pub ends_are : (input : InputLists) (n : ℕ) (stops : List DiskId) (counts : List ℕ) → IsInput input → n ≡ length input.disks → stops ≡ map (λ (s : Spot). s.disk) input.spots ++ input.next → AreCounts n stops counts → AreEnds input counts
ends_are input n stops counts is disks list a = grind (arith, occurrences, sum_by-append, sum_by-map, count_by-le-length, length-append, length-map)

-- each disk of the list is there
pub stops_there : (input : InputLists) (n : ℕ) (stops : List DiskId) → IsInput input → n ≡ length input.disks → stops ≡ map (λ (s : Spot). s.disk) input.spots ++ input.next → All (λ (d : DiskId). d.0 < n) stops
stops_there input n stops is disks list = subst (λ (xs : List DiskId). All (λ (d : DiskId). d.0 < n) xs) (sym list) (All-append (λ (d : DiskId). d.0 < n) (map (λ (s : Spot). s.disk) input.spots) input.next
    (All-map (λ (d : DiskId). d.0 < n) (λ (s : Spot). s.disk) input.spots (λ k d h. omega (arith, spot_disk input.disks (get_or input.spots k d) (is.on_disks k d h), disks)))
    (λ k d h. omega (arith, is.next_disks k d h, disks)))

later : (d n v s : ℕ) → IsBefore d n v s → IsBefore d (n + 1) v s
later d n v s (inl lt) = inl lt
later d n v s (inr p) = inr (p.0, let lt = p.1 in omega (arith, lt))

not_before : (d n : ℕ) → IsBefore d n d n → ⊥
not_before d n (inl lt) = absurd (omega (arith, lt))
not_before d n (inr p) = let lt = p.1 in absurd (omega (arith, lt))

-- a slot before the next one is that one or comes before it
split : (d n v s : ℕ) → IsBefore d (n + 1) v s → IsBefore d n v s ⊎ ((v ≡ d) × (s ≡ n))
split d n v s (inl lt) = inl (inl lt)
split d n v s (inr p) = grind (arith, cases_eq)

module _ (input : InputLists) (d n : ℕ) (spares : List Spot) (there : d < length input.disks) (here : n < first_slots input d) (b : SparesBefore input d n spares) where
  pub spares_taken : Contains input.spots (spot d n) → SparesBefore input d (n + 1) spares
  spares_taken t = record {
    there = b.there;
    free = b.free;
    early = All-weaker (λ (spare : Spot). IsBefore d n spare.disk.0 spare.slot) (λ (spare : Spot). IsBefore d (n + 1) spare.disk.0 spare.slot) (λ spare e. later d n spare.disk.0 spare.slot e) spares b.early;
    apart = b.apart;
    full = λ v s l m e. ⊎_elim
        (λ old. b.full v s l m old)
        (λ at. inl (subst (λ (x : Spot). Contains input.spots x) (spot_by (spot d n) (spot v s) (sym at.0) (sym at.1)) t))
        (split d n v s e);
  }

  pub spares_free : (Contains input.spots (spot d n) → ⊥) → SparesBefore input d (n + 1) (spares ++ spot d n ∷ [])
  spares_free f = record {
    there = All-push (λ (spare : Spot). (spare.disk.0 < length input.disks) × (spare.slot < first_slots input spare.disk.0)) spares (spot d n) b.there (there, here);
    free = All-push (λ (spare : Spot). Contains input.spots spare → ⊥) spares (spot d n) b.free f;
    early = All-push (λ (spare : Spot). IsBefore d (n + 1) spare.disk.0 spare.slot) spares (spot d n) (All-weaker (λ (spare : Spot). IsBefore d n spare.disk.0 spare.slot) (λ (spare : Spot). IsBefore d (n + 1) spare.disk.0 spare.slot) (λ spare e. later d n spare.disk.0 spare.slot e) spares b.early) (inr (refl, omega arith));
    apart = apart_push spares (spot d n) b.apart (λ k e l same. not_before d n (subst (λ (x : Spot). IsBefore d n x.disk.0 x.slot) same (b.early k e l)));
    full = λ v s l m e. ⊎_elim
        (λ old. ⊎_elim (λ c. inl c) (λ c. inr (Contains-append_left spares (spot d n ∷ []) (spot v s) c)) (b.full v s l m old))
        (λ at. inr (subst (λ (x : Spot). Contains (spares ++ spot d n ∷ []) x) (spot_by (spot d n) (spot v s) (sym at.0) (sym at.1)) (Contains-push spares (spot d n))))
        (split d n v s e);
  }

-- after the last slot of a disk that is looked at comes the first of the next disk
pub spares_row : (input : InputLists) (d n : ℕ) (spares : List Spot) → n ≡ first_slots input d → SparesBefore input d n spares → SparesBefore input (d + 1) 0 spares
spares_row input d n spares all b = record {
  there = b.there;
  free = b.free;
  early = All-weaker (λ (spare : Spot). IsBefore d n spare.disk.0 spare.slot) (λ (spare : Spot). IsBefore (d + 1) 0 spare.disk.0 spare.slot) (λ spare e. ⊎_elim (λ lt. inl (omega (arith, lt))) (λ p. let at = p.0 in inl (omega (arith, at))) e) spares b.early;
  apart = b.apart;
  full = λ v s l m e. b.full v s l m (⊎_elim
      (λ lt. elim (cases_eq v d) [
        | inl at ↦ inr (at, omega (arith, m, all, ap (first_slots input) at))
        | inr off ↦ inl (omega (arith, lt, off))
      ])
      (λ p. let lt = p.1 in absurd (omega (arith, lt)))
      e);
}

module _ (input : InputLists) (is : IsInput input) (d : ℕ) (spares : List Spot) (all : d ≡ length input.disks) (b : SparesBefore input d 0 spares) where
  pub spares_placed : ArePlaced input input.spots spares
  spares_placed = grind (arith, spot_is_of, spares_free)

  pub spares_enough : HasSpares input input.spots spares
  spares_enough v l =
      let f : Spot → ℕ = λ s. one (eqb s.disk.0 v) in
      omega (
        arith,
        sum_by-append f input.spots spares,
        pigeons v (first_slots input v) (input.spots ++ spares) (λ s m. ⊎_elim
            (λ c. Contains-append_left input.spots spares (spot v s) c)
            (λ c. Contains-append_right input.spots spares (spot v s) c)
            (b.full v s l m (inl (omega (arith, l, all))))),
      )
