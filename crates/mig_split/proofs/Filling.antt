-- Nodes that are filled with the ends of copies, one copy after the other.
use Rattle.mig_split.proofs.Common.{All, AreCopyCounts, AreFilled, Bool, CopyId, IsFilledBy, IsFilling, Last, List, [], ap, arith, cases_eq, cases_lt}
use Rattle.mig_split.proofs.Common.{cond, copy_at, count_at, count_by, count_by-le-length, count_by_more_no, count_by_more_yes, ends_in, eq-eqb, eqb}
use Rattle.mig_split.proofs.Common.{false, get_or, get_or-set_other, get_or-set_same, get_or_append_left, get_or_push, inl, inr, length}
use Rattle.mig_split.proofs.Common.{length-append, length-set, mul-le-mul_left, nat_lt, nat_tests, ne_eqb, one, refl, set, subst, sum_by, sum_by-add}
use Rattle.mig_split.proofs.Common.{sum_by-none, sum_by-same_each, sym, take, true, ℕ, ◌&&◌, ◌*◌, ◌++◌, ◌+◌, ◌<◌, ◌∙◌, ◌∷◌, ◌≡◌, ◌≢◌, ◌≤◌}

-- ---- the ends of each copy

count_at_same : (stops : List CopyId) (i k : ℕ) → i < length stops → copy_at stops i ≡ k → count_at k (take (i + 1) stops) ≡ count_at k (take i stops) + 1
count_at_same stops i k h e = count_by_more_yes (λ (c : CopyId). eqb c.0 k) stops i (record { 0 = 0 }) h (eq-eqb _ _ e)

count_at_other : (stops : List CopyId) (i k : ℕ) → i < length stops → k ≢ copy_at stops i → count_at k (take (i + 1) stops) ≡ count_at k (take i stops)
count_at_other stops i k h e = count_by_more_no (λ (c : CopyId). eqb c.0 k) stops i (record { 0 = 0 }) h (ne_eqb _ _ (λ x. e (sym x)))

pub AreCopyCounts-more : (copies : ℕ) (stops : List CopyId) (counts : List ℕ) (i n : ℕ) → i < length stops → copy_at stops i < copies → n ≡ get_or counts (copy_at stops i) 0 + 1 → AreCopyCounts copies (take i stops) counts → AreCopyCounts copies (take (i + 1) stops) (set counts (copy_at stops i) n)
AreCopyCounts-more copies stops counts i n h there is_n a =
    record {
      len = length-set counts (copy_at stops i) n ∙ a.len;
      counted = λ k hk. elim (cases_eq k (copy_at stops i)) [
        | inl e ↦ subst (λ m. get_or (set counts (copy_at stops i) n) m 0 ≡ count_at m (take (i + 1) stops)) (sym e)
            (get_or-set_same counts (copy_at stops i) n 0 (omega (arith, there, a.len)) ∙ is_n ∙ omega (arith, a.counted (copy_at stops i) there, count_at_same stops i (copy_at stops i) h refl))
        | inr ne ↦ get_or-set_other counts (copy_at stops i) k n 0 ne ∙ a.counted k hk ∙ sym (count_at_other stops i k h ne)
      ];
    }

pub AreCopyCounts-few : (copies : ℕ) (stops : List CopyId) (counts : List ℕ) (i k : ℕ) → k < copies → AreCopyCounts copies (take i stops) counts → get_or counts k 0 ≤ length (take i stops)
AreCopyCounts-few copies stops counts i k h a = omega (arith, a.counted k h, count_by-le-length (λ (c : CopyId). eqb c.0 k) (take i stops))

-- ---- one more copy

-- an end of the copy k is at its node x, and the ends of the copies below k stay where they are
more_old : (a c k x j : ℕ) → c < k → one (nat_lt c (k + 1) && eqb a j) ≡ one (nat_lt c k && eqb a j) + cond (eqb x j) (one (eqb c k)) 0
more_old a c k x j h = grind (arith, nat_tests)

more_new : (a c k x j : ℕ) → c ≡ k → one (nat_lt c (k + 1) && eqb x j) ≡ one (nat_lt c k && eqb a j) + cond (eqb x j) (one (eqb c k)) 0
more_new a c k x j h = grind (arith, nat_tests)

more_above : (a b c k x j : ℕ) → k < c → one (nat_lt c (k + 1) && eqb b j) ≡ one (nat_lt c k && eqb a j) + cond (eqb x j) (one (eqb c k)) 0
more_above a b c k x j h = grind (arith, nat_tests)

more_at : (nodes : List CopyId) (k x j c : ℕ) → length nodes ≡ k → one (nat_lt c (k + 1) && eqb (copy_at (nodes ++ record { 0 = x } ∷ []) c) j) ≡ one (nat_lt c k && eqb (copy_at nodes c) j) + cond (eqb x j) (one (eqb c k)) 0
more_at nodes k x j c len = elim (cases_lt c k) [
  | inl l ↦ ap (λ n. one (nat_lt c (k + 1) && eqb n j)) (ap (λ (y : CopyId). y.0) (get_or_append_left nodes (record { 0 = x } ∷ []) (record { 0 = 0 }) c (omega (arith, l, len)))) ∙ more_old (copy_at nodes c) c k x j l
  | inr l ↦ elim (cases_eq c k) [
    | inl e ↦ ap (λ n. one (nat_lt c (k + 1) && eqb n j)) (ap (λ (y : CopyId). y.0) (get_or_push nodes (record { 0 = x }) (record { 0 = 0 }) c (omega (arith, e, len)))) ∙ more_new (copy_at nodes c) c k x j e
    | inr ne ↦ more_above (copy_at nodes c) (copy_at (nodes ++ record { 0 = x } ∷ []) c) c k x j (omega (arith, l, ne))
  ]
]

held : (b : Bool) (k : ℕ) (stops : List CopyId) → sum_by (λ c. cond b (one (eqb c.0 k)) 0) stops ≡ cond b (count_at k stops) 0
held true k stops = refl
held false k stops = sum_by-none stops

ends_in_more : (stops nodes : List CopyId) (k x j : ℕ) → length nodes ≡ k → ends_in (k + 1) (nodes ++ record { 0 = x } ∷ []) stops j ≡ ends_in k nodes stops j + cond (eqb x j) (count_at k stops) 0
ends_in_more stops nodes k x j len =
    let old : CopyId → ℕ = λ c. one (nat_lt c.0 k && eqb (copy_at nodes c.0) j) in
    let more : CopyId → ℕ = λ c. cond (eqb x j) (one (eqb c.0 k)) 0 in
    sum_by-same_each (λ c. one (nat_lt c.0 (k + 1) && eqb (copy_at (nodes ++ record { 0 = x } ∷ []) c.0) j)) (λ c. old c + more c) stops (λ i d h. more_at nodes k x j (get_or stops i d).0 len) ∙
    sum_by-add old more stops ∙ ap (λ n. sum_by old stops + n) (held (eqb x j) k stops)

one_below : (c k : ℕ) → one (nat_lt c (k + 1)) ≡ one (nat_lt c k) + one (eqb c k)
one_below c k = grind (arith, nat_tests)

below_more : (stops : List CopyId) (k : ℕ) → count_by (λ c. nat_lt c.0 (k + 1)) stops ≡ count_by (λ c. nat_lt c.0 k) stops + count_at k stops
below_more stops k =
    sum_by-same_each (λ (c : CopyId). one (nat_lt c.0 (k + 1))) (λ (c : CopyId). one (nat_lt c.0 k) + one (eqb c.0 k)) stops (λ i d h. one_below (get_or stops i d).0 k) ∙
    sum_by-add (λ (c : CopyId). one (nat_lt c.0 k)) (λ (c : CopyId). one (eqb c.0 k)) stops

-- ---- the nodes so far

none_below : (c : ℕ) (b : Bool) → one (nat_lt c 0 && b) ≡ 0
none_below c b = grind (arith, nat_tests)

none_in : (stops : List CopyId) (j : ℕ) → ends_in 0 [] stops j ≡ 0
none_in stops j = sum_by-same_each (λ c. one (nat_lt c.0 0 && eqb (copy_at [] c.0) j)) (λ c. 0) stops (λ i d h. none_below (get_or stops i d).0 (eqb (copy_at [] (get_or stops i d).0) j)) ∙ sum_by-none stops

pub IsFilling-start : (q : ℕ) (stops : List CopyId) → IsFilling q 0 stops [] (record { node = 0; ends = 0 })
IsFilling-start q stops =
    record {
      len = refl;
      there = λ i h. absurd (omega arith);
      most = λ j. omega (arith, none_in stops j);
      ends = none_in stops 0;
      later = λ j h. none_in stops j;
      room = omega arith;
    }

-- the last node never has more than q ends
pub filling_most : (q k : ℕ) (stops nodes : List CopyId) (last : Last) → IsFilling q k stops nodes last → last.ends ≤ q
filling_most q k stops nodes last f = omega (arith, f.ends, f.most last.node)

-- how the last node changes by a copy
record Grows (q k count : ℕ) (stops nodes : List CopyId) (last new : Last) : Type 0 where
  on : last.node ≤ new.node
  most : new.ends ≤ q
  here : ends_in k nodes stops new.node + count ≡ new.ends
  room : new.node * q + new.ends ≤ last.node * q + last.ends + 2 * count

grows : (q k count : ℕ) (stops nodes : List CopyId) (last new : Last) → count ≤ q → IsFilledBy q last count new → IsFilling q k stops nodes last → Grows q k count stops nodes last new
grows q k count stops nodes last new most by f = elim (cases_lt q (last.ends + count)) [
  | inl l ↦ (let x = by.next l in
      record {
        on = omega (arith, x.0);
        most = omega (arith, x.1, most);
        here = omega (arith, x.1, f.later new.node (omega (arith, x.0)));
        room = omega (arith, x.1, l, ap (λ n. n * q) x.0);
      })
  | inr l ↦ (let x = by.same l in
      record {
        on = omega (arith, x.0);
        most = omega (arith, x.1, l);
        here = omega (arith, x.1, f.ends, ap (ends_in k nodes stops) x.0);
        room = omega (arith, x.1, ap (λ n. n * q) x.0);
      })
]

pub IsFilling-more : (q k count : ℕ) (stops nodes : List CopyId) (last new : Last) → count ≡ count_at k stops → count ≤ q → IsFilledBy q last count new → IsFilling q k stops nodes last → IsFilling q (k + 1) stops (nodes ++ record { 0 = new.node } ∷ []) new
IsFilling-more q k count stops nodes last new is_count most by f =
    let g = grows q k count stops nodes last new most by f in
    let all = nodes ++ record { 0 = new.node } ∷ [] in
    let here : ends_in (k + 1) all stops new.node ≡ new.ends =
    ends_in_more stops nodes k new.node new.node f.len ∙ omega (arith, ap (λ b. cond b (count_at k stops) 0) (eq-eqb new.node new.node refl), is_count, g.here) in
    let other : (j : ℕ) → new.node ≢ j → ends_in (k + 1) all stops j ≡ ends_in k nodes stops j =
    λ j ne. ends_in_more stops nodes k new.node j f.len ∙ omega (arith, ap (λ b. cond b (count_at k stops) 0) (ne_eqb new.node j ne)) in
    record {
      len = length-append nodes (record { 0 = new.node } ∷ []) ∙ omega (arith, f.len);
      there = λ i h. elim (cases_lt i k) [
        | inl l ↦ omega (arith, ap (λ (y : CopyId). y.0) (get_or_append_left nodes (record { 0 = new.node } ∷ []) (record { 0 = 0 }) i (omega (arith, l, f.len))), f.there i l, g.on)
        | inr l ↦ omega (arith, ap (λ (y : CopyId). y.0) (get_or_push nodes (record { 0 = new.node }) (record { 0 = 0 }) i (omega (arith, l, h, f.len))))
      ];
      most = λ j. elim (cases_eq new.node j) [
        | inl e ↦ subst (λ m. ends_in (k + 1) all stops m ≤ q) e (omega (arith, here, g.most))
        | inr ne ↦ omega (arith, other j ne, f.most j)
      ];
      ends = here;
      later = λ j h. other j (λ e. absurd (omega (arith, e, h))) ∙ f.later j (omega (arith, g.on, h));
      room = omega (arith, below_more stops k, is_count, f.room, g.room);
    }

-- a node's number is small, since nodes have many ends
pub filling_small : (q k : ℕ) (stops nodes : List CopyId) (last : Last) → 1 ≤ q → IsFilling q k stops nodes last → last.node ≤ 2 * length stops
filling_small q k stops nodes last some f =
    omega (arith, mul-le-mul_left last.node some, f.room, count_by-le-length (λ (c : CopyId). nat_lt c.0 k) stops)

all_below : (a c k j : ℕ) → c < k → one (eqb a j) ≡ one (nat_lt c k && eqb a j)
all_below a c k j h = grind (arith, nat_tests)

pub AreFilled-all : (q copies : ℕ) (stops nodes : List CopyId) (last : Last) → All (λ c. c.0 < copies) stops → IsFilling q copies stops nodes last → AreFilled q copies stops nodes (last.node + 1)
AreFilled-all q copies stops nodes last there f =
    record {
      len = f.len;
      there = λ k h. omega (arith, f.there k h);
      most = λ j. omega (
        arith,
        sum_by-same_each (λ c. one (eqb (copy_at nodes c.0) j)) (λ c. one (nat_lt c.0 copies && eqb (copy_at nodes c.0) j)) stops (λ i d h. all_below (copy_at nodes (get_or stops i d).0) (get_or stops i d).0 copies j (there i d h)),
        f.most j,
      );
      room = omega (arith, f.room, count_by-le-length (λ (c : CopyId). nat_lt c.0 copies) stops);
    }
