-- From nodes on each side to the nodes of edges.
use Rattle.mig_split.proofs.Common.{All, AreCopyPairs, AreFilled, AreNodes, AreNodesOf, AreOnSides, Bool, CopyId, IsShared, List, ap, arith, cases_lt, cond, copy_at, count_at, count_by, count_same}
use Rattle.mig_split.proofs.Common.{ends_at, eqb, false, first_copy, get_or, get_or_default, inl, inr, is_end, length, mul-le-mul_left, nat_lt, nat_tests, one, second_of, subst, suc}
use Rattle.mig_split.proofs.Common.{sum_by-le_each, sym, true, zero, ℕ, ◌*◌, ◌+◌, ◌-◌, ◌<◌, ◌||◌, ◌∙◌, ◌≡◌, ◌≤◌}
use Rattle.mig_split.proofs.Halves.{ends_most, firsts_are, firsts_none, seconds_are, seconds_none}

-- ---- one side

pub IsShared-all : (q copies : ℕ) (stops nodes : List CopyId) (number : ℕ) (new : List CopyId) → All (λ c. c.0 < copies) stops → AreFilled q copies stops nodes number → AreNodesOf nodes stops new → IsShared q stops number new
IsShared-all q copies stops nodes number new there f n =
    record {
      one_each = n.len;
      node = copy_at nodes;
      is = n.node;
      there = λ i h. omega (arith, n.node i h, f.there (copy_at stops i) (there i (record { 0 = 0 }) h));
      most = λ j. omega (
        arith,
        count_same (λ (c : CopyId). eqb c.0 j) (λ (c : CopyId). eqb (copy_at nodes c.0) j) (record { 0 = 0 }) (record { 0 = 0 }) new stops n.len (λ i h. ap (λ m. eqb m j) (n.node i (omega (arith, h, n.len)))),
        f.most j,
      );
      room = f.room;
    }

-- there are few nodes, since nodes have many ends
pub few_nodes : (n q m : ℕ) → 1 ≤ q → n * q ≤ 2 * m + q → n ≤ 2 * m + 1
few_nodes zero q m some h = omega arith
few_nodes (suc n) q m some h = omega (arith, h, mul-le-mul_left n some)

-- ---- the copies of each side

left_or : (a b : Bool) → one a ≤ one (a || b)
left_or a b = grind (arith, nat_tests)

right_or : (a b : Bool) → one b ≤ one (a || b)
right_or a b = grind (arith, nat_tests)

first_ends : (k : CopyId) (ends : List (CopyId × CopyId)) → count_by (λ p. eqb p.0.0 k.0) ends ≤ ends_at k ends
first_ends k ends = sum_by-le_each (λ (p : CopyId × CopyId). one (eqb p.0.0 k.0)) (λ p. one (is_end k p)) ends (λ i d h. left_or (eqb (get_or ends i d).0.0 k.0) (eqb (get_or ends i d).1.0 k.0))

second_ends : (k : CopyId) (ends : List (CopyId × CopyId)) → count_by (λ p. eqb p.1.0 k.0) ends ≤ ends_at k ends
second_ends k ends = sum_by-le_each (λ (p : CopyId × CopyId). one (eqb p.1.0 k.0)) (λ p. one (is_end k p)) ends (λ i d h. right_or (eqb (get_or ends i d).0.0 k.0) (eqb (get_or ends i d).1.0 k.0))

-- the copies at which edges end, by their sides
pub record AreParted (q left copies : ℕ) (firsts seconds : List CopyId) : Type 0 where
  pub firsts_there : All (λ c. c.0 < left) firsts
  pub seconds_there : All (λ c. c.0 < copies - left) seconds
  pub firsts_most : (k : ℕ) → k < left → count_at k firsts ≤ q
  pub seconds_most : (k : ℕ) → k < copies - left → count_at k seconds ≤ q

pub AreParted-all : (q left copies : ℕ) (ends : List (CopyId × CopyId)) (firsts seconds : List CopyId) → left ≤ copies → AreOnSides left copies ends → ((k : CopyId) → k.0 < copies → ends_at k ends ≤ q) → length firsts ≡ length seconds → AreCopyPairs firsts seconds left ends → AreParted q left copies firsts seconds
AreParted-all q left copies ends firsts seconds low sides most same p =
    record {
      firsts_there = λ e d h. subst (λ (c : CopyId). c.0 < left) (get_or_default firsts e (record { 0 = 0 }) d h) (omega (arith, p.first e h, (sides e (omega (arith, h, p.len))).0));
      seconds_there = λ e d h. subst (λ (c : CopyId). c.0 < copies - left) (get_or_default seconds e (record { 0 = 0 }) d h) (omega (arith, p.second e (omega (arith, h, same)), (sides e (omega (arith, h, same, p.len))).2));
      firsts_most = λ k h. (let c : CopyId = record { 0 = k } in omega (arith, firsts_are c firsts seconds left ends p, first_ends c ends, most c (omega (arith, h, low))));
      seconds_most = λ k h.
          (let c : CopyId = record { 0 = left + k } in
          omega (arith, seconds_are c firsts seconds left ends same (omega arith) p, ap (λ n. count_at n seconds) (back left k), second_ends c ends, most c (omega (arith, h))));
    }
  where
    back : (a k : ℕ) → (a + k) - a ≡ k
    back a k = omega arith

-- ---- both sides

-- the node of a copy, by its side
node_by : ℕ → ℕ → (ℕ → ℕ) → (ℕ → ℕ) → ℕ → ℕ
node_by left from first second k = cond (nat_lt k left) (first k) (from + second (k - left))

node_left : (left from : ℕ) (first second : ℕ → ℕ) (k : ℕ) → k < left → node_by left from first second k ≡ first k
unfolding node_by
node_left left from first second k h = ap (λ b. cond b (first k) (from + second (k - left))) (is_less k left h)
  where
    is_less : (a b : ℕ) → a < b → nat_lt a b ≡ true
    is_less a b h = grind (arith, nat_tests)

node_right : (left from : ℕ) (first second : ℕ → ℕ) (k c : ℕ) → k ≡ left + c → node_by left from first second k ≡ from + second c
unfolding node_by
node_right left from first second k c e = ap (λ b. cond b (first k) (from + second (k - left))) (not_less k left c e) ∙ ap (λ n. from + second n) (omega (arith, e))
  where
    not_less : (a b c : ℕ) → a ≡ b + c → nat_lt a b ≡ false
    not_less a b c h = grind (arith, nat_tests)

pub AreNodes-all : (q left copies : ℕ) (ends : List (CopyId × CopyId)) (firsts seconds : List CopyId) (n m : ℕ) (outs ins : List CopyId) (new : List (CopyId × CopyId)) → AreOnSides left copies ends → length firsts ≡ length seconds → AreCopyPairs firsts seconds left ends → IsShared q firsts n outs → IsShared q seconds m ins → AreCopyPairs outs ins n new → AreNodes q ends n (n + m) new
AreNodes-all q left copies ends firsts seconds n m outs ins new sides same p o i r =
    let at : (e : ℕ) → e < length ends → (e < length firsts) × (e < length seconds) × (e < length outs) = λ e h. (omega (arith, h, p.len), omega (arith, h, p.len, same), omega (arith, h, p.len, o.one_each)) in
    let long : length new ≡ length ends = r.len ∙ o.one_each ∙ sym p.len in
    let level : length outs ≡ length ins = o.one_each ∙ same ∙ sym i.one_each in
    record {
      node = node_by left n o.node i.node;
      through = record {
        one_each = long;
        first = λ e h. r.first e (at e h).2 ∙ o.is e (at e h).0 ∙ ap o.node (sym (p.first e (at e h).0)) ∙ sym (node_left left n o.node i.node (first_copy ends e) (sides e h).0);
        second = λ e h. r.second e (at e h).2 ∙ ap (λ k. n + k) (i.is e (at e h).1) ∙ sym (node_right left n o.node i.node (second_of ends e) (copy_at seconds e) (p.second e (at e h).0));
      };
      there = λ e h.
          (let l : e < length ends = omega (arith, h, long) in
          (omega (arith, r.first e (at e l).2, o.there e (at e l).0), omega (arith, r.second e (at e l).2), omega (arith, r.second e (at e l).2, i.there e (at e l).1)));
      most = λ k h. elim (cases_lt k.0 n) [
        | inl l ↦ omega (arith, ends_most k new, firsts_are k outs ins n new r, seconds_none k outs ins n new l r, o.most k.0)
        | inr l ↦ omega (arith, ends_most k new, seconds_are k outs ins n new level l r, firsts_none k outs ins n new (λ j hj. omega (arith, l, o.there j (omega (arith, hj, o.one_each)))) r, i.most (k.0 - n))
      ];
      room = omega (arith, o.room, i.room, p.len, same);
    }
