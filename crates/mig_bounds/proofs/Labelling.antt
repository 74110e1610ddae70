-- Labels after one more move.
use Rattle.mig_bounds.proofs.Common.{IsClosed, IsGraph, IsLabelling, List, Relabels, Some, Transfers, Transfer, ap, arith, cases_eq, cases_lt, cond, eq-eqb, eqb, get_or, get_or_from_slice_get, has}
use Rattle.mig_bounds.proofs.Common.{inl, inr, length, ne_eqb, slice_get, slice_get_within, subst, sym, ℕ, ◌+◌, ◌<◌, ◌∙◌, ◌≡◌, ◌≢◌}
use Rattle.mig_bounds.proofs.PairTables.{leaves_below, reaches_below}

-- a disk has another label where it had this one
pub changed : (from to v : ℕ) (old new : List ℕ) → Relabels from to old new → v < length old → get_or old v 0 ≡ from → get_or new v 0 ≡ to
changed from to v old new r h e = r v h ∙ ap {B = ℕ} (λ b. cond b to (get_or old v 0)) (eq-eqb (get_or old v 0) from e)

-- and keeps its label otherwise
pub kept : (from to v : ℕ) (old new : List ℕ) → Relabels from to old new → v < length old → get_or old v 0 ≢ from → get_or new v 0 ≡ get_or old v 0
kept from to v old new r h ne = r v h ∙ ap {B = ℕ} (λ b. cond b to (get_or old v 0)) (ne_eqb (get_or old v 0) from ne)

-- equal labels stay equal
pub same_labels : (from to v w : ℕ) (old new : List ℕ) → Relabels from to old new → v < length old → w < length old → get_or old v 0 ≡ get_or old w 0 → get_or new v 0 ≡ get_or new w 0
same_labels from to v w old new r hv hw e = r v hv ∙ ap (λ l. cond (eqb l from) to l) e ∙ sym (r w hw)

-- a closed set has both ends of a move, or neither
pub has_both : (graph : Transfers) (part : List ℕ) (k : ℕ) (t : Transfer) → IsClosed graph part → slice_get graph.transfers k ≡ Some t → has part t.leaves ≡ has part t.reaches
has_both graph part k t closed at = subst (λ (x : Transfer). has part x.leaves ≡ has part x.reaches) (get_or_from_slice_get graph.transfers k t t at) (closed k t (slice_get_within graph.transfers k t at))

-- one more move whose ends share a label
shared_more : (graph : Transfers) (labels : List ℕ) (k : ℕ) (t : Transfer) → slice_get graph.transfers k ≡ Some t → get_or labels t.leaves 0 ≡ get_or labels t.reaches 0
    → ((j : ℕ) (s : Transfer) → j < k → slice_get graph.transfers j ≡ Some s → get_or labels s.leaves 0 ≡ get_or labels s.reaches 0)
    → (j : ℕ) (s : Transfer) → j < k + 1 → slice_get graph.transfers j ≡ Some s → get_or labels s.leaves 0 ≡ get_or labels s.reaches 0
shared_more graph labels k t at same before j s h at_j = elim (cases_lt j k) [
  | inl lt ↦ before j s lt at_j
  | inr ge ↦ (let is : j ≡ k = omega (arith, ge, h) in
      let e : s ≡ t = sym (get_or_from_slice_get graph.transfers j s s at_j) ∙ get_or_from_slice_get graph.transfers j t s (ap (slice_get graph.transfers) is ∙ at) in
      subst (λ (x : Transfer). get_or labels x.leaves 0 ≡ get_or labels x.reaches 0) (sym e) same)
]

pub IsLabelling-same : (graph : Transfers) (labels : List ℕ) (k : ℕ) (t : Transfer) → slice_get graph.transfers k ≡ Some t → get_or labels t.leaves 0 ≡ get_or labels t.reaches 0 → IsLabelling graph labels k → IsLabelling graph labels (k + 1)
IsLabelling-same graph labels k t at same is = record {
  len = is.len;
  least = is.least;
  root = is.root;
  alike = is.alike;
  shared = shared_more graph labels k t at same is.shared;
}

-- two labels of the ends of a move become the lesser one
pub IsLabelling-joined : (graph : Transfers) (old new : List ℕ) (k from to a b : ℕ) → length new ≡ length old → IsGraph graph → a < length old → b < length old → to < from → get_or old a 0 ≡ from → get_or old b 0 ≡ to
    → ((part : List ℕ) → IsClosed graph part → has part a ≡ has part b) → Relabels from to old new → IsLabelling graph old k → IsLabelling graph new k
IsLabelling-joined graph old new k from to a b same_len valid ha hb less is_from is_to joined r is = record {
  len = same_len ∙ is.len;
  least = λ v h. elim (cases_eq (get_or old v 0) from) [
    | inl e ↦ omega (arith, changed from to v old new r (omega (arith, h, same_len)) e, is.least v (omega (arith, h, same_len)), e, less)
    | inr ne ↦ omega (arith, kept from to v old new r (omega (arith, h, same_len)) ne, is.least v (omega (arith, h, same_len)))
  ];
  root = λ v h. root v (omega (arith, h, same_len));
  alike = λ v part h closed. alike v part (omega (arith, h, same_len)) closed;
  shared = λ j s h at. same_labels from to s.leaves s.reaches old new r
      (omega (arith, leaves_below (length graph.disks) graph.transfers j s valid.leaves_there at, is.len))
      (omega (arith, reaches_below (length graph.disks) graph.transfers j s valid.reaches_there at, is.len))
      (is.shared j s h at);
}
  where
    to_there : to < length old
    to_there = omega (arith, is.least b hb, is_to, hb)

    to_stays : get_or new to 0 ≡ to
    to_stays =
        let own : get_or old to 0 ≡ to = ap (λ n. get_or old n 0) (sym is_to) ∙ is.root b hb ∙ is_to in
        kept from to to old new r to_there (λ e. absurd (omega (arith, e, own, less))) ∙ own

    root : (v : ℕ) → v < length old → get_or new (get_or new v 0) 0 ≡ get_or new v 0
    root v h = elim (cases_eq (get_or old v 0) from) [
      | inl e ↦ (let now = changed from to v old new r h e in ap (λ n. get_or new n 0) now ∙ to_stays ∙ sym now)
      | inr ne ↦ (let now = kept from to v old new r h ne in
          let own = is.root v h in
          ap (λ n. get_or new n 0) now ∙ kept from to (get_or old v 0) old new r (omega (arith, is.least v h, h)) (λ e. ne (sym own ∙ e)) ∙ own ∙ sym now)
    ]

    alike : (v : ℕ) (part : List ℕ) → v < length old → IsClosed graph part → has part v ≡ has part (get_or new v 0)
    alike v part h closed = elim (cases_eq (get_or old v 0) from) [
      | inl e ↦ is.alike v part h closed ∙ ap (has part) (e ∙ sym is_from) ∙ sym (is.alike a part ha closed) ∙ joined part closed ∙ is.alike b part hb closed ∙ ap (has part) (is_to ∙ sym (changed from to v old new r h e))
      | inr ne ↦ is.alike v part h closed ∙ ap (has part) (sym (kept from to v old new r h ne))
    ]
