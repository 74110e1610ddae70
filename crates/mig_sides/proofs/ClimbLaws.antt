-- Ways up and down trees.
use Rattle.mig_sides.proofs.Common.{DiskId, GoesUpOrDown, IsClimb, IsClimbing, IsParent, IsRooted, List, Node, Option, Some, [], ap, arith, cases_lt}
use Rattle.mig_sides.proofs.Common.{disk_on, get_or_append_left, get_or_push, inl, inr, length, length-append, node_at, refl, same_Some, subst, sym}
use Rattle.mig_sides.proofs.Common.{ℕ, ◌++◌, ◌+◌, ◌-◌, ◌<◌, ◌∙◌, ◌∷◌, ◌≡◌, ◌≤◌, ◌⊎◌}

-- places of disks to which one more is added
pub at_before : (way : List DiskId) (w : DiskId) (k : ℕ) → k < length way → disk_on (way ++ w ∷ []) k ≡ disk_on way k
at_before way w k h = ap (λ (x : DiskId). x.0) (get_or_append_left way (w ∷ []) (record { 0 = 0 }) k h)

pub at_end : (way : List DiskId) (w : DiskId) (k : ℕ) → k ≡ length way → disk_on (way ++ w ∷ []) k ≡ w.0
at_end way w k e = ap (λ (x : DiskId). x.0) (get_or_push way w (record { 0 = 0 }) k (sym e))

-- a relation of each disk to the next, kept by one disk more
steps_more : (R : ℕ → ℕ → Type 0) (way : List DiskId) (w : DiskId) (last : ℕ) → length way ≡ last + 1 → R (disk_on way last) w.0 → ((k : ℕ) → k + 1 < length way → R (disk_on way k) (disk_on way (k + 1))) → (k : ℕ) → k + 1 < length (way ++ w ∷ []) → R (disk_on (way ++ w ∷ []) k) (disk_on (way ++ w ∷ []) (k + 1))
steps_more R way w last len step steps k h =
    let long = length-append way (w ∷ []) in
    elim (cases_lt (k + 1) (length way)) [
      | inl lt ↦ subst (λ a. R a (disk_on (way ++ w ∷ []) (k + 1))) (sym (at_before way w k (omega (arith, lt)))) (subst (λ b. R (disk_on way k) b) (sym (at_before way w (k + 1) lt)) (steps k lt))
      | inr ge ↦
          let is : k ≡ last = omega (arith, ge, h, long, len) in
          let a : disk_on (way ++ w ∷ []) k ≡ disk_on way last = at_before way w k (omega (arith, is, len)) ∙ ap (disk_on way) is in
          let b : disk_on (way ++ w ∷ []) (k + 1) ≡ w.0 = at_end way w (k + 1) (omega (arith, is, len)) in
          subst (λ x. R x (disk_on (way ++ w ∷ []) (k + 1))) (sym a) (subst (λ y. R (disk_on way last) y) (sym b) step)
    ]

-- ---- up

pub climb_none : (nodes : List (Option Node)) (disk : DiskId) (node : Node) → node_at nodes disk.0 ≡ Some node → IsClimbing nodes disk.0 0 disk.0 (disk ∷ []) node
climb_none nodes disk node is = record {
  len = refl;
  first = refl;
  last = refl;
  up = λ k h. absurd (omega arith);
  here = node;
  here_is = is;
  rank = omega arith;
  root = refl;
}

pub climb_more : (nodes : List (Option Node)) (v steps at : ℕ) (way : List DiskId) (node here : Node) → IsRooted nodes → steps < node.rank → node_at nodes at ≡ Some here → IsClimbing nodes v steps at way node → IsClimbing nodes v (steps + 1) here.parent.0 (way ++ here.parent ∷ []) node
climb_more nodes v steps at way node here rooted less is c =
    let same : c.here ≡ here = same_Some c.here here (sym c.here_is ∙ is) in
    let rank : here.rank + steps ≡ node.rank = ap (λ (x : Node). x.rank + steps) (sym same) ∙ c.rank in
    let long = length-append way (here.parent ∷ []) in
    elim (rooted at here is) [
      | inl top ↦ absurd (omega (arith, top.0, rank, less))
      | inr child ↦ record {
        len = omega (arith, long, c.len);
        first = at_before way here.parent 0 (omega (arith, c.len)) ∙ c.first;
        last = at_end way here.parent (steps + 1) (sym c.len);
        up = steps_more (IsParent nodes) way here.parent steps c.len (subst (λ a. IsParent nodes a here.parent.0) (sym c.last) (record { node = here; node_is = is; deep = λ z. absurd (omega (arith, z, child.rank)); parent = refl })) c.up;
        here = child.above;
        here_is = child.above_is;
        rank = omega (arith, rank, child.rank);
        root = sym child.root ∙ ap (λ (x : Node). x.root.0) (sym same) ∙ c.root;
      }
    ]

pub climb_all : (nodes : List (Option Node)) (v steps at : ℕ) (way : List DiskId) (node : Node) → IsRooted nodes → node_at nodes v ≡ Some node → node.rank ≤ steps → IsClimbing nodes v steps at way node → IsClimb nodes v way
climb_all nodes v steps at way node rooted is all c =
    let top : c.here.rank ≡ 0 = omega (arith, c.rank, all) in
    let end : steps ≡ node.rank = omega (arith, c.rank, all) in
    let root : c.here.root.0 ≡ at = elim (rooted at c.here c.here_is) [ inl t ↦ t.1 | inr child ↦ absurd (omega (arith, top, child.rank)) ] in
    record {
      node = node;
      node_is = is;
      len = omega (arith, c.len, end);
      first = c.first;
      last = ap (disk_on way) (sym end) ∙ c.last ∙ sym root ∙ c.root;
      up = c.up;
    }

-- ---- down

-- a walk up one way, and down another as far as this place of it
pub record IsWalking (nodes : List (Option Node)) (v : ℕ) (down : List DiskId) (left total : ℕ) (walk : List DiskId) : Type 0 where
  pub sum : length walk + left ≡ total
  pub some : 0 < length walk
  pub within : left < length down
  pub first : disk_on walk 0 ≡ v
  pub last : disk_on walk (length walk - 1) ≡ disk_on down left
  pub steps : GoesUpOrDown nodes walk

pub walk_more : (nodes : List (Option Node)) (v w left total : ℕ) (walk down : List DiskId) (next : DiskId) → IsClimb nodes w down → disk_on down left ≡ next.0 → IsWalking nodes v down (left + 1) total walk → IsWalking nodes v down left total (walk ++ next ∷ [])
walk_more nodes v w left total walk down next back is x =
    let long = length-append walk (next ∷ []) in
    let end : length (walk ++ next ∷ []) - 1 ≡ length walk = omega (arith, long) in
    let Step : ℕ → ℕ → Type 0 = λ a b. IsParent nodes a b ⊎ IsParent nodes b a in
    let step : Step (disk_on walk (length walk - 1)) next.0 =
    inr (subst (λ a. IsParent nodes a (disk_on walk (length walk - 1))) is (subst (λ b. IsParent nodes (disk_on down left) b) (sym x.last) (back.up left x.within))) in
    record {
      sum = omega (arith, long, x.sum);
      some = omega (arith, long);
      within = omega (arith, x.within);
      first = at_before walk next 0 x.some ∙ x.first;
      last = ap (disk_on (walk ++ next ∷ [])) end ∙ at_end walk next (length walk) refl ∙ sym is;
      steps = steps_more Step walk next (length walk - 1) (omega (arith, x.some)) step x.steps;
    }
