-- Walks of odd length leave no two sides.
use Rattle.mig_sides.proofs.Common.{Bool, DiskId, IsJoined, IsOddWalk, IsTwoSided, List, Separates, Transfers, Transfer, ap, arith, disk_on, false, inl, inr, length, refl, subst, suc, sym, true}
use Rattle.mig_sides.proofs.Common.{zero, ℕ, ◌+◌, ◌-◌, ◌/◌, ◌<◌, ◌∙◌, ◌≡◌, ◌≢◌}

pub turned : (transfers : List Transfer) (v w : ℕ) → IsJoined transfers v w → IsJoined transfers w v
turned transfers v w j = elim j [ inl a ↦ inr a | inr b ↦ inl b ]

-- the ends of an edge are on different sides
pub joined_apart : (graph : Transfers) (side : ℕ → Bool) (v w : ℕ) → Separates side graph → IsJoined graph.transfers v w → side v ≢ side w
joined_apart graph side v w apart j = elim j [
  | inl has ↦ subst (λ (t : Transfer). side t.leaves ≢ side t.reaches) has.2 (apart has.0 (record { leaves = v; reaches = w }) has.1)
  | inr has ↦ (λ same. subst (λ (t : Transfer). side t.leaves ≢ side t.reaches) has.2 (apart has.0 (record { leaves = w; reaches = v }) has.1) (sym same))
]

-- of three values, of which each differs from the next, the first is the last
two_steps : (a b c : Bool) → a ≢ b → b ≢ c → a ≡ c
two_steps true true c p q = absurd (p refl)
two_steps true false true p q = refl
two_steps true false false p q = absurd (q refl)
two_steps false false c p q = absurd (p refl)
two_steps false true false p q = refl
two_steps false true true p q = absurd (q refl)

every_other : (side : ℕ → Bool) (walk : List DiskId) (m : ℕ) → ((k : ℕ) → k + 1 < length walk → side (disk_on walk k) ≢ side (disk_on walk (k + 1))) → m + m < length walk → side (disk_on walk 0) ≡ side (disk_on walk (m + m))
every_other side walk zero steps h = refl
every_other side walk (suc m) steps h =
    let at : ℕ → Bool = λ k. side (disk_on walk k) in
    let last : m + m + 1 + 1 ≡ suc m + suc m = omega arith in
    every_other side walk m steps (omega arith) ∙ two_steps (at (m + m)) (at (m + m + 1)) (at (m + m + 1 + 1)) (steps (m + m) (omega arith)) (steps (m + m + 1) (omega arith)) ∙ ap at last

pub odd_none : (graph : Transfers) (walk : List DiskId) → IsOddWalk graph.transfers walk → ¬ IsTwoSided graph
odd_none graph walk w two =
    let side = two.0 in
    let m = length walk / 2 in
    let long : m + m + 1 ≡ length walk = omega (arith, w.odd) in
    let same = every_other side walk m (λ k h. joined_apart graph side (disk_on walk k) (disk_on walk (k + 1)) two.1 (w.steps k h)) (omega (arith, long)) in
    let last : m + m ≡ length walk - 1 = omega (arith, long) in
    joined_apart graph side (disk_on walk (length walk - 1)) (disk_on walk 0) two.1 w.closed (sym (same ∙ ap (λ k. side (disk_on walk k)) last))
