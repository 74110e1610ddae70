-- Trails: one edge after the other is directed away from where the trail has come to.
use Rattle.std.specs.Prelude.{◌≡◌, ℕ, ◌+◌, ◌%◌, ◌≤◌, Bool, false, List, [], ◌∷◌, Option, Some, None, length}
use Rattle.std.proofs.Common.{cond, eqb}
use Rattle.mig_base.specs.declared.ids.DiskId.{DiskId}
use Rattle.mig_euler.specs.Balance.{pair_tail, pair_head}

-- 1 where it is so, and 0 where not
abbrev pub bit : Bool → ℕ
bit t = cond t 1 0

-- 1 where both are the same disk
abbrev pub is : DiskId → DiskId → ℕ
is v w = bit (eqb w.0 v.0)

-- leaving, entering and undirected edges at v, where some edges have no direction yet
abbrev pub leaves : DiskId → DiskId × DiskId → Option Bool → ℕ
leaves v p None = 0
leaves v p (Some d) = is v (pair_tail p d)

abbrev pub enters : DiskId → DiskId × DiskId → Option Bool → ℕ
enters v p None = 0
enters v p (Some d) = is v (pair_head p d)

abbrev pub waits : DiskId → DiskId × DiskId → Option Bool → ℕ
waits v p None = is v p.0 + is v p.1
waits v p (Some d) = 0

-- the sum of such counts over the edges and their directions
abbrev pub total : (DiskId × DiskId → Option Bool → ℕ) → List (DiskId × DiskId) → List (Option Bool) → ℕ
total f [] ds = 0
total f (p ∷ ps) [] = 0
total f (p ∷ ps) (d ∷ ds) = f p d + total f ps ds

-- ---- one trail, from s, that has come to t

-- the counts at each disk, before (0) and now, of a trail from s to t
pub record IsTrail (ps : List (DiskId × DiskId)) (old now : List (Option Bool)) (s t : DiskId) : Type 0 where
  pub len : length now ≡ length old
  pub flow : (v : DiskId) → total (leaves v) ps now + total (enters v) ps old + is v t ≡ total (enters v) ps now + total (leaves v) ps old + is v s
  pub parity : (v : DiskId) → (total (waits v) ps now + total (waits v) ps old + is v s + is v t) % 2 ≡ 0
  pub fewer : (v : DiskId) → total (waits v) ps now ≤ total (waits v) ps old

-- the trail from s has ended
pub record EndsTrail (ps : List (DiskId × DiskId)) (old now : List (Option Bool)) (s : DiskId) : Type 0 where
  pub end : DiskId
  pub trail : IsTrail ps old now s end
  pub stuck : total (waits end) ps now ≡ 0

-- the counts differ by at most 1, and not where an odd number of edges waits
pub record IsBalanced (ps : List (DiskId × DiskId)) (ds : List (Option Bool)) : Type 0 where
  pub out_most : (v : DiskId) → total (leaves v) ps ds ≤ total (enters v) ps ds + 1
  pub in_most : (v : DiskId) → total (enters v) ps ds ≤ total (leaves v) ps ds + 1
  pub odd : (v : DiskId) → total (waits v) ps ds % 2 ≡ 1 → total (leaves v) ps ds ≡ total (enters v) ps ds

-- whether an edge has the direction true
abbrev pub points_forward : Option Bool → Bool
points_forward None = false
points_forward (Some d) = d
