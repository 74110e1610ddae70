-- What disks' limits say of transfers, by the kind of the limits.
use Rattle.mig_base.proofs.Common.{All, Bool, Disk, Incoming, InputLists, IsInRange, IsInput, IsOverLimit, Joint, KeepsLimit, Limits, List, Outgoing, Side, Split, Transfer, [], ap, arith}
use Rattle.mig_base.proofs.Common.{count_by, disk_at, div_ceil, div_ceil_times, eqb, false, false≢true, inl, inr, is_duplex, is_split, length, load, max, min, most_ends, mul-le-mul_right}
use Rattle.mig_base.proofs.Common.{no_disk, passes, refl, rounds_for, side_limit, side_load, suc, sum_by-cons, sym, touches}
use Rattle.mig_base.proofs.Common.{zero, ℕ, ◌%◌, ◌*◌, ◌+◌, ◌/◌, ◌<◌, ◌||◌, ◌∙◌, ◌∷◌, ◌≡◌, nat_tests, ◌≤◌}
use Rattle.mig_base.proofs.Counting.{one, one_of_two}

-- with fewer transfers of each kind limits are kept too
pub keeps_fewer : (limits : Limits) (v : ℕ) (some all : List Transfer) → ((p : Transfer → Bool) → count_by p some ≤ count_by p all) → KeepsLimit limits v all → KeepsLimit limits v some
keeps_fewer (Joint limit) v some all fewer keeps = omega (arith, fewer (touches v), keeps)
keeps_fewer (Split outgoing incoming) v some all fewer keeps = (omega (arith, fewer (passes Outgoing v), keeps.0), omega (arith, fewer (passes Incoming v), keeps.1))

-- what is over a limit doesn't keep it
pub over_breaks : (limits : Limits) (v : ℕ) (transfers : List Transfer) (count : ℕ) → IsOverLimit limits v transfers count → KeepsLimit limits v transfers → ⊥
over_breaks (Joint limit) v transfers count over keeps = omega (arith, over.0, over.1, keeps)
over_breaks (Split outgoing incoming) v transfers count (inl over) keeps = omega (arith, over.0, over.1, keeps.0)
over_breaks (Split outgoing incoming) v transfers count (inr over) keeps = omega (arith, over.1, over.2, keeps.1)

-- a side's load is at most the load, and the load at most those of both sides
pub side_in_load : (side : Side) (v : ℕ) (transfers : List Transfer) → side_load side v transfers ≤ load v transfers
side_in_load side v [] = omega arith
side_in_load side v (t ∷ ts) = omega (arith, sum_by-cons (λ u. one (passes side v u)) t ts, sum_by-cons (λ u. one (touches v u)) t ts, side_in_load side v ts, each side)
  where
    left : (a b : Bool) → one a ≤ one (a || b)
    left a b = grind (arith, nat_tests)

    right : (a b : Bool) → one b ≤ one (a || b)
    right a b = grind (arith, nat_tests)

    each : (side : Side) → one (passes side v t) ≤ one (touches v t)
    each Outgoing = left (eqb v t.leaves) (eqb v t.reaches)
    each Incoming = right (eqb v t.leaves) (eqb v t.reaches)

pub load_in_sides : (v : ℕ) (transfers : List Transfer) → load v transfers ≤ side_load Outgoing v transfers + side_load Incoming v transfers
load_in_sides v [] = omega arith
load_in_sides v (t ∷ ts) =
    let leaving = sum_by-cons (λ u. one (passes Outgoing v u)) t ts in
    let reaching = sum_by-cons (λ u. one (passes Incoming v u)) t ts in
    omega (arith, leaving, reaching, sum_by-cons (λ u. one (touches v u)) t ts, load_in_sides v ts, one_of_two (eqb v t.leaves) (eqb v t.reaches))

-- kept limits bound the load, and the load of each side
pub keeps_ends : (limits : Limits) (v : ℕ) (transfers : List Transfer) → KeepsLimit limits v transfers → load v transfers ≤ most_ends limits
keeps_ends (Joint limit) v transfers keeps = keeps
keeps_ends (Split outgoing incoming) v transfers keeps = omega (arith, load_in_sides v transfers, keeps.0, keeps.1)

pub keeps_side : (side : Side) (limits : Limits) (v : ℕ) (transfers : List Transfer) → KeepsLimit limits v transfers → side_load side v transfers ≤ side_limit side limits
keeps_side side (Joint limit) v transfers keeps = omega (arith, side_in_load side v transfers, keeps)
keeps_side Outgoing (Split outgoing incoming) v transfers keeps = keeps.0
keeps_side Incoming (Split outgoing incoming) v transfers keeps = keeps.1

-- a side's limit is 1 at least
pub side_positive : (side : Side) (limits : Limits) → IsInRange limits → 1 ≤ side_limit side limits
side_positive side (Joint limit) range = range.0
side_positive Outgoing (Split outgoing incoming) range = range.0.0
side_positive Incoming (Split outgoing incoming) range = range.1.0

pub ends_positive : (limits : Limits) → IsInRange limits → 1 ≤ most_ends limits
ends_positive (Joint limit) range = range.0
ends_positive (Split outgoing incoming) range = omega (arith, range.0.0)

-- limits are small
pub ends_small : (limits : Limits) → IsInRange limits → most_ends limits ≤ 2048
ends_small (Joint limit) range = omega (arith, range.1)
ends_small (Split outgoing incoming) range = omega (arith, range.0.1, range.1.1)

pub side_small : (side : Side) (limits : Limits) → IsInRange limits → side_limit side limits ≤ 1024
side_small side (Joint limit) range = range.1
side_small Outgoing (Split outgoing incoming) range = range.0.1
side_small Incoming (Split outgoing incoming) range = range.1.1

-- the load is at most the rounds that the disk needs times what a round may have at it
pub load_within_rounds : (limits : Limits) (v : ℕ) (transfers : List Transfer) → IsInRange limits → load v transfers ≤ rounds_for limits v transfers * most_ends limits
load_within_rounds (Joint limit) v transfers range = (div_ceil_times (load v transfers) limit range.0).0
load_within_rounds (Split outgoing incoming) v transfers range =
    let rounds = rounds_for (Split outgoing incoming) v transfers in
    let a = div_ceil_times (side_load Outgoing v transfers) outgoing range.0.0 in
    let b = div_ceil_times (side_load Incoming v transfers) incoming range.1.0 in
    let c = mul-le-mul_right outgoing (left (div_ceil (side_load Outgoing v transfers) outgoing) (div_ceil (side_load Incoming v transfers) incoming)) in
    let d = mul-le-mul_right incoming (right (div_ceil (side_load Outgoing v transfers) outgoing) (div_ceil (side_load Incoming v transfers) incoming)) in
    omega (arith, load_in_sides v transfers, a.0, b.0, c, d, spread rounds outgoing incoming)
  where
    left : (a b : ℕ) → a ≤ max a b
    left a b = omega arith

    right : (a b : ℕ) → b ≤ max a b
    right a b = omega arith

    spread : (n a b : ℕ) → n * (a + b) ≡ n * a + n * b
    spread n a b = grind arith

-- a disk without a load needs no rounds
no_rounds : (n : ℕ) → 0 / n + min 1 (0 % n) ≡ 0
no_rounds zero = refl
no_rounds (suc n) = omega arith

pub rounds_for_none : (limits : Limits) (v : ℕ) (transfers : List Transfer) → load v transfers ≡ 0 → rounds_for limits v transfers ≡ 0
rounds_for_none (Joint limit) v transfers none = ap (λ l. div_ceil l limit) none ∙ no_rounds limit
rounds_for_none (Split outgoing incoming) v transfers none =
    greater (idle Outgoing outgoing) (idle Incoming incoming)
  where
    idle : (side : Side) (limit : ℕ) → div_ceil (side_load side v transfers) limit ≡ 0
    idle side limit = let e : side_load side v transfers ≡ 0 = omega (arith, none, side_in_load side v transfers) in ap (λ l. div_ceil l limit) e ∙ no_rounds limit

    greater : {a b : ℕ} → a ≡ 0 → b ≡ 0 → max a b ≡ 0
    greater e f = omega (arith, e, f)

-- no transfers keep all limits
pub keeps_none : (limits : Limits) (v : ℕ) → KeepsLimit limits v []
keeps_none (Joint limit) v = omega arith
keeps_none (Split outgoing incoming) v = (omega arith, omega arith)

-- Joint limits

pub keeps_joint : (limits : Limits) (v : ℕ) (transfers : List Transfer) → is_split limits ≡ false → load v transfers ≤ most_ends limits → KeepsLimit limits v transfers
keeps_joint (Joint limit) v transfers joint within = within
keeps_joint (Split outgoing incoming) v transfers joint within = absurd (false≢true (sym joint))

pub rounds_for_joint : (limits : Limits) (v : ℕ) (transfers : List Transfer) → is_split limits ≡ false → rounds_for limits v transfers ≡ div_ceil (load v transfers) (most_ends limits)
rounds_for_joint (Joint limit) v transfers joint = refl
rounds_for_joint (Split outgoing incoming) v transfers joint = absurd (false≢true (sym joint))

-- disks with joint limits aren't duplex
pub joint_disks : (disks : List Disk) → All (λ d. is_split d.limits ≡ false) disks → is_duplex disks ≡ false
joint_disks [] joint = refl
joint_disks (d ∷ disks) joint = joint 0 d (omega arith)

-- The limits of an input's disks

pub limits_at : (input : InputLists) → IsInput input → (v : ℕ) → v < length input.disks → IsInRange (disk_at input.disks v).limits
limits_at input valid v there = (valid.disk_ranges v no_disk there).0

pub kind_at : (input : InputLists) → IsInput input → (v : ℕ) → v < length input.disks → is_split (disk_at input.disks v).limits ≡ is_duplex input.disks
kind_at input valid v there = valid.one_kind v no_disk there
