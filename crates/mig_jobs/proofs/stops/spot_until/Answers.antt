use Rattle.mig_jobs.proofs.Common.{All, IsPartitionPoint, IsPartitionPoint-from_clause, IsPartitionedBy, List, Waypoint, arith, false, leb, length, of_calls, rules, sym, true, ℕ, ◌++◌, ◌-◌, ◌<◌, ◌≡◌}
use Rattle.mig_jobs.proofs.Common.{◌≤◌}
use Rattle.mig_jobs.proofs.StopLaws.{last_found, none_found, parted, point_is}
use Rattle.mig_jobs.proofs.stops.spot_until.Goals as goal

-- as many stops pass the test as there are of the first rounds
counted : (stops : List Waypoint) (round count : ℕ) → count ≤ length stops → (IsPartitionedBy (λ (s : Waypoint). leb s.round round) stops → IsPartitionPoint (λ (s : Waypoint). leb s.round round ≡ true) (λ (s : Waypoint). leb s.round round ≡ false) stops count)
    → (before after : List Waypoint) → stops ≡ before ++ after → All (λ s. s.round ≤ round) before → All (λ s. round < s.round) after → count ≡ length before
counted stops round count most point before after is low high = point_is stops before after is round low high count most (point (parted stops before after is round low high))

pub returns-then-count-eq0 : goal.returns-then-count-eq0
returns-then-count-eq0 c = λ before after is low high.
    let stops = c.args.stops.now in
    let round = c.args.round in
    let n = counted stops round c.partition_point-count.result c.partition_point-count.ensures.bound
    (λ parted. IsPartitionPoint-from_clause (λ (s : Waypoint). leb s.round round) stops c.partition_point-count.result c.partition_point-count.ensures.partitioned parted (λ a r f k. search (rules, of_calls))) before after is low high in
    sym (none_found stops before after is round low high (omega (arith, n, c.if-count-eq0.true)))

pub returns : goal.returns
returns c = λ before after is low high.
    let stops = c.args.stops.now in
    let round = c.args.round in
    let n = counted stops round c.partition_point-count.result c.partition_point-count.ensures.bound
    (λ parted. IsPartitionPoint-from_clause (λ (s : Waypoint). leb s.round round) stops c.partition_point-count.result c.partition_point-count.ensures.partitioned parted (λ a r f k. search (rules, of_calls))) before after is low high in
    sym (last_found stops before after is round low high (c.partition_point-count.result - 1) _ (omega (arith, n, c.if-count-eq0.false)))
