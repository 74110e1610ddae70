use Rattle.mig_sides.proofs.Common.{DiskId, List, ap, arith, disk_on, get_or_default, length, subst, sym, ◌+◌, ◌-◌, ◌<◌, ◌∙◌, ◌≡◌}
use Rattle.mig_sides.proofs.ClimbLaws.{IsWalking, walk_more}
use Rattle.mig_sides.proofs.climbs.walk_between.Goals as goal

pub loop-left-preserved : goal.loop-left-preserved
loop-left-preserved c =
    let nodes = c.args.nodes.now in
    let down = c.in_ok-down.down.items in
    let walk = c.loop-left.walk.items in
    let left = c.loop-left.left - 1 in
    let total = length c.in_ok-walk.walk.items + (c.len-left.result - 1) in
    let next = c.index.result.now in
    let before : left + 1 ≡ c.loop-left.left = omega (arith, c.loop-left-test.true) in
    let within : left < length down = omega (arith, c.loop-left.invariant.within) in
    let is : disk_on down left ≡ next.0 = ap (λ (d : DiskId). d.0) (get_or_default down left (record { 0 = 0 }) next within ∙ sym c.index.ensures) in
    let x = subst (λ n. IsWalking nodes c.args.one.0 down n total walk) (sym before) c.loop-left.invariant in
    subst (λ (w : List DiskId). IsWalking nodes c.args.one.0 down left total w) (sym c.in_ok-push.ensures.items) (walk_more nodes c.args.one.0 c.args.other.0 left total walk down next c.in_ok-down.ensures is x)
