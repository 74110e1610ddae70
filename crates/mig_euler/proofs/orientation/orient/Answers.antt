use Rattle.mig_euler.proofs.Common.{AllInRange, ArePairs, Balances, Bool, DiskId, Global, IfOk-weaker, List, Vec, length, map, pair_transfer, subst, sym, ◌∙◌, ◌≡◌}
use Rattle.mig_euler.proofs.Graphs.{balanced, in_range, no_loop}
use Rattle.mig_euler.proofs.orientation.orient.Goals as goal

pub orient_ends-requires : goal.orient_ends-requires
orient_ends-requires c =
    let transfers = c.args.graph.now.transfers in
    let valid = c.keeps_rules.ensures in
    let pairs : ArePairs transfers c.deref.result.now = subst (λ (x : List (DiskId × DiskId)). ArePairs transfers x) (sym c.deref.ensures.value) c.in_ok-ends.ensures in
    record {
      in_range = subst (λ n. AllInRange c.deref.result.now n) (sym c.disks.ensures.disks) (in_range transfers c.deref.result.now (length c.args.graph.now.disks) pairs valid.leaves_there valid.reaches_there);
      no_loop = no_loop transfers c.deref.result.now pairs valid.apart;
    }

pub returns-clause-balance : goal.returns-clause-balance
returns-clause-balance c =
    let transfers = c.args.graph.now.transfers in
    let pairs : ArePairs transfers c.deref.result.now = subst (λ (x : List (DiskId × DiskId)). ArePairs transfers x) (sym c.deref.ensures.value) c.in_ok-ends.ensures in
    IfOk-weaker c.orient_ends.result (λ (d : Vec Bool Global). Balances (map pair_transfer c.deref.result.now) d.items) (λ (d : Vec Bool Global). Balances transfers d.items)
    (λ d h. balanced transfers c.deref.result.now d.items pairs h) c.orient_ends.ensures.balance

pub returns-clause-one_each : goal.returns-clause-one_each
returns-clause-one_each c =
    let transfers = c.args.graph.now.transfers in
    let pairs : ArePairs transfers c.deref.result.now = subst (λ (x : List (DiskId × DiskId)). ArePairs transfers x) (sym c.deref.ensures.value) c.in_ok-ends.ensures in
    IfOk-weaker c.orient_ends.result (λ (d : Vec Bool Global). Rattle.std.specs.Vec.vec_len d ≡ length c.deref.result.now) (λ (d : Vec Bool Global). Rattle.std.specs.Vec.vec_len d ≡ length transfers)
    (λ d h. h ∙ pairs.len) c.orient_ends.ensures.one_each
