use Rattle.mig_split.proofs.Common.{AreNodesOf, CopyId, List, subst}
use Rattle.mig_split.proofs.Shared.{IsShared-all}
use Rattle.mig_split.proofs.sharing.share.Goals as goal

pub returns : goal.returns
returns c =
    let new = c.in_ok-nodes_of.field-0.items in
    IsShared-all c.args.q c.args.copies c.args.stops.now c.in_ok-nodes.nodes.items c.in_ok-nodes.number new c.requires.there c.in_ok-nodes.ensures
    (subst (λ (nodes : List CopyId). AreNodesOf nodes c.args.stops.now new) c.deref.ensures.value c.in_ok-nodes_of.ensures)
