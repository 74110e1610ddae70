use Rattle.mig_gen.proofs.Common.{InputLists, IsInput, IsRoomy, false, is_duplex, subst, sym, ◌∙◌, ◌≡◌}
use Rattle.mig_gen.proofs.MadeInput.{is_input, is_joint, made_is}
use Rattle.mig_gen.proofs.MadeRoom.{has_room}
use Rattle.mig_gen.proofs.cases.make_case.Goals as goal

pub new-requires : goal.new-requires
new-requires c =
    let is = made_is c.args.disks c.args.per_pair c.args.limit c.requires c.in_ok-disks.disks.items c.in_ok-names.names.items c.in_ok-spots.spots.items c.in_ok-next.next.items c.in_ok-disks.ensures c.in_ok-names.ensures c.in_ok-spots.ensures c.in_ok-next.ensures in
    subst IsInput (sym is) (is_input c.args.disks c.args.per_pair c.args.limit c.requires)

pub returns-clause-case : goal.returns-clause-case
returns-clause-case c =
    c.new.ensures ∙ made_is c.args.disks c.args.per_pair c.args.limit c.requires c.in_ok-disks.disks.items c.in_ok-names.names.items c.in_ok-spots.spots.items c.in_ok-next.next.items c.in_ok-disks.ensures c.in_ok-names.ensures c.in_ok-spots.ensures c.in_ok-next.ensures

pub returns-clause-roomy : goal.returns-clause-roomy
returns-clause-roomy c =
    let is = made_is c.args.disks c.args.per_pair c.args.limit c.requires c.in_ok-disks.disks.items c.in_ok-names.names.items c.in_ok-spots.spots.items c.in_ok-next.next.items c.in_ok-disks.ensures c.in_ok-names.ensures c.in_ok-spots.ensures c.in_ok-next.ensures in
    subst IsRoomy (sym (c.new.ensures ∙ is)) (has_room c.args.disks c.args.per_pair c.args.limit)

pub returns-clause-joint : goal.returns-clause-joint
returns-clause-joint c =
    let is = made_is c.args.disks c.args.per_pair c.args.limit c.requires c.in_ok-disks.disks.items c.in_ok-names.names.items c.in_ok-spots.spots.items c.in_ok-next.next.items c.in_ok-disks.ensures c.in_ok-names.ensures c.in_ok-spots.ensures c.in_ok-next.ensures in
    subst (λ (i : InputLists). is_duplex i.disks ≡ false) (sym (c.new.ensures ∙ is)) (is_joint c.args.disks c.args.per_pair c.args.limit c.requires)
