use Rattle.mig_files.proofs.Common.{arith, header_of, inr, length, rules, sym, ◌∙◌, ◌≡◌}
use Rattle.mig_files.proofs.CopySteps.{copy_by, differ_by, other_copy}
use Rattle.mig_files.proofs.Headers.{first_has, header_after}
use Rattle.mig_files.proofs.copies.compare.Goals as goal

pub refuse_with-requires-clause-cause : goal.refuse_with-requires-clause-cause
refuse_with-requires-clause-cause g c =
    let s = g.C.Calls.state c.slot_at.new.calls in
    let look = c.slot_at.ensures.step.change in
    let len : length c.args.left.now ≡ 4096 = search rules in
    let its = header_of c.args.item.now in
    let to = sym (sym c.first_of.ensures.first ∙ c.if-not-is_header.ensures.same) in
    let read = header_after look c.args.from.now 4096 _ c.requires.read in
    let beside = header_after look c.args.to.now 4096 _ c.in_ok-slot_at.ensures.bytes in (
      first_has s c.args.from.now 4096 c.args.left.now its (omega arith) (omega (arith, len)) (sym c.requires.header) read,
      first_has s c.args.to.now 4096 c.slot_at.new.into its (omega arith) (omega (arith, c.slot_at.ensures.len)) to beside,
    )

pub returns-then-not-is_header-clause-same : goal.returns-then-not-is_header-clause-same
returns-then-not-is_header-clause-same g c =
    let len : length c.args.left.now ≡ 4096 = search rules in
    other_copy (g.C.Calls.state c.args.calls.now) c.args.from.now c.args.to.now c.requires.slots c.args.left.now len c.requires.read
    c.slot_at.new.into c.slot_at.ensures.len c.in_ok-slot_at.ensures.bytes c.args.item.now c.requires.header
    (λ has. c.if-not-is_header.ensures.same (c.first_of.ensures.first ∙ has))

pub returns-then-is_rest-clause-same : goal.returns-then-is_rest-clause-same
returns-then-is_rest-clause-same g c =
    let len : length c.args.left.now ≡ 4096 = search rules in
    copy_by (g.C.Calls.state c.args.calls.now) c.args.from.now c.args.to.now c.requires.slots c.args.left.now len c.requires.read
    c.slot_at.new.into c.slot_at.ensures.len c.in_ok-slot_at.ensures.bytes c.if-is_rest.ensures

pub returns-clause-cause : goal.returns-clause-cause
returns-clause-cause g c =
    let len : length c.args.left.now ≡ 4096 = search rules in
    let to = sym c.first_of.ensures.first ∙ c.if-not-is_header.ensures.same in
    inr (
      omega (arith, c.slot_at.ensures.step.change.refused, c.refuse_with.ensures.rose),
      differ_by (g.C.Calls.state c.args.calls.now) c.args.from.now c.args.to.now c.requires.slots c.args.left.now len c.requires.read
          c.slot_at.new.into c.slot_at.ensures.len c.in_ok-slot_at.ensures.bytes c.args.item.now
          (record { name = c.requires.name; from = c.requires.header; to = to }) c.if-is_rest.ensures,
    )
