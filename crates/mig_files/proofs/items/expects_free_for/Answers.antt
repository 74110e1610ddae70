use Rattle.mig_files.proofs.Common.{seen_in}
use Rattle.mig_files.proofs.TrackingSteps.{alive_then, alive_same}
use Rattle.mig_files.proofs.Derivation.{on_ok}
use Rattle.mig_files.proofs.Headers.{header_after, free_before, free_for_own, free_for_any, not_held}
use Rattle.mig_files.proofs.Grounds.{on_err, or_by, fault_after, lacks_cell}
use Rattle.mig_store.specs.Grounds.{IsLast}
use Rattle.mig_files.proofs.items.expects_free_for.Goals as goal

pub returns-clause-kept : goal.returns-clause-kept
returns-clause-kept g c = on_ok c.check_free.result c.check_free.ensures.kept (λ same. alive_then c.in_ok-read_part.ensures.kept (alive_same same c.in_ok-read_part.ensures.kept.alive))

pub check_free-requires-clause-header : goal.check_free-requires-clause-header
check_free-requires-clause-header g c = header_after c.read_part.ensures.step.change c.args.slot.now 34 _ c.in_ok-read_part.ensures.bytes

pub returns-then-is_header-clause-free : goal.returns-then-is_header-clause-free
returns-then-is_header-clause-free g c =
    let a = g.C.Calls.state c.args.calls.now in
    free_for_own a c.args.seen.now c.args.slot.now c.args.item.now c.read_part.new.into c.is_header.ensures.len c.if-is_header.ensures.same c.in_ok-read_part.ensures.bytes

pub returns-clause-free : goal.returns-clause-free
returns-clause-free g c =
    let a = g.C.Calls.state c.args.calls.now in
    on_ok c.check_free.result c.check_free.ensures.free (λ free. free_for_any a c.args.seen.now c.args.slot.now c.args.item.now
    (free_before c.read_part.ensures.step.change c.args.seen.now c.args.slot.now free))

pub returns-clause-cause : goal.returns-clause-cause
returns-clause-cause g c =
    let a = g.C.Calls.state c.args.calls.now in
    let not = not_held a c.args.slot.now c.read_part.new.into c.args.item.now c.is_header.ensures.len c.is_header.ensures.name c.if-is_header.ensures.same
    c.in_ok-read_part.ensures.bytes in
    on_err c.check_free.result c.check_free.ensures.cause (λ why.
    or_by (fault_after (λ image. IsLast image (seen_in c.args.seen.now) c.args.slot.now) c.read_part.ensures.step why)
    (λ last. (last.0, (last.1, lacks_cell a c.args.slot.now c.requires.slot c.args.item.now not))))
