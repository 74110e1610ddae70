use Rattle.mig_files.proofs.Common.{sym, ◌∙◌}
use Rattle.mig_files.proofs.Derivation.{image_before, on_ok}
use Rattle.mig_files.proofs.Headers.{header_after}
use Rattle.mig_files.proofs.Grounds.{on_err, fault_after}
use Rattle.mig_files.proofs.CopySteps.{no_copy}
use Rattle.mig_files.specs.Seeing.{HoldsCopy}
use Rattle.mig_store.specs.Grounds.{SlotsDiffer}
use Rattle.mig_files.proofs.copies.expects_copy.Goals as goal

pub compare-requires-clause-header : goal.compare-requires-clause-header
compare-requires-clause-header g c = sym c.first_of.ensures.first ∙ c.in-Some.ensures.some

pub compare-requires-clause-read : goal.compare-requires-clause-read
compare-requires-clause-read g c = header_after c.slot_at.ensures.step.change c.args.from.now 4096 _ c.in_ok-slot_at.ensures.bytes

pub returns-in-Some-clause-same : goal.returns-in-Some-clause-same
returns-in-Some-clause-same g c = on_ok c.compare.result c.compare.ensures.same (image_before (λ image. HoldsCopy image c.args.from.now c.args.to.now) c.slot_at.ensures.step.change)

pub returns-in-Some-clause-cause : goal.returns-in-Some-clause-cause
returns-in-Some-clause-cause g c =
    on_err c.compare.result c.compare.ensures.cause (fault_after (λ image. SlotsDiffer image c.args.from.now c.args.to.now) c.slot_at.ensures.step)

pub returns-in-None-clause-same : goal.returns-in-None-clause-same
returns-in-None-clause-same g c =
    no_copy (g.C.Calls.state c.args.calls.now) c.args.from.now c.args.to.now c.requires.slots c.slot_at.new.into c.slot_at.ensures.len c.in_ok-slot_at.ensures.bytes
    (λ item name has. c.in-None.ensures.none item name (c.first_of.ensures.first ∙ has))
