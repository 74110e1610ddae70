use Rattle.mig_files.proofs.Common.{image_of, inr, refl, seen_in, ◌∙◌}
use Rattle.mig_files.proofs.TrackingSteps.{step_at_cell}
use Rattle.mig_files.proofs.Derivation.{on_ok}
use Rattle.mig_files.proofs.Headers.{copied}
use Rattle.mig_files.proofs.Holding.{lost_but_before}
use Rattle.mig_files.proofs.Grounds.{on_err, or_by, fault_after, other_last}
use Rattle.mig_files.specs.Grounds.{IsLastBut}
use Rattle.mig_files.specs.Sights.{holds_cell}
use Rattle.mig_files.proofs.writes.copy_item.Goals as goal

pub returns-clause-copied : goal.returns-clause-copied
returns-clause-copied g c = on_ok c.put_item.result c.put_item.ensures.written (λ written. copied _ _ _ c.in_ok-item.ensures.bytes written)

pub returns-clause-free : goal.returns-clause-free
returns-clause-free g c = on_ok c.put_item.result c.put_item.ensures.free (λ free. (
  c.in_ok-item.item,
  record {
    name = c.in_ok-item.ensures.named.0;
    held = c.in_ok-item.ensures.holds;
    free = lost_but_before c.read_item.ensures.step.change c.args.to.now c.in_ok-item.item free;
  },
))

pub returns-clause-noted : goal.returns-clause-noted
returns-clause-noted g c = on_ok c.put_item.result c.put_item.ensures.noted (λ noted.
    (c.in_ok-item.item, c.in_ok-item.ensures.named.0, c.put_item.ensures.others c.args.from.now c.requires.apart ∙ c.in_ok-item.ensures.noted, noted))

pub returns-clause-cause : goal.returns-clause-cause
returns-clause-cause g c =
    let a = g.C.Calls.state c.args.calls.now in
    let held = holds_cell a c.args.from.now c.requires.slots.0 c.in_ok-item.item c.in_ok-item.ensures.named.0 c.in_ok-item.ensures.holds in
    on_err c.put_item.result c.put_item.ensures.cause (λ why.
    or_by (fault_after (λ image. IsLastBut image (seen_in c.put_item.new.seen) c.args.to.now c.in_ok-item.item) c.read_item.ensures.step why)
    (λ last. (last.0, inr (other_last (image_of a) c.args.from.now c.args.to.now c.in_ok-item.item held last.1))))

pub returns-clause-step : goal.returns-clause-step
returns-clause-step g c = step_at_cell c.args.to.now refl refl refl c.read_item.ensures.step c.put_item.ensures.step
