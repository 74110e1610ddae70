use Rattle.mig_euler.proofs.Waiting.{waits_found, waits_none}
use Rattle.mig_euler.proofs.LinkLaws.{PassedBelow-next}
use Rattle.mig_euler.proofs.links.waiting_edge.Goals as goal

pub returns-then-waits_at-clause-found : goal.returns-then-waits_at-clause-found
returns-then-waits_at-clause-found c = λ h. waits_found _ _ _ _ _ _ h c.requires.lengths c.if-waits_at.ensures

pub loop-place-preserved : goal.loop-place-preserved
loop-place-preserved c =
    record {
      within = c.next_place-place.ensures.within;
      passed = PassedBelow-next c.args.ends.now c.args.directions.now c.args.disk c.loop-place.place c.next_place-place.result c.loop-place.invariant.passed
          (waits_none _ _ _ _ _ _ c.loop-place-test.true c.requires.lengths c.if-waits_at.ensures) c.next_place-place.ensures;
    }
