use Rattle.mig_files.proofs.Common.{false≢true, refl, sym}
use Rattle.mig_files.proofs.TrackingSteps.{place_written}
use Rattle.mig_files.proofs.pieces.write_noted.Goals as goal

pub returns-in-Ok-clause-step : goal.returns-in-Ok-clause-step
returns-in-Ok-clause-step g c = record {
  tracked = place_written c.args.place.now c.requires.tracked c.requires.alive c.requires.noted refl refl refl refl
      (λ off. c.in-Ok.ensures.named (c.either-tracked.ensures off).1
      (c.requires.tracked.named (c.either-tracked.ensures off).0)) c.write_at.ensures.flags c.write_at.ensures.rights.claimed;
  change = c.write_at.ensures.change;
  later = c.write_at.ensures.cause.later;
  more = c.write_at.ensures.cause.more;
}

pub returns-in-Err-clause-step : goal.returns-in-Err-clause-step
returns-in-Err-clause-step g c = record {
  tracked = place_written c.args.place.now c.requires.tracked c.requires.alive c.requires.noted refl refl refl refl
      (λ off. absurd (false≢true (sym off))) c.write_at.ensures.flags c.write_at.ensures.rights.claimed;
  change = c.write_at.ensures.change;
  later = c.write_at.ensures.cause.later;
  more = c.write_at.ensures.cause.more;
}
