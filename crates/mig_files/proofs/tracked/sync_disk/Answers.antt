use Rattle.mig_files.proofs.Common.{Disk, ap, refl}
use Rattle.mig_files.proofs.TrackingSteps.{place_synced, synced_alive}
use Rattle.mig_files.proofs.tracked.sync_disk.Goals as goal

pub returns-in-Ok-clause-step : goal.returns-in-Ok-clause-step
returns-in-Ok-clause-step g c =
    let leaves = c.make.ensures.leaves in
    record {
      tracked = place_synced (Disk c.args.name.now) c.requires.tracked c.requires.alive
          (record { claimed = refl; made = refl; lost = refl }) leaves c.in-Ok.ensures.claimed c.in-Ok.ensures.done
          (λ p out. c.remove.ensures.kept p (λ e. out (ap Disk e))) (λ out off. off);
      change = leaves.change;
      later = leaves.later;
      more = leaves.more;
    }

pub returns-in-Ok-clause-kept : goal.returns-in-Ok-clause-kept
returns-in-Ok-clause-kept g c = synced_alive c.requires.alive c.make.ensures.leaves c.in-Ok.ensures.claimed c.in-Ok.ensures.done
