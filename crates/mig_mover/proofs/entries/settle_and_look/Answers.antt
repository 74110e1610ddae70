use Rattle.mig_mover.proofs.Common.{Gate, HasHead, Head, IfOk, Image, IsSome, is_armed, is_running, look_quiet, quiet_same, remembers_then, rules}
use Rattle.mig_mover.proofs.Common.{subst, ◌≡◌}
use Rattle.mig_mover.proofs.Settling.{if_ok_is, ends_land, ends_settle, settles_quiet, settles_land}
use Rattle.mig_mover.proofs.entries.settle_and_look.Goals as goal

pub returns-in_err-sync-clause-lands : goal.returns-in_err-sync-clause-lands
returns-in_err-sync-clause-lands g c = ends_land c.sync.ensures.ends.0 _ _ c.sync.ensures.ends.1

pub returns : goal.returns
returns g c =
    let quiet = look_quiet _ _ c.in_ok-sync.ensures.landed c.look.ensures.change in
    let settled = ends_settle c.sync.ensures.ends.0 _ _ c.sync.ensures.ends.1 c.in_ok-sync.ensures.landed c.in_ok-sync.ensures.settled in
    let settles = settles_quiet _ _ settled _ quiet in
    record {
      settles = if_ok_is c.look.result settles;
      gate = subst (λ (image : Image). IfOk c.look.result (λ seen. IsSome (image Gate) → is_running seen ≡ is_armed image)) (quiet_same _ _ quiet)
          c.look.ensures.gate;
      head = subst (λ (image : Image). IfOk c.look.result (λ seen. HasHead seen (image Head))) (quiet_same _ _ quiet) c.look.ensures.head;
      lands = settles_land _ _ settles;
      seen = remembers_then c.sync.ensures.seen c.look.ensures.seen;
      cause = search rules;
    }
