use Rattle.mig_mover.proofs.SeenSlots.{ground_to, not_last, seen_erased, source_free_slot}
use Rattle.mig_live.proofs.ActionLaws.{left_erase, makes}
use Rattle.mig_live.proofs.Common.{HoldsZeros, Cell, ChangesOnly, Erase, Flight, actions_since, ap, drop, flights_same, is_slot, on_ok_is}
use Rattle.mig_live.proofs.Common.{on_ok_weaker, round_at, refl, subst, sym, ◌+◌, ◌∙◌, ◌∷◌, ◌≡◌}
use Rattle.mig_live.proofs.Middle.{erase_leaves, erase_more}
use Rattle.mig_live.proofs.Places.{shift_of}
use Rattle.mig_jobs.proofs.JobRounds.{no_shift}
use Rattle.mig_mover.proofs.EraseSteps.{from_named, from_source}
use Rattle.mig_live.proofs.steps.erase_next.Goals as goal

pub erase-requires-clause-slot : goal.erase-requires-clause-slot
erase-requires-clause-slot g c =
    let f : Flight = record { from = c.copy-from.result.0; to = c.copy-from.result.1 } in
    ap is_slot (shift_of c.args.job.now.input (round_at c.args.job.now.plan c.args.k) c.args.place f c.copy-from.ensures).2

pub erase-requires-clause-asked : goal.erase-requires-clause-asked
erase-requires-clause-asked g c =
    let f : Flight = record { from = c.copy-from.result.0; to = c.copy-from.result.1 } in
    let job = c.args.job.now in
    c.requires.asked f.from (from_named job.input job.plan c.args.k c.args.place c.requires.place f no_shift c.copy-from.ensures)

pub returns : goal.returns
returns g c =
    let job = c.args.job.now in
    let is = c.keeps_rules.ensures in
    let k = c.args.k in
    let place = c.args.place in
    let most = c.requires.most in
    let f : Flight = record { from = c.copy-from.result.0; to = c.copy-from.result.1 } in
    let s = shift_of job.input (round_at job.plan k) place f c.copy-from.ensures in
    let free = source_free_slot job is k most f.from
    (from_source job.input job.plan k place c.requires.place f no_shift c.copy-from.ensures f.from refl) in
    let old = g.S.Store.state c.args.store.now in
    let new = g.S.Store.state c.erase.new.store in
    let seen = g.S.Store.seen c.args.store.now in
    let did = c.erase.ensures in
    let change = subst (λ (cell : Cell). ChangesOnly (λ q. q ≡ cell) old new) s.2 did.change in record {
      any_moment = λ asked contents way.
          erase_leaves job.input is.valid job.plan is.runs job.digest contents k most asked s.0 old new place s.1 change way;
      done = on_ok_weaker c.erase.result (λ erased asked contents way.
          erase_more job.input is.valid job.plan is.runs job.digest contents k most asked s.0 old new place s.1 change way
          (subst (λ (cell : Cell). HoldsZeros (new.reads cell)) s.2 erased)) did.erased;
      first = makes c.erase.result _ _ (Erase f.from) old new
          (subst (λ (cell : Cell). drop place (actions_since job k) ≡ Erase cell ∷ drop (place + 1) (actions_since job k)) (sym s.2)
          (left_erase job k place s.0 s.1)) 0 did.change
          (on_ok_weaker c.erase.result (λ erased. record { change = did.change; leaves = erased }) did.erased);
      landed = on_ok_is c.erase.result (flights_same old new did.change.events ∙ c.requires.none);
      seen = on_ok_weaker c.erase.result (λ erased seeing. seen_erased job is k most seen old.reads seeing f.from free
          (g.S.Store.seen c.erase.new.store) new.reads did.change.told did.seen erased) did.erased;
      cause = ground_to c.erase.result (λ last seeing. not_last job is k most seen old.reads seeing f.from free last) did.cause;
    }
