use Rattle.mig_live.proofs.ActionLaws.{left_copy, makes}
use Rattle.mig_live.proofs.Common.{Cell, Changes, Copy, Flight, IsCopy, [], actions_after, ap, arith, began, drop, ended, flight_of, is_slot, length}
use Rattle.mig_live.proofs.Common.{on_ok_weaker, refl, round_at, round_size, slot_of, subst, suc, sym, take, ℕ, ◌+◌, ◌<◌, ◌∙◌, ◌∷◌, ◌≡◌, ◌≤◌}
use Rattle.mig_live.proofs.Middle.{copy_leaves, copy_more, copy_apart}
use Rattle.mig_live.proofs.Places.{at_next, shift_of}
use Rattle.mig_live.proofs.SeenSteps.{seen_more}
use Rattle.mig_live.proofs.StepLaws.{on_ok_both}
use Rattle.mig_jobs.proofs.JobRounds.{no_shift}
use Rattle.mig_mover.proofs.SeenCopies.{not_uncopiable}
use Rattle.mig_mover.proofs.SeenSlots.{ground_with}
use Rattle.mig_mover.proofs.EraseSteps.{to_named}
use Rattle.mig_live.proofs.steps.copy_next.Goals as goal

pub copy_slot-requires : goal.copy_slot-requires
copy_slot-requires g c =
    let job = c.args.job.now in
    let k = c.args.k in
    let f : Flight = record { from = c.copy-from.result.0; to = c.copy-from.result.1 } in
    let at = at_next job.input job.plan k c.args.place f c.copy-from.ensures in
    let s = shift_of job.input (round_at job.plan (suc k)) c.args.place f at in
    let next : suc k ≡ k + 1 = omega arith in
    let within = subst (λ (n : ℕ). c.args.place < length (round_at job.plan n)) next c.requires.place in record {
      slots = (ap is_slot s.2, ap is_slot s.3);
      apart = λ same. copy_apart job.input c.keeps_rules.ensures.valid job.plan c.keeps_rules.ensures.runs k c.requires.more s.0 c.args.place s.1
          (sym s.2 ∙ same ∙ s.3);
      asked = c.requires.asked f.to (to_named job.input job.plan (k + 1) c.args.place within f no_shift c.copy-from.ensures);
      none = c.requires.none;
    }

pub returns : goal.returns
returns g c =
    let job = c.args.job.now in
    let is = c.keeps_rules.ensures in
    let k = c.args.k in
    let place = c.args.place in
    let more = c.requires.more in
    let most : k ≤ length job.plan = omega (arith, c.requires.more) in
    let f : Flight = record { from = c.copy-from.result.0; to = c.copy-from.result.1 } in
    let at = at_next job.input job.plan k place f c.copy-from.ensures in
    let s = shift_of job.input (round_at job.plan (suc k)) place f at in
    let it : flight_of job.input s.0 ≡ f = λ i. record { from = sym s.2 i; to = sym s.3 i } in
    let old = g.S.Store.state c.args.store.now in
    let new = g.S.Store.state c.copy_slot.new.store in
    let seen = g.S.Store.seen c.args.store.now in
    let did = c.copy_slot.ensures in
    let added = take did.part.0 (began f ∷ ended f ∷ []) in
    let change = subst (λ (cell : Cell). Changes (λ q. q ≡ cell) (λ q. q ≡ cell) added old new) s.3 did.part.1 in record {
      any_moment = λ asked contents e way.
          copy_leaves job.input is.valid job.plan is.runs job.digest contents k most asked more s.0 old new e place s.1 added change way;
      done = on_ok_both c.copy_slot.result (λ copied landed asked contents e way.
          copy_more job.input is.valid job.plan is.runs job.digest contents k most asked more s.0 old new e place s.1 added change way
          (subst (λ (cell : Cell). IsCopy (old.reads (slot_of job.input s.0.from)) (new.reads cell)) s.3
          (subst (λ (cell : Cell). IsCopy (old.reads cell) (new.reads f.to)) s.2 copied)) landed) did.copied did.landed;
      first = makes c.copy_slot.result _ _ (Copy f) old new
          (subst (λ (h : Flight). drop place (actions_after job k) ≡ Copy h ∷ drop (place + 1) (actions_after job k)) it
          (left_copy job k more place s.0 s.1))
          did.part.0 did.part.1 (on_ok_both c.copy_slot.result (λ made copied. record { change = made; leaves = copied }) did.made did.copied);
      landed = did.landed;
      seen = on_ok_weaker c.copy_slot.result (λ noted refuses sight. seen_more job is k most more place c.requires.place f at seen old.reads
          (λ slot item name was. g.met.S.Store.holds_seen c.args.store.now slot item refuses name was) (g.S.Store.seen c.copy_slot.new.store) did.seen
          (round_size job.plan k + place) refl sight new.reads did.part.1.told (noted refuses)
          (λ slot item name was. g.met.S.Store.holds_seen c.copy_slot.new.store slot item refuses name was)) did.noted;
      cause = ground_with c.copy_slot.result (omega arith)
          (λ refuses why seeing. not_uncopiable job is k more place c.requires.place f at seen old.reads seeing
          (λ slot item name was. g.met.S.Store.holds_seen c.args.store.now slot item refuses name was) (g.S.Store.seen c.copy_slot.new.store)
          did.seen why) did.cause;
    }
