use Rattle.mig_live.proofs.Common.{Session, actions_since, ap, arith, cond-false, cond-true, drop, refl, steps_in, subst, suc, sym, ◌+◌, ◌-◌, ◌∙◌}
use Rattle.mig_journal.proofs.Steps.{err_any, failed_ground}
use Rattle.mig_live.proofs.SeenSessions.{seen_before, seen_mark, seen_within}
use Rattle.mig_live.proofs.StepCounts.{shifts_few}
use Rattle.mig_mover.proofs.SeenSlots.{rose_after}
use Rattle.mig_live.proofs.SessionLaws.{made_here, part_here, any_step, within_step, mark_step, at_mark, round_left, some_left, kept_mark}
use Rattle.mig_mover.specs.Erasures.{AreAsked}
use Rattle.mig_live.proofs.live.Live.step.Goals as goal

pub returns-in_err-mark_next-clause-any_moment : goal.returns-in_err-mark_next-clause-any_moment
returns-in_err-mark_next-clause-any_moment g c =
    let i = c.self.inside in
    let it = sym c.self.view_is in
    let full = at_mark i.job.now i.marked i.left i.done c.self.invariant.1 c.args.self it (sym c.is_at_mark.ensures ∙ c.if-is_at_mark.true) in
    any_step i.job.now i.marked i.left i.done c.self.invariant.1 c.args.self it _ _ (steps_in i.job.now.plan i.marked) full
    c.mark_next.ensures.any_moment

pub returns-in_err-mark_next-clause-part : goal.returns-in_err-mark_next-clause-part
returns-in_err-mark_next-clause-part g c =
    let i = c.self.inside in
    let it = sym c.self.view_is in
    let full = at_mark i.job.now i.marked i.left i.done c.self.invariant.1 c.args.self it (sym c.is_at_mark.ensures ∙ c.if-is_at_mark.true) in
    part_here i.job.now i.marked i.left i.done c.self.invariant.1 c.args.self it (steps_in i.job.now.plan i.marked) full _ _
    c.mark_next.ensures.first.part

pub returns-in_err-mark_next-clause-cause : goal.returns-in_err-mark_next-clause-cause
returns-in_err-mark_next-clause-cause g c = failed_ground _ c.mark_next.ensures.cause.later c.in_err-mark_next.ensures.cause.failed

pub invariant_of-result : goal.invariant_of-result
invariant_of-result g c =
    let i = c.self.inside in
    let sum = c.self.invariant.1 in
    let it = sym c.self.view_is in
    let full = at_mark i.job.now i.marked i.left i.done sum c.args.self it (sym c.is_at_mark.ensures ∙ c.if-is_at_mark.true) in
    let some = some_left i.job.now i.marked i.left i.done sum c.args.self it c.requires.left in
    let lt = round_left i.job.now i.marked i.left i.done sum c.self.invariant.0 full some in
    (omega (arith, lt), kept_mark i.job.now i.marked i.left i.done sum lt full, omega arith)

pub returns-then-is_at_mark : goal.returns-then-is_at_mark
returns-then-is_at_mark g c =
    let i = c.self.inside in
    let sum = c.self.invariant.1 in
    let it = sym c.self.view_is in
    let marks = sym c.is_at_mark.ensures ∙ c.if-is_at_mark.true in
    let p = steps_in i.job.now.plan i.marked in
    let full = at_mark i.job.now i.marked i.left i.done sum c.args.self it marks in
    let some = some_left i.job.now i.marked i.left i.done sum c.args.self it c.requires.left in
    let lt = round_left i.job.now i.marked i.left i.done sum c.self.invariant.0 full some in
    let did = c.in_ok-mark_next.ensures in record {
      task = ap (λ (l : Session). l.task) c.self.view_is;
      left = omega (arith, some, ap (λ (l : Session). l.left) c.self.view_is);
      marked = ap (λ (l : Session). l.marked + 1) c.self.view_is ∙ sym (cond-true _ _ _ marks);
      made = made_here i.job.now i.marked i.left i.done sum c.args.self it p full _ _ (actions_since i.job.now (i.marked + 1)) (i.marked + 1)
          (i.left - 1) 0 (kept_mark i.job.now i.marked i.left i.done sum lt full) refl did.first.made;
      part = part_here i.job.now i.marked i.left i.done sum c.args.self it p full _ _ c.mark_next.ensures.first.part;
      any_moment = any_step i.job.now i.marked i.left i.done sum c.args.self it _ _ p full c.mark_next.ensures.any_moment;
      in_step = mark_step i.job.now i.marked i.left i.done sum c.args.self it _ _ p full lt refl did.done;
      landed = did.landed;
      seen = λ refuses sight. seen_mark i.job.now i.marked i.left i.done sum lt full _ _
          (did.seen refuses (seen_before i.job.now i.marked i.left i.done sum c.args.self it p full _ _ sight));
      cause = record { later = c.mark_next.ensures.cause.later; failed = tt };
    }

pub returns-in_err-step_within-clause-any_moment : goal.returns-in_err-step_within-clause-any_moment
returns-in_err-step_within-clause-any_moment g c =
    let i = c.self.inside in
    any_step i.job.now i.marked i.left i.done c.self.invariant.1 c.args.self (sym c.self.view_is) _ _ i.done refl c.step_within.ensures.any_moment

pub returns-in_err-step_within-clause-part : goal.returns-in_err-step_within-clause-part
returns-in_err-step_within-clause-part g c =
    let i = c.self.inside in
    part_here i.job.now i.marked i.left i.done c.self.invariant.1 c.args.self (sym c.self.view_is) i.done refl _ _ c.step_within.ensures.first.part

pub returns-in_err-step_within-clause-cause : goal.returns-in_err-step_within-clause-cause
returns-in_err-step_within-clause-cause g c =
    let i = c.self.inside in
    let before = seen_before i.job.now i.marked i.left i.done c.self.invariant.1 c.args.self (sym c.self.view_is) i.done refl in record {
      later = c.step_within.ensures.cause.later;
      failed = err_any _ (rose_after (omega arith) (λ not sight. not (before _ _ sight)) c.in_err-step_within.ensures.cause.failed);
    }

pub overflow_add-result-2 : goal.overflow_add-result-2
overflow_add-result-2 g c =
    let i = c.self.inside in
    omega (arith, c.self.invariant.2, shifts_few i.job.now.plan i.marked, shifts_few i.job.now.plan (suc i.marked), c.keeps_rules.ensures.few_shifts)

pub returns : goal.returns
returns g c =
    let i = c.self.inside in
    let sum = c.self.invariant.1 in
    let it = sym c.self.view_is in
    let some = some_left i.job.now i.marked i.left i.done sum c.args.self it c.requires.left in
    let did = c.in_ok-step_within.ensures in record {
      task = ap (λ (l : Session). l.task) c.self.view_is;
      left = omega (arith, some, ap (λ (l : Session). l.left) c.self.view_is);
      marked = ap (λ (l : Session). l.marked) c.self.view_is ∙ sym (cond-false _ _ _ (sym c.is_at_mark.ensures ∙ c.if-is_at_mark.false));
      made = made_here i.job.now i.marked i.left i.done sum c.args.self it i.done refl _ _ (drop (i.done + 1) (actions_since i.job.now i.marked))
          i.marked (i.left - 1) (i.done + 1) (omega (arith, some, sum)) refl did.first.made;
      part = part_here i.job.now i.marked i.left i.done sum c.args.self it i.done refl _ _ c.step_within.ensures.first.part;
      any_moment = any_step i.job.now i.marked i.left i.done sum c.args.self it _ _ i.done refl c.step_within.ensures.any_moment;
      in_step = within_step i.job.now i.marked i.left i.done sum c.args.self it _ _ i.done refl some did.done;
      landed = did.landed;
      seen = λ refuses sight. seen_within i.job.now i.marked i.left i.done sum some _ _
          (did.seen refuses (seen_before i.job.now i.marked i.left i.done sum c.args.self it i.done refl _ _ sight));
      cause = record { later = c.step_within.ensures.cause.later; failed = tt };
    }

pub step_within-requires-clause-asked : goal.step_within-requires-clause-asked
step_within-requires-clause-asked g c = subst (λ (live : Session). AreAsked g.S.Store.asked live.task) (sym c.self.view_is) c.requires.asked
