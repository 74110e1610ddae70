use Rattle.mig_save.proofs.Common.{Content, List, Made, SaveMoment, SaveStep, after_save_step, ap, arith, content_of, fold_more, get_or, length, save_after, sym, take, unsaved, ℕ, ◌+◌, ◌<◌, ◌∙◌, ◌≡◌}
use Rattle.mig_save.proofs.mem_save.MemSave.stands.Goals as goal

-- the moment after one step more
one_more : (first : Content) (steps read : List SaveStep) (i : ℕ) → read ≡ steps → i < length steps → after_save_step (save_after first (take i steps)) (get_or read i Made) ≡ save_after first (take (i + 1) steps)
one_more first steps read i same inside =
    ap (λ (l : List SaveStep). after_save_step (save_after first (take i steps)) (get_or l i Made)) same ∙ sym (fold_more after_save_step (unsaved first) steps i Made inside)

pub loop-step-preserved : goal.loop-step-preserved
loop-step-preserved c =
    let first = content_of c.args.self.now.first in
    let steps = c.args.self.now.steps.items in
    let i = c.loop-step.step-index in
    let m = save_after first (take i steps) in
    let inside : i < length steps = omega arith in
    let more = one_more first steps c.deref-step-items.result.now i c.deref-step-items.ensures.value inside in (
      c.in_ok-follow.ensures.stands m c.loop-step.invariant.0 c.loop-step.invariant.1 ∙ ap (λ (x : SaveMoment). x.stands) more,
      c.in_ok-follow.ensures.beside m c.loop-step.invariant.1 ∙ ap (λ (x : SaveMoment). x.beside) more,
    )
