use Rattle.mig_live.proofs.ActionLaws.{made_more, made_none, part_after}
use Rattle.mig_live.proofs.Common.{Action, AreMade, AreMadeInPart, List, Session, [], actions_left, ap, arith, cases_lt, drop, drop_all, inl, inr}
use Rattle.mig_live.proofs.Common.{length, refl, subst, sym, take, take_all, ℕ, ◌+◌, ◌∙◌, ◌≡◌, ◌≤◌}
use Rattle.std.proofs.Common.{length-drop}
use Rattle.std.specs.Prelude.{min}
use Rattle.mig_journal.proofs.Steps.{err_any}
use Rattle.mig_mover.proofs.SeenSlots.{rose_with}
use Rattle.mig_live.proofs.SessionLaws.{more_steps, none_left}
use Rattle.mig_mover.specs.Erasures.{AreAsked}
use Rattle.mig_live.proofs.live.Live.advance.Goals as goal

pub returns-in_err-live-clause-any_moment : goal.returns-in_err-live-clause-any_moment
returns-in_err-live-clause-any_moment g c = more_steps c.args.self c.loop.live c.loop.invariant.task _ _ _ c.loop.invariant.any_moment
    c.loop.invariant.in_step c.step.ensures.any_moment

pub loop-init : goal.loop-init
loop-init g c = record {
  task = refl;
  left = omega arith;
  rest = refl;
  made = made_none (g.S.Store.state c.args.store.now);
  any_moment = λ asked contents at. record { later = omega arith; since = λ t image le left. inl left };
  in_step = λ asked contents at. at;
  landed = c.requires.none;
  later = omega arith;
  seen = λ refuses sight. sight;
}

pub loop-preserved : goal.loop-preserved
loop-preserved g c = record {
  task = c.in_ok-live.ensures.task ∙ c.loop.invariant.task;
  left = omega (arith, c.in_ok-live.ensures.left, c.loop.invariant.left);
  rest = (made_more c.loop.counter (actions_left c.args.self) (actions_left c.loop.live) _ _ _ _ c.loop.invariant.rest c.loop.invariant.made
      c.in_ok-live.ensures.made).1;
  made = (made_more c.loop.counter (actions_left c.args.self) (actions_left c.loop.live) _ _ _ _ c.loop.invariant.rest c.loop.invariant.made
      c.in_ok-live.ensures.made).0;
  any_moment = more_steps c.args.self c.loop.live c.loop.invariant.task _ _ _ c.loop.invariant.any_moment c.loop.invariant.in_step
      c.step.ensures.any_moment;
  in_step = λ asked contents at. c.in_ok-live.ensures.in_step asked contents (c.loop.invariant.in_step asked contents at);
  landed = c.in_ok-live.ensures.landed;
  later = omega (arith, c.loop.invariant.later, c.step.ensures.cause.later);
  seen = λ refuses sight. c.in_ok-live.ensures.seen refuses (c.loop.invariant.seen refuses sight);
}

pub returns-in_err-live-clause-part : goal.returns-in_err-live-clause-part
returns-in_err-live-clause-part g c =
    let mid = g.S.Store.state c.loop.store in
    let new = g.S.Store.state c.step.new.store in
    err_any c.from_residual.result (part_after c.loop.counter c.args.count (actions_left c.args.self) _ mid new
    (omega (arith, c.loop-test.true, c.min-end.ensures)) c.loop.invariant.made
    (subst (λ (l : List Action). AreMadeInPart [] (take 1 l) mid new) c.loop.invariant.rest c.step.ensures.part))

-- as many steps as are left are taken, or as many as were asked for
all_taken : (counter count : ℕ) (first live : Session) → counter ≤ min count first.left → min count first.left ≤ counter
    → live.left + counter ≡ first.left
    → actions_left live ≡ drop counter (actions_left first)
    → (take counter (actions_left first) ≡ take count (actions_left first)) × (drop counter (actions_left first) ≡ drop count (actions_left first))
all_taken counter count first live low high sum rest = elim (cases_lt first.left count) [
  | inl few ↦
      let l = actions_left first in
      let none = sym rest ∙ none_left live (omega (arith, low, high, sum, few)) in
      let all : length l ≤ counter = omega (arith, length-drop counter l, ap length none) in
      (take_all counter l all ∙ sym (take_all count l (omega arith)), none ∙ sym (drop_all count l (omega arith)))
  | inr many ↦
      let same : counter ≡ count = omega (arith, low, high, many) in
      (ap (λ (n : ℕ). take n (actions_left first)) same, ap (λ (n : ℕ). drop n (actions_left first)) same)
]

pub returns-clause-rest : goal.returns-clause-rest
returns-clause-rest g c =
    c.loop.invariant.rest ∙ (all_taken c.loop.counter c.args.count c.args.self c.loop.live
    (omega (arith, c.loop.auto.counter-end, c.min-end.ensures, c.left.ensures)) (omega (arith, c.loop-test.false, c.min-end.ensures, c.left.ensures))
    c.loop.invariant.left c.loop.invariant.rest).1

pub returns-clause-made : goal.returns-clause-made
returns-clause-made g c =
    subst (λ (l : List Action). AreMade l (g.S.Store.state c.args.store.now) (g.S.Store.state c.loop.store))
    (all_taken c.loop.counter c.args.count c.args.self c.loop.live (omega (arith, c.loop.auto.counter-end, c.min-end.ensures, c.left.ensures))
    (omega (arith, c.loop-test.false, c.min-end.ensures, c.left.ensures)) c.loop.invariant.left c.loop.invariant.rest).0 c.loop.invariant.made

pub step-requires-clause-asked : goal.step-requires-clause-asked
step-requires-clause-asked g c = subst (AreAsked g.S.Store.asked) (sym c.loop.invariant.task) c.requires.asked

pub returns-in_err-live-clause-cause : goal.returns-in_err-live-clause-cause
returns-in_err-live-clause-cause g c =
    let so_far = c.loop.invariant in
    record {
      later = omega (arith, so_far.later, c.step.ensures.cause.later);
      failed = err_any _ (rose_with so_far.later (λ refuses not sight. not (so_far.seen refuses sight)) c.in_err-live.ensures.cause.failed);
    }
