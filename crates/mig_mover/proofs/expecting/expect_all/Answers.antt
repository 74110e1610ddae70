use Rattle.mig_mover.proofs.Common.{AreAlike, Image, IsKept, IsSeen, ap, arith, on_ok_is, quiet_same, remembers_then, slot_of, subst, sym}
use Rattle.mig_mover.proofs.Common.{then_quiet}
use Rattle.mig_mover.proofs.AskedSlots.{all_asked}
use Rattle.mig_mover.proofs.SeenSlots.{ground_after, ground_err, made_seen, seen_on}
use Rattle.mig_mover.proofs.expecting.expect_all.Given as given
use Rattle.mig_mover.proofs.expecting.expect_all.Goals as goal
use Rattle.mig_mover.proofs.expecting.expect_all.Goals.{After-expect_free}

pub returns-clause-asked : goal.returns-clause-asked
returns-clause-asked g c = on_ok_is c.expect_copies.result (all_asked c.args.job.now c.keeps_rules.ensures g.S.Store.asked c.args.found
    c.requires.most
    c.in_ok-expect_shifted.ensures.asked c.in_ok-expect_free.ensures.asked)

-- what the cells show as they did, and that the items were seen
made : (g : given.Over) (c : goal.After-expect_free g) → IsKept c.args.job.now (g.S.Store.state c.args.store.now).reads c.args.found
    → IsSeen c.args.job.now (g.S.Store.seen c.expect_shifted.new.store) (g.S.Store.state c.expect_shifted.new.store).reads c.args.found
made g c kept = subst (λ (image : Image). IsSeen c.args.job.now (g.S.Store.seen c.expect_shifted.new.store) image c.args.found)
    (quiet_same _ _ c.expect_shifted.ensures.change)
    (made_seen c.args.job.now c.keeps_rules.ensures c.args.found c.requires.most _ _ kept.items c.in_ok-expect_shifted.ensures.noted kept.free)

pub returns-in_err-expect_free-clause-cause : goal.returns-in_err-expect_free-clause-cause
returns-in_err-expect_free-clause-cause g c = ground_err _ c.expect_shifted.ensures.cause.later c.expect_free.ensures.cause.later
    (λ refuses not kept. not (made g (goal.at.returns-in_err-expect_free-clause-cause g c).After-expect_free kept))
    c.in_err-expect_free.ensures.cause.failed

pub returns-clause-cause : goal.returns-clause-cause
returns-clause-cause g c =
    let quiet = then_quiet _ _ _ _ c.expect_shifted.ensures.change c.expect_free.ensures.change in
    ground_after c.expect_copies.result (omega (arith, c.expect_shifted.ensures.cause.later, c.expect_free.ensures.cause.later)) (λ not kept.
    not (subst (λ (image : Image). AreAlike c.args.job.now image c.args.found) (quiet_same _ _ quiet) kept.alike)) c.expect_copies.ensures.cause

pub returns-clause-seen : goal.returns-clause-seen
returns-clause-seen g c = on_ok_is c.expect_copies.result (λ refuses kept.
    let job = c.args.job.now in
    let same = quiet_same _ _ (then_quiet _ _ _ _ c.expect_free.ensures.change c.expect_copies.ensures.change) in
    seen_on job c.keeps_rules.ensures c.args.found c.requires.most _ _ (made g (goal.at.returns-clause-seen g c).After-expect_free kept)
    (g.S.Store.seen c.expect_copies.new.store)
    (λ spot name was. remembers_then c.expect_free.ensures.seen c.expect_copies.ensures.seen (slot_of job.input spot) name (λ none. none) was)
    (g.S.Store.state c.expect_copies.new.store).reads (λ spot. ap (λ (image : Image). image (slot_of job.input spot)) (sym same)))
