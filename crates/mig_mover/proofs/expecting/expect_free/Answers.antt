use Rattle.mig_mover.proofs.Common.{Image, IsVacant, Spot, Vacancy, ap, arith, quiet_same, refl, remembers_then, slot_of, subst, sym, then_quiet}
use Rattle.mig_mover.proofs.HaltSteps.{each_free, no_vacancy, vacancy_disk, vacancy_free}
use Rattle.mig_mover.proofs.SeenSlots.{ground_err, not_last, seen_on}
use Rattle.mig_mover.proofs.TargetLaws.{next_within}
use Rattle.mig_mover.proofs.expecting.expect_free.Goals as goal

pub expect_vacant-requires-clause-disk : goal.expect_vacant-requires-clause-disk
expect_vacant-requires-clause-disk g c = vacancy_disk c.vacancies-v-items.ensures.valid c.vacancies-v-items.ensures.vacancies c.loop-v-test.true

pub loop-v-preserved : goal.loop-v-preserved
loop-v-preserved g c = record {
  asked = next_within (λ (v : Vacancy). IsVacant v c.args.found → g.S.Store.asked (slot_of c.args.job.now.input v.spot))
      c.vacancies-v-items.result.now
      c.loop-v.v-index no_vacancy c.loop-v-test.true c.loop-v.invariant.asked c.in_ok-expect_vacant.ensures.asked;
  seen = remembers_then c.loop-v.invariant.seen c.expect_vacant.ensures.seen;
  change = then_quiet _ _ _ _ c.loop-v.invariant.change c.expect_vacant.ensures.change;
  later = omega (arith, c.loop-v.invariant.later, c.expect_vacant.ensures.cause.later);
}

pub returns-clause-asked : goal.returns-clause-asked
returns-clause-asked g c = λ cell of. subst g.S.Store.asked of.3
    (each_free c.vacancies-v-items.ensures.valid c.vacancies-v-items.ensures.vacancies c.requires.most
    (λ (p : Spot). g.S.Store.asked (slot_of c.args.job.now.input p))
    (λ k d low lt. c.loop-v.invariant.asked k d low (omega (arith, lt, c.loop-v-test.false))) of.0 of.1 of.2)

pub returns-in_err-expect_vacant-clause-cause : goal.returns-in_err-expect_vacant-clause-cause
returns-in_err-expect_vacant-clause-cause g c =
    let job = c.args.job.now in
    let is = c.vacancies-v-items.ensures.valid in
    let same = quiet_same _ _ c.loop-v.invariant.change in
    ground_err _ c.loop-v.invariant.later c.expect_vacant.ensures.cause.later (λ refuses why seeing.
    not_last job is c.args.found c.requires.most _ _
    (seen_on job is c.args.found c.requires.most _ _ seeing (g.S.Store.seen c.loop-v.store)
    (λ spot name was. c.loop-v.invariant.seen (slot_of job.input spot) name (λ none. none) was) (g.S.Store.state c.loop-v.store).reads
    (λ spot. ap (λ (image : Image). image (slot_of job.input spot)) (sym same))) _
    (vacancy_free is c.vacancies-v-items.ensures.vacancies c.loop-v-test.true c.requires.most _ (why.0, refl)) why.1)
    c.in_err-expect_vacant.ensures.cause.failed
