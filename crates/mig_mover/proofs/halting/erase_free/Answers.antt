use Rattle.mig_mover.proofs.Common.{AreErased, HoldsZeros, Image, Spot, arith, get_or, on_ok_is, refl, slot_of, still_none, subst, sync_same}
use Rattle.mig_mover.proofs.Common.{then_step, then_sync}
use Rattle.mig_mover.proofs.HaltSteps.{cases_vacant, each_free, erased_more, no_vacancy, vacancy_asked, vacancy_disk, vacancy_free}
use Rattle.mig_mover.proofs.SeenSlots.{cause_ground, ground_after, ground_err, not_last, seen_vacant}
use Rattle.mig_mover.proofs.halting.erase_free.Goals as goal

pub erase_vacant-requires-clause-disk : goal.erase_vacant-requires-clause-disk
erase_vacant-requires-clause-disk g c = vacancy_disk c.vacancies-v-items.ensures.valid c.vacancies-v-items.ensures.vacancies c.loop-v-test.true

pub erase_vacant-requires-clause-asked : goal.erase_vacant-requires-clause-asked
erase_vacant-requires-clause-asked g c = λ vacant. vacancy_asked c.vacancies-v-items.ensures.valid c.vacancies-v-items.ensures.vacancies
    c.loop-v-test.true g.S.Store.asked c.requires.asked

pub returns-in_err-erase_vacant-clause-change : goal.returns-in_err-erase_vacant-clause-change
returns-in_err-erase_vacant-clause-change g c =
    then_step _ _ _ _ _ (vacancy_free c.vacancies-v-items.ensures.valid c.vacancies-v-items.ensures.vacancies c.loop-v-test.true c.requires.most)
    c.loop-v.invariant.change c.erase_vacant.ensures.change

pub loop-v-preserved : goal.loop-v-preserved
loop-v-preserved g c =
    let is = c.vacancies-v-items.ensures.valid in
    let v = get_or c.vacancies-v-items.result.now c.loop-v.v-index no_vacancy in
    let free = vacancy_free is c.vacancies-v-items.ensures.vacancies c.loop-v-test.true c.requires.most in
    record {
      erased = erased_more is c.vacancies-v-items.ensures.vacancies c.loop-v-test.true c.erase_vacant.ensures.change.told c.loop-v.invariant.erased
          c.in_ok-erase_vacant.ensures.erased;
      change = then_step _ _ _ _ _ free c.loop-v.invariant.change c.erase_vacant.ensures.change;
      later = omega (arith, c.loop-v.invariant.later, c.erase_vacant.ensures.cause.later);
      seen = λ seeing. seen_vacant c.args.job.now is c.args.found c.requires.most _ _ (c.loop-v.invariant.seen seeing)
          (slot_of c.args.job.now.input v.spot)
          (cases_vacant v c.args.found) (λ vacant. free _ (vacant, refl)) _ _ c.erase_vacant.ensures.change.told c.erase_vacant.ensures.seen
          c.in_ok-erase_vacant.ensures.erased;
    }

pub returns-in_err-erase_vacant-clause-cause : goal.returns-in_err-erase_vacant-clause-cause
returns-in_err-erase_vacant-clause-cause g c =
    let is = c.vacancies-v-items.ensures.valid in
    ground_err _ c.loop-v.invariant.later c.erase_vacant.ensures.cause.later (λ refuses why seeing.
    not_last c.args.job.now is c.args.found c.requires.most _ _ (c.loop-v.invariant.seen seeing) _
    (vacancy_free is c.vacancies-v-items.ensures.vacancies c.loop-v-test.true c.requires.most _ (why.0, refl)) why.1)
    c.in_err-erase_vacant.ensures.cause.failed

pub returns-clause-erased : goal.returns-clause-erased
returns-clause-erased g c =
    let none = still_none _ _ _ c.requires.none c.loop-v.invariant.change in
    on_ok_is c.sync.result (subst (λ (image : Image). AreErased c.args.job.now c.args.found image)
    (sync_same _ _ none c.sync.ensures.ends.0 c.sync.ensures.ends.1)
    (each_free c.vacancies-v-items.ensures.valid c.vacancies-v-items.ensures.vacancies c.requires.most
    (λ (p : Spot). HoldsZeros ((g.S.Store.state c.loop-v.store).reads (slot_of c.args.job.now.input p)))
    (λ k d low lt. c.loop-v.invariant.erased k d low (omega (arith, lt, c.loop-v-test.false)))))

pub returns-clause-change : goal.returns-clause-change
returns-clause-change g c = then_sync _ _ _ _ c.requires.none c.loop-v.invariant.change c.sync.ensures.ends.0 c.sync.ensures.ends.1

pub returns-clause-cause : goal.returns-clause-cause
returns-clause-cause g c = ground_after c.sync.result c.loop-v.invariant.later (λ none. absurd none) (cause_ground c.sync.result c.sync.ensures.cause)
