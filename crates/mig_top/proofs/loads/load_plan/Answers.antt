use Rattle.mig_top.proofs.Common.{four_and, inl, names_in, refl}
use Rattle.mig_top.proofs.Steps.{fails_first, then_loads, then_reads}
use Rattle.mig_top.proofs.loads.load_plan.Goals as goal

pub returns-in_err-input-clause-takes : goal.returns-in_err-input-clause-takes
returns-in_err-input-clause-takes g c = λ others. fails_first (c.in_err-input.ensures.takes others) c.from_residual.ensures.1 (λ files o s. inl s)

pub returns-in_err-plan-clause-takes : goal.returns-in_err-plan-clause-takes
returns-in_err-plan-clause-takes g c = λ others.
    then_loads _ (c.in_ok-input.ensures.takes others) c.load_input.ensures.same c.load_input.ensures.later
    (fails_first (c.in_err-plan.ensures.takes (four_and (names_in c.args.files) others) refl)
    c.from_residual-in_err-plan.ensures.1 (λ files o s. inl s))

pub returns-clause-takes : goal.returns-clause-takes
returns-clause-takes g c = λ others.
    then_loads _ (c.in_ok-input.ensures.takes others) c.load_input.ensures.same c.load_input.ensures.later
    (then_reads _ (c.in_ok-plan.ensures.takes (four_and (names_in c.args.files) others) refl) (record { passes = refl; stops = tt }))
