use Rattle.mig_top.proofs.Common.{four_and, inl, names_in, refl}
use Rattle.mig_top.proofs.Steps.{fails_first, then_loads, then_reads}
use Rattle.mig_top.proofs.loads.load_input.Goals as goal

pub returns-in_err-layout-clause-takes : goal.returns-in_err-layout-clause-takes
returns-in_err-layout-clause-takes g c = λ others.
    fails_first (c.in_err-layout.ensures.takes (four_and (names_in c.args.files) others) refl refl) c.from_residual.ensures.1 (λ files o s. inl s)

pub returns-in_err-next-clause-takes : goal.returns-in_err-next-clause-takes
returns-in_err-next-clause-takes g c = λ others.
    let names = four_and (names_in c.args.files) others in
    then_loads _ (c.in_ok-layout.ensures.takes names refl refl) c.load_two.ensures.same c.load_two.ensures.later
    (fails_first (c.in_err-next.ensures.takes names refl) c.from_residual-in_err-next.ensures.1 (λ files o s. inl s))

pub returns-clause-takes : goal.returns-clause-takes
returns-clause-takes g c = λ others.
    let names = four_and (names_in c.args.files) others in
    then_loads _ (c.in_ok-layout.ensures.takes names refl refl) c.load_two.ensures.same c.load_two.ensures.later
    (then_reads _ (c.in_ok-next.ensures.takes names refl) (record { passes = refl; stops = tt }))
