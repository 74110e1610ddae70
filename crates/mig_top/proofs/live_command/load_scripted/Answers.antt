use Rattle.mig_top.proofs.Common.{[], four_and, inl, names_in, refl, ◌∷◌}
use Rattle.mig_top.proofs.Steps.{fails_first, then_loads, then_reads}
use Rattle.mig_top.proofs.live_command.load_scripted.Goals as goal

pub returns-in_err-bytes-clause-takes : goal.returns-in_err-bytes-clause-takes
returns-in_err-bytes-clause-takes g c = fails_first (c.in_err-bytes.ensures.takes (c.args.script.now ∷ [])) c.from_residual.ensures.1 (λ files o s. inl s)

pub returns-in_err-last-clause-takes : goal.returns-in_err-last-clause-takes
returns-in_err-last-clause-takes g c =
    let others = c.args.script.now ∷ [] in
    then_loads _ (c.in_ok-bytes.ensures.takes others) c.load_plan.ensures.same c.load_plan.ensures.later
    (fails_first (c.in_err-last.ensures.takes (four_and (names_in c.args.files) others) refl)
    c.from_residual-in_err-last.ensures.1 (λ files o s. inl s))

pub returns-clause-takes : goal.returns-clause-takes
returns-clause-takes g c =
    let others = c.args.script.now ∷ [] in
    let answer = rw (c.files.ensures, c.deref.ensures.value, c.deref-2.ensures.value) at c.scripted_job.ensures.takes in
    then_loads _ (c.in_ok-bytes.ensures.takes others) c.load_plan.ensures.same c.load_plan.ensures.later
    (then_reads _ (c.in_ok-last.ensures.takes (four_and (names_in c.args.files) others) refl) answer)
