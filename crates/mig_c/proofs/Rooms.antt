-- Room that always suffices for a plan.
use Rattle.mig_c.proofs.Common.{Answers, HandsBoth, MAX_FILE_BYTES, Roomy, Slice, TOO_SHORT, ThreeFiles, arith, code_most, length, plans_bytes, refl}
use Rattle.mig_c.proofs.Common.{suc, sym, zero, ℕ, ⊎_elim, ◌∙◌, ◌≡◌, ◌≢◌, ◌≤◌}
use Rattle.mig_c.proofs.HandedBack.{ends_done}
use Rattle.mig_cert.proofs.CertLengths.{short_text as short_cert}
use Rattle.mig_commands.proofs.Exactness.{accepted_valid}
use Rattle.mig_text.proofs.ShiftCounts.{short_text as short_plan}

-- room is wanting only for texts of a command that is done
wanting : {status result : ℕ} {AllFit : Type 0} → Answers status AllFit result → result ≡ TOO_SHORT → status ≢ TOO_SHORT → (status ≡ 0) × (AllFit → ⊥)
wanting {status = zero} a is low = ⊎_elim (λ d. absurd (let e = d.1 in omega (arith, is, e))) (λ d. (refl, d.0)) (a.done refl)
wanting {status = suc n} a is low = absurd (low (sym (a.other (λ e. cc)) ∙ is))

-- a plan and its certificate are short
pub plan_fits : {bytes : ThreeFiles} {plan text : Slice} {result : ℕ} → HandsBoth (plans_bytes bytes) plan text result → MAX_FILE_BYTES ≤ length plan.before → MAX_FILE_BYTES ≤ length text.before → result ≢ TOO_SHORT
plan_fits {bytes = bytes} {plan = plan} {text = text} h plan_room text_room is =
    let w = wanting h.answers is (λ e. let most = code_most h.ends.outcome in omega (arith, h.ends.is, e, most)) in
    let d = ends_done h.ends w.0 in
    let valid = accepted_valid Roomy bytes d.0 d.1 in
    let made = d.2.made.planned in
    let plan_short = short_plan d.0 d.2.rounds h.made valid made.runs made.once d.2.plan_spelled in
    let cert_short = short_cert d.0 d.2.certificate h.told valid d.2.cert_spelled in
    w.1 (omega (arith, plan_short, plan_room), omega (arith, cert_short, text_room))
