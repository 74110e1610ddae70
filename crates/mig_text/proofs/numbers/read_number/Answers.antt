use Rattle.mig_text.proofs.Common.{IsNumeralWord, List, ap, arith, decimal, false≢true, number_of, refl, sym, ℕ, ◌∙◌, ◌≡◌}
use Rattle.mig_text.proofs.Numerals.{no_number, no_other, spells_value}
use Rattle.mig_text.proofs.numbers.read_number.Goals as goal

pub returns-then-has_leading_zero : goal.returns-then-has_leading_zero
returns-then-has_leading_zero c = λ n le. no_number c.args.word.now (λ h. h.lead (c.has_leading_zero.ensures.0 c.if-has_leading_zero.true)) n (omega arith)

pub returns-in_err-value : goal.returns-in_err-value
returns-in_err-value c = rw c.from_residual.ensures (λ n le. no_number c.args.word.now (λ h. false≢true (c.in_err-value.ensures.valid.1 h.number)) n (omega arith))

pub returns-then-value-from : goal.returns-then-value-from
returns-then-value-from c =
    let value : c.in_ok-value.value ≡ number_of c.args.word.now = c.in_ok-value.ensures.value in
    let numeral : IsNumeralWord c.args.word.now = record { number = c.in_ok-value.ensures.valid.0 refl; lead = λ several. false≢true (sym c.if-has_leading_zero.false ∙ c.has_leading_zero.ensures.1 several) } in
    (omega arith, spells_value c.args.word.now numeral (omega (arith, value)) ∙ ap {B = List ℕ} decimal (sym value))

pub returns-else-value-from : goal.returns-else-value-from
returns-else-value-from c =
    let value : c.in_ok-value.value ≡ number_of c.args.word.now = c.in_ok-value.ensures.value in
    λ n le. no_other c.args.word.now c.args.most (omega (arith, value, c.from.ensures, c.if-value-from.false)) n le (omega arith)
