use Rattle.mig_commands.proofs.Common.{AllocError, Cert, Err, Global, IfOk, InputLists, IsCertified, IsPlanDigest, IsRehearsed, List, Ok}
use Rattle.mig_commands.proofs.Common.{RehearsalNumbers, Result, Shift, Transfers, Vec, ap, bound_value, eight_lines, length, length-map, moves}
use Rattle.mig_commands.proofs.Common.{quotient, string_bytes, text_of_lines, transfer, transfer_graph, verdict_word, ℕ, ◌∙◌, ◌≡◌}
use Rattle.mig_commands.proofs.rehearse.rehearse_input.Goals as goal

-- the lines are those of the input and of its certified plan
told : (input : InputLists) (rounds : List (List Shift)) (certificate : Cert) → IsCertified input rounds certificate → (verdict digest : List ℕ) → verdict ≡ verdict_word rounds certificate
    → IsPlanDigest input rounds digest
    → (n : RehearsalNumbers) → n.disks ≡ length input.disks → n.items ≡ length input.items → n.moves ≡ length
    (transfer_graph input).transfers → n.quotient ≡ certificate.quotient → n.rounds ≡ certificate.rounds → n.bound ≡ bound_value certificate.bound
    → (r : Result (Vec ℕ Global) AllocError) → IfOk r (λ text. text.items ≡ text_of_lines (eight_lines n.disks n.items n.moves n.quotient n.rounds n.bound verdict digest)) → IfOk r
    (λ text. IsRehearsed input text.items)
told input rounds certificate made verdict digest is of_plan n d i m q r b (Err e) h = tt
told input rounds certificate made verdict digest is of_plan n d i m q r b (Ok text) h =
    let by_moves : n.moves ≡ length (moves input) = m ∙ length-map (moves input) (transfer input) in
    let of_input : n.quotient ≡ quotient (transfer_graph input) = q ∙ made.holds.quotient_is in
    let of_rounds : n.rounds ≡ length rounds = r ∙ made.holds.rounds in
    record {
      rounds = rounds;
      certificate = certificate;
      made = made;
      digest = digest;
      of_plan = of_plan;
      lines = h ∙ (λ t. text_of_lines (eight_lines (d t) (i t) (by_moves t) (of_input t) (of_rounds t) (b t) (is t) digest));
    }

pub returns : goal.returns
returns c =
    let n = c.numbers_of-numbers.ensures in
    told c.args.input.now c.in_ok-made.made.plan c.in_ok-made.made.cert c.in_ok-made.ensures.made c.in_ok-verdict.verdict.now
    (string_bytes c.in_ok-digest.digest) c.in_ok-verdict.ensures c.in_ok-digest.ensures
    c.numbers_of-numbers.result n.disks n.items (n.moves ∙ ap (λ (g : Transfers). length g.transfers) c.in_ok-graph.ensures) n.quotient n.rounds n.bound c.lines_of.result
    (rw c.as_bytes.ensures.value at c.lines_of.ensures)
