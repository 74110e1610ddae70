use Rattle.mig_commands.proofs.Common.{List, [], ap, codes, six_lines, text_of_lines, words, ℕ, ◌++◌, ◌∙◌, ◌∷◌}
use Rattle.mig_commands.proofs.Lines.{one_line}
use Rattle.mig_commands.proofs.rehearse.lines_of.Goals as goal

pub returns : goal.returns
returns c =
    let n = c.args.numbers.now in
    let six = six_lines n.disks n.items n.moves n.quotient n.rounds n.bound in
    let verdict = words (codes "verdict" ∷ c.args.verdict.now ∷ []) in
    let digest = words (codes "plan" ∷ c.args.digest.now ∷ []) in
    let numbers = c.in_ok-push_numbers.ensures ∙ ap (λ (xs : List ℕ). xs ++ text_of_lines six) c.new-out.ensures.items in
    let seven = one_line [] six verdict c.push_numbers.new.out.items c.push_words.new.out.items numbers c.in_ok-push_words.ensures in
    one_line [] (six ++ verdict ∷ []) digest c.push_words.new.out.items c.push_words-2.new.out.items seven c.in_ok-push_words-2.ensures
