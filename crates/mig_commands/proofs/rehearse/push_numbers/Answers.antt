use Rattle.mig_commands.proofs.Common.{[], append-nil, codes, count_line, sym, ◌∷◌}
use Rattle.mig_commands.proofs.Lines.{one_line}
use Rattle.mig_commands.proofs.rehearse.push_numbers.Goals as goal

pub returns : goal.returns
returns c =
    let n = c.args.numbers.now in
    let old = c.args.out.now.items in
    let disks = count_line (codes "disks") n.disks in
    let items = count_line (codes "items") n.items in
    let moves = count_line (codes "moves") n.moves in
    let quotient = count_line (codes "quotient") n.quotient in
    let rounds = count_line (codes "rounds") n.rounds in
    let bound = count_line (codes "bound") n.bound in
    let to_disks = one_line old [] disks old c.push_count.new.out.items (sym (append-nil old)) c.in_ok-push_count.ensures in
    let to_items = one_line old (disks ∷ []) items c.push_count.new.out.items c.push_count-2.new.out.items to_disks c.in_ok-push_count-2.ensures in
    let to_moves = one_line old (disks ∷ items ∷ []) moves c.push_count-2.new.out.items c.push_count-3.new.out.items to_items c.in_ok-push_count-3.ensures in
    let to_quotient = one_line old (disks ∷ items ∷ moves ∷ []) quotient c.push_count-3.new.out.items c.push_count-4.new.out.items to_moves c.in_ok-push_count-4.ensures in
    let to_rounds = one_line old (disks ∷ items ∷ moves ∷ quotient ∷ []) rounds c.push_count-4.new.out.items c.push_count-5.new.out.items to_quotient c.in_ok-push_count-5.ensures in
    one_line old (disks ∷ items ∷ moves ∷ quotient ∷ rounds ∷ []) bound c.push_count-5.new.out.items c.push_count-6.new.out.items to_rounds c.in_ok-push_count-6.ensures
