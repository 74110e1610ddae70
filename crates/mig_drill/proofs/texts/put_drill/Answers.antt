use Rattle.mig_drill.proofs.Common.{List, Puts, [], codes, count_line, length, puts_fails, puts_then, stop_lines, subst, sym, text_of_lines, ℕ, ◌*◌, ◌++◌, ◌∷◌}
use Rattle.mig_drill.proofs.LineTexts.{three_parts}
use Rattle.mig_drill.proofs.texts.put_drill.Goals as goal

pub returns-in_err-put_count : goal.returns-in_err-put_count
returns-in_err-put_count g c =
    let writes = c.args.writes.now in
    let first = count_line (codes "writes") (length writes) in
    let last = count_line (codes "reached") (4 * length writes) in
    subst (λ (text : List ℕ). Puts text (g.K.Sink.state c.args.out.now) (g.K.Sink.state c.put_count.new.out) c.from_residual.result) (sym (three_parts first (stop_lines writes) last))
    (puts_fails (text_of_lines (first ∷ [])) (text_of_lines (stop_lines writes) ++ text_of_lines (last ∷ [])) _ _ c.in_err-put_count.field-0.0 c.from_residual.result c.from_residual.ensures.0 c.in_err-put_count.ensures)

pub returns-in_err-put_stops : goal.returns-in_err-put_stops
returns-in_err-put_stops g c =
    let writes = c.args.writes.now in
    let first = count_line (codes "writes") (length writes) in
    let last = count_line (codes "reached") (4 * length writes) in
    let result = c.from_residual-in_err-put_stops.result in
    subst (λ (text : List ℕ). Puts text (g.K.Sink.state c.args.out.now) (g.K.Sink.state c.put_stops.new.out) result) (sym (three_parts first (stop_lines writes) last))
    (puts_then (text_of_lines (first ∷ [])) (text_of_lines (stop_lines writes) ++ text_of_lines (last ∷ [])) _ (g.K.Sink.state c.put_count.new.out) _ result c.in_ok-put_count.ensures
    (puts_fails (text_of_lines (stop_lines writes)) (text_of_lines (last ∷ [])) _ _ c.in_err-put_stops.field-0.0 result c.from_residual-in_err-put_stops.ensures.0 c.in_err-put_stops.ensures))

pub returns : goal.returns
returns g c =
    let writes = c.args.writes.now in
    let first = count_line (codes "writes") (length writes) in
    let last = count_line (codes "reached") (4 * length writes) in
    let told = subst (λ (n : ℕ). Puts (text_of_lines (count_line (codes "reached") n ∷ [])) (g.K.Sink.state c.put_stops.new.out) (g.K.Sink.state c.put_count-2.new.out) c.put_count-2.result) c.requires.all c.put_count-2.ensures in
    subst (λ (text : List ℕ). Puts text (g.K.Sink.state c.args.out.now) (g.K.Sink.state c.put_count-2.new.out) c.put_count-2.result) (sym (three_parts first (stop_lines writes) last))
    (puts_then (text_of_lines (first ∷ [])) (text_of_lines (stop_lines writes) ++ text_of_lines (last ∷ [])) _ (g.K.Sink.state c.put_count.new.out) _ c.put_count-2.result c.in_ok-put_count.ensures
    (puts_then (text_of_lines (stop_lines writes)) (text_of_lines (last ∷ [])) _ (g.K.Sink.state c.put_stops.new.out) _ c.put_count-2.result c.in_ok-put_stops.ensures told))
