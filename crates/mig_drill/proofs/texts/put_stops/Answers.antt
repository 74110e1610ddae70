use Rattle.mig_drill.proofs.Common.{ClearMark, Err, List, Ok, Puts, [], ap, arith, joined, length, length-range_with_len, map, marks_after, piece_fails, range_with_len, stop_line, subst, sym}
use Rattle.mig_drill.proofs.Common.{take_all, ℕ, ◌++◌, ◌+◌, ◌∙◌, ◌∷◌, ◌≡◌}
use Rattle.mig_drill.proofs.LineTexts.{stops_spelled, after_is, one_at_most, line_at, piece_more}
use Rattle.mig_drill.proofs.texts.put_stops.Goals as goal

pub returns-in_err-put_stop : goal.returns-in_err-put_stop
returns-in_err-put_stop g c =
    let writes = c.args.writes.now in
    let n = c.loop-n.n in
    let f = λ (k : ℕ). stop_line writes k ++ 10 ∷ [] in
    let numbers = range_with_len 0 (length writes) in
    let after = c.loop-n.marks + c.from.result in
    let is_after : after ≡ marks_after writes (n + 1) = after_is writes n c.loop-n-test.true c.loop-n.marks c.from.result c.sets_mark.result c.loop-n.invariant.marks c.from.ensures c.sets_mark.ensures in
    let line = line_at writes n ClearMark c.loop-n-test.true c.loop-n.marks after c.loop-n.invariant.marks is_after in
    let result = c.from_residual.result in
    subst (λ (text : List ℕ). Puts text (g.K.Sink.state c.args.out.now) (g.K.Sink.state c.put_stop.new.out) result) (sym (stops_spelled writes))
    (piece_fails f numbers n 0 _ (g.K.Sink.state c.loop-n.out) _ c.in_err-put_stop.field-0.0 result (omega (arith, c.loop-n-test.true, length-range_with_len 0 (length writes))) c.from_residual.ensures.0 c.loop-n.invariant.put
    (subst (λ (text : List ℕ). Puts text (g.K.Sink.state c.loop-n.out) (g.K.Sink.state c.put_stop.new.out) (Err c.in_err-put_stop.field-0.0)) line c.in_err-put_stop.ensures))

pub loop-n-preserved : goal.loop-n-preserved
loop-n-preserved g c =
    let writes = c.args.writes.now in
    let n = c.loop-n.n in
    let f = λ (k : ℕ). stop_line writes k ++ 10 ∷ [] in
    let numbers = range_with_len 0 (length writes) in
    let after = c.loop-n.marks + c.from.result in
    let is_after : after ≡ marks_after writes (n + 1) = after_is writes n c.loop-n-test.true c.loop-n.marks c.from.result c.sets_mark.result c.loop-n.invariant.marks c.from.ensures c.sets_mark.ensures in
    let line = line_at writes n ClearMark c.loop-n-test.true c.loop-n.marks after c.loop-n.invariant.marks is_after in
    record {
      put = piece_more f numbers n 0 (omega (arith, c.loop-n-test.true, length-range_with_len 0 (length writes))) _ (g.K.Sink.state c.loop-n.out) (g.K.Sink.state c.put_stop.new.out) c.loop-n.invariant.put
          (subst (λ (text : List ℕ). Puts text (g.K.Sink.state c.loop-n.out) (g.K.Sink.state c.put_stop.new.out) (Ok tt)) line c.in_ok-put_stop.ensures);
      marks = is_after;
      most = omega (arith, c.loop-n.invariant.most, one_at_most c.sets_mark.result c.from.result c.from.ensures);
    }

pub returns : goal.returns
returns g c =
    let writes = c.args.writes.now in
    let f = λ (k : ℕ). stop_line writes k ++ 10 ∷ [] in
    let numbers = range_with_len 0 (length writes) in
    subst (λ (text : List ℕ). Puts text (g.K.Sink.state c.args.out.now) (g.K.Sink.state c.loop-n.out) (Ok tt))
    (ap (λ (ns : List ℕ). joined (map f ns)) (take_all c.loop-n.n numbers (omega (arith, c.loop-n-test.false, length-range_with_len 0 (length writes)))) ∙ sym (stops_spelled writes)) c.loop-n.invariant.put
