use Rattle.mig_drill.proofs.Common.{Ok, Puts, [], joined, length, map, marks_after, range_with_len, stop_line, take, ◌++◌, ◌∷◌, ◌≡◌, ◌≤◌}
use Rattle.mig_drill.proofs.texts.put_stops.Given as goal

-- the lines so far were put
abbrev pub invariant-loop-n : goal.invariant-loop-n
invariant-loop-n g l = record {
  put : Puts (joined (map (λ n. stop_line l.writes n ++ 10 ∷ []) (take l.n (range_with_len 0 (length l.writes))))) (g.K.Sink.state l.initial.out) (g.K.Sink.state l.out) (Ok tt);
  marks : l.marks ≡ marks_after l.writes l.n;
  most : l.marks ≤ l.n;
}
