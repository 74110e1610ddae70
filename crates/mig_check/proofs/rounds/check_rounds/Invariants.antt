use Rattle.mig_check.proofs.Common.{All, At, IsLayout, IsLegal, IsListOf, IsTakenSet, has_spot, layout_of, length, round_at, suc, ℕ, ◌<◌, ◌≡◌, ◌≤◌}
use Rattle.mig_check.proofs.rounds.check_rounds.Given as goal

abbrev pub invariant-loop-k : goal.invariant-loop-k
invariant-loop-k l = record {
  run : (r : ℕ) → r < l.k → IsLegal l.input (At l.input l.rounds r) (round_at l.rounds (suc r));
  list : IsListOf (At l.input l.rounds l.k) l.spots;
  len : length l.spots ≡ length l.input.items;
  layout : IsLayout l.input (layout_of l.spots);
  taken : IsTakenSet (has_spot l.tables.taken) (layout_of l.spots);
  seen_len : length l.tables.seen.items ≡ length l.input.items;
  seen : All (λ n. n ≤ l.k) l.tables.seen.items;
  counts_len : length l.tables.counts.items ≡ length l.input.disks;
  counts : All (λ n. n ≡ 0) l.tables.counts.items;
}
