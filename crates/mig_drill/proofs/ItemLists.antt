-- The items that a plan shifts.
use Rattle.mig_drill.proofs.Common.{At, At-item, Contains, InputLists, List, Runs, Shift, arith, leaves, length, round_at, suc, ℕ, ◌<◌}

-- a shifted item is one of the input's
pub shifted_item : (input : InputLists) (plan : List (List Shift)) → Runs input plan → (i : ℕ) → i < length plan → (s : Shift) → Contains (round_at plan (suc i)) s → s.item.0 < length input.spots
shifted_item input plan runs i lt s has = At-item input plan i s.item.0 s.from runs (omega arith) (leaves input (At input plan i) (round_at plan (suc i)) (runs.rounds i lt) s has)
