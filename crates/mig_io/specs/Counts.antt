-- Counts that end at the last value of u64.
use Rattle.std.specs.Prelude.{ℕ, ◌+◌, ◌-◌, ◌^◌, ◌==◌, if◌then◌else◌}

-- one more, up to the last value of u64
abbrev pub next_count : ℕ → ℕ
next_count n = if n == 2 ^ 64 - 1 then n else n + 1
