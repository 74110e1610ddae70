-- How a palette grows.
use Rattle.std.specs.Prelude.{ℕ, ◌-◌, ◌*◌, ◌/◌, ◌==◌, min, max, if◌then◌else◌}

-- twice the last step, or half of the fewest colours that can do: a colour serves half of the nodes at most
abbrev pub most_step : ℕ → ℕ → ℕ → ℕ
most_step step left nodes = max (min (2 * step) 4294967295) (left / max nodes 1)

-- The step after one that brought the edges left from `before` to `left`: half of what those left need at this rate.
abbrev pub step_after : ℕ → ℕ → ℕ → ℕ → ℕ
step_after step before left nodes =
    max (if before - left == 0 then most_step step left nodes else min (left * step / (before - left) / 2) (most_step step left nodes)) 1
