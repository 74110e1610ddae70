-- What a sink holds.
use Rattle.std.specs.Prelude.{◌≡◌, ℕ, ◌+◌, ◌-◌, ◌≤◌, ◌++◌, ◌==◌, Bool, false, List, [], length, take, Option, Some, if◌then◌else◌}
use Rattle.std.specs.List.{list_any}
use Rattle.std.specs.Option.{IfSome}
use Rattle.mig_io.specs.Counts.{next_count}

-- what a sink tells: the bytes that it holds, where it tells them, and how often it has failed
pub record SinkState : Type 0 where
  pub held : Option (List ℕ)
  pub faults : ℕ

-- what is held is extended by the piece, as far as it is told
abbrev pub Extends : List ℕ → SinkState → SinkState → Type 0
Extends piece old new = IfSome old.held (λ held. new.held ≡ Some (held ++ piece))

-- what is held is told, and is what was held before and a prefix of the piece
abbrev pub ExtendsByPrefix : List ℕ → List ℕ → Option (List ℕ) → Type 0
ExtendsByPrefix piece old new = (n : ℕ) × (n ≤ length piece) × (new ≡ Some (old ++ take n piece))

-- what is held is extended by a prefix of the piece, as far as it is told
abbrev pub ExtendsInPart : List ℕ → SinkState → SinkState → Type 0
ExtendsInPart piece old new = IfSome old.held (λ held. ExtendsByPrefix piece held new.held)

-- a sink in memory: the bytes that it holds, how many it may hold, the numbers of the puts that fail, the number of the next put, and the faults so far
pub record Kept : Type 0 where
  pub bytes : List ℕ
  pub room : ℕ
  pub failing : List ℕ
  pub puts : ℕ
  pub faults : ℕ

-- the next put is one of those that fail
abbrev pub put_fails : Kept → Bool
put_fails k = list_any (λ n. n == k.puts) k.failing

-- a put of this piece succeeds: it isn't one that fails, and the piece fits
abbrev pub PutsAll : Kept → List ℕ → Type 0
PutsAll k piece = (put_fails k ≡ false) × (length k.bytes + length piece ≤ k.room)

-- the part of a piece that is added: nothing where the put is one that fails, and else what fits
abbrev pub added : Kept → List ℕ → List ℕ
added k piece = if put_fails k then [] else take (k.room - length k.bytes) piece

-- the sink after a put, with its faults so far
abbrev pub after_put : Kept → List ℕ → ℕ → Kept
after_put k piece faults = record k { bytes = k.bytes ++ added k piece; puts = next_count k.puts; faults = faults }
