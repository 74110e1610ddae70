-- The entries of a table, and the sets of what is free in it.
use Rattle.std.specs.Prelude.{◌≡◌, ℕ, ◌<◌, ◌+◌, ◌*◌, ◌↔◌, List, Option, Some, None, length, slice_get, slice_set as set}
use Rattle.mig_base.specs.declared.ids.CopyId.{CopyId}
use Rattle.mig_base.specs.declared.ids.EdgeId.{EdgeId}
use Rattle.mig_base.specs.declared.ids.Colour.{Colour}
use Rattle.mig_board.specs.Words.{words_for, HasBit}

-- a table with an entry for each node and colour
pub record Entries : Type 0 where
  pub nodes : ℕ
  pub colours : ℕ
  -- those of the nodes one after the other, one for each colour
  pub entries : List (Option EdgeId)

-- the table with this entry for a node and a colour
abbrev pub with_entry : Entries → CopyId → Colour → Option EdgeId → Entries
with_entry t v k o = record t { entries = set t.entries (v.0 * t.colours + k.0) o }

-- node v has no edge of colour k
pub record IsFreeEntry (t : Entries) (v k : ℕ) : Type 0 where
  pub in_range : k < t.colours
  pub none : slice_get t.entries (v * t.colours + k) ≡ Some None

-- the set of the colours of which a node has no edge
pub record IsFreeSet (t : Entries) (v : CopyId) (words : List ℕ) : Type 0 where
  pub len : length words ≡ words_for t.colours
  pub bit : (k : ℕ) → HasBit words k ↔ IsFreeEntry t v.0 k

-- the sets of all nodes, one after the other
pub record AreFreeSets (t : Entries) (words : List ℕ) : Type 0 where
  pub len : length t.entries ≡ t.nodes * t.colours
  pub words_len : length words ≡ t.nodes * words_for t.colours
  pub bit : (v k : ℕ) → v < t.nodes → k < words_for t.colours * 64 → HasBit words (v * words_for t.colours * 64 + k) ↔ IsFreeEntry t v k
