-- The tables before the first round.
use Rattle.std.specs.Prelude.{◌≡◌, ◌<◌, All, length}
use Rattle.mig_base.specs.InputLists.{InputLists}
use Rattle.mig_check.specs.declared.rounds.Tables.{Tables}
use Rattle.mig_check.specs.SpotSets.{has_spot}
use Rattle.mig_check.specs.Tables.{IsTakenSet, layout_of}

-- the items' spots are taken, no item was in a round, and nothing is counted
pub record IsStart (input : InputLists) (tables : Tables) : Type 0 where
  pub taken : IsTakenSet (has_spot tables.taken) (layout_of input.spots)
  pub seen_len : length tables.seen.items ≡ length input.items
  pub seen : All (λ n. n < 1) tables.seen.items
  pub counts_len : length tables.counts.items ≡ length input.disks
  pub counts : All (λ n. n ≡ 0) tables.counts.items
