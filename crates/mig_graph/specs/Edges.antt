-- What an edge shows.
use Rattle.std.specs.Prelude.{ℕ}
use Rattle.mig_base.specs.Transfers.{Transfer}
use Rattle.mig_graph.specs.declared.edges.Edge.{Edge}

-- the transfer of an edge
abbrev pub edge_transfer : Edge → Transfer
edge_transfer e = record { leaves = e.from.0; reaches = e.to.0 }

-- the number of its item
abbrev pub edge_item : Edge → ℕ
edge_item e = e.item.0
