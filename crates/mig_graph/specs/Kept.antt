-- What a graph keeps: its disks and edges, and the numbers that it has counted.
use Rattle.std.specs.Prelude.{◌≡◌, ◌↔◌, IsTrue, length, map}
use Rattle.mig_base.specs.declared.certs.Side.TheVariants.{Outgoing, Incoming}
use Rattle.mig_base.specs.InputLists.{is_duplex}
use Rattle.mig_base.specs.Transfers.{Transfers}
use Rattle.mig_base.specs.Bounding.{quotient, IsEven}
use Rattle.mig_graph.specs.Edges.{edge_item, edge_transfer}
use Rattle.mig_graph.specs.Graphs.{IsGraph}
use Rattle.mig_graph.specs.Loads.{AreLoads}
use Rattle.mig_graph.specs.declared.graphs.Graph.TheInside.{Inside}

-- the transfer graph of the fields
abbrev pub transfers_of : Inside → Transfers
transfers_of g = record { disks = g.disks.items; items = map edge_item g.edges.items; transfers = map edge_transfer g.edges.items }

-- the loads, the quotient, the kind of the limits and their evenness are those of the graph
pub record IsCounted (g : Inside) : Type 0 where
  pub graph : IsGraph (transfers_of g)
  pub outgoing : AreLoads Outgoing (length g.disks.items) (transfers_of g).transfers g.outgoing.items
  pub incoming : AreLoads Incoming (length g.disks.items) (transfers_of g).transfers g.incoming.items
  pub quotient_is : g.quotient ≡ quotient (transfers_of g)
  pub duplex_is : g.duplex ≡ is_duplex g.disks.items
  pub even_is : IsTrue g.even ↔ IsEven (transfers_of g)
