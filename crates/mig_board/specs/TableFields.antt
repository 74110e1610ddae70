-- What the fields of a table mean.
use Rattle.mig_board.specs.Entries.{Entries, AreFreeSets}
use Rattle.mig_board.specs.declared.table.Table.TheInside.{Inside}

-- the entries of the fields
abbrev pub entries_of : Inside → Entries
entries_of a = record { nodes = a.nodes; colours = a.colours; entries = a.entries.items }

-- the words are the sets of what is free in them
abbrev pub IsTable : Inside → Type 0
IsTable a = AreFreeSets (entries_of a) a.free.items
