use Rattle.mig_split.proofs.Common.{AreDecks, AreFresh, take}
use Rattle.mig_split.proofs.decks.make_decks.Given as goal

abbrev pub invariant-loop-disk : goal.invariant-loop-disk
invariant-loop-disk l = record { decks : AreDecks (take l.disk l.numbers) l.decks.items l.homes.items; fresh : AreFresh l.decks.items }
