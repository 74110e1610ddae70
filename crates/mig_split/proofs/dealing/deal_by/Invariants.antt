use Rattle.mig_split.proofs.Common.{AreDecks, IsDealing, length, ◌≡◌}
use Rattle.mig_split.proofs.dealing.deal_by.Given as goal

abbrev pub invariant-loop-stop : goal.invariant-loop-stop
invariant-loop-stop l = record {
  len : length l.copies.items ≡ l.stop-index;
  decks : AreDecks l.numbers l.decks.items l.homes.items;
  dealing : IsDealing l.stops l.homes.items l.decks.items l.copies.items;
}
