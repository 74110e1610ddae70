use Rattle.mig_split.proofs.Common.{All, AreDecks, CopyId, Deck, DiskId, IsAfter, IsDealing, IsEnough, List, [], ap, arith, deck_at, get_or, get_or_default, length, listed_disk, nat_le, no_deck, set}
use Rattle.mig_split.proofs.Common.{subst, sym, ℕ, ◌++◌, ◌+◌, ◌<◌, ◌∙◌, ◌∷◌, ◌≡◌}
use Rattle.mig_split.proofs.Turns.{IsDealtBy-all, IsDealing-more, AreDecks-set, some_copy, next_copy, IsNextCopy}
use Rattle.mig_split.proofs.dealing.deal_by.Goals as goal

-- the deck that is read has a copy to deal
record IsReady (numbers : List ℕ) (stops homes : List DiskId) (decks : List Deck) (i : ℕ) (deck : Deck) : Type 0 where
  there : listed_disk stops i < length numbers
  within : listed_disk stops i < length decks
  is : deck ≡ deck_at decks (listed_disk stops i)
  next : IsNextCopy deck (length homes)

ready : (q : ℕ) (numbers : List ℕ) (stops homes : List DiskId) (decks : List Deck) (copies : List CopyId) (i : ℕ) (deck : Deck) → All (λ d. d.0 < length numbers) stops → i < length stops → IsEnough q stops numbers → AreDecks numbers decks homes → IsDealing stops homes decks copies → deck ≡ get_or decks (listed_disk stops i) deck → IsReady numbers stops homes decks i deck
ready q numbers stops homes decks copies i deck all h enough a x read =
    let there : listed_disk stops i < length numbers = all i (record { 0 = 0 }) h in
    let within : listed_disk stops i < length decks = omega (arith, there, a.len) in
    let is : deck ≡ deck_at decks (listed_disk stops i) = read ∙ get_or_default decks (listed_disk stops i) deck no_deck within in
    record { there = there; within = within; is = is; next = next_copy q numbers decks homes stops copies i deck h there enough a x is }

pub overflow_add-deck : goal.overflow_add-deck
overflow_add-deck c =
    omega (arith, (ready c.args.q c.args.numbers.now c.args.stops.now c.in_ok-decks.homes.items c.loop-stop.decks.items c.loop-stop.copies.items c.loop-stop.stop-index c.index-deck.result.now c.requires.there c.loop-stop-test.true c.requires.enough c.loop-stop.invariant.decks c.loop-stop.invariant.dealing c.index-deck.ensures).next.there, c.loop-stop.invariant.decks.total, c.requires.few_copies)

pub after-requires-clause-start : goal.after-requires-clause-start
after-requires-clause-start c = (ready c.args.q c.args.numbers.now c.args.stops.now c.in_ok-decks.homes.items c.loop-stop.decks.items c.loop-stop.copies.items c.loop-stop.stop-index c.index-deck.result.now c.requires.there c.loop-stop-test.true c.requires.enough c.loop-stop.invariant.decks c.loop-stop.invariant.dealing c.index-deck.ensures).next.start

pub after-requires-clause-next : goal.after-requires-clause-next
after-requires-clause-next c = (ready c.args.q c.args.numbers.now c.args.stops.now c.in_ok-decks.homes.items c.loop-stop.decks.items c.loop-stop.copies.items c.loop-stop.stop-index c.index-deck.result.now c.requires.there c.loop-stop-test.true c.requires.enough c.loop-stop.invariant.decks c.loop-stop.invariant.dealing c.index-deck.ensures).next.small

pub loop-stop-preserved : goal.loop-stop-preserved
loop-stop-preserved c =
    let i = c.loop-stop.stop-index in
    let v = listed_disk c.args.stops.now i in
    let decks = c.loop-stop.decks.items in
    let numbers = c.args.numbers.now in
    let homes = c.in_ok-decks.homes.items in
    let x = c.loop-stop.invariant in
    let r = ready c.args.q numbers c.args.stops.now homes decks c.loop-stop.copies.items i c.index-deck.result.now c.requires.there c.loop-stop-test.true c.requires.enough x.decks x.dealing c.index-deck.ensures in
    let deck = c.index-deck.result.now in
    let later = nat_le c.args.level c.len.result in
    let next : IsAfter (deck_at decks v) later c.after.result = subst (λ (d : Deck). IsAfter d later c.after.result) r.is c.after.ensures in
    let pos = some_copy c.args.q numbers decks homes c.args.stops.now i c.loop-stop-test.true r.there c.requires.enough x.decks in
    let pushed : c.push.new.self.items ≡ c.loop-stop.copies.items ++ record { 0 = (deck_at decks v).first + (deck_at decks v).next } ∷ [] =
    c.in_ok-push.ensures.items ∙ ap (λ (d : Deck). let k : CopyId = record { 0 = d.first + d.next } in c.loop-stop.copies.items ++ k ∷ []) r.is in
    record {
      len = omega (arith, c.in_ok-push.ensures.len, x.len);
      decks = AreDecks-set numbers decks homes v later c.after.result r.within next x.decks;
      dealing = subst (λ (ks : List CopyId). IsDealing c.args.stops.now homes (set decks v c.after.result) ks) (sym pushed)
          (IsDealing-more numbers decks homes c.args.stops.now c.loop-stop.copies.items i later c.after.result x.len c.loop-stop-test.true r.within pos x.decks next x.dealing);
    }

pub returns : goal.returns
returns c =
    let x = c.loop-stop.invariant in
    IsDealtBy-all c.args.q c.args.numbers.now c.loop-stop.decks.items c.in_ok-decks.homes.items c.args.stops.now c.loop-stop.copies.items
    c.requires.enough x.decks x.dealing (omega (arith, x.len, c.loop-stop-test.false, c.loop-stop.auto.stop-index-end))
