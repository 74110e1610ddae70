-- The copies of each disk, in one row, and which of them is next.
use Rattle.std.specs.Prelude.{◌≡◌, ℕ, ◌+◌, ◌-◌, ◌*◌, ◌<◌, ◌≤◌, ◌==◌, List, Bool, true, false, length, slice_index_or, slice_index, if◌then◌else◌, nat_lt, nat_le, take, sum}
use Rattle.mig_base.specs.declared.ids.DiskId.{DiskId}
use Rattle.mig_base.specs.declared.ids.CopyId.{CopyId}
use Rattle.mig_split.specs.declared.decks.Deck.{Deck}
use Rattle.mig_split.specs.Dealing.{occurrences, count_at, listed_disk, copy_at}

-- what a deck that isn't there would be
abbrev pub no_deck : Deck
no_deck = record { first = 0; count = 0; start = 0; next = 0 }

-- the deck of a disk
abbrev pub deck_at : List Deck → ℕ → Deck
deck_at decks v = slice_index_or decks v no_deck

-- how many ends each disk has
pub record AreCounts (disks : ℕ) (stops : List DiskId) (counts : List ℕ) : Type 0 where
  pub len : length counts ≡ disks
  pub counted : (v : ℕ) → v < disks → slice_index counts v ≡ occurrences v stops

-- so many copies of each disk, whose places lie side by side in the homes
pub record AreDecks (numbers : List ℕ) (decks : List Deck) (homes : List DiskId) : Type 0 where
  pub len : length decks ≡ length numbers
  pub number : (v : ℕ) → v < length numbers → (deck_at decks v).count ≡ slice_index numbers v
  pub inside : (v : ℕ) → v < length numbers → (deck_at decks v).first + (deck_at decks v).count ≤ length homes
  pub home : (v j : ℕ) → v < length numbers → j < (deck_at decks v).count → listed_disk homes ((deck_at decks v).first + j) ≡ v
  pub deck : (k : ℕ) → k < length homes → (listed_disk homes k < length numbers) × ((deck_at decks (listed_disk homes k)).first ≤ k) × (k < (deck_at decks (listed_disk homes k)).first + (deck_at decks (listed_disk homes k)).count)
  pub number_of : (v : ℕ) → v < length numbers → occurrences v homes ≡ (deck_at decks v).count
  pub none_of : (v : ℕ) → length numbers ≤ v → occurrences v homes ≡ 0
  pub total : length homes ≡ sum numbers

-- no deck has been dealt from
abbrev pub AreFresh : List Deck → Type 0
AreFresh decks = (v : ℕ) → ((deck_at decks v).start ≡ 0) × ((deck_at decks v).next ≡ 0)

-- the place after one, and after the last the first
abbrev pub place_after : ℕ → ℕ → ℕ
place_after place count = if place + 1 == count then 0 else place + 1

-- The next copy of the deck is the one after; where the turn ends with it, the new turn begins there, or one copy later.
pub record IsAfter (deck : Deck) (later : Bool) (new : Deck) : Type 0 where
  pub first : new.first ≡ deck.first
  pub count : new.count ≡ deck.count
  pub start : new.start ≡ (if place_after deck.next deck.count == deck.start then (if later then place_after deck.start deck.count else deck.start) else deck.start)
  pub next : new.next ≡ (if place_after deck.next deck.count == deck.start then new.start else place_after deck.next deck.count)

-- how many copies were dealt in a turn that began at a place, and whether one of them was
abbrev pub gone : ℕ → ℕ → ℕ → ℕ
gone start next count = if nat_le start next then next - start else next + count - start

abbrev pub is_gone : ℕ → ℕ → ℕ → Bool
is_gone start next j = if nat_le start next then (if nat_le start j then nat_lt j next else false) else (if nat_le start j then true else nat_lt j next)

-- After so many ends each copy of the deck has `turns` of them, and those that this turn has dealt have one more.
pub record IsTurn (deck : Deck) (dealt : ℕ) (copies : List CopyId) : Type 0 where
  pub turns : ℕ
  pub total : dealt ≡ turns * deck.count + gone deck.start deck.next deck.count
  pub start_in : 0 < deck.count → deck.start < deck.count
  pub next_in : 0 < deck.count → deck.next < deck.count
  pub ends : (j : ℕ) → j < deck.count → count_at (deck.first + j) copies ≡ turns + (if is_gone deck.start deck.next j then 1 else 0)

-- the first ends are dealt
pub record IsDealing (stops homes : List DiskId) (decks : List Deck) (copies : List CopyId) : Type 0 where
  pub there : (i : ℕ) → i < length copies → copy_at copies i < length homes
  pub home : (i : ℕ) → i < length copies → listed_disk homes (copy_at copies i) ≡ listed_disk stops i
  pub turn : (v : ℕ) → v < length decks → IsTurn (deck_at decks v) (occurrences v (take (length copies) stops)) copies
