-- Dealing from decks in turn.
use Rattle.mig_split.proofs.Common.{AreDecks, Bool, CopyId, Deck, DiskId, IsAfter, IsDealing, IsDealtBy, IsEnough, IsTurn, List, [], ap, arith}
use Rattle.mig_split.proofs.Common.{cases_eq, cases_lt, cond, count_at, deck_at, eq-eqb, eqb, false, get_or-le-sum_by, get_or-set_other}
use Rattle.mig_split.proofs.Common.{get_or-set_same, get_or_append_left, get_or_default, get_or_push, gone, listed_disk, occurrences, inl, inr}
use Rattle.mig_split.proofs.Common.{is_gone, length, length-append, length-set, mul-le-mul_left, nat_tests, ne_eqb, no_deck, place_after, refl, set}
use Rattle.mig_split.proofs.Common.{subst, suc, sum_by_push, sym, take, take_all, true, zero, ℕ, ◌*◌, ◌++◌, ◌+◌, ◌-◌, ◌<◌, ◌∙◌, ◌∷◌, ◌≡◌, ◌≢◌, ◌≤◌}
use Rattle.mig_split.proofs.Counts.{count_of_same, count_of_other}

same_deck : (decks : List Deck) (v : ℕ) (later : Bool) (next : Deck) → v < length decks → IsAfter (deck_at decks v) later next → (w : ℕ) → ((deck_at (set decks v next) w).first ≡ (deck_at decks w).first) × ((deck_at (set decks v next) w).count ≡ (deck_at decks w).count)
same_deck decks v later next h n w = elim (cases_eq w v) [
  | inl e ↦ subst (λ u. ((deck_at (set decks v next) u).first ≡ (deck_at decks u).first) × ((deck_at (set decks v next) u).count ≡ (deck_at decks u).count)) (sym e)
      (ap (λ (x : Deck). x.first) (get_or-set_same decks v next no_deck h) ∙ n.first, ap (λ (x : Deck). x.count) (get_or-set_same decks v next no_deck h) ∙ n.count)
  | inr ne ↦ (ap (λ (x : Deck). x.first) (get_or-set_other decks v w next no_deck ne), ap (λ (x : Deck). x.count) (get_or-set_other decks v w next no_deck ne))
]

pub AreDecks-set : (numbers : List ℕ) (decks : List Deck) (homes : List DiskId) (v : ℕ) (later : Bool) (next : Deck) → v < length decks → IsAfter (deck_at decks v) later next → AreDecks numbers decks homes → AreDecks numbers (set decks v next) homes
AreDecks-set numbers decks homes v later next h n a =
    let same = same_deck decks v later next h n in
    record {
      len = length-set decks v next ∙ a.len;
      number = λ w hw. (same w).1 ∙ a.number w hw;
      inside = λ w hw. omega (arith, same w, a.inside w hw);
      home = λ w j hw hj. ap (λ m. listed_disk homes (m + j)) (same w).0 ∙ a.home w j hw (omega (arith, same w, hj));
      deck = λ k hk. ((a.deck k hk).0, omega (arith, same (listed_disk homes k), a.deck k hk), omega (arith, same (listed_disk homes k), a.deck k hk));
      number_of = λ w hw. a.number_of w hw ∙ sym (same w).1;
      none_of = a.none_of;
      total = a.total;
    }

count_push : (copies : List CopyId) (c k : ℕ) → count_at k (copies ++ record { 0 = c } ∷ []) ≡ count_at k copies + cond (eqb c k) 1 0
count_push copies c k = sum_by_push (λ (x : CopyId). cond (eqb x.0 k) 1 0) copies (record { 0 = c })

-- where the next place is the start, the turn has dealt all copies but one
last_gone : (start next count : ℕ) → start < count → next < count → cond (eqb (next + 1) count) 0 (next + 1) ≡ start → gone start next count + 1 ≡ count
last_gone start next count hs hn e = grind (arith, nat_tests)

last_one : (start next count j t : ℕ) → start < count → next < count → j < count → cond (eqb (next + 1) count) 0 (next + 1) ≡ start → (t + cond (is_gone start next j) 1 0) + cond (eqb next j) 1 0 ≡ t + 1
last_one start next count j t hs hn hj e = grind (arith, nat_tests)

one_gone : (start next count : ℕ) → start < count → next < count → cond (eqb (next + 1) count) 0 (next + 1) ≢ start → gone start (cond (eqb (next + 1) count) 0 (next + 1)) count ≡ gone start next count + 1
one_gone start next count hs hn ne = grind (arith, nat_tests)

one_more : (start next count j t : ℕ) → start < count → next < count → j < count → cond (eqb (next + 1) count) 0 (next + 1) ≢ start → (t + cond (is_gone start next j) 1 0) + cond (eqb next j) 1 0 ≡ t + cond (is_gone start (cond (eqb (next + 1) count) 0 (next + 1)) j) 1 0
one_more start next count j t hs hn hj ne = grind (arith, nat_tests)

none_gone : (start j : ℕ) → is_gone start start j ≡ false
none_gone start j = grind (arith, nat_tests)

after_in : (place count : ℕ) → place < count → cond (eqb (place + 1) count) 0 (place + 1) < count
after_in place count h = grind (arith, nat_tests)

same_end : (first next j : ℕ) → eqb (first + next) (first + j) ≡ eqb next j
same_end first next j = grind (arith, nat_tests)

new_start_in : (start count place new : ℕ) (ends later : Bool) → start < count → new ≡ cond ends (cond later (place_after start count) start) start → new < count
new_start_in start count place new true true h e = omega (arith, e, after_in start count h)
new_start_in start count place new true false h e = omega (arith, e, h)
new_start_in start count place new false later h e = omega (arith, e, h)

IsTurn-more : (deck : Deck) (later : Bool) (next : Deck) (dealt more : ℕ) (copies : List CopyId) → 0 < deck.count → IsAfter deck later next → more ≡ dealt + 1 → IsTurn deck dealt copies → IsTurn next more (copies ++ record { 0 = deck.first + deck.next } ∷ [])
IsTurn-more deck later next dealt more copies pos n is_more t =
    let hs : deck.start < deck.count = t.start_in pos in
    let hn : deck.next < deck.count = t.next_in pos in
    let place = place_after deck.next deck.count in
    let in_ : next.start < deck.count = new_start_in deck.start deck.count place next.start (eqb place deck.start) later hs n.start in
    let pushed : (j : ℕ) → j < next.count → count_at (next.first + j) (copies ++ record { 0 = deck.first + deck.next } ∷ []) ≡ (t.turns + cond (is_gone deck.start deck.next j) 1 0) + cond (eqb deck.next j) 1 0 =
    λ j hj. ap (λ m. count_at (m + j) (copies ++ record { 0 = deck.first + deck.next } ∷ [])) n.first ∙ count_push copies (deck.first + deck.next) (deck.first + j) ∙ ap (λ m. m + cond (eqb (deck.first + deck.next) (deck.first + j)) 1 0) (t.ends j (omega (arith, hj, n.count))) ∙ ap (λ (b : Bool). (t.turns + cond (is_gone deck.start deck.next j) 1 0) + cond b 1 0) (same_end deck.first deck.next j) in
    elim (cases_eq place deck.start) [
      | inl e ↦ (let z : next.next ≡ next.start = n.next ∙ ap (λ (b : Bool). cond b next.start place) (eq-eqb place deck.start e) in
          record {
            turns = t.turns + 1;
            total = omega (arith, is_more, t.total, last_gone deck.start deck.next deck.count hs hn e, n.count, ap (λ m. (t.turns + 1) * m) n.count, ap (λ m. gone next.start m next.count) z, gone_none next.start next.count);
            start_in = λ p. omega (arith, in_, n.count);
            next_in = λ p. omega (arith, z, in_, n.count);
            ends = λ j hj. pushed j hj ∙ last_one deck.start deck.next deck.count j t.turns hs hn (omega (arith, hj, n.count)) e ∙ sym (ap (λ (b : Bool). (t.turns + 1) + cond b 1 0) (ap (λ m. is_gone next.start m j) z ∙ none_gone next.start j) ∙ omega arith);
          })
      | inr ne ↦ (let off : eqb place deck.start ≡ false = ne_eqb place deck.start ne in
          let z : next.next ≡ place = n.next ∙ ap (λ (b : Bool). cond b next.start place) off in
          let s : next.start ≡ deck.start = n.start ∙ ap (λ (b : Bool). cond b (cond later (place_after deck.start deck.count) deck.start) deck.start) off in
          record {
            turns = t.turns;
            total = omega (arith, is_more, t.total, one_gone deck.start deck.next deck.count hs hn ne, n.count, ap (λ m. t.turns * m) n.count, ap (λ m. gone m next.next next.count) s, ap (λ m. gone deck.start m next.count) z, ap (λ m. gone deck.start place m) n.count);
            start_in = λ p. omega (arith, in_, n.count);
            next_in = λ p. omega (arith, z, after_in deck.next deck.count hn, n.count);
            ends = λ j hj. pushed j hj ∙ one_more deck.start deck.next deck.count j t.turns hs hn (omega (arith, hj, n.count)) ne ∙ sym (ap (λ m. t.turns + cond (is_gone m next.next j) 1 0) s ∙ ap (λ m. t.turns + cond (is_gone deck.start m j) 1 0) z);
          })
    ]
  where
    gone_none : (start count : ℕ) → gone start start count ≡ 0
    gone_none start count = grind (arith, nat_tests)

IsTurn-same : (deck : Deck) (dealt more : ℕ) (copies : List CopyId) (c : ℕ) → ((j : ℕ) → j < deck.count → c ≢ deck.first + j) → more ≡ dealt → IsTurn deck dealt copies → IsTurn deck more (copies ++ record { 0 = c } ∷ [])
IsTurn-same deck dealt more copies c apart is_more t =
    record {
      turns = t.turns;
      total = is_more ∙ t.total;
      start_in = t.start_in;
      next_in = t.next_in;
      ends = λ j hj. count_push copies c (deck.first + j) ∙ omega (arith, ap {B = ℕ} (λ b. cond b 1 0) (ne_eqb c (deck.first + j) (apart j hj)), t.ends j hj);
    }

-- a deck with an end to deal has a copy
pub some_copy : (q : ℕ) (numbers : List ℕ) (decks : List Deck) (homes stops : List DiskId) (i : ℕ) → i < length stops → listed_disk stops i < length numbers → IsEnough q stops numbers → AreDecks numbers decks homes → 0 < (deck_at decks (listed_disk stops i)).count
some_copy q numbers decks homes stops i h there enough a =
    let v = listed_disk stops i in
    let some : 1 ≤ occurrences v stops = omega (arith, get_or-le-sum_by (λ (d : DiskId). cond (eqb d.0 v) 1 0) stops i (record { 0 = 0 }) h, ap {B = ℕ} (λ b. cond b 1 0) (eq-eqb v v refl)) in
    not_zero (deck_at decks v).count q (omega (arith, some, enough v there, ap (λ m. m * q) (a.number v there)))
  where
    not_zero : (n q : ℕ) → 1 ≤ n * q → 0 < n
    not_zero zero q h = absurd (omega (arith, h))
    not_zero (suc n) q h = omega arith

pub IsDealing-more : (numbers : List ℕ) (decks : List Deck) (homes stops : List DiskId) (copies : List CopyId) (i : ℕ) (later : Bool) (next : Deck) → length copies ≡ i → i < length stops → listed_disk stops i < length decks → 0 < (deck_at decks (listed_disk stops i)).count → AreDecks numbers decks homes → IsAfter (deck_at decks (listed_disk stops i)) later next → IsDealing stops homes decks copies →
    IsDealing stops homes (set decks (listed_disk stops i) next) (copies ++ record { 0 = (deck_at decks (listed_disk stops i)).first + (deck_at decks (listed_disk stops i)).next } ∷ [])
IsDealing-more numbers decks homes stops copies i later next len h within pos a n x =
    let v = listed_disk stops i in
    let deck = deck_at decks v in
    let c = deck.first + deck.next in
    let new = copies ++ record { 0 = c } ∷ [] in
    let small : deck.next < deck.count = (x.turn v within).next_in pos in
    let hv : v < length numbers = omega (arith, within, a.len) in
    let long : length new ≡ i + 1 = length-append copies (record { 0 = c } ∷ []) ∙ omega (arith, len) in
    let here : listed_disk homes c ≡ v = a.home v deck.next hv small in
    record {
      there = λ k hk. elim (cases_lt k (length copies)) [
        | inl l ↦ subst (λ m. m < length homes) (sym (ap (λ (y : CopyId). y.0) (get_or_append_left copies (record { 0 = c } ∷ []) (record { 0 = 0 }) k l))) (x.there k l)
        | inr l ↦ subst (λ m. m < length homes) (sym (ap (λ (y : CopyId). y.0) (get_or_push copies (record { 0 = c }) (record { 0 = 0 }) k (omega (arith, l, hk, long, len))))) (omega (arith, small, a.inside v hv))
      ];
      home = λ k hk. elim (cases_lt k (length copies)) [
        | inl l ↦ ap (λ (y : CopyId). listed_disk homes y.0) (get_or_append_left copies (record { 0 = c } ∷ []) (record { 0 = 0 }) k l) ∙ x.home k l
        | inr l ↦ ap (λ (y : CopyId). listed_disk homes y.0) (get_or_push copies (record { 0 = c }) (record { 0 = 0 }) k (omega (arith, l, hk, long, len))) ∙ here ∙ ap (listed_disk stops) (omega (arith, l, hk, long, len))
      ];
      turn = λ w hw. subst (λ m. IsTurn (deck_at (set decks v next) w) (occurrences w (take m stops)) new) (sym long) (elim (cases_eq w v) [
        | inl e ↦ subst (λ u. IsTurn (deck_at (set decks v next) u) (occurrences u (take (i + 1) stops)) new) (sym e)
            (subst (λ (y : Deck). IsTurn y (occurrences v (take (i + 1) stops)) new) (sym (get_or-set_same decks v next no_deck within))
            (IsTurn-more deck later next (occurrences v (take i stops)) (occurrences v (take (i + 1) stops)) copies pos n (count_of_same stops i v h refl) (subst (λ m. IsTurn deck (occurrences v (take m stops)) copies) len (x.turn v within))))
        | inr ne ↦ subst (λ (y : Deck). IsTurn y (occurrences w (take (i + 1) stops)) new) (sym (get_or-set_other decks v w next no_deck ne))
            (IsTurn-same (deck_at decks w) (occurrences w (take i stops)) (occurrences w (take (i + 1) stops)) copies c
            (λ j hj e. ne (sym (a.home w j (omega (arith, hw, a.len, length-set decks v next)) hj) ∙ ap (listed_disk homes) (sym e) ∙ here))
            (count_of_other stops i w h ne) (subst (λ m. IsTurn (deck_at decks w) (occurrences w (take m stops)) copies) len (x.turn w (omega (arith, hw, length-set decks v next)))))
      ]);
    }

-- after all ends, no copy has more than q
most_turns : (q load count start next turns : ℕ) → start < count → next < count → load ≡ turns * count + gone start next count → load ≤ count * q → (j : ℕ) → j < count → turns + cond (is_gone start next j) 1 0 ≤ q
most_turns q load count start next turns hs hn total most j hj = elim (cases_lt q (turns + cond (is_gone start next j) 1 0)) [
  | inr l ↦ l
  | inl l ↦ elim (cases_lt turns q) [
    | inl a ↦ absurd (omega (arith, l, a, at_most (is_gone start next j)))
    | inr a ↦ elim (cases_lt q turns) [
      | inl b ↦ absurd (omega (arith, total, most, mul-le-mul_left count b, hs))
      | inr b ↦ absurd (omega (arith, total, most, ap (λ m. count * m) (same turns q a b), some start next count j hs hn hj (omega (arith, l, same turns q a b))))
    ]
  ]
]
  where
    at_most : (b : Bool) → cond b 1 0 ≤ 1
    at_most b = grind (arith, nat_tests)

    same : (t q : ℕ) → q ≤ t → t ≤ q → t ≡ q
    same t q a b = omega arith

    some : (start next count j : ℕ) → start < count → next < count → j < count → 0 < cond (is_gone start next j) 1 0 → 0 < gone start next count
    some start next count j hs hn hj h = grind (arith, nat_tests)

most_at : (q : ℕ) (deck : Deck) (load : ℕ) (copies : List CopyId) (j k : ℕ) → j < deck.count → deck.first + j ≡ k → load ≤ deck.count * q → IsTurn deck load copies → count_at k copies ≤ q
most_at q deck load copies j k hj e most t =
    subst (λ m. count_at m copies ≤ q) e (omega (arith, t.ends j hj, most_turns q load deck.count deck.start deck.next t.turns (t.start_in (omega (arith, hj))) (t.next_in (omega (arith, hj))) t.total most j hj))

pub IsDealtBy-all : (q : ℕ) (numbers : List ℕ) (decks : List Deck) (homes stops : List DiskId) (copies : List CopyId) → IsEnough q stops numbers → AreDecks numbers decks homes → IsDealing stops homes decks copies → length copies ≡ length stops → IsDealtBy q numbers stops homes copies
IsDealtBy-all q numbers decks homes stops copies enough a x len =
    record {
      one_each = len;
      there = λ k d hk. subst (λ (y : CopyId). y.0 < length homes) (get_or_default copies k (record { 0 = 0 }) d hk) (x.there k hk);
      home = λ k hk. x.home k (omega (arith, hk, len));
      number = λ v hv. a.number_of v hv ∙ a.number v hv;
      most = λ k hk.
          (let at = a.deck k hk in
          let v = listed_disk homes k in
          let deck = deck_at decks v in
          most_at q deck (occurrences v stops) copies (k - deck.first) k (omega (arith, at)) (omega (arith, at))
          (omega (arith, enough v at.0, ap (λ m. m * q) (a.number v at.0)))
          (subst (λ (ss : List DiskId). IsTurn deck (occurrences v ss) copies) (take_all (length copies) stops (omega (arith, len))) (x.turn v (omega (arith, at.0, a.len)))));
      homes_there = λ k d hk. subst (λ (y : DiskId). y.0 < length numbers) (get_or_default homes k (record { 0 = 0 }) d hk) (a.deck k hk).0;
      total = a.total;
    }

-- the next copy of an end's disk is there
pub record IsNextCopy (deck : Deck) (homes : ℕ) : Type 0 where
  pub start : deck.start < deck.count
  pub small : deck.next < deck.count
  pub there : deck.first + deck.next < homes

pub next_copy : (q : ℕ) (numbers : List ℕ) (decks : List Deck) (homes stops : List DiskId) (copies : List CopyId) (i : ℕ) (deck : Deck) → i < length stops → listed_disk stops i < length numbers → IsEnough q stops numbers → AreDecks numbers decks homes → IsDealing stops homes decks copies → deck ≡ deck_at decks (listed_disk stops i) → IsNextCopy deck (length homes)
next_copy q numbers decks homes stops copies i deck h within enough a x is =
    let v = listed_disk stops i in
    let there : v < length decks = omega (arith, within, a.len) in
    let some = some_copy q numbers decks homes stops i h within enough a in
    let small = (x.turn v there).next_in some in
    subst (λ (d : Deck). IsNextCopy d (length homes)) (sym is) (record { start = (x.turn v there).start_in some; small = small; there = omega (arith, small, a.inside v within) })
