-- Decks side by side.
use Rattle.mig_split.proofs.Common.{AreDecks, AreFresh, Deck, DiskId, List, [], ap, arith, cases_eq, cases_lt, cond, deck_at, eq-eqb, eqb, get_or, get_or-append_right, listed_disk, occurrences}
use Rattle.mig_split.proofs.Common.{get_or-replicate, get_or-take, get_or_append_left, get_or_past, get_or_push, inl, inr, length, length-append, length-replicate, length-take-le, ne_eqb}
use Rattle.mig_split.proofs.Common.{no_deck, refl, replicate, subst, sum_by-append, sum_by-replicate, sum_by_more, sym, take, ℕ, ◌*◌, ◌++◌, ◌+◌, ◌-◌, ◌<◌, ◌∙◌, ◌∷◌, ◌≡◌, ◌≢◌, ◌≤◌}

-- a list of disks with one more deck's places
one_of : (v n : ℕ) (homes : List DiskId) → occurrences v (homes ++ replicate n (record { 0 = v })) ≡ occurrences v homes + n
one_of v n homes =
    let D : DiskId = record { 0 = v } in
    let f : DiskId → ℕ = λ d. cond (eqb d.0 v) 1 0 in
    let here : f D ≡ 1 = ap (λ b. cond b 1 0) (eq-eqb v v refl) in
    omega (arith, sum_by-append f homes (replicate n D), sum_by-replicate f n D, ap (λ m. n * m) here)

other_of : (v w n : ℕ) (homes : List DiskId) → v ≢ w → occurrences v (homes ++ replicate n (record { 0 = w })) ≡ occurrences v homes
other_of v w n homes ne =
    let D : DiskId = record { 0 = w } in
    let f : DiskId → ℕ = λ d. cond (eqb d.0 v) 1 0 in
    let here : f D ≡ 0 = ap (λ b. cond b 1 0) (ne_eqb w v (λ x. ne (sym x))) in
    omega (arith, sum_by-append f homes (replicate n D), sum_by-replicate f n D, ap (λ m. n * m) here)

at_old : (homes : List DiskId) (w n k : ℕ) → k < length homes → listed_disk (homes ++ replicate n (record { 0 = w })) k ≡ listed_disk homes k
at_old homes w n k h = ap (λ (d : DiskId). d.0) (get_or_append_left homes (replicate n (record { 0 = w })) (record { 0 = 0 }) k h)

at_new : (homes : List DiskId) (w n k : ℕ) → length homes ≤ k → k < length homes + n → listed_disk (homes ++ replicate n (record { 0 = w })) k ≡ w
at_new homes w n k h l =
    let D : DiskId = record { 0 = w } in
    ap (λ (d : DiskId). d.0) (get_or-append_right homes (replicate n D) (length homes) k (record { 0 = 0 }) refl h ∙ get_or-replicate n (k - length homes) D (record { 0 = 0 }) (omega arith))

deck_old : (decks : List Deck) (deck : Deck) (v : ℕ) → v < length decks → deck_at (decks ++ deck ∷ []) v ≡ deck_at decks v
deck_old decks deck v h = get_or_append_left decks (deck ∷ []) no_deck v h

deck_new : (decks : List Deck) (deck : Deck) (v : ℕ) → length decks ≡ v → deck_at (decks ++ deck ∷ []) v ≡ deck
deck_new decks deck v h = get_or_push decks deck no_deck v h

pub AreDecks-more : (numbers : List ℕ) (decks : List Deck) (homes : List DiskId) (i : ℕ) (deck : Deck) → i < length numbers → deck.first ≡ length homes → deck.count ≡ get_or numbers i 0 → AreDecks (take i numbers) decks homes → AreDecks (take (i + 1) numbers) (decks ++ deck ∷ []) (homes ++ replicate deck.count (record { 0 = i }))
AreDecks-more numbers decks homes i deck h is_first is_count a =
    let now = length-take-le i numbers (omega arith) in
    let then' = length-take-le (i + 1) numbers (omega arith) in
    let long : length (homes ++ replicate deck.count (record { 0 = i })) ≡ length homes + deck.count = length-append homes (replicate deck.count (record { 0 = i })) ∙ ap (λ m. length homes + m) (length-replicate deck.count (record { 0 = i })) in
    let D = decks ++ deck ∷ [] in
    let H = homes ++ replicate deck.count (record { 0 = i }) in
    let total = sum_by_more (λ (x : ℕ). x) numbers i 0 h in
    record {
      len = length-append decks (deck ∷ []) ∙ omega (arith, a.len, now, then');
      number = λ v hv. elim (cases_eq v i) [
        | inl e ↦ ap (λ (x : Deck). x.count) (deck_new decks deck v (omega (arith, a.len, now, e))) ∙ is_count ∙ sym (get_or-take (i + 1) numbers v 0 (omega (arith, hv, then')) ∙ ap (λ m. get_or numbers m 0) e)
        | inr ne ↦ ap (λ (x : Deck). x.count) (deck_old decks deck v (omega (arith, a.len, now, hv, then', ne))) ∙ a.number v (omega (arith, now, hv, then', ne)) ∙ get_or-take i numbers v 0 (omega (arith, hv, then', ne)) ∙ sym (get_or-take (i + 1) numbers v 0 (omega (arith, hv, then')))
      ];
      inside = λ v hv. elim (cases_eq v i) [
        | inl e ↦ subst (λ (x : Deck). x.first + x.count ≤ length H) (sym (deck_new decks deck v (omega (arith, a.len, now, e)))) (omega (arith, is_first, long))
        | inr ne ↦ subst (λ (x : Deck). x.first + x.count ≤ length H) (sym (deck_old decks deck v (omega (arith, a.len, now, hv, then', ne)))) (omega (arith, a.inside v (omega (arith, now, hv, then', ne)), long))
      ];
      home = λ v j hv. elim (cases_eq v i) [
        | inl e ↦ subst (λ (x : Deck). j < x.count → listed_disk H (x.first + j) ≡ v) (sym (deck_new decks deck v (omega (arith, a.len, now, e)))) (λ hj. at_new homes i deck.count (deck.first + j) (omega (arith, is_first)) (omega (arith, is_first, hj)) ∙ sym e)
        | inr ne ↦ subst (λ (x : Deck). j < x.count → listed_disk H (x.first + j) ≡ v) (sym (deck_old decks deck v (omega (arith, a.len, now, hv, then', ne)))) (λ hj. at_old homes i deck.count ((deck_at decks v).first + j) (omega (arith, hj, a.inside v (omega (arith, now, hv, then', ne)))) ∙ a.home v j (omega (arith, now, hv, then', ne)) hj)
      ];
      deck = λ k hk. elim (cases_lt k (length homes)) [
        | inl l ↦ (let old = a.deck k l in
            let w = listed_disk homes k in
            subst (λ u. (u < length (take (i + 1) numbers)) × ((deck_at D u).first ≤ k) × (k < (deck_at D u).first + (deck_at D u).count)) (sym (at_old homes i deck.count k l))
            (omega (arith, old.0, now, then'), subst (λ (x : Deck). x.first ≤ k) (sym (deck_old decks deck w (omega (arith, a.len, old.0)))) old.1, subst (λ (x : Deck). k < x.first + x.count) (sym (deck_old decks deck w (omega (arith, a.len, old.0)))) old.2))
        | inr l ↦ subst (λ u. (u < length (take (i + 1) numbers)) × ((deck_at D u).first ≤ k) × (k < (deck_at D u).first + (deck_at D u).count)) (sym (at_new homes i deck.count k l (omega (arith, hk, long))))
            (omega (arith, then'), subst (λ (x : Deck). x.first ≤ k) (sym (deck_new decks deck i (omega (arith, a.len, now)))) (omega (arith, is_first, l)), subst (λ (x : Deck). k < x.first + x.count) (sym (deck_new decks deck i (omega (arith, a.len, now)))) (omega (arith, is_first, hk, long)))
      ];
      number_of = λ v hv. elim (cases_eq v i) [
        | inl e ↦ subst (λ m. occurrences m H ≡ (deck_at D m).count) (sym e) (one_of i deck.count homes ∙ omega (arith, a.none_of i (omega (arith, now)), ap (λ (x : Deck). x.count) (deck_new decks deck i (omega (arith, a.len, now)))))
        | inr ne ↦ other_of v i deck.count homes ne ∙ a.number_of v (omega (arith, now, hv, then', ne)) ∙ ap (λ (x : Deck). x.count) (sym (deck_old decks deck v (omega (arith, a.len, now, hv, then', ne))))
      ];
      none_of = λ v hv. other_of v i deck.count homes (λ e. absurd (omega (arith, e, hv, then'))) ∙ a.none_of v (omega (arith, now, hv, then'));
      total = omega (arith, long, total, is_count, a.total);
    }

pub AreFresh-more : (decks : List Deck) (deck : Deck) → (deck.start ≡ 0) × (deck.next ≡ 0) → AreFresh decks → AreFresh (decks ++ deck ∷ [])
AreFresh-more decks deck e a v = elim (cases_lt v (length decks)) [
  | inl l ↦ fresh_as (deck_at (decks ++ deck ∷ []) v) (deck_at decks v) (deck_old decks deck v l) (a v)
  | inr l ↦ elim (cases_eq v (length decks)) [
    | inl s ↦ fresh_as (deck_at (decks ++ deck ∷ []) v) deck (deck_new decks deck v (sym s)) e
    | inr ne ↦ fresh_as (deck_at (decks ++ deck ∷ []) v) no_deck (get_or_past (decks ++ deck ∷ []) v no_deck (omega (arith, l, ne, length-append decks (deck ∷ [])))) (refl, refl)
  ]
]
  where
    fresh_as : (one two : Deck) → one ≡ two → (two.start ≡ 0) × (two.next ≡ 0) → (one.start ≡ 0) × (one.next ≡ 0)
    fresh_as one two same e = (ap (λ (x : Deck). x.start) same ∙ e.0, ap (λ (x : Deck). x.next) same ∙ e.1)
