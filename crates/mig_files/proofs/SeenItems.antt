-- Where items were seen, and at how many slots.
use Rattle.mig_files.proofs.Common.{AllByRecursion, AreCounted, Bool, Cell, IfSome, IsDistinct, IsDistinct-head, IsDistinct-tail, IsElsewhere, IsTrue}
use Rattle.mig_files.proofs.Common.{IsNotedAt, List, MatchBool, None, Option, Some, [], ap, arith, cond, eq-value, false, false≢true}
use Rattle.mig_files.proofs.Common.{insert_entry, is_cell, is_cell-same, is_cell-true, is_item, keys_of, length, lookup, nat_eq}
use Rattle.mig_files.proofs.Common.{nat_list_eq_equiv, one_if, pointwise, refl, same_text, seen_at, seen_in, sym, times, true, ℕ, ◌+◌, ◌<◌, ◌∙◌, ◌∷◌}
use Rattle.mig_files.proofs.Common.{◌≡◌, ◌≤◌}
use Rattle.mig_files.specs.Counting.{Counts, item_number}
use Rattle.mig_keys.specs.SameKeys.{eq-is}
use Rattle.std.proofs.Common.{not, position}
use Rattle.std.specs.Prelude.{is_some}
use Rattle.indexmap.proofs.MapLemmas.{Found-position, Missing-position, swap_remove_entry-found, swap_remove_entry-missing}
use Rattle.indexmap.specs.IndexMap.{swap_remove_entry}
use Rattle.std.proofs.lemmas.List.Sums.{sum_by-cons, sum_by-swap_remove}
use Rattle.std.proofs.lemmas.Option.{slice_get-get_or, slice_get-map}
use Rattle.std.specs.List.{sum_by, swap_remove}
use Rattle.std.specs.Option.{option_eq, option_map}

abbrev Seen : Type 0
Seen = Option (List ℕ)

abbrev pub Sights : Type 0
Sights = List (Cell × List ℕ)

pub none_some : {A : Type 0} {x : A} → None ≡ Some x → ⊥
none_some is = cc

abbrev eq : Cell → Cell → Bool
eq = eq-value.it

abbrev same : List ℕ → List ℕ → Bool
same = pointwise nat_eq

pub same_own : (item : List ℕ) → same item item ≡ true
same_own item = nat_list_eq_equiv.refl item

-- 1 where it is this item
abbrev one : List ℕ → Seen → ℕ
one item seen = one_if (is_item item seen)

-- What look-ups say

looked_up : (seen : Sights) (slot : Cell) → seen_at seen slot ≡ lookup (eq slot) seen
looked_up [] slot = refl
looked_up (e ∷ seen) slot =
    ap (λ (b : Bool). cond b (Some e.1) (seen_at seen slot)) (sym (eq-is slot e.0)) ∙ ap (λ (o : Seen). cond (eq slot e.0) (Some e.1) o) (looked_up seen slot)

pub seen_by : (seen : Sights) (slot : Cell) (found : Seen) → found ≡ lookup (eq slot) seen → found ≡ seen_at seen slot
seen_by seen slot found is = is ∙ sym (looked_up seen slot)

-- What writes do

module _ (e : Cell × List ℕ) (seen : Sights) (item some : List ℕ) where
  times_step : (b : Bool) (rest : Sights) (found : Seen) → times rest some + one some found ≡ times seen some + one some (Some item)
      → times (cond b ((e.0, item) ∷ seen) (e ∷ rest)) some + one some (cond b (Some e.1) found) ≡ times (e ∷ seen) some + one some (Some item)
  times_step true rest found is = omega arith
  times_step false rest found is = omega (arith, is)

times_put : (seen : Sights) (slot : Cell) (item some : List ℕ)
    → times (insert_entry eq seen slot item) some + one some (lookup (eq slot) seen) ≡ times seen some + one some (Some item)
times_put [] slot item some = omega arith
times_put (e ∷ seen) slot item some =
    times_step e seen item some (eq slot e.0) (insert_entry eq seen slot item) (lookup (eq slot) seen) (times_put seen slot item some)

times_taken : (seen : Sights) (slot : Cell) (some : List ℕ)
    → times (swap_remove_entry (eq slot) seen) some + one some (lookup (eq slot) seen) ≡ times seen some + 0
times_taken seen slot some = by (position (eq slot) (keys_of seen)) refl
  where
    counted : (l : Sights) → times l some ≡ sum_by (λ e. one some (Some e.1)) l
    counted [] = refl
    counted (e ∷ l) = omega (arith, counted l, sum_by-cons (λ (e : Cell × List ℕ). one some (Some e.1)) e l)

    by : (r : Option ℕ) → position (eq slot) (keys_of seen) ≡ r
        → times (swap_remove_entry (eq slot) seen) some + one some (lookup (eq slot) seen) ≡ times seen some + 0
    by None is =
        let missing = Missing-position (eq slot) seen is in
        rw (swap_remove_entry-missing (eq slot) seen is) (omega (arith, ap (one some) missing.value))
    by (Some i) is =
        let found = Found-position (eq slot) seen i is in
        let none : Cell × List ℕ = (slot, []) in
        let value = found.value ∙ slice_get-map (λ (e : Cell × List ℕ). e.1) seen i ∙ ap (option_map (λ e. e.1)) (slice_get-get_or seen i none found.within) in
        let left = swap_remove seen i none in
        let sum = sum_by-swap_remove (λ (e : Cell × List ℕ). one some (Some e.1)) seen i none found.within in
        rw (swap_remove_entry-found (eq slot) seen i none is) (omega (arith, ap (one some) value, sum, counted left, counted seen))

module _ (old new : Sights) (slot : Cell) (now : Seen) (apart : IsDistinct eq (keys_of new))
    (updates : (other : Cell) → lookup (eq other) new ≡ cond (eq slot other) now (lookup (eq other) old)) where
  noted_by : (made : Sights) → new ≡ made
      → ((some : List ℕ) → times made some + one some (lookup (eq slot) old) ≡ times old some + one some now) → IsNotedAt slot now old new
  noted_by made is counts = record {
    apart = apart;
    seen = λ other. looked_up new other ∙ updates other ∙ ap (λ (b : Bool). cond b now (lookup (eq other) old)) (eq-is slot other)
        ∙ ap (λ (o : Seen). cond (is_cell slot other) now o) (sym (looked_up old other));
    counts = λ some. omega (arith, counts some, ap (λ (l : Sights). times l some) is, ap (one some) (looked_up old slot));
  }

pub noted_put : (old new : Sights) (slot : Cell) (item : List ℕ) (apart : IsDistinct eq (keys_of new))
    → ((other : Cell) → lookup (eq other) new ≡ cond (eq slot other) (Some item) (lookup (eq other) old))
    → new ≡ insert_entry eq old slot item → IsNotedAt slot (Some item) old new
noted_put old new slot item apart updates is =
    noted_by old new slot (Some item) apart updates (insert_entry eq old slot item) is (times_put old slot item)

pub noted_taken : (old new : Sights) (slot : Cell) (apart : IsDistinct eq (keys_of new))
    → ((other : Cell) → lookup (eq other) new ≡ cond (eq slot other) None (lookup (eq other) old))
    → new ≡ swap_remove_entry (eq slot) old → IsNotedAt slot None old new
noted_taken old new slot apart updates is =
    noted_by old new slot None apart updates (swap_remove_entry (eq slot) old) is (times_taken old slot)

-- At how many slots an item was seen

one_le : (b : Bool) → one_if b ≤ 1
one_le true = omega arith
one_le false = omega arith

pub times_le : (seen : Sights) (item : List ℕ) → times seen item ≤ length seen
times_le [] item = omega arith
times_le (e ∷ seen) item = omega (arith, one_le (is_item item (Some e.1)), times_le seen item)

-- 1 where it was seen here
abbrev here : Sights → List ℕ → Cell → ℕ
here seen item slot = one item (seen_at seen slot)

here_le : (seen : Sights) (slot : Cell) (item : List ℕ) → here seen item slot ≤ times seen item
here_le [] slot item = omega arith
here_le (e ∷ seen) slot item = at (is_cell slot e.0) (here_le seen slot item)
  where
    at : (b : Bool) → here seen item slot ≤ times seen item → one item (cond b (Some e.1) (seen_at seen slot)) ≤ one item (Some e.1) + times seen item
    at true rest = omega arith
    at false rest = omega (arith, rest)

-- it counts at each of two slots
both_le : (seen : Sights) (item : List ℕ) (a b : Cell) → ¬ (a ≡ b) → here seen item a + here seen item b ≤ times seen item
both_le [] item a b apart = omega arith
both_le (e ∷ seen) item a b apart = at (is_cell a e.0) (is_cell b e.0) refl refl (both_le seen item a b apart)
  where
    at : (x y : Bool) → is_cell a e.0 ≡ x → is_cell b e.0 ≡ y → here seen item a + here seen item b ≤ times seen item
        → one item (cond x (Some e.1) (seen_at seen a)) + one item (cond y (Some e.1) (seen_at seen b)) ≤ one item (Some e.1) + times seen item
    at true true is_a is_b rest = absurd (apart (is_cell-true a e.0 is_a ∙ sym (is_cell-true b e.0 is_b)))
    at true false is_a is_b rest = omega (arith, here_le seen b item)
    at false true is_a is_b rest = omega (arith, here_le seen a item)
    at false false is_a is_b rest = omega (arith, rest)

-- one that was copied to this slot was seen at two
pub seen_twice : (from : Option Cell) {old new : Sights} (slot : Cell) (item : List ℕ) → IsNotedAt slot (Some item) old new
    → IfSome from (λ other. ¬ (other ≡ slot) × (seen_at old other ≡ Some item)) → IsTrue (is_some from) → 2 ≤ times new item
seen_twice None slot item noted was copied = absurd (false≢true copied)
seen_twice (Some other) {old} {new} slot item noted was copied =
    omega (arith, both_le new item other slot was.0, own other (noted.seen other ∙ at (is_cell slot other)), own slot (noted.seen slot ∙ here_now))
  where
    here_now : cond (is_cell slot slot) (Some item) (seen_at old slot) ≡ Some item
    here_now = ap (λ (b : Bool). cond b (Some item) (seen_at old slot)) (is_cell-same slot slot refl)

    at : (b : Bool) → cond b (Some item) (seen_at old other) ≡ Some item
    at true = refl
    at false = was.1

    own : (c : Cell) → seen_at new c ≡ Some item → here new item c ≡ 1
    own c is = ap (one item) is ∙ ap one_if (same_own item)

none_after : (seen : Sights) (slot : Cell) → AllByRecursion (λ y. eq slot y ≡ false) (keys_of seen) → None ≡ seen_at seen slot
none_after [] slot all = refl
none_after (e ∷ seen) slot all =
    none_after seen slot all.1 ∙ ap (λ (b : Bool). cond b (Some e.1) (seen_at seen slot)) (sym (sym (eq-is slot e.0) ∙ all.0))

-- one that was seen at more slots than this one was seen at another
found : (seen : Sights) (item : List ℕ) (slot : Cell) → IsDistinct eq (keys_of seen) → here seen item slot < times seen item
    → IsElsewhere (seen_in seen) item slot
found [] item slot apart more = absurd (omega (arith, more))
found (e ∷ seen) item slot apart more =
    at (is_cell slot e.0) (is_item item (Some e.1)) refl refl more (found seen item slot (IsDistinct-tail eq e.0 (keys_of seen) apart))
  where
    none : None ≡ seen_at seen e.0
    none = none_after seen e.0 (IsDistinct-head eq e.0 (keys_of seen) apart)

    kept : (c : Cell) (b : Bool) → is_cell c e.0 ≡ b → seen_at seen c ≡ Some item → cond b (Some e.1) (seen_at seen c) ≡ Some item
    kept c true is was = absurd (none_some (none ∙ ap (seen_at seen) (sym (is_cell-true c e.0 is)) ∙ was))
    kept c false is was = was

    first : is_item item (Some e.1) ≡ true → seen_at (e ∷ seen) e.0 ≡ Some item
    first own = ap (λ (b : Bool). cond b (Some e.1) (seen_at seen e.0)) (is_cell-same e.0 e.0 refl) ∙ ap Some (same_text e.1 item (sym own))

    later : IsElsewhere (seen_in seen) item slot → IsElsewhere (seen_in (e ∷ seen)) item slot
    later it = (it.0, kept it.0 (is_cell it.0 e.0) refl it.1, it.2)

    at : (x y : Bool) → is_cell slot e.0 ≡ x → is_item item (Some e.1) ≡ y → one item (cond x (Some e.1) (seen_at seen slot)) < one item (Some e.1) + times seen item
        → (here seen item slot < times seen item → IsElsewhere (seen_in seen) item slot) → IsElsewhere (seen_in (e ∷ seen)) item slot
    at true y is own more rest =
        later (rest (omega (arith, more, ap (one item) (none ∙ ap (seen_at seen) (sym (is_cell-true slot e.0 is))))))
    at false true is own more rest = (e.0, first own, λ same. false≢true (sym is ∙ is_cell-same slot e.0 (sym same)))
    at false false is own more rest = later (rest (omega (arith, more, ap one_if own)))

module _ {seen : Sights} {counts : Counts} (law : AreCounted seen counts) (item : List ℕ) (slot : Cell) where
  elsewhere : here seen item slot < item_number counts item → IsElsewhere (seen_in seen) item slot
  elsewhere more = found seen item slot law.apart (omega (arith, more, law.counted item))

  pub nowhere : item_number counts item ≤ here seen item slot → ¬ IsElsewhere (seen_in seen) item slot
  nowhere few other =
      omega (arith, few, law.counted item, both_le seen item other.0 slot other.2, ap (one item) other.1, ap one_if (same_own item))

  pub at_two : 2 ≤ item_number counts item → IsElsewhere (seen_in seen) item slot
  at_two two = elsewhere (omega (arith, two, one_le (is_item item (seen_at seen slot))))

  abbrev Tells : Bool → Type 0
  Tells there = MatchBool there (IsElsewhere (seen_in seen) item slot) (¬ IsElsewhere (seen_in seen) item slot)

  -- one that was seen at one slot was seen elsewhere exactly where it wasn't seen here
  pub at_one : item_number counts item ≡ 1 → (there : Bool) → there ≡ not (option_eq same (seen_at seen slot) (Some item)) → Tells there
  at_one once there is = rw is (by (seen_at seen slot) refl)
    where
      which : (other : List ℕ) → seen_at seen slot ≡ Some other → (b : Bool) → same other item ≡ b → Tells (not b)
      which other at true is_same = nowhere (omega (arith, once, ap (one item) at, ap one_if is_same))
      which other at false is_other = elsewhere (omega (arith, once, ap (one item) at, ap one_if is_other))

      by : (o : Seen) → seen_at seen slot ≡ o → Tells (not (option_eq same o (Some item)))
      by None at = elsewhere (omega (arith, once, ap (one item) at))
      by (Some other) at = which other at (same other item) refl
