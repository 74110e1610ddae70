-- A record without calls, at the beginning and after a crash.
use Rattle.mig_store.proofs.Common.{Cell, CellBytes, Half, HaveLength, Held, IfSome, Image, IsLog, IsMoment, IsSomeAnd, List, MayLeave, Moment, New, None, Old, Ones, Option, Pick, Some, StoreCall, []}
use Rattle.mig_store.proofs.Common.{ap, arith, begin_with, bytes_of, cases_Bool, cell_len, cond-false, cond-true, crash, drop, flights_none, fresh, held_at, held_map, inl, inr, length}
use Rattle.mig_store.proofs.Common.{length-append, length-drop, length-replicate, length-take, map, option_map, picked, reads, refl, subst, sym, take, true, ℕ, ◌/◌, ◌∙◌, ◌≡◌}
use Rattle.mig_store.proofs.CellLists.{held_at-map}

-- bytes of the cells' lengths
abbrev pub HaveLengths : Image → Type 0
HaveLengths image = (cell : Cell) → IfSome (image cell) (λ bytes. length bytes ≡ cell_len cell)

module _ (first : List (Held (List ℕ))) (held : List (Held CellBytes)) (cells : held_at held ≡ (λ cell. option_map fresh (held_at first cell))) (lengths : HaveLengths (held_at first)) (room : ℕ) where
  moment : IsMoment (begin_with first)
  moment = record { lengths = λ cell. at (cell_len cell) (held_at first cell) (lengths cell); flights = flights_none; laid = λ k d lt. absurd (omega arith) }
    where
      at : (n : ℕ) (o : Option (List ℕ)) → IfSome o (λ bytes. length bytes ≡ n) → IfSome (option_map fresh o) (HaveLength n)
      at n None long = tt
      at n (Some bytes) long = record { kept = long; shown = long; asked = long }

  pub fresh_log : (calls : List StoreCall) → calls ≡ [] → IsLog (record { first = first; calls = calls; room = room }) held [] []
  fresh_log calls none = subst (λ (l : List StoreCall). IsLog (record { first = first; calls = l; room = room }) held [] []) (sym none) (record {
    cells = cells;
    events = refl;
    flights = refl;
    moment = moment;
    within = omega arith;
    few_events = omega arith;
    few_flights = omega arith;
  })

pub picked_len : (pick : Pick) (n : ℕ) (c : CellBytes) → HaveLength n c → length (picked pick c) ≡ n
picked_len pick n c long = elim (cases_Bool c.unsettled) [
  | inl is ↦ ap (λ (l : List ℕ). length l) (cond-true _ _ _ is) ∙ at pick
  | inr not ↦ ap (λ (l : List ℕ). length l) (cond-false _ _ _ not) ∙ long.shown
]
  where
    at : (p : Pick) → length (bytes_of p c.kept c.asked) ≡ n
    at Old = long.kept
    at New = long.asked
    at Half =
        let front = length-take (length c.kept / 2) c.asked in
        omega (arith, long.kept, long.asked, front, length-append (take (length c.kept / 2) c.asked) (drop (length (take (length c.kept / 2) c.asked)) c.kept), length-drop (length (take (length c.kept / 2) c.asked)) c.kept)
    at Ones = length-replicate (length c.kept) 1 ∙ long.kept

-- what a crash leaves in the cells is an image that it may leave
module _ (m : Moment) (is : IsMoment m) (pick : Pick) where
  abbrev pub after_crash : Image
  after_crash cell = option_map (picked pick) (m.cells cell)

  pub crash_lengths : HaveLengths after_crash
  crash_lengths cell = at (m.cells cell) (is.lengths cell)
    where
      at : (o : Option CellBytes) → IfSome o (HaveLength (cell_len cell)) → IfSome (option_map (picked pick) o) (λ bytes. length bytes ≡ cell_len cell)
      at None long = tt
      at (Some c) long = picked_len pick (cell_len cell) c long

  pub crash_left : MayLeave m after_crash
  crash_left = record { same = λ cell out. same (m.cells cell) out; shape = λ cell. shape (cell_len cell) (m.cells cell) (is.lengths cell) }
    where
      same : (o : Option CellBytes) → ¬ IsSomeAnd o (λ c. c.unsettled ≡ true) → option_map (picked pick) o ≡ option_map (λ (c : CellBytes). c.shown) o
      same None out = refl
      same (Some c) out = elim (cases_Bool c.unsettled) [
        | inl is ↦ absurd (out is)
        | inr not ↦ ap Some (cond-false _ _ _ not)
      ]

      shape : (n : ℕ) (o : Option CellBytes) → IfSome o (HaveLength n) → option_map length (option_map (picked pick) o) ≡ option_map length (option_map (λ (c : CellBytes). c.shown) o)
      shape n None long = refl
      shape n (Some c) long = ap Some (picked_len pick n c long ∙ sym long.shown)

-- the lists after a crash
module _ (pick : Pick) (held : List (Held CellBytes)) where
  abbrev pub held_after : List (Held CellBytes)
  held_after = map (held_map (crash pick)) held

  abbrev pub first_after : List (Held (List ℕ))
  first_after = map (held_map (λ (c : CellBytes). c.shown)) held_after

  pub first_is : held_at first_after ≡ (λ cell. option_map (picked pick) (held_at held cell))
  first_is i cell = (held_at-map (λ (c : CellBytes). c.shown) held_after cell ∙ ap (option_map (λ (c : CellBytes). c.shown)) (held_at-map (crash pick) held cell) ∙ at (held_at held cell)) i
    where
      at : (o : Option CellBytes) → option_map (λ (c : CellBytes). c.shown) (option_map (crash pick) o) ≡ option_map (picked pick) o
      at None = refl
      at (Some c) = refl

  pub held_is : held_at held_after ≡ (λ cell. option_map fresh (held_at first_after cell))
  held_is i cell = (held_at-map (crash pick) held cell ∙ at (held_at held cell) ∙ ap (λ (image : Image). option_map fresh (image cell)) (sym first_is)) i
    where
      at : (o : Option CellBytes) → option_map (crash pick) o ≡ option_map fresh (option_map (picked pick) o)
      at None = refl
      at (Some c) = refl

-- without calls a read gives what the cells held at first
pub reads_fresh : (first : List (Held (List ℕ))) → reads (begin_with first) ≡ held_at first
reads_fresh first i cell = at (held_at first cell) i
  where
    at : (o : Option (List ℕ)) → option_map (λ (c : CellBytes). c.shown) (option_map fresh o) ≡ o
    at None = refl
    at (Some bytes) = refl
