-- What each kind of call in a record changes.
use Rattle.mig_store.proofs.Common.{All, All-append, All-contains, AreFlights, Began, Bool, Cell, CellBytes, Contains, Contains-get_or, Copies, Flight, HaveLength, IfSome, Image, IsCopy, IsLaid}
use Rattle.mig_store.proofs.Common.{IsMoment, IsSome, IsSomeAnd, IsSourceOf, IsTargetOf, IsUnsettled, Lands, List, MayLeave, Moment, NoCell, None, Option, SameBut, Some, Synced, Wrote, []}
use Rattle.mig_store.proofs.Common.{after_call, after_events, any_contains, ap, arith, ask, cases_cell, cell_len, cond, contains_kept, false, false≢true, filter, filter_passes, flights_began}
use Rattle.mig_store.proofs.Common.{flights_ended, flights_filter, flights_push, flying, get_or, inl, inr, is_flight, is_flight-same, land, length, not, one_by, option_map, reads, refl}
use Rattle.mig_store.proofs.Common.{same_none, same_wider, settle, subst, suc, sym, target_here, true, zero, ℕ, ◌++◌, ◌<◌, ◌∙◌, ◌∷◌, ◌≡◌, ◌⊎◌}
use Rattle.mig_store.proofs.CellLists.{change_at-other, change_at-here}
use Rattle.mig_store.proofs.Moments.{changed_lengths, changed_told, changed_crash, changed_laid}

ask_shape : (bytes : List ℕ) (done : Bool) (n : ℕ) → length bytes ≡ n → (c : CellBytes) → HaveLength n c → HaveLength n (ask bytes done c)
ask_shape bytes true n fits c long = record { kept = long.kept; shown = fits; asked = fits }
ask_shape bytes false n fits c long = record { kept = long.kept; shown = long.shown; asked = fits }

land_shape : (n : ℕ) (c : CellBytes) → HaveLength n c → HaveLength n (land c)
land_shape n c long = record { kept = long.kept; shown = long.asked; asked = long.asked }

-- a write
module _ (m : Moment) (is : IsMoment m) (cell : Cell) (bytes : List ℕ) (done : Bool) (fits : length bytes ≡ cell_len cell) where
  abbrev wrote : Moment
  wrote = after_call m (Wrote cell bytes done)

  pub wrote_told : SameBut (λ c. c ≡ cell) (reads m) (reads wrote)
  wrote_told = changed_told m wrote is (ask bytes done) cell refl (ask_shape bytes done (cell_len cell) fits)

  pub wrote_crash : (image : Image) → MayLeave wrote image → (old : Image) × MayLeave m old × SameBut (λ c. c ≡ cell) old image
  wrote_crash = changed_crash m wrote is (ask bytes done) cell refl (ask_shape bytes done (cell_len cell) fits)

  pub wrote_moment : ¬ IsTargetOf (flying m) cell → ¬ IsSourceOf (flying m) cell → IsMoment wrote
  wrote_moment not_target not_source = record {
    lengths = changed_lengths m wrote is (ask bytes done) cell refl (ask_shape bytes done (cell_len cell) fits);
    flights = is.flights;
    laid = λ k d lt. changed_laid m wrote is (ask bytes done) cell refl (ask_shape bytes done (cell_len cell) fits) (get_or (flying m) k d)
        (λ e. not_source (any_contains (λ (c : Flight). c.from ≡ cell) (flying m) (get_or (flying m) k d) (Contains-get_or (flying m) k d lt) e))
        (λ e. not_target (any_contains (λ (c : Flight). c.to ≡ cell) (flying m) (get_or (flying m) k d) (Contains-get_or (flying m) k d lt) e)) (is.laid k d lt);
  }

pub wrote_shows : (m : Moment) (cell : Cell) (bytes : List ℕ) → IfSome (reads (after_call m (Wrote cell bytes true)) cell) (λ told. told ≡ bytes)
wrote_shows m cell bytes = subst (λ (o : Option CellBytes). IfSome (option_map (λ (c : CellBytes). c.shown) o) (λ told. told ≡ bytes)) (sym (change_at-here (ask bytes true) cell m.cells)) (here (m.cells cell))
  where
    here : (o : Option CellBytes) → IfSome (option_map (λ (c : CellBytes). c.shown) (option_map (ask bytes true) o)) (λ told. told ≡ bytes)
    here None = tt
    here (Some c) = refl

-- a copy that is asked to begin
module _ (m : Moment) (is : IsMoment m) (f : Flight) (bytes : List ℕ) (done : Bool) (fits : length bytes ≡ cell_len f.to) where
  abbrev asked : Moment
  asked = after_call m (Copies f.from f.to bytes done)

  pub asked_told : SameBut (λ c. c ≡ f.to) (reads m) (reads asked)
  asked_told = changed_told m asked is (ask bytes false) f.to refl (ask_shape bytes false (cell_len f.to) fits)

  pub asked_crash : (image : Image) → MayLeave asked image → (old : Image) × MayLeave m old × SameBut (λ c. c ≡ f.to) old image
  asked_crash = changed_crash m asked is (ask bytes false) f.to refl (ask_shape bytes false (cell_len f.to) fits)

  module _ (one : AreFlights (f ∷ [])) (from_still : ¬ IsTargetOf (flying m) f.from) (not_target : ¬ IsTargetOf (flying m) f.to) (not_source : ¬ IsSourceOf (flying m) f.to) where
    laid_before : (k : ℕ) (d : Flight) → k < length (flying m) → IsLaid asked (get_or (flying m) k d)
    laid_before k d lt = changed_laid m asked is (ask bytes false) f.to refl (ask_shape bytes false (cell_len f.to) fits) (get_or (flying m) k d)
        (λ e. not_source (any_contains (λ (c : Flight). c.from ≡ f.to) (flying m) (get_or (flying m) k d) (Contains-get_or (flying m) k d lt) e))
        (λ e. not_target (any_contains (λ (c : Flight). c.to ≡ f.to) (flying m) (get_or (flying m) k d) (Contains-get_or (flying m) k d lt) e)) (is.laid k d lt)

    from_other : f.from ≡ f.to → ⊥
    from_other e = one.still 0 f (omega arith) (subst (IsTargetOf (f ∷ [])) (sym e) (target_here f []))

    module _ (source : IsSomeAnd (m.cells f.from) (λ c. c.shown ≡ bytes)) (target : IsSome (m.cells f.to)) where
      laid_new : IsLaid asked f
      laid_new = subst (λ (o : Option CellBytes). IsSomeAnd o (λ source. IsSomeAnd (asked.cells f.to) (λ target. (target.asked ≡ source.shown) × (target.unsettled ≡ true)))) (sym (change_at-other (ask bytes false) f.to m.cells f.from from_other))
          (subst (λ (o : Option CellBytes). IsSomeAnd (m.cells f.from) (λ source. IsSomeAnd o (λ target. (target.asked ≡ source.shown) × (target.unsettled ≡ true)))) (sym (change_at-here (ask bytes false) f.to m.cells)) (at (m.cells f.from) (m.cells f.to) source target))
        where
          at : (s t : Option CellBytes) → IsSomeAnd s (λ c. c.shown ≡ bytes) → IsSome t → IsSomeAnd s (λ source. IsSomeAnd (option_map (ask bytes false) t) (λ target. (target.asked ≡ source.shown) × (target.unsettled ≡ true)))
          at None t none some = absurd none
          at (Some c) None is none = absurd (false≢true none)
          at (Some c) (Some t) is some = (sym is, refl)

      pub asked_moment : IsMoment asked
      asked_moment = record {
        lengths = changed_lengths m asked is (ask bytes false) f.to refl (ask_shape bytes false (cell_len f.to) fits);
        flights = flights_at done;
        laid = laid_at done;
      }
        where
          flights_at : (d : Bool) → AreFlights (after_events [] (cond d (m.events ++ Began f.from f.to ∷ []) m.events))
          flights_at true = subst AreFlights (sym (flights_began [] m.events f)) (flights_push (flying m) f is.flights one from_still not_target not_source)
          flights_at false = is.flights

          laid_at : (d : Bool) → All (IsLaid asked) (after_events [] (cond d (m.events ++ Began f.from f.to ∷ []) m.events))
          laid_at true = subst (λ (l : List Flight). All (IsLaid asked) l) (sym (flights_began [] m.events f)) (All-append (IsLaid asked) (flying m) (f ∷ []) laid_before (one_laid))
            where
              one_laid : (k : ℕ) (d : Flight) → k < length (f ∷ []) → IsLaid asked (get_or (f ∷ []) k d)
              one_laid zero d lt = laid_new
              one_laid (suc k) d lt = absurd (omega arith)
          laid_at false = laid_before

-- a copy that ends
module _ (m : Moment) (is : IsMoment m) (f : Flight) (has : Contains (flying m) f) where
  abbrev landed : Moment
  landed = after_call m (Lands f.from f.to)

  shape : (c : CellBytes) → HaveLength (cell_len f.to) c → HaveLength (cell_len f.to) (land c)
  shape = land_shape (cell_len f.to)

  laid : IsLaid m f
  laid = All-contains (IsLaid m) (flying m) f is.laid has

  pub landed_told : SameBut (IsTargetOf (f ∷ [])) (reads m) (reads landed)
  landed_told = same_wider (λ c. c ≡ f.to) (IsTargetOf (f ∷ [])) (λ c e. subst (IsTargetOf (f ∷ [])) (sym e) (target_here f [])) (reads m) (reads landed) (changed_told m landed is land f.to refl shape)

  target_unsettled : IsUnsettled m f.to
  target_unsettled = at (m.cells f.from) (m.cells f.to) laid
    where
      at : (s t : Option CellBytes) → IsSomeAnd s (λ source. IsSomeAnd t (λ target. (target.asked ≡ source.shown) × (target.unsettled ≡ true))) → IsSomeAnd t (λ c. c.unsettled ≡ true)
      at None t none = absurd none
      at (Some c) None none = absurd none
      at (Some c) (Some t) is = is.1

  pub landed_leaves : (image : Image) → MayLeave landed image → MayLeave m image
  landed_leaves image left = record { same = same; shape = λ cell. left.shape cell ∙ (changed_told m landed is land f.to refl shape).shape cell }
    where
      same : (cell : Cell) → ¬ IsUnsettled m cell → image cell ≡ reads m cell
      same cell out = at (cases_cell cell f.to)
        where
          at : (cell ≡ f.to) ⊎ (cell ≡ f.to → ⊥) → image cell ≡ reads m cell
          at (inl e) = absurd (out (subst (IsUnsettled m) (sym e) target_unsettled))
          at (inr other) = left.same cell (λ un. out (subst (λ (o : Option CellBytes). IsSomeAnd o (λ c. c.unsettled ≡ true)) (change_at-other land f.to m.cells cell other) un))
              ∙ (changed_told m landed is land f.to refl shape).same cell other

  pub landed_crash : (image : Image) → MayLeave landed image → (old : Image) × MayLeave m old × SameBut NoCell old image
  landed_crash image left = (image, landed_leaves image left, same_none NoCell image)

  pub landed_copied : IsCopy (reads m f.from) (reads landed f.to)
  landed_copied = subst (λ (o : Option CellBytes). IsCopy (reads m f.from) (option_map (λ (c : CellBytes). c.shown) o)) (sym (change_at-here land f.to m.cells)) (at (m.cells f.from) (m.cells f.to) laid)
    where
      at : (s t : Option CellBytes) → IsSomeAnd s (λ source. IsSomeAnd t (λ target. (target.asked ≡ source.shown) × (target.unsettled ≡ true)))
          → IsCopy (option_map (λ (c : CellBytes). c.shown) s) (option_map (λ (c : CellBytes). c.shown) (option_map land t))
      at None t none = absurd none
      at (Some c) None none = absurd none
      at (Some c) (Some t) is = is.0

  pub landed_flights : flying landed ≡ filter (λ c. not (is_flight f c)) (flying m)
  landed_flights = flights_ended [] m.events f

  pub others_gone : (g : Flight) → Contains (filter (λ c. not (is_flight f c)) (flying m)) g → g.to ≡ f.to → ⊥
  others_gone g kept same =
      let e : g ≡ f = one_by (λ (c : Flight). c.to) (flying m) is.flights.apart g f (contains_kept (λ c. not (is_flight f c)) (flying m) g kept) has same in
      let passes : not (is_flight f g) ≡ true = All-contains (λ (c : Flight). not (is_flight f c) ≡ true) (filter (λ c. not (is_flight f c)) (flying m)) g (filter_passes (λ c. not (is_flight f c)) (flying m)) kept in
      false≢true (sym (ap not (subst (λ (h : Flight). is_flight f h ≡ true) (sym e) (is_flight-same f))) ∙ passes)

  pub landed_moment : IsMoment landed
  landed_moment = record {
    lengths = changed_lengths m landed is land f.to refl shape;
    flights = subst AreFlights (sym landed_flights) (flights_filter (λ c. not (is_flight f c)) (flying m) is.flights);
    laid = subst (λ (l : List Flight). All (IsLaid landed) l) (sym landed_flights) each;
  }
    where
      each : (k : ℕ) (d : Flight) → k < length (filter (λ c. not (is_flight f c)) (flying m)) → IsLaid landed (get_or (filter (λ c. not (is_flight f c)) (flying m)) k d)
      each k d lt =
          let g = get_or (filter (λ c. not (is_flight f c)) (flying m)) k d in
          let kept : Contains (filter (λ c. not (is_flight f c)) (flying m)) g = Contains-get_or (filter (λ c. not (is_flight f c)) (flying m)) k d lt in
          let was = contains_kept (λ c. not (is_flight f c)) (flying m) g kept in
          changed_laid m landed is land f.to refl shape g
          (λ e. All-contains (λ (c : Flight). ¬ IsTargetOf (flying m) c.from) (flying m) g is.flights.still was (any_contains (λ (c : Flight). c.to ≡ g.from) (flying m) f has (sym e)))
          (others_gone g kept) (All-contains (IsLaid m) (flying m) g is.laid was)

-- a sync, where no copy is in flight
module _ (m : Moment) (is : IsMoment m) where
  abbrev synced : Moment
  synced = after_call m Synced

  same_at : (o : Option CellBytes) → option_map (λ (c : CellBytes). c.shown) (option_map settle o) ≡ option_map (λ (c : CellBytes). c.shown) o
  same_at None = refl
  same_at (Some c) = refl

  settled_at : (o : Option CellBytes) → IsSomeAnd (option_map settle o) (λ c. c.unsettled ≡ true) → ⊥
  settled_at None none = none
  settled_at (Some c) un = false≢true un

  pub synced_told : SameBut NoCell (reads m) (reads synced)
  synced_told = record { same = λ cell out. same_at (m.cells cell); shape = λ cell. ap (λ (o : Option (List ℕ)). option_map length o) (same_at (m.cells cell)) }

  pub synced_crash : (image : Image) → MayLeave synced image → (old : Image) × MayLeave m old × SameBut NoCell old image
  synced_crash image left = (
    reads m,
    same_none (IsUnsettled m) (reads m),
    record {
      same = λ cell out. left.same cell (settled_at (m.cells cell)) ∙ same_at (m.cells cell);
      shape = λ cell. left.shape cell ∙ ap (λ (o : Option (List ℕ)). option_map length o) (same_at (m.cells cell));
    },
  )

  pub synced_moment : flying m ≡ [] → IsMoment synced
  synced_moment none = record {
    lengths = λ cell. at (cell_len cell) (m.cells cell) (is.lengths cell);
    flights = is.flights;
    laid = subst (λ (l : List Flight). All (IsLaid synced) l) (sym none) (λ k d lt. absurd (omega arith));
  }
    where
      at : (n : ℕ) (o : Option CellBytes) → IfSome o (HaveLength n) → IfSome (option_map settle o) (HaveLength n)
      at n None long = tt
      at n (Some c) long = record { kept = long.shown; shown = long.shown; asked = long.shown }
