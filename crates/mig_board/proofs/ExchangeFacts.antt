-- What `exchange` knows of a board's fields.
use Rattle.mig_board.proofs.Common.{Colour, Colouring, CopyId, EdgeId, Entries, Exchanges, IsBoard, IsMissing, IsPresent, Leads, List, MAX_ITEMS, None, Option, Some, ap, colouring_of, get_or}
use Rattle.mig_board.proofs.Common.{inl, inr, length, none-some, refl, same_Some, set, slice_get, slice_get_read, slice_get_within, subst, swap, sym, vec_len, ℕ, ◌*◌, ◌+◌, ◌<◌, ◌^◌, ◌∙◌, ◌≡◌}
use Rattle.mig_board.proofs.Common.{◌≤◌, ◌⊎◌}
use Rattle.mig_board.specs.declared.boards.Board.TheInside.{Inside}
use Rattle.mig_board.proofs.BoardFacts.{tabled_of}
use Rattle.mig_board.proofs.Tables.{place_of, IsTabled}
use Rattle.mig_board.proofs.Walks.{underway_at, underway_next, underway_pair, same_pair}
use Rattle.mig_board.proofs.Exchange.{CanExchange, IsExchanging, IsTurned, exchanging_start, exchanging_more, exchanging_read, turned_by_swap, has_in_range, IsExchanged, exchanging_end, recoloured, IsTabled-exchanged, Exchanges-from}

-- ---- a node that is reached, whose entries have not changed places yet

abbrev pub Reached : Colouring → List (Option EdgeId) → List (Option Colour) → List (Option EdgeId) → CopyId → Colour → Colour → CopyId → Colour → Colour → ℕ → Type 0
Reached g t painted table v a b at next other n = CanExchange g t v a b × IsExchanging g t painted table v a b at next other n

-- it is a node, and the two colours are colours
pub reached_at : (g : Colouring) (t : List (Option EdgeId)) (painted : List (Option Colour)) (table : List (Option EdgeId)) (v : CopyId) (a b : Colour) (at : CopyId) (next other : Colour) (n : ℕ) → Reached g t painted table v a b at next other n → at.0 < g.nodes
reached_at g t painted table v a b at next other n m = underway_at g m.0.tabled.proper v a b m.0.has at next other n m.1.underway

pub reached_colours : (g : Colouring) (t : List (Option EdgeId)) (painted : List (Option Colour)) (table : List (Option EdgeId)) (v : CopyId) (a b : Colour) (at : CopyId) (next other : Colour) (n : ℕ) → Reached g t painted table v a b at next other n → (next.0 < g.colours) × (other.0 < g.colours)
reached_colours g t painted table v a b at next other n m = underway_next g m.0.tabled.proper v a b m.0.lacks m.0.has at next other n m.1.underway

-- the entry that is read is the old one
pub found_old : (g : Colouring) (t : List (Option EdgeId)) (painted : List (Option Colour)) (table : List (Option EdgeId)) (v : CopyId) (a b : Colour) (at : CopyId) (next other : Colour) (n : ℕ) → Reached g t painted table v a b at next other n → (colours : ℕ) → colours ≡ g.colours → (i : ℕ) → i ≡ at.0 * colours + next.0 → (x : Option EdgeId) → slice_get table i ≡ Some x → slice_get t (place_of g at next) ≡ Some x
found_old g t painted table v a b at next other n m colours hc i hi x read =
    sym (exchanging_read g t v a b m.0 painted table at next other n m.1) ∙ subst (λ q. slice_get table q ≡ Some x) (hi ∙ ap (λ q. at.0 * q + next.0) hc) read

pub turned_old : (g : Colouring) (t : List (Option EdgeId)) (painted : List (Option Colour)) (table : List (Option EdgeId)) (v : CopyId) (a b : Colour) (at : CopyId) (next other : Colour) (n : ℕ) → Reached g t painted table v a b at next other n → (colours : ℕ) → colours ≡ g.colours → (i j : ℕ) → i ≡ at.0 * colours + next.0 → j ≡ at.0 * colours + other.0 → (table' : List (Option EdgeId)) → table' ≡ swap table i j → IsTurned g a b at table table'
turned_old g t painted table v a b at next other n m colours hc i j hi hj table' is =
    let here : place_of g at next ≡ i = sym (hi ∙ ap (λ q. at.0 * q + next.0) hc) in
    let there : place_of g at other ≡ j = sym (hj ∙ ap (λ q. at.0 * q + other.0) hc) in
    subst (λ (s : List (Option EdgeId)). IsTurned g a b at table s) (sym is)
    (subst (λ q. IsTurned g a b at table (swap table q j)) here
    (subst (λ q. IsTurned g a b at table (swap table (place_of g at next) q)) there
    (turned_by_swap g a b at table m.1.table_len (underway_at g m.0.tabled.proper v a b m.0.has at next other n m.1.underway) m.0.lacks.in_range (has_in_range g t v a b m.0) next other (underway_pair g v a b at next other n m.1.underway))))

-- before the loop
pub reached_start : (i : Inside) → IsBoard i → (g : Colouring) → colouring_of i ≡ g → (v : CopyId) (l h : Colour) → IsMissing g v l → IsPresent g v h → Reached g i.table.entries i.painted.items i.table.entries v l h v h l 0
reached_start i b g view v l h m p =
    let can : CanExchange g i.table.entries v l h = record { tabled = subst (λ (q : Colouring). IsTabled q i.table.entries) view (tabled_of i b); lacks = m; has = p } in
    (can, subst (λ (q : List (Option Colour)). IsExchanging g i.table.entries q i.table.entries v l h v h l 0) (sym (ap (λ (q : Colouring). q.painted) view)) (exchanging_start g i.table.entries v l h can))

-- ---- in the loop: the entries of the node that is reached have changed places too

-- the fields in the loop, beside the board at the beginning
pub record IsMidway (g : Colouring) (now : Inside) (v : CopyId) (a b : Colour) (at : CopyId) (next other : Colour) (found : Option EdgeId) (n : ℕ) : Type 0 where
  pub nodes : now.table.nodes ≡ g.nodes
  pub colours : now.table.colours ≡ g.colours
  pub ends : now.ends.items ≡ g.ends
  pub few_edges : length now.ends.items ≤ MAX_ITEMS
  pub few_entries : now.table.nodes * now.table.colours ≤ 2 ^ 28
  -- the table at the beginning
  pub first : List (Option EdgeId)
  -- the table before the entries of this node changed places
  pub before : List (Option EdgeId)
  pub reached : Reached g first now.painted.items before v a b at next other n
  pub turned : IsTurned g a b at before now.table.entries
  pub found_is : slice_get first (place_of g at next) ≡ Some found

at_in_range : (g : Colouring) (now : Inside) (v : CopyId) (a b : Colour) (at : CopyId) (next other : Colour) (found : Option EdgeId) (n : ℕ) → IsMidway g now v a b at next other found n → at.0 < g.nodes
at_in_range g now v a b at next other found n m = underway_at g m.reached.0.tabled.proper v a b m.reached.0.has at next other n m.reached.1.underway

next_in_range : (g : Colouring) (now : Inside) (v : CopyId) (a b : Colour) (at : CopyId) (next other : Colour) (found : Option EdgeId) (n : ℕ) → IsMidway g now v a b at next other found n → next.0 < g.colours
next_in_range g now v a b at next other found n m = (underway_next g m.reached.0.tabled.proper v a b m.reached.0.lacks m.reached.0.has at next other n m.reached.1.underway).0

-- an edge that was found leads on
pub found_leads : (g : Colouring) (now : Inside) (v : CopyId) (a b : Colour) (at : CopyId) (next other : Colour) (found : Option EdgeId) (n : ℕ) → IsMidway g now v a b at next other found n → (e : EdgeId) → found ≡ Some e → (w : CopyId) × Leads g at next e w
found_leads g now v a b at next other found n m e is =
    (m.reached.0.tabled.table.entry at next e (at_in_range g now v a b at next other found n m) (next_in_range g now v a b at next other found n m)).0 (m.found_is ∙ ap (λ (q : Option EdgeId). Some q) is)

-- where none was found, the next colour is missing
found_missing : (g : Colouring) (now : Inside) (v : CopyId) (a b : Colour) (at : CopyId) (next other : Colour) (found : Option EdgeId) (n : ℕ) → IsMidway g now v a b at next other found n → found ≡ None → IsMissing g at next
found_missing g now v a b at next other found n m is =
    record {
      in_range = next_in_range g now v a b at next other found n m;
      absent = λ e w l. none-some e (same_Some None (Some e) (sym (m.found_is ∙ ap (λ (q : Option EdgeId). Some q) is) ∙ (m.reached.0.tabled.table.entry at next e (at_in_range g now v a b at next other found n m) (next_in_range g now v a b at next other found n m)).1 (w, l)));
    }

-- ---- the edge that was found

pub edge_in_painted : (g : Colouring) (now : Inside) (v : CopyId) (a b : Colour) (at : CopyId) (next other : Colour) (found : Option EdgeId) (n : ℕ) → IsMidway g now v a b at next other found n → (e : EdgeId) (w : CopyId) → Leads g at next e w → e.0 < vec_len now.painted
edge_in_painted g now v a b at next other found n m e w l =
    subst (λ q. e.0 < q) (sym (now.painted.ok.0 ∙ m.reached.1.painted_len)) (slice_get_within g.painted e.0 (Some next) l.colour)

edge_in_first : (g : Colouring) (now : Inside) (v : CopyId) (a b : Colour) (at : CopyId) (next other : Colour) (found : Option EdgeId) (n : ℕ) → IsMidway g now v a b at next other found n → (e : EdgeId) (w : CopyId) → Leads g at next e w → e.0 < length g.ends
edge_in_first g now v a b at next other found n m e w l =
    subst (λ q. e.0 < q) m.reached.0.tabled.proper.one_each (slice_get_within g.painted e.0 (Some next) l.colour)

pub edge_in_ends : (g : Colouring) (now : Inside) (v : CopyId) (a b : Colour) (at : CopyId) (next other : Colour) (found : Option EdgeId) (n : ℕ) → IsMidway g now v a b at next other found n → (e : EdgeId) (w : CopyId) → Leads g at next e w → e.0 < vec_len now.ends
edge_in_ends g now v a b at next other found n m e w l =
    subst (λ q. e.0 < q) (sym (now.ends.ok.0 ∙ ap (λ (q : List (CopyId × CopyId)). length q) m.ends)) (edge_in_first g now v a b at next other found n m e w l)

ends_read : (g : Colouring) (now : Inside) (v : CopyId) (a b : Colour) (at : CopyId) (next other : Colour) (found : Option EdgeId) (n : ℕ) → IsMidway g now v a b at next other found n → (e : EdgeId) (w : CopyId) → Leads g at next e w → (x : CopyId × CopyId) → x ≡ get_or now.ends.items e.0 x → slice_get g.ends e.0 ≡ Some x
ends_read g now v a b at next other found n m e w l x read =
    slice_get_read g.ends (length g.ends) e.0 x refl (edge_in_first g now v a b at next other found n m e w l) (read ∙ ap (λ (q : List (CopyId × CopyId)). get_or q e.0 x) m.ends)

pub end_is_at : (g : Colouring) (now : Inside) (v : CopyId) (a b : Colour) (at : CopyId) (next other : Colour) (found : Option EdgeId) (n : ℕ) → IsMidway g now v a b at next other found n → (e : EdgeId) (w : CopyId) → Leads g at next e w → (x : CopyId × CopyId) → x ≡ get_or now.ends.items e.0 x → (x.0 ≡ at) ⊎ (x.1 ≡ at)
end_is_at g now v a b at next other found n m e w l x read =
    let row = ends_read g now v a b at next other found n m e w l x read in
    elim l.joins [
      | inl h ↦ inl (same_pair (slice_get g.ends e.0) x.0 at x.1 w row h).0
      | inr h ↦ inr (same_pair (slice_get g.ends e.0) x.0 w x.1 at row h).1
    ]

-- the node to which it leads is reached
pub reached_next : (g : Colouring) (now : Inside) (v : CopyId) (a b : Colour) (at : CopyId) (next other : Colour) (found : Option EdgeId) (n : ℕ) → (m : IsMidway g now v a b at next other found n) → (e : EdgeId) (w : CopyId) → Leads g at next e w → (x : CopyId × CopyId) → x ≡ get_or now.ends.items e.0 x → (y : CopyId) → (x ≡ (at, y)) ⊎ (x ≡ (y, at)) → Reached g m.first (set now.painted.items e.0 (Some other)) now.table.entries v a b y other next (n + 1)
reached_next g now v a b at next other found n m e w l x read y c =
    let row = ends_read g now v a b at next other found n m e w l x read in
    let on : Leads g at next e y = record {
      joins = elim c [ inl h ↦ inl (row ∙ ap (λ (q : CopyId × CopyId). Some q) h) | inr h ↦ inr (row ∙ ap (λ (q : CopyId × CopyId). Some q) h) ];
      colour = l.colour;
    } in
    (m.reached.0, exchanging_more g m.first v a b m.reached.0 now.painted.items m.before now.table.entries at next other n m.reached.1 m.turned e y on)

-- there are as few entries as before
pub few_kept : (t t' : Entries) (entries : List (Option EdgeId)) → t' ≡ record t { entries = entries } → t.nodes * t.colours ≤ 2 ^ 28 → t'.nodes * t'.colours ≤ 2 ^ 28
few_kept t t' entries is few = subst (λ (q : Entries). q.nodes * q.colours ≤ 2 ^ 28) (sym is) few

-- ---- at the end

-- the colouring in the loop, by the one at its beginning
view_now : (g : Colouring) (now : Inside) → now.table.nodes ≡ g.nodes → now.table.colours ≡ g.colours → now.ends.items ≡ g.ends → (painted : List (Option Colour)) → recoloured (colouring_of now) painted ≡ recoloured g painted
view_now g now hn hc he painted =
    let made : ℕ → ℕ → List (CopyId × CopyId) → Colouring = λ n c e. record { nodes = n; colours = c; ends = e; painted = painted } in
    ap (λ q. made q now.table.colours now.ends.items) hn ∙ ap (λ q. made g.nodes q now.ends.items) hc ∙ ap (λ (q : List (CopyId × CopyId)). made g.nodes g.colours q) he

exchanged_now : (g : Colouring) (now : Inside) (v : CopyId) (a b : Colour) (at : CopyId) (next other : Colour) (found : Option EdgeId) (n : ℕ) → (m : IsMidway g now v a b at next other found n) → found ≡ None → IsExchanged g m.first now.painted.items now.table.entries v a b m.reached.1.underway.steps
exchanged_now g now v a b at next other found n m is =
    exchanging_end g m.first v a b m.reached.0 now.painted.items m.before now.table.entries at next other n m.reached.1 m.turned (found_missing g now v a b at next other found n m is)

tabled_now : (g : Colouring) (now : Inside) (v : CopyId) (a b : Colour) (at : CopyId) (next other : Colour) (found : Option EdgeId) (n : ℕ) → IsMidway g now v a b at next other found n → found ≡ None → IsTabled (colouring_of now) now.table.entries
tabled_now g now v a b at next other found n m is =
    subst (λ (q : Colouring). IsTabled q now.table.entries) (sym (view_now g now m.nodes m.colours m.ends now.painted.items))
    (IsTabled-exchanged g m.first now.painted.items now.table.entries v a b m.reached.0 m.reached.1.underway.steps (exchanged_now g now v a b at next other found n m is))

pub board_now : (g : Colouring) (now : Inside) (v : CopyId) (a b : Colour) (at : CopyId) (next other : Colour) (found : Option EdgeId) (n : ℕ) → IsMidway g now v a b at next other found n → found ≡ None → IsBoard now
board_now g now v a b at next other found n m is =
    let b = tabled_now g now v a b at next other found n m is in
    record { proper = b.proper; table = b.table; few_edges = m.few_edges; few_entries = m.few_entries }

pub exchanges_now : (g : Colouring) (now : Inside) (v : CopyId) (a b : Colour) (at : CopyId) (next other : Colour) (found : Option EdgeId) (n : ℕ) → IsMidway g now v a b at next other found n → found ≡ None → Exchanges g (colouring_of now) v a b at
exchanges_now g now v a b at next other found n m is =
    subst (λ (q : Colouring). Exchanges g q v a b at) (sym (view_now g now m.nodes m.colours m.ends now.painted.items))
    (subst (λ (q : CopyId). Exchanges g (recoloured g now.painted.items) v a b q) m.reached.1.underway.at_is
    (Exchanges-from g m.first now.painted.items now.table.entries v a b m.reached.0 m.reached.1.underway.steps (exchanged_now g now v a b at next other found n m is)))
