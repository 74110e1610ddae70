-- What the methods of a board know of its fields.
use Rattle.mig_board.proofs.Common.{All, AreFreeWords, Colour, Colouring, CopyId, EdgeId, Entries, Global, HasBit, HasColour, HasNoBitFrom}
use Rattle.mig_board.proofs.Common.{HasNoCommon, HasNoCommonBit, IsBoard, IsFirstBit, IsFirstCommonBit, IsFreeAt, IsFreeEntry, IsFreeSet, IsFullFrom}
use Rattle.mig_board.proofs.Common.{IsLeastCommon, IsLeastMissingFrom, IsMissing, IsPainted, IsPresent, IsProper, Joins, Leads, List, MAX_ITEMS}
use Rattle.mig_board.proofs.Common.{MatchOption, None, Option, Some, Vec, ap, arith, cases_eq, colouring_of, div_ceil_times, get_or, inl, inr, length}
use Rattle.mig_board.proofs.Common.{mul-le, refl, replicate, set, slice_get, slice_get-get_or, slice_get_read, slice_get_within, subst, sym}
use Rattle.mig_board.proofs.Common.{vec_len, with_entry, words_for, ℕ, ◌%◌, ◌*◌, ◌+◌, ◌/◌, ◌<◌, ◌^◌, ◌↔◌, ◌∙◌, ◌≡◌, ◌≢◌, ◌≤◌, ◌⊎◌}
use Rattle.mig_board.specs.declared.boards.Board.TheInside.{Inside}
use Rattle.mig_board.proofs.Tables.{CanWrite, IsTabled, IsTabled-blank, IsTabled-written, place_within}

pub tabled_of : (a : Inside) → IsBoard a → IsTabled (colouring_of a) a.table.entries
tabled_of a b = record { proper = b.proper; table = b.table }

-- the ends of an edge as they are read
pub ends_read : (a : Inside) (g : Colouring) → colouring_of a ≡ g → (e : EdgeId) → e.0 < length g.ends → (x : CopyId × CopyId) → x ≡ get_or a.ends.items e.0 x → slice_get g.ends e.0 ≡ Some x
ends_read a g view e h x read = slice_get_read g.ends (length g.ends) e.0 x refl h (read ∙ ap (λ (q : Colouring). get_or q.ends e.0 x) view)

-- both are nodes
pub ends_in_range : (a : Inside) → IsBoard a → (g : Colouring) → colouring_of a ≡ g → (e : EdgeId) → e.0 < length g.ends → (x : CopyId × CopyId) → x ≡ get_or a.ends.items e.0 x → (x.0.0 < g.nodes) × (x.1.0 < g.nodes)
ends_in_range a b g view e h x read =
    let proper : IsProper g = subst IsProper view b.proper in
    let row = ends_read a g view e h x read in
    (proper.nodes_in_range e x.0 x.1 (inl row), proper.nodes_in_range e x.1 x.0 (inr row))

-- an edge that joins two nodes is there
pub joins_within : (g : Colouring) (e : EdgeId) (v w : CopyId) → Joins g e v w → e.0 < length g.ends
joins_within g e v w j = elim j [ inl h ↦ slice_get_within g.ends e.0 (v, w) h | inr h ↦ slice_get_within g.ends e.0 (w, v) h ]

-- `paint` may write
pub can_paint : (a : Inside) → IsBoard a → (g : Colouring) → colouring_of a ≡ g → (e : EdgeId) (k : Colour) (x : CopyId × CopyId)
    → slice_get g.painted e.0 ≡ Some None → IsFreeAt g e k → x ≡ get_or a.ends.items e.0 x → CanWrite (colouring_of a) e x.0 x.1 k (Some k) (Some e)
can_paint a b g view e k x plain free read =
    let now = subst (λ (g : Colouring). slice_get g.painted e.0 ≡ Some None) (sym view) plain in
    let free_now = subst (λ (g : Colouring). IsFreeAt g e k) (sym view) free in
    let within = slice_get_within a.painted.items e.0 None now in
    let row = slice_get_read a.ends.items (length a.painted.items) e.0 x b.proper.one_each within read in
    let first = free_now x.0 x.1 (inl row) in
    let second = free_now x.1 x.0 (inr row) in
    record {
      joins = inl row;
      first = b.proper.nodes_in_range e x.0 x.1 (inl row);
      second = b.proper.nodes_in_range e x.1 x.0 (inr row);
      colour = first.in_range;
      within = within;
      alone = λ v f w at l. elim at [ inl h ↦ absurd (first.absent f w (rw h at l)) | inr h ↦ absurd (second.absent f w (rw h at l)) ];
      was = λ l h. cc (now, h);
      both = inl (refl, refl);
    }

-- and so may `clear`
pub can_clear : (a : Inside) → IsBoard a → (g : Colouring) → colouring_of a ≡ g → (e : EdgeId) → IsPainted g e → (x : CopyId × CopyId)
    → x ≡ get_or a.ends.items e.0 x → (y : Option Colour) → y ≡ get_or a.painted.items e.0 y → (k : Colour) → y ≡ Some k
    → CanWrite (colouring_of a) e x.0 x.1 k None None
can_clear a b g view e has x read y read2 k is =
    let old = subst (λ (q : Colouring). IsPainted q e) (sym view) has in
    let within = slice_get_within a.painted.items e.0 (Some old.0) old.1 in
    let row = slice_get_read a.ends.items (length a.painted.items) e.0 x b.proper.one_each within read in
    let colour : HasColour (colouring_of a) e k = slice_get_read a.painted.items (length a.painted.items) e.0 y refl within read2 ∙ ap Some is in
    record {
      joins = inl row;
      first = b.proper.nodes_in_range e x.0 x.1 (inl row);
      second = b.proper.nodes_in_range e x.1 x.0 (inr row);
      colour = b.proper.colours_in_range e k colour;
      within = within;
      alone = λ v f w at l. elim at [
        | inl h ↦ b.proper.apart x.0 k f e w x.1 (rw h at l) (record { joins = inl row; colour = colour })
        | inr h ↦ b.proper.apart x.1 k f e w x.0 (rw h at l) (record { joins = inr row; colour = colour })
      ];
      was = λ l h. cc (colour, h);
      both = inr (refl, refl);
    }

-- the colouring with other colours, as the fields have it after a write
abbrev pub repainted : Inside → Entries → List (Option Colour) → Colouring
repainted a t painted = record { nodes = t.nodes; colours = t.colours; ends = a.ends.items; painted = painted }

-- the fields after the entries at both ends of an edge and its colour were written
pub written : (a : Inside) → IsBoard a → (e : EdgeId) (x : CopyId × CopyId) (k : Colour) (c : Option Colour) (o : Option EdgeId)
    → CanWrite (colouring_of a) e x.0 x.1 k c o → (t u : Entries) (m n : Option EdgeId)
    → t ≡ with_entry a.table x.0 k m → u ≡ with_entry t x.1 k n → m ≡ o → n ≡ o
    → IsTabled (repainted a u (set a.painted.items e.0 c)) u.entries × (u.nodes * u.colours ≤ 2 ^ 28)
written a b e x k c o can t u m n ht hu hm hn =
    rw (hu, ht, hm, hn) (IsTabled-written (colouring_of a) a.table.entries (tabled_of a b) e x.0 x.1 k c o can, b.few_entries)

-- the fields that `new` makes
pub new_board : (nodes colours : ℕ) (ends : Vec (CopyId × CopyId) Global) (painted : Vec (Option Colour) Global) (table : Entries) (n : ℕ) →
    painted.items ≡ replicate n None → table ≡ record { nodes = nodes; colours = colours; entries = replicate (nodes * colours) None } → n ≡ vec_len ends →
    All (λ p. (p.0.0 < nodes) × (p.1.0 < nodes)) ends.items → All (λ p. p.0 ≢ p.1) ends.items → vec_len ends ≤ MAX_ITEMS → nodes * colours ≤ 2 ^ 28 →
    IsBoard (record { ends = ends; painted = painted; table = table })
new_board nodes colours ends painted table n hp ht hn range loops few entries =
    let here : n ≡ length ends.items = hn ∙ ends.ok.0 in
    let b : IsTabled (record { nodes = table.nodes; colours = table.colours; ends = ends.items; painted = painted.items }) table.entries =
    rw (hp, ht, here) (IsTabled-blank nodes colours ends.items range loops) in
    record { proper = b.proper; table = b.table; few_edges = rw (← ends.ok.0) few; few_entries = rw ht entries }

-- ---- what is free

-- a colour has no entry at a node, or is present there
entry_at : (a : Inside) → IsBoard a → (v : CopyId) (k : Colour) → v.0 < a.table.nodes → k.0 < a.table.colours
    → (slice_get a.table.entries (v.0 * a.table.colours + k.0) ≡ Some None) ⊎ IsPresent (colouring_of a) v k
entry_at a b v k hv hk = by (get_or a.table.entries place None) (slice_get-get_or a.table.entries place None within)
  where
    place : ℕ
    place = v.0 * a.table.colours + k.0

    within : v.0 * a.table.colours + k.0 < length a.table.entries
    within = rw b.table.len (place_within (colouring_of a) v k hv hk)

    by : (o : Option EdgeId) → slice_get a.table.entries (v.0 * a.table.colours + k.0) ≡ Some o
        → (slice_get a.table.entries (v.0 * a.table.colours + k.0) ≡ Some None) ⊎ IsPresent (colouring_of a) v k
    by None read = inl read
    by (Some e) read = let r = (b.table.entry v k e hv hk).0 read in inr (e, r.0, r.1)

-- the entry of a missing colour is none
missing_free : (a : Inside) → IsBoard a → (v : CopyId) (k : Colour) → v.0 < a.table.nodes → IsMissing (colouring_of a) v k ↔ IsFreeEntry a.table v.0 k.0
missing_free a b v k h = (
  (λ m. record { in_range = m.in_range; none = elim (entry_at a b v k h m.in_range) [ inl none ↦ none | inr p ↦ absurd (m.absent p.0 p.1 p.2) ] }),
  (λ m. record { in_range = m.in_range; absent = λ e w l. cc (m.none, (b.table.entry v k e h m.in_range).1 (w, l)) }),
)

-- what the words of a node tell of each colour
pub record TellsFree (g : Colouring) (v : CopyId) (words : List ℕ) : Type 0 where
  pub len : length words ≡ words_for g.colours
  pub short : length words ≤ 2 ^ 26
  pub missing : (k : Colour) → HasBit words k.0 ↔ IsMissing g v k
  pub present : (k : Colour) → k.0 < g.colours → (HasBit words k.0 → ⊥) → IsPresent g v k

pub tells_free : (a : Inside) → IsBoard a → (g : Colouring) → colouring_of a ≡ g → (v : CopyId) → v.0 < g.nodes → (words : List ℕ) → IsFreeSet a.table v words → TellsFree g v words
tells_free a b g view v h words set =
    subst (λ (q : Colouring). TellsFree q v words) view (record { len = set.len; short = short; missing = missing; present = present })
  where
    node : v.0 < a.table.nodes
    node = subst (λ (q : Colouring). v.0 < q.nodes) (sym view) h

    short : length words ≤ 2 ^ 26
    short =
        let few : 1 * a.table.colours ≤ a.table.nodes * a.table.colours = mul-le 1 a.table.colours a.table.nodes a.table.colours (omega (arith, node)) (omega arith) in
        omega (arith, set.len, few, b.few_entries, (div_ceil_times a.table.colours 64 (omega arith)).1)

    missing : (k : Colour) → HasBit words k.0 ↔ IsMissing (colouring_of a) v k
    missing k = let r = missing_free a b v k node in (λ m. r.1 ((set.bit k.0).0 m), λ m. (set.bit k.0).1 (r.0 m))

    present : (k : Colour) → k.0 < a.table.colours → (HasBit words k.0 → ⊥) → IsPresent (colouring_of a) v k
    present k hk none =
        elim (entry_at a b v k node hk) [
          | inl free ↦ absurd (none ((set.bit k.0).1 (record { in_range = hk; none = free })))
          | inr p ↦ p
        ]

-- the same, bit by bit
pub free_words_of : (g : Colouring) (v : CopyId) (words : List ℕ) → TellsFree g v words → AreFreeWords g v words
free_words_of g v words t =
    record {
      len = t.len;
      bit = λ w i hw hi.
          let place : (64 * w + i) / 64 ≡ w = omega arith in
          let bit : (64 * w + i) % 64 ≡ i = omega arith in
          rw (place, bit) at (t.missing (record { 0 = 64 * w + i }));
    }

-- the first of them
pub least_missing_from : (g : Colouring) (v : CopyId) (words : List ℕ) → TellsFree g v words → (from k : ℕ) → IsFirstBit words from k → IsLeastMissingFrom g v (record { 0 = from }) (record { 0 = k })
least_missing_from g v words t from k first =
    let m = (t.missing (record { 0 = k })).0 first.has in
    record { missing = m; from_on = first.from_on; least = λ l h less. t.present l (omega (arith, less, m.in_range)) (first.least l.0 h less) }

pub full_from : (g : Colouring) (v : CopyId) (words : List ℕ) → TellsFree g v words → (from : Colour) → HasNoBitFrom words from.0 → IsFullFrom g v from
full_from g v words t from none = λ l h hl. t.present l hl (none l.0 h)

pub one_present : (g : Colouring) (v w : CopyId) (one two : List ℕ) → TellsFree g v one → TellsFree g w two → (l : Colour) → l.0 < g.colours → (HasBit one l.0 → HasBit two l.0 → ⊥) → IsPresent g v l ⊎ IsPresent g w l
one_present g v w one two s t l h none = grind (arith, cases_eq)

-- and the first that is missing at two nodes
pub least_common : (g : Colouring) (v w : CopyId) (one two : List ℕ) → TellsFree g v one → TellsFree g w two → (k : ℕ) → IsFirstCommonBit one two k → IsLeastCommon g v w (record { 0 = k })
least_common g v w one two s t k first =
    let m = (s.missing (record { 0 = k })).0 first.first in
    record {
      first = m;
      second = (t.missing (record { 0 = k })).0 first.second;
      least = λ l less. one_present g v w one two s t l (omega (arith, less, m.in_range)) (first.least l.0 less);
    }

pub no_common_free : (g : Colouring) (v w : CopyId) (one two : List ℕ) → TellsFree g v one → TellsFree g w two → HasNoCommonBit one two → HasNoCommon g v w
no_common_free g v w one two s t none = λ l h. one_present g v w one two s t l h (none l.0)

-- ---- one entry

pub edge_found : (a : Inside) → IsBoard a → (g : Colouring) → colouring_of a ≡ g → (v : CopyId) (k : Colour) → v.0 < g.nodes → k.0 < g.colours → (o : Option EdgeId) → slice_get a.table.entries (v.0 * a.table.colours + k.0) ≡ Some o → MatchOption o (IsMissing g v k) (λ e. (w : CopyId) × Leads g v k e w)
edge_found a b g view v k hv hk o read =
    subst (λ (q : Colouring). MatchOption o (IsMissing q v k) (λ e. (w : CopyId) × Leads q v k e w)) view
    (by o (subst (λ (q : Colouring). v.0 < q.nodes) (sym view) hv) (subst (λ (q : Colouring). k.0 < q.colours) (sym view) hk) read)
  where
    by : (o : Option EdgeId) → v.0 < a.table.nodes → k.0 < a.table.colours → slice_get a.table.entries (v.0 * a.table.colours + k.0) ≡ Some o
        → MatchOption o (IsMissing (colouring_of a) v k) (λ e. (w : CopyId) × Leads (colouring_of a) v k e w)
    by None hv hk read = (missing_free a b v k hv).1 (record { in_range = hk; none = read })
    by (Some e) hv hk read = (b.table.entry v k e hv hk).0 read
