-- What the methods of a table know of its fields.
use Rattle.mig_board.proofs.Common.{AreFreeSets, Bool, Colour, CopyId, EdgeId, Entries, IsTable, List, MatchBool, None, Option, Some, TurnsBit, ap, beq, entries_of, false, false≢true, get_or}
use Rattle.mig_board.proofs.Common.{get_or_default, length, none-some, not, refl, set, slice_get, slice_get_read, subst, swap, swap_is, sym, true, with_entry, with_items, with_items_is}
use Rattle.mig_board.proofs.Common.{words_for, ℕ, ◌*◌, ◌+◌, ◌<◌, ◌↔◌, ◌∙◌, ◌≡◌}
use Rattle.mig_board.specs.declared.table.Table.TheInside.{Inside}
use Rattle.mig_board.proofs.FreeSets.{AreFreeSets-same, AreFreeSets-turned, place_in_entries}

abbrev pub IsNone : Bool → Option EdgeId → Type 0
IsNone t o = MatchBool t (o ≡ None) ((e : EdgeId) × (o ≡ Some e))

some_not_none : (o : Option EdgeId) → (e : EdgeId) × (o ≡ Some e) → o ≡ None → ⊥
some_not_none o s h = none-some s.0 (sym h ∙ s.1)

pub same_kind : (x o : Option EdgeId) (was is : Bool) → IsNone was x → IsNone is o → not (beq is was) ≡ false → (x ≡ None) ↔ (o ≡ None)
same_kind x o true true a b t = (λ h. b, λ h. a)
same_kind x o false false a b t = (λ h. absurd (some_not_none x a h), λ h. absurd (some_not_none o b h))
same_kind x o true false a b t = absurd (false≢true (sym t))
same_kind x o false true a b t = absurd (false≢true (sym t))

pub other_kind : (x o : Option EdgeId) (was is : Bool) → IsNone was x → IsNone is o → not (beq is was) ≡ true → ((x ≡ None) → ⊥) ↔ (o ≡ None)
other_kind x o true true a b t = absurd (false≢true t)
other_kind x o false false a b t = absurd (false≢true t)
other_kind x o true false a b t = ((λ (h : (x ≡ None) → ⊥). absurd (h a)), (λ (h : o ≡ None). absurd (some_not_none o b h)))
other_kind x o false true a b t = ((λ (h : (x ≡ None) → ⊥). b), (λ (h : o ≡ None). some_not_none x a))

-- ---- one entry is written

-- the entry that is read where another one is written
pub record IsPut (a : Inside) (v : CopyId) (k : Colour) (i : ℕ) (x : Option EdgeId) : Type 0 where
  pub table : IsTable a
  pub node : v.0 < a.nodes
  pub colour : k.0 < a.colours
  pub place : i ≡ v.0 * a.colours + k.0
  pub read : x ≡ get_or a.entries.items i x

pub is_put : (a : Inside) → IsTable a → (t : Entries) → entries_of a ≡ t → (v : CopyId) (k : Colour) → v.0 < t.nodes → k.0 < t.colours → (i : ℕ) → i ≡ v.0 * a.colours + k.0 → (x : Option EdgeId) → x ≡ get_or a.entries.items i x → IsPut a v k i x
is_put a table t view v k hv hk i place x read =
    record {
      table = table;
      node = subst (λ (q : Entries). v.0 < q.nodes) (sym view) hv;
      colour = subst (λ (q : Entries). k.0 < q.colours) (sym view) hk;
      place = place;
      read = read;
    }

read_old : (a : Inside) (v : CopyId) (k : Colour) (i : ℕ) (x : Option EdgeId) → IsPut a v k i x → slice_get a.entries.items (v.0 * a.colours + k.0) ≡ Some x
read_old a v k i x p =
    let within = place_in_entries (entries_of a) a.free.items p.table v.0 k.0 p.node p.colour in
    slice_get_read a.entries.items (length a.entries.items) (v.0 * a.colours + k.0) x refl within (p.read ∙ ap (λ n. get_or a.entries.items n x) p.place)

abbrev pub entries_with : Inside → ℕ → Option EdgeId → Entries
entries_with a i o = record { nodes = a.nodes; colours = a.colours; entries = set a.entries.items i o }

pub put_same : (a : Inside) (v : CopyId) (k : Colour) (i : ℕ) (x o : Option EdgeId) → IsPut a v k i x → (was is : Bool) → IsNone was x → IsNone is o → not (beq is was) ≡ false → AreFreeSets (entries_with a i o) a.free.items
put_same a v k i x o p was is hw hi t =
    subst (λ n. AreFreeSets (entries_with a n o) a.free.items) (sym p.place)
    (AreFreeSets-same (entries_of a) a.free.items p.table v k p.node p.colour x o (read_old a v k i x p) (same_kind x o was is hw hi t))

pub put_turned : (a : Inside) (v : CopyId) (k : Colour) (i : ℕ) (x o : Option EdgeId) → IsPut a v k i x → (was is : Bool) → IsNone was x → IsNone is o → not (beq is was) ≡ true → (each : ℕ) → each ≡ words_for a.colours → (lent new : List ℕ) → lent ≡ a.free.items → TurnsBit lent new (v.0 * each * 64 + k.0) → AreFreeSets (entries_with a i o) (with_items a.free new).items
put_turned a v k i x o p was is hw hi t each he lent new hl turns =
    let turned : TurnsBit a.free.items new (v.0 * words_for a.colours * 64 + k.0) = subst (λ (q : List ℕ). TurnsBit q new (v.0 * words_for a.colours * 64 + k.0)) hl (subst (λ n. TurnsBit lent new (v.0 * n * 64 + k.0)) he turns) in
    subst (λ (q : List ℕ). AreFreeSets (entries_with a i o) q) (sym (with_items_is a.free new (turned.len ∙ sym a.free.ok.0)))
    (subst (λ n. AreFreeSets (entries_with a n o) new) (sym p.place)
    (AreFreeSets-turned (entries_of a) a.free.items new p.table v k p.node p.colour x o (read_old a v k i x p) (other_kind x o was is hw hi t) turned))

-- ---- two entries change places

pub swapped_by_puts : (t : Entries) (v : CopyId) (k l : Colour) (x y : Option EdgeId) → x ≡ get_or t.entries (v.0 * t.colours + k.0) x → y ≡ get_or t.entries (v.0 * t.colours + l.0) y → v.0 * t.colours + k.0 < length t.entries → v.0 * t.colours + l.0 < length t.entries →
    with_entry (with_entry t v k y) v l x ≡ record t { entries = swap t.entries (v.0 * t.colours + k.0) (v.0 * t.colours + l.0) }
swapped_by_puts t v k l x y hx hy ik il =
    let made : List (Option EdgeId) → Entries = λ e. record t { entries = e } in
    ap made (two t.entries (v.0 * t.colours + k.0) (v.0 * t.colours + l.0) x y hx hy ik il)
  where
    two : (xs : List (Option EdgeId)) (i j : ℕ) (x y : Option EdgeId) → x ≡ get_or xs i x → y ≡ get_or xs j y → i < length xs → j < length xs → set (set xs i y) j x ≡ swap xs i j
    two xs i j x y hx hy hi hj =
        ap (λ (q : Option EdgeId). set (set xs i q) j x) (hy ∙ get_or_default xs j y x hj) ∙ ap (λ (q : Option EdgeId). set (set xs i (get_or xs j x)) j q) hx ∙ swap_is xs i j x hi hj

-- the same, as the entries were read
pub swapped_now : (a : Inside) → IsTable a → (t : Entries) → entries_of a ≡ t → (v : CopyId) (k l : Colour) → v.0 < t.nodes → k.0 < t.colours → l.0 < t.colours → (i j : ℕ) (x y : Option EdgeId) → i ≡ v.0 * a.colours + k.0 → j ≡ v.0 * a.colours + l.0 → x ≡ get_or a.entries.items i x → y ≡ get_or a.entries.items j y →
    with_entry (with_entry t v k y) v l x ≡ record t { entries = swap t.entries (v.0 * t.colours + k.0) (v.0 * t.colours + l.0) }
swapped_now a table t view v k l hv hk hl i j x y pi pj hx hy =
    let here : AreFreeSets t a.free.items = subst (λ (q : Entries). AreFreeSets q a.free.items) view table in
    let read : (m : Colour) (n : ℕ) (z : Option EdgeId) → n ≡ v.0 * a.colours + m.0 → z ≡ get_or a.entries.items n z → z ≡ get_or t.entries (v.0 * t.colours + m.0) z =
    λ m n z pn hz. hz ∙ ap (λ q. get_or a.entries.items q z) pn ∙ ap (λ (q : Entries). get_or q.entries (v.0 * q.colours + m.0) z) view in
    swapped_by_puts t v k l x y (read k i x pi hx) (read l j y pj hy)
    (place_in_entries t a.free.items here v.0 k.0 hv hk) (place_in_entries t a.free.items here v.0 l.0 hv hl)
