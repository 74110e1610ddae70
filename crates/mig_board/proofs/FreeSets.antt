-- The sets of what is free in a table, beside its entries.
use Rattle.mig_board.proofs.Common.{AreFreeSets, Colour, CopyId, EdgeId, Entries, HasBit, IsFreeEntry, IsFreeSet, List, None, Option, Some, TurnsBit}
use Rattle.mig_board.proofs.Common.{ap, arith, bit_at, bit_at-zero, cases_eq, cases_lt, div_ceil_times, drop, get_or, get_or-drop, get_or-take}
use Rattle.mig_board.proofs.Common.{get_or_past, inl, inr, length, length-drop, length-set, length-take-le, mul-add-lt, mul-le, mul_comm, refl}
use Rattle.mig_board.proofs.Common.{same_Some, same_from_place, slice_get, slice_get-set_other, slice_get-set_same, subst, sym, take, with_entry}
use Rattle.mig_board.proofs.Common.{words_for, ℕ, ◌%◌, ◌*◌, ◌+◌, ◌/◌, ◌<◌, ◌↔◌, ◌∙◌, ◌≡◌, ◌≢◌, ◌≤◌, ◌⊎◌}

-- ---- places of bits

-- each colour has a bit
pub words_cover : (n : ℕ) → n ≤ words_for n * 64
words_cover n = (div_ceil_times n 64 (omega arith)).0

-- the word of a node's bit
pub bit_word : (v each k : ℕ) → ((v * each * 64 + k) / 64 ≡ v * each + k / 64) × ((v * each * 64 + k) % 64 ≡ k % 64)
bit_word v each k = grind arith

-- two bits at one place are one
pub same_bit : (v w k l each : ℕ) → k < each * 64 → l < each * 64 → v * each * 64 + k ≡ w * each * 64 + l → (v ≡ w) × (k ≡ l)
same_bit v w k l each hk hl e = let r : v * (each * 64) + k ≡ w * (each * 64) + l = omega arith in same_from_place v k w l (each * 64) hk hl r

-- ---- one entry is written

pub place_in_entries : (t : Entries) (words : List ℕ) → AreFreeSets t words → (v k : ℕ) → v < t.nodes → k < t.colours → v * t.colours + k < length t.entries
place_in_entries t words a v k hv hk = omega (arith, mul-add-lt v t.colours k t.nodes hv hk, mul_comm t.nodes t.colours, a.len)

-- the entry that was written, and another one
free_here : (t : Entries) (words : List ℕ) → AreFreeSets t words → (v : CopyId) (k : Colour) → v.0 < t.nodes → k.0 < t.colours → (o : Option EdgeId) → IsFreeEntry (with_entry t v k o) v.0 k.0 ↔ (o ≡ None)
free_here t words a v k hv hk o = grind (arith, slice_get-set_same, place_in_entries, same_Some)

free_there : (t : Entries) (v : CopyId) (k : Colour) → k.0 < t.colours → (o : Option EdgeId) (w l : ℕ) → ((w ≡ v.0) × (l ≡ k.0) → ⊥) → IsFreeEntry (with_entry t v k o) w l ↔ IsFreeEntry t w l
free_there t v k hk o w l ne = (
  (λ (h : IsFreeEntry (with_entry t v k o) w l). record { in_range = h.in_range; none = sym (same h.in_range) ∙ h.none }),
  (λ (h : IsFreeEntry t w l). record { in_range = h.in_range; none = same h.in_range ∙ h.none }),
)
  where
    same : l < t.colours → slice_get (with_entry t v k o).entries (w * t.colours + l) ≡ slice_get t.entries (w * t.colours + l)
    same hl = slice_get-set_other t.entries (v.0 * t.colours + k.0) (w * t.colours + l) o (λ e. ne (same_from_place w l v.0 k.0 t.colours hl hk e))

-- at one node and colour, or not
one_or_other : (v k w l : ℕ) → ((w ≡ v) × (l ≡ k)) ⊎ ((w ≡ v) × (l ≡ k) → ⊥)
one_or_other v k w l = grind (arith, cases_eq)

-- the bits after a write, where that of the entry is right and the others have not changed
written : (t : Entries) (words new : List ℕ) → AreFreeSets t words → (v : CopyId) (k : Colour) → v.0 < t.nodes → k.0 < t.colours → (o : Option EdgeId) → length new ≡ length words →
    (HasBit new (v.0 * words_for t.colours * 64 + k.0) ↔ (o ≡ None)) → ((p : ℕ) → p ≢ v.0 * words_for t.colours * 64 + k.0 → HasBit new p ↔ HasBit words p) → AreFreeSets (with_entry t v k o) new
written t words new a v k hv hk o len here others =
    record {
      len = length-set t.entries (v.0 * t.colours + k.0) o ∙ a.len;
      words_len = len ∙ a.words_len;
      bit = λ w l hw hl. elim (one_or_other v.0 k.0 w l) [
        | inl e ↦
            let r = free_here t words a v k hv hk o in
            rw (e.0, e.1) (λ h. r.1 (here.0 h), λ h. here.1 (r.0 h))
        | inr ne ↦
            (let old = a.bit w l hw hl in
            let kept = others (w * words_for t.colours * 64 + l) (λ e. ne (same_bit w v.0 l k.0 (words_for t.colours) hl (k_within) e)) in
            let entry = free_there t v k hk o w l ne in
            (λ h. entry.1 (old.0 (kept.0 h)), λ h. kept.1 (old.1 (entry.0 h))))
      ];
    }
  where
    k_within : k.0 < words_for t.colours * 64
    k_within = omega (arith, hk, words_cover t.colours)

-- whether there was none before
pub was_free : (t : Entries) (words : List ℕ) → AreFreeSets t words → (v : CopyId) (k : Colour) → v.0 < t.nodes → k.0 < t.colours → (x : Option EdgeId) → slice_get t.entries (v.0 * t.colours + k.0) ≡ Some x → HasBit words (v.0 * words_for t.colours * 64 + k.0) ↔ (x ≡ None)
was_free t words a v k hv hk x read = grind (arith, words_cover, same_Some)

-- an entry of the same kind is written: no bit changes
pub AreFreeSets-same : (t : Entries) (words : List ℕ) → AreFreeSets t words → (v : CopyId) (k : Colour) → v.0 < t.nodes → k.0 < t.colours → (x o : Option EdgeId) → slice_get t.entries (v.0 * t.colours + k.0) ≡ Some x → (x ≡ None) ↔ (o ≡ None) → AreFreeSets (with_entry t v k o) words
AreFreeSets-same t words a v k hv hk x o read same =
    let r = was_free t words a v k hv hk x read in
    written t words words a v k hv hk o refl (λ h. same.0 (r.0 h), λ h. r.1 (same.1 h)) (λ p ne. (λ h. h, λ h. h))

-- an entry of the other kind is written, and its bit is turned
pub AreFreeSets-turned : (t : Entries) (words new : List ℕ) → AreFreeSets t words → (v : CopyId) (k : Colour) → v.0 < t.nodes → k.0 < t.colours → (x o : Option EdgeId) → slice_get t.entries (v.0 * t.colours + k.0) ≡ Some x → ((x ≡ None) → ⊥) ↔ (o ≡ None) → TurnsBit words new (v.0 * words_for t.colours * 64 + k.0) → AreFreeSets (with_entry t v k o) new
AreFreeSets-turned t words new a v k hv hk x o read other turns =
    let r = was_free t words a v k hv hk x read in
    written t words new a v k hv hk o turns.len
    (λ h. other.0 (λ m. turns.here.0 h (r.1 m)), λ h. turns.here.1 (λ m. other.1 h (r.0 m))) turns.others

-- ---- the words of one node

pub IsFreeSet-of : (t : Entries) (words : List ℕ) → AreFreeSets t words → (v : CopyId) → v.0 < t.nodes → (first each : ℕ) → each ≡ words_for t.colours → first ≡ v.0 * each → IsFreeSet t v (take each (drop first words))
IsFreeSet-of t words a v hv first each he hf =
    subst (λ f. IsFreeSet t v (take each (drop f words))) (sym hf)
    (subst (λ e. IsFreeSet t v (take e (drop (v.0 * e) words))) (sym he) set_of)
  where
    n : ℕ
    n = words_for t.colours

    row : List ℕ
    row = take n (drop (v.0 * n) words)

    row_len : length row ≡ n
    row_len =
        let fits : (v.0 + 1) * n ≤ t.nodes * n = mul-le (v.0 + 1) n t.nodes n (omega (arith, hv)) (omega arith) in
        length-take-le n (drop (v.0 * n) words) (omega (arith, fits, a.words_len, length-drop (v.0 * n) words))

    same : (k : ℕ) → k < n * 64 → bit_at (get_or row (k / 64) 0) (k % 64) ≡ bit_at (get_or words ((v.0 * n * 64 + k) / 64) 0) ((v.0 * n * 64 + k) % 64)
    same k hk =
        let at = bit_word v.0 n k in
        ap (λ q. bit_at q (k % 64)) (get_or-take n (drop (v.0 * n) words) (k / 64) 0 (omega (arith, hk)) ∙ get_or-drop (v.0 * n) words (k / 64) 0) ∙
        ap (λ q. bit_at (get_or words q 0) (k % 64)) (sym at.0) ∙
        ap (λ q. bit_at (get_or words ((v.0 * n * 64 + k) / 64) 0) q) (sym at.1)

    set_of : IsFreeSet t v row
    set_of = record {
      len = row_len;
      bit = λ k. elim (cases_lt k (n * 64)) [
        | inl lt ↦ (let r = a.bit v.0 k hv lt in (λ h. r.0 (sym (same k lt) ∙ h), λ h. same k lt ∙ r.1 h))
        | inr ge ↦ (
          (λ (h : HasBit row k). absurd (past k ge h)),
          (λ (h : IsFreeEntry t v.0 k). absurd (omega (arith, h.in_range, ge, words_cover t.colours))),
        )
      ];
    }
      where
        past : (k : ℕ) → n * 64 ≤ k → HasBit row k → ⊥
        past k ge h = omega (arith, sym (ap (λ q. bit_at q (k % 64)) (get_or_past row (k / 64) 0 (omega (arith, ge, row_len)))) ∙ h, bit_at-zero (k % 64))
