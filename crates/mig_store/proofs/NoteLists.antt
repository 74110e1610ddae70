-- Calls whose bytes stand in one list.
use Rattle.mig_store.proofs.Common.{Act, All, All-append, AreNoted, Bool, Copy, IsSpan, Land, List, Note, Recorded, Span, StoreCall, Sync, Write, [], ap, arith, call_of, call_with, calls_of, cond}
use Rattle.mig_store.proofs.Common.{count_by, drop, drop-append-le, drop-append_seam, get_or, is_sync, length, length-append, length-drop, length-map, map-append, refl, slice_range, subst, suc}
use Rattle.mig_store.proofs.Common.{sum_by-cons, sym, take, take-append-le, take_all, zero, ℕ, ◌*◌, ◌++◌, ◌+◌, ◌-◌, ◌<◌, ◌∙◌, ◌∷◌, ◌≡◌, ◌≤◌}

-- a part of a list stays the same where the list grows
span_kept : (bytes more : List ℕ) (s : Span) → IsSpan (length bytes) s → slice_range (bytes ++ more) s.from s.to ≡ slice_range bytes s.from s.to
span_kept bytes more s is =
    ap (take (s.to - s.from)) (drop-append-le s.from bytes more (omega (arith, is.order, is.within)))
    ∙ take-append-le (s.to - s.from) (drop s.from bytes) more (omega (arith, is.order, is.within, length-drop s.from bytes))

-- and so do the calls whose bytes stand there
calls_kept : (bytes more : List ℕ) (notes : List Note) → All (λ n. IsSpan (length bytes) n.span) notes → calls_of (bytes ++ more) notes ≡ calls_of bytes notes
calls_kept bytes more [] spans = refl
calls_kept bytes more (n ∷ notes) spans = λ i.
    call_with n.act (span_kept bytes more n.span (spans 0 n (omega arith)) i) ∷ calls_kept bytes more notes (λ j d lt. spans (suc j) d (omega arith)) i

-- what was added is the part from the old end to the new one
span_new : (bytes more : List ℕ) → slice_range (bytes ++ more) (length bytes) (length (bytes ++ more)) ≡ more
span_new bytes more =
    ap (take (length (bytes ++ more) - length bytes)) (drop-append_seam bytes more)
    ∙ take_all (length (bytes ++ more) - length bytes) more (omega (arith, length-append bytes more))

-- a part of a list is one of a longer list
span_wider : (n m : ℕ) (s : Span) → n ≤ m → IsSpan n s → IsSpan m s
span_wider n m s le is = record { order = is.order; within = omega (arith, is.within, le); short = is.short }

-- with one call more, whose bytes are there
module _ (notes new_notes : List Note) (bytes : List ℕ) (act : Act) (span : Span) (noted : new_notes ≡ notes ++ record { act = act; span = span } ∷ []) where
  pub long_more : length new_notes ≡ length notes + 1
  long_more = ap (λ (l : List Note). length l) noted ∙ length-append notes (record { act = act; span = span } ∷ [])

  pub calls_more : (asked : List ℕ) → slice_range bytes span.from span.to ≡ asked → calls_of bytes new_notes ≡ calls_of bytes notes ++ call_with act asked ∷ []
  calls_more asked at =
      ap (calls_of bytes) noted ∙ map-append (call_of bytes) notes (record { act = act; span = span } ∷ []) ∙ (λ i. calls_of bytes notes ++ call_with act (at i) ∷ [])

  pub noted_more : All (λ n. IsSpan (length bytes) n.span) notes → IsSpan (length bytes) span → length bytes ≤ 4096 * (length notes + 1) → AreNoted new_notes bytes
  noted_more spans is few = record {
    spans = subst (λ (l : List Note). All (λ n. IsSpan (length bytes) n.span) l) (sym noted) (All-append (λ n. IsSpan (length bytes) n.span) notes (record { act = act; span = span } ∷ []) spans last);
    few = omega (arith, few, long_more);
  }
    where
      last : All (λ (n : Note). IsSpan (length bytes) n.span) (record { act = act; span = span } ∷ [])
      last zero d lt = is
      last (suc j) d lt = absurd (omega arith)

-- with one call more, whose bytes come last
module _ (notes new_notes : List Note) (bytes more new_bytes : List ℕ) (act : Act) (span : Span) (grown : new_bytes ≡ bytes ++ more) (begins : span.from ≡ length bytes) (ends : span.to ≡ length new_bytes)
    (noted : new_notes ≡ notes ++ record { act = act; span = span } ∷ []) (are : AreNoted notes bytes) where
  is_end : span.to ≡ length (bytes ++ more)
  is_end = ends ∙ ap (λ (l : List ℕ). length l) grown

  long : length new_bytes ≡ length bytes + length more
  long = ap (λ (l : List ℕ). length l) grown ∙ length-append bytes more

  pub calls_note : calls_of new_bytes new_notes ≡ calls_of bytes notes ++ call_with act more ∷ []
  calls_note =
      calls_more notes new_notes new_bytes act span noted more ((λ i. slice_range (grown i) (begins i) (is_end i)) ∙ span_new bytes more)
      ∙ ap (λ (l : List StoreCall). l ++ call_with act more ∷ []) (ap (λ (l : List ℕ). calls_of l notes) grown ∙ calls_kept bytes more notes are.spans)

  pub noted_note : length more ≤ 4096 → AreNoted new_notes new_bytes
  noted_note short =
      noted_more notes new_notes new_bytes act span noted (λ j d lt. span_wider (length bytes) (length new_bytes) (get_or notes j d).span (omega (arith, long)) (are.spans j d lt))
      (record { order = omega (arith, begins, ends, long); within = omega (arith, ends); short = omega (arith, begins, ends, long, short) })
      (omega (arith, are.few, long, short))

-- there is room for one note more
pub room_left : (notes : List Note) (bytes : List ℕ) (room : ℕ) (old : Recorded) → record { calls = calls_of bytes notes; room = room } ≡ old → length old.calls < old.room → length notes < room
room_left notes bytes room old is lt = omega (arith, subst (λ (r : Recorded). length r.calls < r.room) (sym is) lt, length-map notes (call_of bytes))

-- Syncs

-- whether the note is of a sync
abbrev pub notes_sync : Note → Bool
notes_sync n = is_sync (call_of [] n)

-- whatever the bytes are
same_sync : (act : Act) (bytes others : List ℕ) → is_sync (call_with act bytes) ≡ is_sync (call_with act others)
same_sync (Write cell done) bytes others = refl
same_sync (Copy from to done) bytes others = refl
same_sync (Land from to) bytes others = refl
same_sync Sync bytes others = refl

pub syncs_of : (bytes : List ℕ) (notes : List Note) → count_by is_sync (calls_of bytes notes) ≡ count_by notes_sync notes
syncs_of bytes [] = refl
syncs_of bytes (n ∷ notes) =
    sum_by-cons (λ (c : StoreCall). cond (is_sync c) 1 0) (call_of bytes n) (calls_of bytes notes)
    ∙ (λ i. cond (same_sync n.act (slice_range bytes n.span.from n.span.to) (slice_range [] n.span.from n.span.to) i) 1 0 + syncs_of bytes notes i)
    ∙ sym (sum_by-cons (λ (m : Note). cond (notes_sync m) 1 0) n notes)
