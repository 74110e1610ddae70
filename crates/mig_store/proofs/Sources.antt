-- The bytes that a copy reads.
use Rattle.mig_store.proofs.Common.{Bool, Cell, CellBytes, Copies, Entry, Flight, Held, IfSome, IsMoment, IsSome, List, Log, None, Option, Some, StoreCall, [], ap, bytes_at, cell_len, false≢true}
use Rattle.mig_store.proofs.Common.{held_at, length, moment_of, option_map, pushed, reads, refl, seen_all, subst, sym, ℕ, ◌++◌, ◌∙◌, ◌∷◌, ◌≡◌}
use Rattle.mig_store.proofs.EntryLists.{reads_entry, reads_nothing}
use Rattle.mig_store.proofs.Logs.{shown-length}

module _ (log : Log) (period : ℕ) (held : List (Held Entry)) (cells : held_at (seen_all log.calls period held) ≡ (moment_of log).cells) (cell : Cell) (told : IsSome (reads (moment_of log) cell)) where
  shows : option_map (λ (c : CellBytes). c.shown) (held_at (seen_all log.calls period held) cell) ≡ reads (moment_of log) cell
  shows = ap (λ (cells : Cell → Option CellBytes). option_map (λ (c : CellBytes). c.shown) (cells cell)) cells

  -- a cell that is told is held
  entry : (e : Entry) × (held_at held cell ≡ Some e)
  entry = at (held_at held cell) refl
    where
      at : (o : Option Entry) → held_at held cell ≡ o → (e : Entry) × (held_at held cell ≡ Some e)
      at None none = absurd (false≢true (subst (λ (o : Option (List ℕ)). IsSome o) (sym shows ∙ reads_nothing log.calls period held cell none) told))
      at (Some e) is = (e, is)

  -- what a read of it gives
  pub source : List ℕ
  source = bytes_at log.calls entry.0.first entry.0.shown

  pub source_read : reads (moment_of log) cell ≡ Some source
  unfolding source entry
  source_read = sym shows ∙ reads_entry log.calls period held cell entry.0 entry.1

  pub source_long : IsMoment (moment_of log) → length source ≡ cell_len cell
  source_long is = shown-length (cell_len cell) ((moment_of log).cells cell) source source_read (is.lengths cell)

  -- what holds of it by its entry
  pub source_held : (Q : List ℕ → Type 0) (items : List (Held Entry)) → items ≡ held → IfSome (held_at items cell) (λ e. Q (bytes_at log.calls e.first e.shown)) → Q source
  unfolding source entry
  source_held Q items same holds =
      subst (λ (o : Option Entry). IfSome o (λ e. Q (bytes_at log.calls e.first e.shown))) (ap (λ (l : List (Held Entry)). held_at l cell) same ∙ entry.1) holds

  -- the record with a call more, of this source
  pub source_pushed : (old new : Log) → log ≡ old → (call : List ℕ → StoreCall) → new.first ≡ log.first → new.calls ≡ log.calls ++ call source ∷ [] → new.room ≡ log.room
      → IfSome (reads (moment_of old) cell) (λ bytes. new ≡ record { first = old.first; calls = old.calls ++ call bytes ∷ []; room = old.room })
  source_pushed old new is call first calls room =
      subst (λ (l : Log). IfSome (reads (moment_of l) cell) (λ bytes. new ≡ record { first = l.first; calls = l.calls ++ call bytes ∷ []; room = l.room })) is
      (subst (λ (o : Option (List ℕ)). IfSome o (λ bytes. new ≡ record { first = log.first; calls = log.calls ++ call bytes ∷ []; room = log.room })) (sym source_read) (λ i. record { first = first i; calls = calls i; room = room i }))

-- a copy that was recorded, with the bytes that it reads
pub copy_recorded : (old new : Log) (f : Flight) (done : Bool) → IsMoment (moment_of old) → cell_len f.from ≡ cell_len f.to → IsSome (reads (moment_of old) f.from)
    → IfSome (reads (moment_of old) f.from) (λ bytes. new ≡ pushed old (Copies f.from f.to bytes done)) → (bytes : List ℕ) × (new ≡ pushed old (Copies f.from f.to bytes done)) × (length bytes ≡ cell_len f.to)
copy_recorded old new f done is slots told pushes = at (reads (moment_of old) f.from) refl told pushes
  where
    at : (o : Option (List ℕ)) → reads (moment_of old) f.from ≡ o → IsSome o → IfSome o (λ bytes. new ≡ pushed old (Copies f.from f.to bytes done)) → (bytes : List ℕ) × (new ≡ pushed old (Copies f.from f.to bytes done)) × (length bytes ≡ cell_len f.to)
    at None read none all = absurd (false≢true none)
    at (Some bytes) read some same = (bytes, same, shown-length (cell_len f.from) ((moment_of old).cells f.from) bytes read (is.lengths f.from) ∙ slots)
