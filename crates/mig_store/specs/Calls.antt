-- The calls of a store in memory, and how its record keeps them.
use Rattle.std.specs.Prelude.{◌≤◌, ◌+◌, ◌*◌, Bool, ℕ, List, All, length, map, slice_range}
use Rattle.mig_base.specs.declared.cells.Cell.{Cell}
use Rattle.mig_store.specs.declared.calls.Act.{Act}
use Rattle.mig_store.specs.declared.calls.Act.TheVariants.{Write, Copy, Land, Sync}
use Rattle.mig_store.specs.declared.calls.Note.{Note}
use Rattle.mig_store.specs.declared.calls.Span.{Span}

-- a call of a store in memory, with its bytes
pub data StoreCall : Type 0 where
  -- these bytes were asked to be written; a write that failed left the cell
  Wrote : Cell → List ℕ → Bool → StoreCall
  -- a copy of these bytes was asked to begin, and began if it is done
  Copies : Cell → Cell → List ℕ → Bool → StoreCall
  -- a copy ended
  Lands : Cell → Cell → StoreCall
  -- a sync succeeded
  Synced : StoreCall

-- an act, with the bytes that it asks to be written
abbrev pub call_with : Act → List ℕ → StoreCall
call_with (Write cell done) bytes = Wrote cell bytes done
call_with (Copy from to done) bytes = Copies from to bytes done
call_with (Land from to) bytes = Lands from to
call_with Sync bytes = Synced

-- a record's calls, and the room for calls
pub record Recorded : Type 0 where
  pub calls : List StoreCall
  pub room : ℕ

-- The bytes of all calls stand in one list

-- the call of a note, by that list
abbrev pub call_of : List ℕ → Note → StoreCall
call_of bytes n = call_with n.act (slice_range bytes n.span.from n.span.to)

abbrev pub calls_of : List ℕ → List Note → List StoreCall
calls_of bytes notes = map (call_of bytes) notes

-- a part of so many bytes, no longer than a slot
pub record IsSpan (count : ℕ) (s : Span) : Type 0 where
  pub order : s.from ≤ s.to
  pub within : s.to ≤ count
  pub short : s.to ≤ s.from + 4096

-- each note's bytes are there, and there are no more than a slot's for each note
pub record AreNoted (notes : List Note) (bytes : List ℕ) : Type 0 where
  pub spans : All (λ n. IsSpan (length bytes) n.span) notes
  pub few : length bytes ≤ 4096 * length notes
