-- What the number of an entry means: the last number of 32 bits says that there is no edge.
use Rattle.std.specs.Prelude.{◌≡◌, ℕ, Bool, Option, Some, None, ◌==◌, if◌then◌else◌}
use Rattle.mig_base.specs.declared.ids.EdgeId.{EdgeId}
use Rattle.mig_board.specs.declared.entries.MaybeEdge.TheInside.{Inside}
use Rattle.std.proofs.Common.{ap, sym, ◌∙◌, inl, inr, cond}
use Rattle.std.proofs.lemmas.Bool.Decides.{eqb_tells}

-- the entry of a number, and the number of an entry
abbrev pub entry_of : ℕ → Option EdgeId
entry_of n = if n == 4294967295 then None else Some (record { 0 = n })

abbrev pub entry_number : Option EdgeId → ℕ
entry_number None = 4294967295
entry_number (Some e) = e.0

-- the number of an entry
pub entry_number-entry_of : (n : ℕ) → entry_number (entry_of n) ≡ n
entry_number-entry_of n =
    elim (eqb_tells n 4294967295) [
      | inl h ↦ ap (λ (t : Bool). entry_number (cond t None (Some (record { 0 = n })))) h.0 ∙ sym h.1
      | inr h ↦ ap (λ (t : Bool). entry_number (cond t None (Some (record { 0 = n })))) h.0
    ]

pub fields_of : (a : Inside) → ◌≡◌ {A = Inside} (record { number = entry_number (entry_of a.number) }) a
fields_of a = let made : ℕ → Inside = λ n. record { number = n } in ap made (entry_number-entry_of a.number)
