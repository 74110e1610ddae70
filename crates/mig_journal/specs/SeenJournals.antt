-- What a look at a journal answers.
use Rattle.std.specs.Prelude.{◌≡◌, Bool, true, false, List, ℕ, Option, IfSome}
use Rattle.mig_journal.specs.declared.looking.Seen.{Seen}
use Rattle.mig_journal.specs.declared.looking.Seen.TheVariants.{Idle, Running}

-- a plan is being carried out, or was
abbrev pub is_running : Seen → Bool
is_running Idle = false
is_running (Running digest) = true

-- the digest that was seen is the head, where that is told
abbrev pub HasHead : Seen → Option (List ℕ) → Type 0
HasHead Idle head = Unit {0}
HasHead (Running digest) head = IfSome head (λ bytes. digest ≡ bytes)
