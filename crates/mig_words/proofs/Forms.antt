-- Words are those of one command.
use Rattle.mig_words.proofs.Common.{Form, List, None, Option, Some, [], ap, codes, refl, sym, ℕ, ◌∙◌, ◌∷◌, ◌≡◌}
use Rattle.mig_words.specs.Words.{After, Audit, Check, Drain, Drill, Fill, Halt, Live, Move, Names, Plan, PlanTight, Rehearse, Resume, TaskNames, word_by, words_of}
use Rattle.mig_words.specs.declared.words.Reader.{Reader}
use Rattle.mig_words.specs.declared.words.Reader.TheVariants.{Roomy, Tight}
use Rattle.std.specs.Prelude.{bytes_eq, if◌then◌else◌}

abbrev four : (disks now next plan : List ℕ) → Names
four disks now next plan = record { disks = disks; now = now; next = next; plan = plan }

-- a command over a task, by how its input is read
abbrev read_by : Reader → Names → TaskNames
read_by reader names = record { reader = reader; files = names }

-- those of one reader, or another command
abbrev over_four : Reader → List ℕ → Names → Option Form → Option Form
over_four reader word names other =
    if bytes_eq word (word_by reader (codes "after")) then Some (After (read_by reader names)) else if bytes_eq word (word_by reader (codes "move")) then Some (Move (read_by reader names))
    else if bytes_eq word (word_by reader (codes "resume")) then Some (Resume (read_by reader names)) else other

abbrev over_five : Reader → List ℕ → Names → List ℕ → Option Form → Option Form
over_five reader word names last other = if bytes_eq word (word_by reader (codes "halt")) then Some (Halt (read_by reader names) last) else other

abbrev form_by : List (List ℕ) → Option Form
form_by (word ∷ a ∷ b ∷ []) = if bytes_eq word (codes "fill") then Some (Fill a b) else if bytes_eq word (codes "audit") then Some (Audit a b) else None
form_by (word ∷ a ∷ b ∷ c ∷ []) = if bytes_eq word (codes "rehearse") then Some (Rehearse a b c) else None
form_by (word ∷ a ∷ b ∷ c ∷ d ∷ []) =
    if bytes_eq word (codes "drain") then Some (Drain a b c d) else if bytes_eq word (codes "drill") then Some (Drill (four a b c d))
    else if bytes_eq word (codes "plan-tight") then Some (PlanTight (four a b c d))
    else over_four Roomy word (four a b c d) (over_four Tight word (four a b c d) None)
form_by (word ∷ a ∷ b ∷ c ∷ d ∷ e ∷ []) =
    if bytes_eq word (codes "plan") then Some (Plan (four a b c d) e) else if bytes_eq word (codes "check") then Some (Check (four a b c d) e)
    else if bytes_eq word (codes "live") then Some (Live (four a b c d) e) else over_five Roomy word (four a b c d) e (over_five Tight word (four a b c d) e None)
form_by _ = None

-- each is found by its words
pub record IsFound (reader : Reader) (names : Names) : Type 0 where
  pub after : form_by (words_of (After (read_by reader names))) ≡ Some (After (read_by reader names))
  pub move : form_by (words_of (Move (read_by reader names))) ≡ Some (Move (read_by reader names))
  pub resume : form_by (words_of (Resume (read_by reader names))) ≡ Some (Resume (read_by reader names))
  pub halt : (layout : List ℕ) → form_by (words_of (Halt (read_by reader names) layout)) ≡ Some (Halt (read_by reader names) layout)

found_by : (reader : Reader) (names : Names) → IsFound reader names
found_by Roomy names = record { after = refl; move = refl; resume = refl; halt = λ layout. refl }
found_by Tight names = record { after = refl; move = refl; resume = refl; halt = λ layout. refl }

by_words : (form : Form) → form_by (words_of form) ≡ Some form
by_words (Plan names cert) = refl
by_words (Check names cert) = refl
by_words (PlanTight names) = refl
by_words (After task) = (found_by task.reader task.files).after
by_words (Fill disks now) = refl
by_words (Audit disks now) = refl
by_words (Rehearse disks per_pair limit) = refl
by_words (Move task) = (found_by task.reader task.files).move
by_words (Resume task) = (found_by task.reader task.files).resume
by_words (Drill names) = refl
by_words (Live names script) = refl
by_words (Drain disks now name next) = refl
by_words (Halt task layout) = (found_by task.reader task.files).halt layout

pub one_form : (a b : Form) → words_of a ≡ words_of b → a ≡ b
one_form a b h = let e : Some a ≡ Some b = sym (by_words a) ∙ ap form_by h ∙ by_words b in cc
