-- Events that runs of calls add.
use Rattle.mig_lanes.proofs.Common.{Adds, Event, IsSome, List, None, Option, Some, State, [], ap, events_none, events_then, false≢true, option_map, refl, subst, sym, ◌++◌, ◌∙◌, ◌≡◌}

told_more : (added : List Event) (old new : Option (List Event)) → new ≡ option_map (λ before. before ++ added) old → IsSome old → IsSome new
told_more added None new e told = absurd (false≢true told)
told_more added (Some before) new e told = subst IsSome (sym e) refl

module _ (P : List Event → Type 0) (old mid new : State) where
  -- no events more
  pub adds_kept : Adds P old mid → new.events ≡ option_map (λ before. before ++ []) mid.events → Adds P old new
  adds_kept adds e told = let a = adds told in (a.0, a.1, e ∙ sym (events_none mid.events) ∙ a.2)

  pub kept_adds : mid.events ≡ option_map (λ before. before ++ []) old.events → Adds P mid new → Adds P old new
  kept_adds e adds told =
      let a = adds (told_more [] old.events mid.events e told) in
      (a.0, a.1, a.2 ∙ ap (λ (o : Option (List Event)). option_map (λ before. before ++ a.0) o) (e ∙ sym (events_none old.events)))

  -- events that have P, and then events that have Q
  pub adds_then : (Q R : List Event → Type 0) → ((a b : List Event) → P a → Q b → R (a ++ b)) → Adds P old mid → Adds Q mid new → Adds R old new
  adds_then Q R both first second told =
      let a = first told in
      let b = second (told_more a.0 old.events mid.events a.2 told) in
      (a.0 ++ b.0, both a.0 b.0 a.1 b.1, events_then a.0 b.0 old.events mid.events new.events a.2 b.2)

pub adds_wider : (P Q : List Event → Type 0) (old new : State) → ((added : List Event) → P added → Q added) → Adds P old new → Adds Q old new
adds_wider P Q old new within adds told = let a = adds told in (a.0, within a.0 a.1, a.2)

pub adds_none : (P : List Event → Type 0) (old new : State) → P [] → new.events ≡ option_map (λ before. before ++ []) old.events → Adds P old new
adds_none P old new p e told = ([], p, e)
