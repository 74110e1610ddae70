use Rattle.mig_tight.proofs.Common.{InputLists, IsSoundState, PlanState, arith, false≢true, length, on_ok_weaker, subst, sym, ℕ, ◌<◌, ◌≡◌}
use Rattle.mig_tight.proofs.StateSteps.{item_there_read, read_queue, IsSound-read, Preserves-read}
use Rattle.mig_tight.proofs.planner.Planner.fill.Goals as goal

sound : (input : InputLists) (a s : PlanState) → a ≡ s → IsSoundState input s → IsSoundState input a
sound input a s e st = let P : PlanState → Type 0 = λ t. IsSoundState input t in subst P (sym e) st

spare_there : (h : ℕ) (a s : PlanState) → a ≡ s → h < length s.spares → h < length a.spares
spare_there h a s e lt = let P : PlanState → Type 0 = λ t. h < length t.spares in subst P (sym e) lt

pub unreachable-requires : goal.unreachable-requires
unreachable-requires c = grind (arith, read_queue, sound, spare_there, false≢true)

pub shift-requires-clause-item : goal.shift-requires-clause-item
shift-requires-clause-item c = grind (arith, item_there_read, sound, spare_there)

pub returns-clause-sound : goal.returns-clause-sound
returns-clause-sound c =
    let a : PlanState = record { spots = c.self.inside.spots.items; spares = c.self.inside.spares.items; waiting = c.self.inside.waiting.items; rounds = c.self.inside.rounds.items } in
    let P : PlanState → Type 0 = λ s. IsSoundState c.args.input.now s in
    on_ok_weaker c.shift.result (λ e. subst P (sym e) (IsSound-read c.args.input.now c.keeps_rules.ensures a (sound c.args.input.now a c.args.self.now c.self.view_is c.requires.sound) c.args.spare (spare_there c.args.spare a c.args.self.now c.self.view_is c.requires.spare) c.index.result.now c.index.ensures c.index_mut.result.now c.pop.new.self c.in-Some.item c.index_mut.ensures.value c.in-Some.ensures.taken)) c.shift.ensures

pub returns-clause-preserves : goal.returns-clause-preserves
returns-clause-preserves c = grind (arith, on_ok_weaker, Preserves-read, sound, spare_there)
