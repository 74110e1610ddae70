use Rattle.mig_drain.proofs.Common.{AreDealt, AreFewest, DrainError, Drained, Empties, Err, IfOk, IfOk-weaker, InputLists, IsErr, NeedsToEmpty, Ok, PlansHave, Result, arith, free_elsewhere, places}
use Rattle.mig_drain.proofs.Common.{present, quotient, refl, transfer_graph, with_next, ℕ, ◌<◌, ◌≡◌}
use Rattle.mig_drain.proofs.Dealing.{empties, plans_have, quotient_is}
use Rattle.mig_drain.proofs.Emptying.{needs_to_empty}
use Rattle.mig_drain.proofs.ReceiverLaws.{IfOk-both, takes_most}
use Rattle.mig_drain.proofs.drains.drain.Goals as goal

-- the rounds are the fewest, and the next disks are those that items are dealt to in these rounds
abbrev AreFewestOf : InputLists → ℕ → Drained → Type 0
AreFewestOf input v d = AreFewest input v d.rounds

abbrev AreDealtOf : InputLists → ℕ → Drained → Type 0
AreDealtOf input v d = AreDealt input v (places input v d.rounds) d.next

pub returns-clause-empties : goal.returns-clause-empties
returns-clause-empties c =
    let input = c.args.input.now in
    let v = c.args.disk.0 in
    IfOk-both c.find_drain.result (AreFewestOf input v) (AreDealtOf input v) (λ (d : Drained). Empties input v d.next)
    (λ d fewest dealt. empties input c.keeps_rules.ensures v c.requires d.rounds d.next dealt fewest.enough) c.find_drain.ensures.fewest c.find_drain.ensures.dealt

pub returns-clause-rounds : goal.returns-clause-rounds
returns-clause-rounds c =
    let input = c.args.input.now in
    let v = c.args.disk.0 in
    IfOk-both c.find_drain.result (AreFewestOf input v) (AreDealtOf input v) (λ (d : Drained). quotient (transfer_graph (with_next input d.next)) ≡ d.rounds)
    (λ d fewest dealt. quotient_is input c.keeps_rules.ensures v c.requires d.rounds d.next dealt fewest.enough fewest.least) c.find_drain.ensures.fewest c.find_drain.ensures.dealt

pub returns-clause-planned : goal.returns-clause-planned
returns-clause-planned c =
    let input = c.args.input.now in
    let v = c.args.disk.0 in
    IfOk-both c.find_drain.result (AreFewestOf input v) (AreDealtOf input v) (λ (d : Drained). PlansHave (with_next input d.next) d.rounds)
    (λ d fewest dealt. plans_have input c.keeps_rules.ensures v c.requires d.rounds d.next dealt fewest.enough fewest.least) c.find_drain.ensures.fewest c.find_drain.ensures.dealt

pub returns-clause-needed : goal.returns-clause-needed
returns-clause-needed c =
    let input = c.args.input.now in
    let v = c.args.disk.0 in
    IfOk-weaker c.find_drain.result (AreFewestOf input v) (λ (d : Drained). NeedsToEmpty input v d.rounds)
    (λ d fewest. needs_to_empty input v d.rounds c.keeps_rules.ensures c.requires fewest) c.find_drain.ensures.fewest

no_room : (input : InputLists) (v : ℕ) (r : Result Drained DrainError) → IfOk r (AreFewestOf input v) → free_elsewhere input v < present input v → IsErr r
no_room input v (Ok d) fewest less = absurd (omega (arith, less, fewest.enough.come, takes_most input v d.rounds))
no_room input v (Err e) fewest less = refl

pub returns-clause-no_room : goal.returns-clause-no_room
returns-clause-no_room c = no_room c.args.input.now c.args.disk.0 c.find_drain.result c.find_drain.ensures.fewest
