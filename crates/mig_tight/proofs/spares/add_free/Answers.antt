use Rattle.mig_tight.proofs.Common.{Contains, List, SparesBefore, Spot, ap, arith, false≢true, first_slots, spot, subst, sym, ◌+◌, ◌<◌, ◌∙◌}
use Rattle.mig_tight.proofs.SpareLaws.{spares_free, spares_row, spares_taken}
use Rattle.mig_tight.proofs.spares.add_free.Goals as goal
use Rattle.mig_tight.proofs.spares.add_free.Goals.{then-not-contains+in_ok-push, else-not-contains}

pub loop-slot-preserved : goal.loop-slot-preserved
loop-slot-preserved c =
    let input = c.args.input.now in
    let d = c.args.disk.0 in
    let n = c.loop-slot.slot in
    let here : n < first_slots input d = omega (arith, c.loop-slot-test.true, c.loop-slot.auto.slot-end, c.requires.width) in
    let P : List Spot → Type 0 = λ spares. SparesBefore input d (n + 1) spares in
    let Q : List Spot → Type 0 = λ taken. Contains taken (spot d n) in
    elim c.if-not-contains.branch [
      | then-not-contains+in_ok-push w ↦
          subst P (sym (ap (λ v. v.items) w.spares-is ∙ w.in_ok-push.ensures.items))
          (spares_free input d n c.loop-slot.spares.items c.requires.there here c.loop-slot.invariant
          (λ has. false≢true (sym w.if-not-contains.true ∙ c.contains.ensures.1 (subst Q (sym c.requires.taken) has))))
      | else-not-contains w ↦
          subst P (sym (ap (λ v. v.items) w.spares-is))
          (spares_taken input d n c.loop-slot.spares.items c.requires.there here c.loop-slot.invariant (subst Q c.requires.taken (c.contains.ensures.0 w.if-not-contains.false)))
    ]

pub returns : goal.returns
returns c =
    spares_row c.args.input.now c.args.disk.0 c.loop-slot.slot c.loop-slot.spares.items (omega (arith, c.requires.width, c.loop-slot-test.false, c.loop-slot.auto.slot-end)) c.loop-slot.invariant
