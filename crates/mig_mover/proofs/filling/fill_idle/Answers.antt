use Rattle.mig_mover.proofs.Common.{All, Spot, slot_of, then_sync}
use Rattle.mig_mover.proofs.FillSteps.{made_sound, synced_idle, synced_made}
use Rattle.mig_mover.proofs.Settling.{after_quiet, quiet_wider}
use Rattle.mig_mover.proofs.TargetLaws.{none_of}
use Rattle.mig_mover.proofs.filling.fill_idle.Goals as goal

pub put_items-requires-clause-asked : goal.put_items-requires-clause-asked
put_items-requires-clause-asked g c = none_of {P = All (λ (spot : Spot). g.S.Store.asked (slot_of c.args.input.now spot)) c.args.input.now.spots}
    c.in_ok-spot.field-0 c.in_default.not-Some c.in_ok-spot.ensures.asked

pub returns-in-Some-clause-change : goal.returns-in-Some-clause-change
returns-in-Some-clause-change g c = quiet_wider c.find_taken.ensures.change

pub returns-in_err-sync-clause-change : goal.returns-in_err-sync-clause-change
returns-in_err-sync-clause-change g c =
    then_sync _ _ _ _ c.requires.none (after_quiet c.find_taken.ensures.change c.put_items.ensures.change) c.sync.ensures.ends.0 c.sync.ensures.ends.1

pub returns-clause-change : goal.returns-clause-change
returns-clause-change g c =
    then_sync _ _ _ _ c.requires.none (after_quiet c.find_taken.ensures.change c.put_items.ensures.change) c.sync.ensures.ends.0 c.sync.ensures.ends.1

pub returns-clause-made : goal.returns-clause-made
returns-clause-made g c = synced_made c.args.input.now c.requires.none (after_quiet c.find_taken.ensures.change c.put_items.ensures.change)
    c.sync.ensures.ends.1
    c.in_ok-put_items.ensures.made

pub returns-clause-idle : goal.returns-clause-idle
returns-clause-idle g c = synced_idle c.args.input.now c.requires.none (after_quiet c.find_taken.ensures.change c.put_items.ensures.change)
    c.sync.ensures.ends.1
    c.requires.idle

pub returns-clause-sound : goal.returns-clause-sound
returns-clause-sound g c =
    let input = c.args.input.now in
    let puts = after_quiet c.find_taken.ensures.change c.put_items.ensures.change in
    made_sound input c.keeps_rules.ensures (g.S.Store.state c.sync.new.self).reads
    (synced_made input c.requires.none puts c.sync.ensures.ends.1 c.in_ok-put_items.ensures.made)
    (synced_idle input c.requires.none puts c.sync.ensures.ends.1 c.requires.idle)
