use Rattle.mig_c.proofs.HandedBack.{handed_done}
use Rattle.mig_c.proofs.Rooms.{plan_fits}
use Rattle.mig_c.proofs.migrate_plan.Goals as goal

pub returns-clause-planned : goal.returns-clause-planned
returns-clause-planned c = λ none. handed_done c.call_plan.ensures none

pub returns-clause-roomy : goal.returns-clause-roomy
returns-clause-roomy c plan_room text_room short = plan_fits c.call_plan.ensures plan_room text_room short
