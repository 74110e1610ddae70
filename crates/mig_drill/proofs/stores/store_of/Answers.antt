use Rattle.mig_drill.proofs.Common.{AreDifferent, Cell, IfOk-weaker, List, Log, Memory, TellsJob, ap, different_cells, map, state_of, subst, sym, zero_held, ◌∙◌}
use Rattle.mig_drill.proofs.FillLaws.{made_told}
use Rattle.mig_drill.proofs.stores.store_of.Goals as goal

pub new-requires-2 : goal.new-requires-2
new-requires-2 c = subst (λ (cells : List Cell). AreDifferent cells) (sym c.as_slice.ensures.keys) (different_cells c.args.cells.now c.as_slice.ensures.unique)

pub returns-clause-told : goal.returns-clause-told
returns-clause-told c = IfOk-weaker c.new-2.result _ (λ (m : Memory). TellsJob c.args.job.now (state_of m)) (λ m is. made_told c.args.job.now c.args.cells.now.keys c.requires.cells m (ap (λ (log : Log). log.first) is ∙ ap (map zero_held) c.as_slice.ensures.keys) (ap (λ (log : Log). log.calls) is)) c.new-2.ensures.log
