use Rattle.mig_drill.proofs.Common.{All-replicate, All-take, refl, state_of, ℕ, ◌≡◌}
use Rattle.mig_drill.proofs.FillLaws.{written_clear}
use Rattle.mig_drill.proofs.stores.clear.Goals as goal

pub returns-clause-clear : goal.returns-clause-clear
returns-clause-clear c = written_clear c.write.result ((state_of c.write.new.self).reads c.args.cell.now) _ (All-take (λ (byte : ℕ). byte ≡ 0) c.len.result _ (All-replicate (λ (byte : ℕ). byte ≡ 0) 4096 0 refl)) c.write.ensures.written
