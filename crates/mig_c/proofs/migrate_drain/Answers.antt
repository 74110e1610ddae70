use Rattle.mig_c.proofs.HandedBack.{handed_done}
use Rattle.mig_words.specs.Words.{texts}
use Rattle.mig_c.proofs.migrate_drain.Goals as goal

pub returns-clause-drained : goal.returns-clause-drained
returns-clause-drained c = λ none. let (u, is, (input, read, (disk, named, (t, fits, texts)))) = handed_done c.call_drain.ensures none in (input, disk, read, named, texts)
