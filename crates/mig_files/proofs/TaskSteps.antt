-- How what calls leave goes one after another.
use Rattle.mig_files.proofs.Common.{Bool, FilesState, IsQuiet, Leaves, Place, RetriedCall, ap, arith, ◌∙◌}
use Rattle.mig_calls.proofs.FilesSteps.{change_then}

pub leaves_then : {task : RetriedCall} {a b c : FilesState} → Leaves task a b → Leaves task b c → Leaves task a c
leaves_then first then = record {
  change = change_then first.change then.change;
  named = λ keeps. then.named keeps ∙ first.named keeps;
  flushed = λ file out is. then.flushed file out (first.flushed file out is);
  later = omega (arith, first.later, then.later);
  more = omega (arith, first.more, then.more);
}

-- a call that only counts leaves all
pub quiet_leaves : {task : RetriedCall} {a b : FilesState} → IsQuiet a b → Leaves task a b
quiet_leaves {task} {a} {b} quiet = record {
  change = quiet.change;
  named = λ keeps. quiet.flags.named;
  flushed = λ file out is. ap (λ (f : Place → Bool). f file) quiet.flags.flushed ∙ is;
  later = quiet.later;
  more = quiet.more;
}
