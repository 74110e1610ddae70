use Rattle.mig_save.proofs.Common.{Appends, Appends-trans, List, ap, arith, length, length-drop, subst, sym, take, take-add, take_rest, ℕ, ◌++◌, ◌∙◌, ◌≤◌}
use Rattle.mig_save.proofs.writing.write_whole.Goals as goal

pub loop-done-preserved : goal.loop-done-preserved
loop-done-preserved g c =
    let done = c.loop-done.done in
    let n = c.in_ok-count.count in
    let bytes = c.args.bytes.now in
    let rest = take_rest bytes done in
    let bound = subst (λ (l : List ℕ). n ≤ length l) rest c.in_ok-count.ensures.bound in
    record {
      within = omega (arith, length-drop done bytes, bound);
      written = subst (Appends _ _) (ap (λ (l : List ℕ). take done bytes ++ take n l) rest ∙ sym (take-add done n bytes)) (Appends-trans _ _ _ _ _ c.loop-done.invariant.written c.in_ok-count.ensures.written);
    }
