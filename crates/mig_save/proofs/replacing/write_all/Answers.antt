use Rattle.mig_save.proofs.Common.{List, ap, append_assoc, arith, length, length-drop, slice_range, subst, sym, take, take-add, take_rest, ℕ, ◌++◌, ◌∙◌, ◌≤◌}
use Rattle.mig_save.proofs.SaveSteps.{stays_then, told_after}
use Rattle.mig_save.proofs.replacing.write_all.Goals as goal

pub loop-done-preserved : goal.loop-done-preserved
loop-done-preserved g c =
    let a = g.C.SaveCalls.state c.args.calls.now in
    let b = g.C.SaveCalls.state c.loop-done.calls in
    let d = g.C.SaveCalls.state c.write.new.self in
    let done = c.loop-done.done in
    let n = c.in_ok-done.field-0 in
    let bytes = c.args.bytes.now in
    let rest = take_rest bytes done in
    let bound = subst (λ (l : List ℕ). n ≤ length l) rest c.in_ok-done.ensures.count in
    let before = c.loop-done.invariant.stays in
    record {
      count = omega (arith, length-drop done bytes, bound);
      beside = λ told. c.in_ok-done.ensures.written (told_after a b before told)
          ∙ ap (λ (l : List ℕ). l ++ take n (slice_range bytes done (length bytes))) (c.loop-done.invariant.beside told)
          ∙ append_assoc a.beside (take done bytes) (take n (slice_range bytes done (length bytes)))
          ∙ ap (λ (l : List ℕ). a.beside ++ (take done bytes ++ take n l)) rest
          ∙ ap (λ (l : List ℕ). a.beside ++ l) (sym (take-add done n bytes));
      made = c.write.ensures.made;
      stays = stays_then a b d before c.write.ensures.stays;
    }
