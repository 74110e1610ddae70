use Rattle.mig_mover.proofs.Common.{List, ap, arith, length, subst, sym, ℕ, ◌∙◌}
use Rattle.mig_mover.proofs.MadeSlots.{filled_start, filled_more, filled_all, min_cases, name_byte, whole_once, whole_more, IsWhole}
use Rattle.mig_mover.proofs.making.repeated.Goals as goal

pub loop-filled-init : goal.loop-filled-init
loop-filled-init c =
    let long = ap (λ (l : List ℕ). length l) c.bytes-bytes.ensures.value in
    record {
      filled = filled_start c.args.name.now c.bytes-bytes.result.now c.copy_from_slice.new.self 4062 c.bytes-bytes.ensures.value c.copy_from_slice.ensures.after;
      whole = subst (λ (n : ℕ). IsWhole c.args.name.now 4062 n) (sym long) (whole_once c.args.name.now 4062);
      some = omega (arith, long, c.bytes-bytes.ensures.valid.some);
      most = omega (arith, long, c.bytes-bytes.ensures.valid.short);
    }

pub loop-filled-preserved : goal.loop-filled-preserved
loop-filled-preserved c =
    let was = c.loop-filled.invariant in
    let cases = min_cases c.loop-filled.filled 4062 c.min-more.result was.most c.min-more.ensures in
    record {
      filled = c.copy_on.ensures ∙ filled_more (name_byte c.args.name.now) 4062 c.loop-filled.filled c.min-more.result (omega (arith, c.min-more.ensures)) (λ k lt. was.whole k (omega (arith, lt, c.min-more.ensures))) c.loop-filled.contents was.filled;
      whole = whole_more c.args.name.now 4062 c.loop-filled.filled c.min-more.result was.whole cases;
      some = omega (arith, was.some);
      most = omega (arith, was.most, c.min-more.ensures);
    }

pub returns : goal.returns
returns c = c.loop-filled.invariant.filled ∙ filled_all (name_byte c.args.name.now) 4062 c.loop-filled.filled (omega (arith, c.loop-filled.invariant.most, c.loop-filled-test.false))
