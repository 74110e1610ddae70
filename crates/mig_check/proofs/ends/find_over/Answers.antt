use Rattle.mig_check.proofs.Common.{IsCovered, Shift, no_shift}
use Rattle.mig_check.proofs.EndCounts.{All-more}
use Rattle.mig_check.proofs.ends.find_over.Goals as goal

pub loop-s-preserved : goal.loop-s-preserved
loop-s-preserved c =
    let disks = c.args.disks.now in
    let counts = c.args.counts.now in
    let first = c.lesser_over-first in
    let last = c.lesser_over-found in
    let covers : Shift → Type 0 = λ s. IsCovered c.args.part disks counts last.result s.from.disk.0 × IsCovered c.args.part disks counts last.result s.to.disk.0 in
    record {
      over = last.ensures.over (first.ensures.over c.loop-s.invariant.over);
      covered = All-more covers c.args.round.now c.loop-s.s-index no_shift c.loop-s-test.true
          (last.ensures.others _ first.ensures.this, last.ensures.this)
          (λ k d lt. let was = c.loop-s.invariant.covered k d lt in (last.ensures.others _ (first.ensures.others _ was.0), last.ensures.others _ (first.ensures.others _ was.1)));
    }
