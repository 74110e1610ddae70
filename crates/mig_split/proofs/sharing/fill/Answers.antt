use Rattle.mig_split.proofs.Common.{AreCopyCounts, CopyId, IsFilling, List, arith, count_at, get_or_read, subst, sym, ℕ, ◌+◌, ◌<◌, ◌∙◌, ◌≡◌}
use Rattle.mig_split.proofs.Filling.{AreFilled-all, IsFilling-more, IsFilling-start, filling_most, filling_small}
use Rattle.mig_split.proofs.sharing.fill.Goals as goal

-- the count that is read is that of the copy's ends
counted : (copies : ℕ) (stops : List CopyId) (counts : List ℕ) (k n : ℕ) → k < copies → AreCopyCounts copies stops counts → n ≡ Rattle.std.proofs.Common.get_or counts k n → n ≡ count_at k stops
counted copies stops counts k n h a read = get_or_read counts k n (omega (arith, h, a.len)) read 0 ∙ a.counted k h

pub loop-copy-init : goal.loop-copy-init
loop-copy-init c = subst (λ (nodes : List CopyId). IsFilling c.args.q 0 c.args.stops.now nodes (record { node = 0; ends = 0 })) (sym c.in_ok-nodes.ensures.items) (IsFilling-start c.args.q c.args.stops.now)

pub filled_by-last-requires-clause-count : goal.filled_by-last-requires-clause-count
filled_by-last-requires-clause-count c =
    let k = c.loop-copy.copy in
    omega (arith, counted c.args.copies c.args.stops.now c.in_ok-counts.counts.items k c.index-count.result.now c.loop-copy-test.true c.in_ok-counts.ensures c.index-count.ensures, c.requires.most k c.loop-copy-test.true)

pub filled_by-last-requires-clause-ends : goal.filled_by-last-requires-clause-ends
filled_by-last-requires-clause-ends c = filling_most c.args.q c.loop-copy.copy c.args.stops.now c.loop-copy.nodes.items c.loop-copy.last c.loop-copy.invariant

pub filled_by-last-requires-clause-fits : goal.filled_by-last-requires-clause-fits
filled_by-last-requires-clause-fits c = omega (arith, filling_small c.args.q c.loop-copy.copy c.args.stops.now c.loop-copy.nodes.items c.loop-copy.last c.requires.q c.loop-copy.invariant, c.requires.few)

pub loop-copy-preserved : goal.loop-copy-preserved
loop-copy-preserved c =
    let k = c.loop-copy.copy in
    let n = c.index-count.result.now in
    let is_count = counted c.args.copies c.args.stops.now c.in_ok-counts.counts.items k n c.loop-copy-test.true c.in_ok-counts.ensures c.index-count.ensures in
    subst (λ (nodes : List CopyId). IsFilling c.args.q (k + 1) c.args.stops.now nodes c.filled_by-last.result) (sym c.in_ok-push.ensures.items)
    (IsFilling-more c.args.q k n c.args.stops.now c.loop-copy.nodes.items c.loop-copy.last c.filled_by-last.result is_count (omega (arith, is_count, c.requires.most k c.loop-copy-test.true)) c.filled_by-last.ensures c.loop-copy.invariant)

pub returns : goal.returns
returns c =
    let all : c.loop-copy.copy ≡ c.args.copies = omega (arith, c.loop-copy-test.false, c.loop-copy.auto.copy-end) in
    AreFilled-all c.args.q c.args.copies c.args.stops.now c.loop-copy.nodes.items c.loop-copy.last c.requires.there
    (subst (λ k. IsFilling c.args.q k c.args.stops.now c.loop-copy.nodes.items c.loop-copy.last) all c.loop-copy.invariant)
