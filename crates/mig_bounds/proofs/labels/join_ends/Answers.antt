use Rattle.mig_bounds.proofs.Common.{Transfer, arith, get_or, length, refl, sym, ◌<◌, ◌∙◌, ◌≡◌}
use Rattle.mig_bounds.proofs.Labelling.{IsLabelling-joined, IsLabelling-same, has_both, changed, kept}
use Rattle.mig_bounds.proofs.PairTables.{leaves_below, reaches_below}
use Rattle.mig_bounds.proofs.labels.join_ends.Goals as goal

pub bounds-labels-a : goal.bounds-labels-a
bounds-labels-a c =
    let g = c.args.graph.now in
    let t : Transfer = record { leaves = c.ends.result.0.0; reaches = c.ends.result.1.0 } in
    omega (arith, leaves_below (length g.disks) g.transfers c.args.edge t c.requires.valid.leaves_there c.ends.ensures.ends, c.requires.before.len)

pub bounds-labels-b : goal.bounds-labels-b
bounds-labels-b c =
    let g = c.args.graph.now in
    let t : Transfer = record { leaves = c.ends.result.0.0; reaches = c.ends.result.1.0 } in
    omega (arith, reaches_below (length g.disks) g.transfers c.args.edge t c.requires.valid.reaches_there c.ends.ensures.ends, c.requires.before.len)

pub returns-then-x-y : goal.returns-then-x-y
returns-then-x-y c =
    let g = c.args.graph.now in
    let old = c.args.labels.now in
    let new = c.relabel.new.labels in
    let t : Transfer = record { leaves = c.ends.result.0.0; reaches = c.ends.result.1.0 } in
    let a : t.leaves < length old = omega (arith, leaves_below (length g.disks) g.transfers c.args.edge t c.requires.valid.leaves_there c.ends.ensures.ends, c.requires.before.len) in
    let b : t.reaches < length old = omega (arith, reaches_below (length g.disks) g.transfers c.args.edge t c.requires.valid.reaches_there c.ends.ensures.ends, c.requires.before.len) in
    let from = get_or old t.reaches 0 in
    let to = get_or old t.leaves 0 in
    let less : to < from = c.if-x-y.true in
    let long : length new ≡ length old = omega arith in
    let after = IsLabelling-joined g old new c.args.edge from to t.reaches t.leaves long c.requires.valid b a less refl refl
    (λ part closed. sym (has_both g part c.args.edge t closed c.ends.ensures.ends)) c.relabel.ensures c.requires.before in
    let same = kept from to t.leaves old new c.relabel.ensures a (λ e. absurd (omega (arith, less, e))) ∙ sym (changed from to t.reaches old new c.relabel.ensures b refl) in
    IsLabelling-same g new c.args.edge t c.ends.ensures.ends same after

pub returns-then-y-x : goal.returns-then-y-x
returns-then-y-x c =
    let g = c.args.graph.now in
    let old = c.args.labels.now in
    let new = c.relabel-then-y-x.new.labels in
    let t : Transfer = record { leaves = c.ends.result.0.0; reaches = c.ends.result.1.0 } in
    let a : t.leaves < length old = omega (arith, leaves_below (length g.disks) g.transfers c.args.edge t c.requires.valid.leaves_there c.ends.ensures.ends, c.requires.before.len) in
    let b : t.reaches < length old = omega (arith, reaches_below (length g.disks) g.transfers c.args.edge t c.requires.valid.reaches_there c.ends.ensures.ends, c.requires.before.len) in
    let from = get_or old t.leaves 0 in
    let to = get_or old t.reaches 0 in
    let less : to < from = c.if-y-x.true in
    let long : length new ≡ length old = omega arith in
    let after = IsLabelling-joined g old new c.args.edge from to t.leaves t.reaches long c.requires.valid a b less refl refl
    (λ part closed. has_both g part c.args.edge t closed c.ends.ensures.ends) c.relabel-then-y-x.ensures c.requires.before in
    let same = changed from to t.leaves old new c.relabel-then-y-x.ensures a refl ∙ sym (kept from to t.reaches old new c.relabel-then-y-x.ensures b (λ e. absurd (omega (arith, less, e)))) in
    IsLabelling-same g new c.args.edge t c.ends.ensures.ends same after
