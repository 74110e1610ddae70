use Rattle.mig_split.proofs.Common.{AreCopyPairs, CopyId, List, ap, drop, subst, take, ◌∙◌, ◌≡◌}
use Rattle.mig_split.proofs.Halves.{AreJoined-all}
use Rattle.mig_split.proofs.copies.join.Goals as goal

pub returns-clause-joined : goal.returns-clause-joined
returns-clause-joined c =
    let m = c.args.edges in
    let o = c.in_ok-dealt.dealt in
    let copies : c.deref.result.now ≡ o.copies.items = c.deref.ensures.value in
    let front : c.split_at.result.0.now ≡ take m o.copies.items = c.split_at.ensures.front ∙ ap (λ (x : List CopyId). take m x) copies in
    let back : c.split_at.result.1.now ≡ drop m o.copies.items = c.split_at.ensures.back ∙ ap (λ (x : List CopyId). drop m x) copies in
    let pairs : AreCopyPairs (take m o.copies.items) (drop m o.copies.items) 0 c.in_ok-ends.ends.items =
    subst (λ (x : List CopyId). AreCopyPairs x (drop m o.copies.items) 0 c.in_ok-ends.ends.items) front (subst (λ (x : List CopyId). AreCopyPairs c.split_at.result.0.now x 0 c.in_ok-ends.ends.items) back c.in_ok-ends.ensures) in
    AreJoined-all c.args.q m c.args.numbers.now c.args.stops.now o.homes.items o.copies.items c.in_ok-ends.ends.items c.in_ok-dealt.ensures c.requires.halves pairs
