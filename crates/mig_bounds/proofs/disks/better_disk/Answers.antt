use Rattle.mig_bounds.proofs.Common.{BestSmall, ByDisk, IsBestDisk, Option, Transfers, [], ap, arith, candidate_of, cases_lt, differ, disk_at, disk_value, div_ceil, false, inl, inr, is_split}
use Rattle.mig_bounds.proofs.Common.{limit, load, not_none, rounds_for_joint, subst, sym, ℕ, ◌+◌, ◌<◌, ◌∙◌, ◌∷◌, ◌≡◌, ◌≢◌, ◌≤◌}
use Rattle.mig_bounds.proofs.Steps.{IsBestBelow-keeps_disk, IsBestBelow-starts, IsBestBelow-takes, below_next_disk}
use Rattle.mig_bounds.proofs.disks.better_disk.Goals as goal

value_of : (graph : Transfers) (v l m r : ℕ) → is_split (disk_at graph.disks v).limits ≡ false → l ≡ load v graph.transfers → m ≡ limit graph v → r ≡ div_ceil l m → r ≡ disk_value graph v
value_of graph v l m r joint is_load is_limit is = is ∙ ap (λ n. div_ceil n m) is_load ∙ ap (λ n. div_ceil (load v graph.transfers) n) is_limit ∙ sym (rounds_for_joint (disk_at graph.disks v).limits v graph.transfers joint)

-- a value above another shows a load
valued : (l m r : ℕ) → 1 ≤ m → r ≡ div_ceil l m → 0 < r → l ≢ 0
valued l m r some is above none = absurd (omega (arith, nothing m some, above, is ∙ ap (λ n. div_ceil n m) none))
  where
    nothing : (m : ℕ) → 1 ≤ m → div_ceil 0 m ≡ 0
    nothing m h = omega arith

pub returns-in-Some : goal.returns-in-Some
returns-in-Some c =
    let g = c.args.graph.now in
    let before = subst (λ (o : Option BestSmall). IsBestDisk g o c.args.disk) c.in-Some.is c.requires.before in
    let same = value_of g c.args.disk c.load-load.result c.limit.result c.div_ceil-value.result c.limit.ensures.joint c.load-load.ensures.load c.limit.ensures.limit c.div_ceil-value.ensures in
    IsBestBelow-keeps_disk g (candidate_of c.in-Some.before.set) c.in-Some.before.value c.args.disk (omega (arith, same, c.if-value-before.true)) before

pub returns-in-None : goal.returns-in-None
returns-in-None c v below part =
    let g = c.args.graph.now in
    let before = subst (λ (o : Option BestSmall). IsBestDisk g o c.args.disk) c.in-None.is c.requires.before in
    elim (cases_lt v c.args.disk) [
      | inl lt ↦ before v lt part
      | inr ge ↦ (let same : v ≡ c.args.disk = omega (arith, ge, below) in differ (load v g.transfers) 0 part (ap (λ w. load w g.transfers) same ∙ sym c.load-load.ensures.load ∙ c.if-load-eq0.true))
    ]

pub returns-in_default : goal.returns-in_default
returns-in_default c =
    let g = c.args.graph.now in
    let v = c.args.disk in
    let before = subst (λ (o : Option BestSmall). IsBestDisk g o v) c.in-Some.is c.requires.before in
    let same = value_of g v c.load-load.result c.limit.result c.div_ceil-value.result c.limit.ensures.joint c.load-load.ensures.load c.limit.ensures.limit c.div_ceil-value.ensures in
    let some = valued c.load-load.result c.limit.result c.div_ceil-value.result c.limit.ensures.least c.div_ceil-value.ensures (omega (arith, c.if-value-before.false)) in
    IsBestBelow-takes g (candidate_of c.in-Some.before.set) (ByDisk v) c.in-Some.before.value c.div_ceil-value.result (0 ∷ v ∷ []) (0 ∷ (v + 1) ∷ [])
    (c.requires.there, not_none (load v g.transfers) (λ none. some (c.load-load.ensures.load ∙ none)))
    same
    c.if-value-before.false
    (λ d is below. below_next_disk g d v is below)
    (λ d below. below)
    before

pub returns-in_default-2 : goal.returns-in_default-2
returns-in_default-2 c =
    let g = c.args.graph.now in
    let v = c.args.disk in
    let before = subst (λ (o : Option BestSmall). IsBestDisk g o v) c.in-None.is c.requires.before in
    let same = value_of g v c.load-load.result c.limit.result c.div_ceil-value.result c.limit.ensures.joint c.load-load.ensures.load c.limit.ensures.limit c.div_ceil-value.ensures in
    IsBestBelow-starts g v c.div_ceil-value.result before (c.requires.there, not_none (load v g.transfers) (λ none. c.if-load-eq0.false (c.load-load.ensures.load ∙ none))) same
