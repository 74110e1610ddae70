use Rattle.mig_bounds.proofs.Common.{BestSide, IsFirstSide, Option, Side, Transfers, ap, arith, disk_at, div_ceil, div_ceil_times, limit, load, refl, side_limit, side_load, side_number}
use Rattle.mig_bounds.proofs.Common.{side_value, subst, suc, sym, zero, ℕ, ◌*◌, ◌<◌, ◌∙◌, ◌≡◌, ◌≢◌, ◌≤◌}
use Rattle.mig_bounds.proofs.SideSteps.{loaded_side, none_more, side_keeps, side_starts, side_takes}
use Rattle.mig_bounds.proofs.sides.better_side.Goals as goal

-- the value of the side, by its load and its limit
value_of : (graph : Transfers) (v l m r : ℕ) (side : Side) → l ≡ side_load side v graph.transfers → m ≡ side_limit side (disk_at graph.disks v).limits → r ≡ div_ceil l m → r ≡ side_value graph side v
value_of graph v l m r side load limit is = is ∙ ap (λ n. div_ceil n m) load ∙ ap (λ n. div_ceil (side_load side v graph.transfers) n) limit

-- a side with a load needs a round
some_rounds : (l m r : ℕ) → 1 ≤ m → l ≢ 0 → r ≡ div_ceil l m → 0 < r
some_rounds zero m r limit some is = absurd (some refl)
some_rounds (suc l) m zero limit some is = absurd (omega (arith, (div_ceil_times (suc l) m limit).0, ap (λ n. n * m) is))
some_rounds (suc l) m (suc r) limit some is = omega arith

pub returns-in-Some : goal.returns-in-Some
returns-in-Some c =
    let g = c.args.graph.now in
    let before = subst (λ (o : Option BestSide). IsFirstSide g o (side_number c.args.disk.0 c.args.side)) c.in-Some.is c.requires.before in
    let same = value_of g c.args.disk.0 c.side_of-load.result.0 c.side_of-load.result.1 c.div_ceil-value.result c.args.side c.side_of-load.ensures.load c.side_of-load.ensures.limit c.div_ceil-value.ensures in
    side_keeps g c.in-Some.before c.args.disk.0 c.args.side (omega (arith, same, c.if-value-before.true)) before

pub returns-in-None : goal.returns-in-None
returns-in-None c =
    let g = c.args.graph.now in
    let before = subst (λ (o : Option BestSide). IsFirstSide g o (side_number c.args.disk.0 c.args.side)) c.in-None.is c.requires.before in
    none_more g c.args.disk.0 c.args.side (sym c.side_of-load.ensures.load ∙ c.if-load-eq0.true) before

pub returns-in_default : goal.returns-in_default
returns-in_default c =
    let g = c.args.graph.now in
    let before = subst (λ (o : Option BestSide). IsFirstSide g o (side_number c.args.disk.0 c.args.side)) c.in-Some.is c.requires.before in
    let same = value_of g c.args.disk.0 c.side_of-load.result.0 c.side_of-load.result.1 c.div_ceil-value.result c.args.side c.side_of-load.ensures.load c.side_of-load.ensures.limit c.div_ceil-value.ensures in
    let loaded = loaded_side g c.args.disk.0 c.args.side (omega (arith, same, c.if-value-before.false)) in
    side_takes g _ c.requires.there c.side_of-load.ensures.load same (omega (arith, loaded, c.side_of-load.ensures.load)) (λ v side below. omega (arith, before.greatest v side below, c.if-value-before.false))

pub returns-in_default-2 : goal.returns-in_default-2
returns-in_default-2 c =
    let g = c.args.graph.now in
    let before = subst (λ (o : Option BestSide). IsFirstSide g o (side_number c.args.disk.0 c.args.side)) c.in-None.is c.requires.before in
    let same = value_of g c.args.disk.0 c.side_of-load.result.0 c.side_of-load.result.1 c.div_ceil-value.result c.args.side c.side_of-load.ensures.load c.side_of-load.ensures.limit c.div_ceil-value.ensures in
    let some = some_rounds c.side_of-load.result.0 c.side_of-load.result.1 c.div_ceil-value.result c.side_of-load.ensures.least c.if-load-eq0.false c.div_ceil-value.ensures in
    side_takes g _ c.requires.there c.side_of-load.ensures.load same (omega (arith, c.if-load-eq0.false)) (side_starts g c.args.disk.0 c.div_ceil-value.result c.args.side some before)
