use Rattle.mig_drain.proofs.Common.{DiskId, InputLists, List, Spot, ap, arith, eq-eqb, eqb, eqb-true, false, false≢true, get_or, get_or-map, length, no_spot, numbers, source, subst, sym}
use Rattle.mig_drain.proofs.Common.{true, ℕ, ◌+◌, ◌<◌, ◌∙◌, ◌≡◌, ◌≢◌}
use Rattle.mig_drain.proofs.Dealing.{rank_less}
use Rattle.mig_drain.proofs.ReceiverLaws.{DealtBelow, dealt_moves, dealt_stays}
use Rattle.mig_drain.proofs.drains.deal.Goals as goal
use Rattle.mig_drain.proofs.drains.deal.Goals.{then-eq+in_ok-push, else-eq+in_ok-push-2}

-- the item is on the disk
is_there : (input : InputLists) (v item : ℕ) (now : List Spot) → now ≡ input.spots → eqb (get_or now item no_spot).disk.0 v ≡ true → source input item ≡ v
is_there input v item now same test = ap (λ (l : List Spot). (get_or l item no_spot).disk.0) (sym same) ∙ eqb-true (get_or now item no_spot).disk.0 v test

is_away : (input : InputLists) (v item : ℕ) (now : List Spot) → now ≡ input.spots → eqb (get_or now item no_spot).disk.0 v ≡ false → source input item ≢ v
is_away input v item now same test at = false≢true (sym test ∙ eq-eqb (get_or now item no_spot).disk.0 v (ap (λ (l : List Spot). (get_or l item no_spot).disk.0) same ∙ at))

pub bounds-places-rank : goal.bounds-places-rank
bounds-places-rank c =
    let input = c.args.input.now in
    let v = c.args.disk.0 in
    let item = c.loop-item.item in
    let now = c.now-now.result.now in
    let there : item < length input.spots = omega (arith, c.loop-item-test.true, ap (λ (l : List Spot). length l) c.now-now.ensures.value) in
    let at : source input item ≡ v = is_there input v item now c.now-now.ensures.value (sym c.eq.ensures ∙ c.if-eq.true) in
    omega (arith, c.loop-item.invariant.ranked, rank_less input v item there at, c.requires)

pub loop-item-preserved : goal.loop-item-preserved
loop-item-preserved c =
    let input = c.args.input.now in
    let v = c.args.disk.0 in
    let disks = numbers c.args.places.now in
    let item = c.loop-item.item in
    let place = c.loop-item.rank in
    let now = c.now-now.result.now in
    let there : item < length input.spots = omega (arith, c.loop-item-test.true, ap (λ (l : List Spot). length l) c.now-now.ensures.value) in
    let P : ℕ → List DiskId → Type 0 = λ n l. DealtBelow input v disks (item + 1) n l in
    elim c.if-eq.branch [
      | then-eq+in_ok-push w ↦
          let at : source input item ≡ v = is_there input v item now c.now-now.ensures.value (sym c.eq.ensures ∙ w.if-eq.true) in
          let x = get_or c.args.places.now place (record { 0 = 0 }) in
          let less : place < length c.args.places.now = omega (arith, c.loop-item.invariant.ranked, rank_less input v item there at, c.requires) in
          let is : x.0 ≡ get_or disks place 0 = sym (get_or-map (λ (d : DiskId). d.0) c.args.places.now place (record { 0 = 0 }) 0 less) in
          subst (λ n. P n c.if-eq.next.items) (sym w.rank-is) (subst (λ l. P (place + 1) l) (sym (ap (λ y. y.items) w.next-is ∙ w.in_ok-push.ensures.items))
          (dealt_moves input v disks item place c.loop-item.next.items there c.loop-item.invariant x at is))
      | else-eq+in_ok-push-2 w ↦
          let off : source input item ≢ v = is_away input v item now c.now-now.ensures.value (sym c.eq.ensures ∙ w.if-eq.false) in
          let x = (get_or now item no_spot).disk in
          subst (λ n. P n c.if-eq.next.items) (sym w.rank-is) (subst (λ l. P place l) (sym (ap (λ y. y.items) w.next-is ∙ w.in_ok-push-2.ensures.items))
          (dealt_stays input v disks item place c.loop-item.next.items there c.loop-item.invariant x off (ap (λ (l : List Spot). (get_or l item no_spot).disk.0) c.now-now.ensures.value)))
    ]
