use Rattle.mig_drain.proofs.Common.{AreDealt, Disk, InputLists, List, Outgoing, ap, arith, get_or, get_or_default, length, no_disk, numbers, outgoing_limit, places, side_limit, subst, sym}
use Rattle.mig_drain.proofs.Common.{take, ℕ, ◌<◌, ◌∙◌, ◌≡◌, ◌≤◌}
use Rattle.mig_drain.proofs.Dealing.{dealt_first}
use Rattle.mig_drain.proofs.ReceiverLaws.{fewest_is, first_places_are, places_enough, shown_is}
use Rattle.mig_drain.proofs.drains.drain_into.Goals as goal

-- the limit on what leaves the disk
limit_is : (input : InputLists) (v limit : ℕ) (disks : List Disk) (disk : Disk) → v < length input.disks → disks ≡ input.disks → limit ≡ side_limit Outgoing (get_or disks v disk).limits → limit ≡ outgoing_limit input v
limit_is input v limit disks disk there same is =
    is ∙ ap (λ (d : Disk). side_limit Outgoing d.limits) (get_or_default disks v disk no_disk (omega (arith, there, ap (λ (l : List Disk). length l) same)) ∙ ap (λ (l : List Disk). get_or l v no_disk) same)

pub deal-requires : goal.deal-requires
deal-requires c =
    let enough = places_enough c.args.input.now c.args.disk.0 c.least_rounds-rounds.result c.args.items c.args.receivers.now c.deref.result.now c.requires.receivers (c.deref.ensures.value ∙ c.in_ok-places.ensures) c.least_rounds-rounds.ensures.enough in
    omega (arith, enough, c.requires.items)

pub show-requires-clause-low : goal.show-requires-clause-low
show-requires-clause-low c = subst (λ (n : ℕ). n ≤ c.least_rounds-rounds.result) c.div_ceil.ensures c.least_rounds-rounds.ensures.from

pub show-requires-clause-least : goal.show-requires-clause-least
show-requires-clause-least c = λ q low all. c.least_rounds-rounds.ensures.least q (subst (λ (n : ℕ). n ≤ q) (sym c.div_ceil.ensures) low) all

pub returns-clause-fewest : goal.returns-clause-fewest
returns-clause-fewest c =
    let input = c.args.input.now in
    let v = c.args.disk.0 in
    let r = c.least_rounds-rounds.result in
    let e = c.least_rounds-rounds.ensures in
    fewest_is input v r c.args.items c.side_limit-limit.result c.args.receivers.now c.requires.receivers c.requires.items
    (limit_is input v c.side_limit-limit.result c.disks.result.now c.index-disks-disk.result c.requires.there c.disks.ensures.value c.side_limit-limit.ensures.limit)
    (subst (λ (n : ℕ). n ≤ r) c.div_ceil.ensures e.from) e.enough (λ q low all. e.least q (subst (λ (n : ℕ). n ≤ q) (sym c.div_ceil.ensures) low) all)

pub returns-clause-dealt : goal.returns-clause-dealt
returns-clause-dealt c =
    let input = c.args.input.now in
    let v = c.args.disk.0 in
    let r = c.least_rounds-rounds.result in
    let first : numbers c.deref.result.now ≡ take c.args.items (places input v r) = first_places_are input v r c.args.items c.args.receivers.now c.deref.result.now c.requires.receivers (c.deref.ensures.value ∙ c.in_ok-places.ensures) in
    dealt_first input v c.args.items (places input v r) c.in_ok-next.next c.disks.ensures.valid (omega (arith, c.requires.items)) (subst (λ (ds : List ℕ). AreDealt input v ds c.in_ok-next.next) first c.in_ok-next.ensures)

pub returns-clause-shown : goal.returns-clause-shown
returns-clause-shown c =
    let input = c.args.input.now in
    let v = c.args.disk.0 in
    shown_is input v c.least_rounds-rounds.result c.args.items c.side_limit-limit.result c.args.receivers.now c.show.result c.requires.receivers c.requires.items
    (limit_is input v c.side_limit-limit.result c.disks.result.now c.index-disks-disk.result c.requires.there c.disks.ensures.value c.side_limit-limit.ensures.limit) c.show.ensures
