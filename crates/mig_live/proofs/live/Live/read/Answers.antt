use Rattle.std.specs.Option.{IsSomeAnd}
use Rattle.mig_journal.proofs.Steps.{err_any, looks_then, remembers_synced}
use Rattle.mig_live.proofs.Common.{Cell, Image, InputLists, List, Option, Session, [], ap, arith, done_in, flights, item_name, length, look_quiet}
use Rattle.mig_live.proofs.Common.{on_ok_is, same_image, subst, sym, ℕ, ◌<◌, ◌∙◌, ◌≡◌}
use Rattle.mig_live.proofs.SeenSteps.{seen_read}
use Rattle.mig_live.specs.Sessions.{InSight, IsSeenAtStep}
use Rattle.mig_mover.proofs.SeenSlots.{cause_ground, ground_after, name_is, rose_after}
use Rattle.mig_mover.specs.Holdings.{cell_at}
use Rattle.mig_store.specs.Grounds.{Lacks}
use Rattle.mig_live.proofs.SessionLaws.{step_looked}
use Rattle.mig_live.proofs.live.Live.read.Given as given
use Rattle.mig_live.proofs.live.Live.read.Goals as goal
use Rattle.mig_live.proofs.live.Live.read.Goals.{After-expects}

pub returns-clause-change : goal.returns-clause-change
returns-clause-change g c = looks_then _ _ _ c.expects.ensures.change c.read.ensures.change

pub returns-clause-in_step : goal.returns-clause-in_step
returns-clause-in_step g c = λ asked contents at. step_looked _ _ _ _ _ _ _ _ _ (looks_then _ _ _ c.expects.ensures.change c.read.ensures.change) at

pub returns-in_err-expects-clause-in_step : goal.returns-in_err-expects-clause-in_step
returns-in_err-expects-clause-in_step g c = λ asked contents at. step_looked _ _ _ _ _ _ _ _ _ c.expects.ensures.change at

-- the name that is asked for is the item's
named : (g : given.Over) (c : goal.After-expects g) → c.index-items-item.result ≡ item_name c.self.inside.job.now.input c.args.item.0
named g c =
    let input = c.self.inside.job.now.input in
    name_is input c.args.item.0 (subst (λ (l : Session). c.args.item.0 < length l.task.input.items) (sym c.self.view_is) c.requires.item)
    c.items.result.now (c.items.ensures.value ∙ ap (λ (l : InputLists). l.items) c.input.ensures.value) c.index-items-item.result c.index-items-item.is

pub returns-in_err-expects-clause-cause : goal.returns-in_err-expects-clause-cause
returns-in_err-expects-clause-cause g c =
    let i = c.self.inside in
    let item = c.args.item.0 in
    let image = (g.S.Store.state c.args.store.now).reads in
    let is = named g (goal.at.returns-in_err-expects-clause-cause g c).After-expects in
    record {
      later = c.expects.ensures.cause.later;
      failed = err_any _ (rose_after (omega arith) (λ lacks.
          subst (λ (l : Session). IsSomeAnd (cell_at l.task l.marked item) (λ cell. Lacks image cell (item_name l.task.input item))) c.self.view_is
          (subst (λ (o : Option Cell). IsSomeAnd o (λ cell. Lacks image cell (item_name i.job.now.input item))) (sym c.cell_of-cell.ensures)
          (subst (Lacks image c.cell_of-cell.result) is lacks))) c.in_err-expects.ensures.cause.failed);
    }

pub returns-clause-cause : goal.returns-clause-cause
returns-clause-cause g c = ground_after c.read.result c.expects.ensures.cause.later (λ why. why) (cause_ground c.read.result c.read.ensures.cause)

pub returns-clause-seen : goal.returns-clause-seen
returns-clause-seen g c =
    let i = c.self.inside in
    let old = g.S.Store.state c.args.store.now in
    let new = g.S.Store.state c.read.new.self in
    let seen = g.S.Store.seen c.args.store.now in
    let after = g.S.Store.seen c.read.new.self in
    let cell = c.cell_of-cell.result in
    let name = item_name i.job.now.input c.args.item.0 in
    let done = done_in (record { task = i.job.now; marked = i.marked; left = i.left }) in
    let is = named g (goal.at.returns-clause-seen g c).After-expects in
    let first = subst (λ (n : List ℕ). g.S.Store.seen c.expects.new.self cell n) is c.in_ok-expects.ensures.noted in
    let looks = looks_then old (g.S.Store.state c.expects.new.self) new c.expects.ensures.change c.read.ensures.change in
    on_ok_is c.read.result (subst (λ (l : Session). flights old ≡ [] → InSight l seen old.reads → InSight l after new.reads) c.self.view_is (λ none sight.
    let same = same_image old.reads new.reads (look_quiet old new none looks).told in
    subst (λ (image : Image). IsSeenAtStep i.job.now after image i.marked done) same (seen_read i.job.now c.keeps_rules.ensures i.marked c.self.invariant.0 c.args.item.0 cell c.cell_of-cell.ensures seen after
    (remembers_synced c.expects.ensures.seen c.read.ensures.seen) (c.read.ensures.seen cell name (λ out. out) first) old.reads done sight)))
