use Rattle.mig_board.proofs.Common.{Colouring, Entries, ap, arith, refl, subst, sym, ◌<◌, ◌∙◌}
use Rattle.mig_board.proofs.Walks.{underway_short}
use Rattle.mig_board.proofs.ExchangeFacts.{reached_start, reached_at, reached_colours, found_old, turned_old, found_leads, edge_in_painted, edge_in_ends, end_is_at, reached_next, few_kept, board_now, exchanges_now}
use Rattle.mig_board.proofs.boards.Board.exchange.Goals as goal

pub swap-found-requires-clause-node : goal.swap-found-requires-clause-node
swap-found-requires-clause-node c =
    let r = reached_start c.self.inside c.self.invariant _ c.self.view_is _ _ _ c.requires.lacks c.requires.has in
    subst (λ (g : Colouring). c.args.node.0 < g.nodes) (sym c.self.view_is) (reached_at _ _ _ _ _ _ _ _ _ _ _ r)

pub swap-found-requires-clause-one : goal.swap-found-requires-clause-one
swap-found-requires-clause-one c =
    let r = reached_start c.self.inside c.self.invariant _ c.self.view_is _ _ _ c.requires.lacks c.requires.has in
    subst (λ (g : Colouring). c.args.has.0 < g.colours) (sym c.self.view_is) (reached_colours _ _ _ _ _ _ _ _ _ _ _ r).0

pub swap-found-requires-clause-two : goal.swap-found-requires-clause-two
swap-found-requires-clause-two c =
    let r = reached_start c.self.inside c.self.invariant _ c.self.view_is _ _ _ c.requires.lacks c.requires.has in
    subst (λ (g : Colouring). c.args.lacks.0 < g.colours) (sym c.self.view_is) (reached_colours _ _ _ _ _ _ _ _ _ _ _ r).1

pub loop-step-init : goal.loop-step-init
loop-step-init c =
    let r = reached_start c.self.inside c.self.invariant _ c.self.view_is _ _ _ c.requires.lacks c.requires.has in
    let nodes = ap (λ (q : Colouring). q.nodes) c.self.view_is in
    let colours = ap (λ (q : Colouring). q.colours) c.self.view_is in
    let swapped = c.swap-found.ensures.swapped in
    record {
      nodes = ap (λ (t : Entries). t.nodes) swapped ∙ nodes;
      colours = ap (λ (t : Entries). t.colours) swapped ∙ colours;
      ends = ap (λ (q : Colouring). q.ends) c.self.view_is;
      few_edges = c.self.invariant.few_edges;
      few_entries = few_kept c.self.inside.table _ _ swapped c.self.invariant.few_entries;
      first = c.self.inside.table.entries;
      before = c.self.inside.table.entries;
      reached = r;
      turned = turned_old _ _ _ _ _ _ _ _ _ _ _ r _ colours _ _ refl refl _ (ap (λ (t : Entries). t.entries) swapped);
      found_is = found_old _ _ _ _ _ _ _ _ _ _ _ r _ colours _ refl _ c.swap-found.ensures.found;
    }

pub invariant_of-self : goal.invariant_of-self
invariant_of-self c = board_now _ _ _ _ _ _ _ _ _ _ c.loop-step.invariant c.in_default.is

pub returns-in_default-clause-exchanged : goal.returns-in_default-clause-exchanged
returns-in_default-clause-exchanged c = exchanges_now _ _ _ _ _ _ _ _ _ _ c.loop-step.invariant c.in_default.is

pub returns-in_default-clause-proper : goal.returns-in_default-clause-proper
returns-in_default-clause-proper c = (board_now _ _ _ _ _ _ _ _ _ _ c.loop-step.invariant c.in_default.is).proper

pub index-requires : goal.index-requires
index-requires c =
    let m = c.loop-step.invariant in
    let l = found_leads _ _ _ _ _ _ _ _ _ _ m _ c.in-Some.is in
    edge_in_ends _ _ _ _ _ _ _ _ _ _ m _ _ l.1

pub other_of-at-requires : goal.other_of-at-requires
other_of-at-requires c =
    let m = c.loop-step.invariant in
    let l = found_leads _ _ _ _ _ _ _ _ _ _ m _ c.in-Some.is in
    end_is_at _ _ _ _ _ _ _ _ _ _ m _ _ l.1 _ c.index.ensures

pub swap-found-requires-in-loop-step-clause-node : goal.swap-found-requires-in-loop-step-clause-node
swap-found-requires-in-loop-step-clause-node c =
    let m = c.loop-step.invariant in
    let l = found_leads _ _ _ _ _ _ _ _ _ _ m _ c.in-Some.is in
    let r = reached_next _ _ _ _ _ _ _ _ _ _ m _ _ l.1 _ c.index.ensures _ c.other_of-at.ensures in
    subst (λ q. c.other_of-at.result.0 < q) (sym m.nodes) (reached_at _ _ _ _ _ _ _ _ _ _ _ r)

pub swap-found-requires-in-loop-step-clause-one : goal.swap-found-requires-in-loop-step-clause-one
swap-found-requires-in-loop-step-clause-one c =
    let m = c.loop-step.invariant in
    let l = found_leads _ _ _ _ _ _ _ _ _ _ m _ c.in-Some.is in
    let r = reached_next _ _ _ _ _ _ _ _ _ _ m _ _ l.1 _ c.index.ensures _ c.other_of-at.ensures in
    subst (λ q. c.loop-step.other.0 < q) (sym m.colours) (reached_colours _ _ _ _ _ _ _ _ _ _ _ r).0

pub swap-found-requires-in-loop-step-clause-two : goal.swap-found-requires-in-loop-step-clause-two
swap-found-requires-in-loop-step-clause-two c =
    let m = c.loop-step.invariant in
    let l = found_leads _ _ _ _ _ _ _ _ _ _ m _ c.in-Some.is in
    let r = reached_next _ _ _ _ _ _ _ _ _ _ m _ _ l.1 _ c.index.ensures _ c.other_of-at.ensures in
    subst (λ q. c.loop-step.next.0 < q) (sym m.colours) (reached_colours _ _ _ _ _ _ _ _ _ _ _ r).1

pub index_mut-requires : goal.index_mut-requires
index_mut-requires c =
    let m = c.loop-step.invariant in
    let l = found_leads _ _ _ _ _ _ _ _ _ _ m _ c.in-Some.is in
    edge_in_painted _ _ _ _ _ _ _ _ _ _ m _ _ l.1

pub loop-step-preserved : goal.loop-step-preserved
loop-step-preserved c =
    let m = c.loop-step.invariant in
    let l = found_leads _ _ _ _ _ _ _ _ _ _ m _ c.in-Some.is in
    let r = reached_next _ _ _ _ _ _ _ _ _ _ m _ _ l.1 _ c.index.ensures _ c.other_of-at.ensures in
    let swapped = c.swap-found-in-loop-step.ensures.swapped in
    record {
      nodes = ap (λ (t : Entries). t.nodes) swapped ∙ m.nodes;
      colours = ap (λ (t : Entries). t.colours) swapped ∙ m.colours;
      ends = m.ends;
      few_edges = m.few_edges;
      few_entries = few_kept c.loop-step.self-inside.table _ _ swapped m.few_entries;
      first = m.first;
      before = c.loop-step.self-inside.table.entries;
      reached = r;
      turned = turned_old _ _ _ _ _ _ _ _ _ _ _ r _ m.colours _ _ refl refl _ (ap (λ (t : Entries). t.entries) swapped);
      found_is = found_old _ _ _ _ _ _ _ _ _ _ _ r _ m.colours _ refl _ c.swap-found-in-loop-step.ensures.found;
    }

pub unreachable-requires : goal.unreachable-requires
unreachable-requires c =
    let m = c.loop-step.invariant in
    let short = underway_short _ m.reached.0.tabled.proper _ _ _ m.reached.0.lacks m.reached.0.has _ _ _ _ m.reached.1.underway in
    let nodes = ap (λ (q : Colouring). q.nodes) c.self.view_is in
    let swapped = ap (λ (t : Entries). t.nodes) c.swap-found.ensures.swapped in
    omega (arith, short, nodes, swapped, c.nodes-step-end.ensures, c.loop-step-test.false)
