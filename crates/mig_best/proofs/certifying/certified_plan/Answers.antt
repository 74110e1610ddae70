use Rattle.mig_best.proofs.Common.{Because, Best, Bound, BoundFits, BoundHolds, InputLists, IsInput, IsPlanOf, List, Needs, Reason, Shift, Transfers, ap, arith, bound_value, class_kind, class_of}
use Rattle.mig_best.proofs.Common.{is_duplex_class, kind_at, length, needs_bound, obeys, quotient, round_of, scheduled, subst, sym, transfer_graph, ◌∙◌, ◌≤◌}
use Rattle.mig_best.proofs.BestFits.{Best-fits, Best-holds, Best-kind}
use Rattle.mig_best.proofs.TightBound.{tight_bound}
use Rattle.mig_best.proofs.certifying.certified_plan.Goals as goal

-- the bound of a plan that has as many rounds as the quotient is at most that
bound_within : (input : InputLists) (plan : List (List Shift)) (bound : Bound) (why : Reason) → IsInput input → IsPlanOf input plan → Because why (transfer_graph input) → Needs input (bound_value bound) → bound_value bound ≤ quotient (transfer_graph input)
bound_within input plan bound why valid made holds needs = omega (arith, made.tight why holds, needs (length plan) (round_of plan) (scheduled input plan made.once) (obeys input plan valid made.runs made.once))

pub returns : goal.returns
returns c =
    let graph = transfer_graph c.args.input.now in
    let best = subst (λ (g : Transfers). Best g c.in_ok-bound.bound) c.requires.graph c.in_ok-bound.ensures in
    let best_of = subst (λ (b : Bound). Best graph b) (sym c.certify-cert.ensures.bound) best in
    let fits = subst (λ (b : Bound). BoundFits graph b) (sym c.certify-cert.ensures.bound) (Best-fits graph c.in_ok-bound.bound best) in
    let bound_holds = subst (λ (b : Bound). BoundHolds graph b) (sym c.certify-cert.ensures.bound) (Best-holds graph c.in_ok-bound.bound best) in
    let input = c.args.input.now in
    let needs = needs_bound input c.certify-cert.result.bound c.keeps_rules.ensures fits bound_holds in
    record {
      made = record {
        planned = c.in_ok-plan.ensures.planned;
        lowered = c.in_ok-plan.ensures.lowered;
        holds = record {
          rounds = c.certify-cert.ensures.rounds;
          quotient_is = c.certify-cert.ensures.quotient ∙ ap quotient c.requires.graph;
          class = c.certify-cert.ensures.class ∙ ap class_of c.requires.graph;
          bound = bound_holds;
        };
        best = best_of;
        needs = needs;
        shown = λ why holds. tight_bound graph (kind_at input c.keeps_rules.ensures) c.certify-cert.result.bound best_of (bound_within input _ c.certify-cert.result.bound why c.keeps_rules.ensures c.in_ok-plan.ensures.planned holds needs);
      };
      fits = record {
        disks = fits;
        class = ap is_duplex_class (c.certify-cert.ensures.class ∙ ap class_of c.requires.graph) ∙ class_kind graph;
        kind = Best-kind graph c.certify-cert.result.bound best_of;
      };
    }
