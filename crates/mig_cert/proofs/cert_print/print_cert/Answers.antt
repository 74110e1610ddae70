use Rattle.mig_cert.proofs.Common.{ap, opening_text, ◌++◌, ◌∙◌}
use Rattle.mig_cert.proofs.Printed.{printed}
use Rattle.mig_cert.proofs.cert_print.print_cert.Goals as goal

pub returns : goal.returns
returns c = record {
  kept = record { rounds = c.in_ok-push_opening.ensures.rounds; quotient = c.in_ok-push_opening.ensures.quotient; load = c.in_ok-push_bound.ensures.load; value = c.in_ok-push_bound.ensures.value; set = c.in_ok-push_bound.ensures.set };
  fits = c.requires;
  lines = printed c.args.input.now c.args.cert.now c.push_opening.new.out.items c.push_bound.new.out.items c.extend_from_slice.new.self.items
      (c.in_ok-push_opening.ensures.text ∙ ap (λ t. t ++ opening_text c.args.input.now c.args.cert.now) c.new-out.ensures.items) c.in_ok-push_bound.ensures.text c.in_ok-extend_from_slice.ensures.items;
}
