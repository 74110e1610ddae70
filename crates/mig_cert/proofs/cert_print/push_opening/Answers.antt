use Rattle.mig_cert.proofs.Common.{ap, ◌++◌, ◌∙◌}
use Rattle.mig_cert.proofs.Printed.{opening_printed}
use Rattle.mig_cert.proofs.cert_print.push_opening.Goals as goal

pub returns-clause-text : goal.returns-clause-text
returns-clause-text c =
    opening_printed c.args.input.now c.args.cert.now c.args.out.now.items c.extend_from_slice.new.self.items c.push.new.self.items c.push_count.new.out.items c.push_count-2.new.out.items c.push_class.new.out.items
    (c.in_ok-extend_from_slice.ensures.items ∙ ap (λ t. c.args.out.now.items ++ t) c.title_of.ensures) c.in_ok-push.ensures.items c.in_ok-push_count.ensures c.in_ok-push_count-2.ensures c.in_ok-push_class.ensures
