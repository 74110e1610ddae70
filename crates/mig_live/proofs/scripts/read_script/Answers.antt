use Rattle.mig_live.proofs.Common.{MatchResult-weaker, arith}
use Rattle.mig_live.proofs.ScriptLaws.{script_line, script_long, script_text}
use Rattle.mig_live.proofs.scripts.read_script.Goals as goal

pub returns-then-bytes-gt-MAX_FILE_BYTES-clause-line : goal.returns-then-bytes-gt-MAX_FILE_BYTES-clause-line
returns-then-bytes-gt-MAX_FILE_BYTES-clause-line c = script_long c.args.input.now c.keeps_rules.ensures c.args.bytes.now (omega (arith, c.if-bytes-gt-MAX_FILE_BYTES.true))

pub returns-clause-orders : goal.returns-clause-orders
returns-clause-orders c = MatchResult-weaker c.read_orders.result (rw (c.of-2.ensures, c.in_ok-finder.ensures.value) at c.read_orders.ensures.orders)
    (λ orders read. script_text c.args.input.now c.keeps_rules.ensures c.args.bytes.now orders read) (λ e u. u)

pub returns-clause-line : goal.returns-clause-line
returns-clause-line c = MatchResult-weaker c.read_orders.result (rw (c.of-2.ensures, c.in_ok-finder.ensures.value) at c.read_orders.ensures.line) (λ x u. u)
    (λ e stop. script_line c.args.input.now c.keeps_rules.ensures c.args.bytes.now (omega (arith, c.if-bytes-gt-MAX_FILE_BYTES.false)) e stop)
