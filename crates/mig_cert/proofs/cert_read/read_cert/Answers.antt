use Rattle.mig_cert.proofs.Common.{MatchResult-weaker, arith}
use Rattle.mig_cert.proofs.CertReads.{cert_line, cert_text}
use Rattle.mig_cert.proofs.cert_read.read_cert.Goals as goal

pub returns-clause-cert : goal.returns-clause-cert
returns-clause-cert c =
    cert_text c.args.input.now c.in_ok-finder.finder c.args.bytes.now c.of-2.result c.read_lines.result c.in_ok-finder.ensures.value c.of-2.ensures c.read_lines.ensures.kept c.read_lines.ensures.fits c.read_lines.ensures.lines

pub returns-clause-line : goal.returns-clause-line
returns-clause-line c =
    MatchResult-weaker c.read_lines.result (rw (c.of-2.ensures, c.in_ok-finder.ensures.value) at c.read_lines.ensures.line) (λ x u. u)
    (λ e s. cert_line c.args.input.now c.args.bytes.now e c.in_ok-finder.ensures.valid (omega arith) s)
