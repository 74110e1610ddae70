use Rattle.mig_cert.proofs.CertLengths.{short_text}
use Rattle.mig_cert.proofs.laws.cert_texts_are_short.Goals as goal

pub returns : goal.returns
returns c = short_text
