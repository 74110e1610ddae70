use Rattle.mig_live.proofs.Common.{List, Puts, [], ap, codes, encode_lower, subst, ℕ, ◌++◌, ◌∙◌}
use Rattle.mig_live.proofs.ReplyLaws.{reply_spelled}
use Rattle.mig_live.proofs.serving.put_reply.Goals as goal

pub returns : goal.returns
returns g c =
    let hex = encode_lower c.args.digest.now in
    subst (λ (text : List ℕ). Puts text (g.K.Sink.state c.args.out.now) (g.K.Sink.state c.put_parts.new.out) c.put_parts.result)
    (ap (λ (name : List ℕ). name ++ (codes " " ++ (hex ++ (codes "\n" ++ [])))) c.bytes.ensures.value ∙ reply_spelled c.args.name.now hex) c.put_parts.ensures
