use Rattle.mig_words.proofs.Common.{Text, [], part_text}
use Rattle.mig_words.proofs.PutTexts.{piece_fails}
use Rattle.mig_words.proofs.putting.put_parts.Goals as goal

pub returns-in_err-put_part : goal.returns-in_err-put_part
returns-in_err-put_part g c =
    piece_fails part_text c.args.parts.now c.loop-part.part-index (Text (record { ref_ptr = (0, 0); now = [] })) _ _ _ c.in_err-put_part.field-0.0 c.from_residual.result c.loop-part-test.true c.from_residual.ensures.0 c.loop-part.invariant c.in_err-put_part.ensures
