use Rattle.mig_words.proofs.Common.{Ok, Puts, joined, map, part_text, take}
use Rattle.mig_words.proofs.putting.put_parts.Given as goal

-- the parts so far were put
abbrev pub invariant-loop-part : goal.invariant-loop-part
invariant-loop-part g l = Puts (joined (map part_text (take l.part-index l.parts))) (g.K.Sink.state l.initial.out) (g.K.Sink.state l.out) (Ok tt)
