use Rattle.mig_store.proofs.Common.{All, IsSpan, List, Note, length, subst, sym, ℕ}
use Rattle.mig_store.proofs.calls.CallRecord.asked.Goals as goal

pub part-requires : goal.part-requires
part-requires c =
    let bytes = c.self.inside.bytes.items in
    subst (λ (l : List ℕ). IsSpan (length l) c.span_at.result) (sym c.deref.ensures.value)
    (c.span_at.ensures.within (length bytes) (subst (λ (l : List Note). All (λ n. IsSpan (length bytes) n.span) l) (sym c.deref-2.ensures.value) c.self.invariant.0.spans))
