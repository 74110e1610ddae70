use Rattle.mig_journal.proofs.Common.{AreUnmarked, Cell, IfSome, Image, IsMark, List, Mark, Option, SameBut, [], arith, cases_eq, false≢true, flights, inl, inr, no_source, no_target, subst, sym, ℕ, ◌+◌, ◌<◌, refl}
use Rattle.mig_journal.proofs.Common.{◌∷◌, ◌≡◌, ◌≤◌, ◌⊎◌}
use Rattle.mig_journal.proofs.Steps.{still_none, then_step, remembers_at, remembers_then, only_rose, no_erasure, err_any, rose_from}
use Rattle.mig_journal.proofs.arming.clear_marks.Goals as goal

is_mark : (rounds n : ℕ) → n < rounds → (cell : Cell) → cell ≡ Mark (n + 1) → IsMark rounds cell
is_mark rounds n lt cell is = (n + 1, omega arith, omega arith, is)

one_more : (old new : Image) (k : ℕ) → AreUnmarked k old → SameBut (λ d. d ≡ Mark (k + 1)) old new → IfSome (new (Mark (k + 1))) (λ bytes. bytes ≡ 0 ∷ [])
    → (n : ℕ) → 1 ≤ n → n ≤ k + 1 → (n ≡ k + 1) ⊎ (n ≡ k + 1 → ⊥) → IfSome (new (Mark n)) (λ bytes. bytes ≡ 0 ∷ [])
one_more old new k zeros others written n low high (inl last) = subst (λ (m : ℕ). IfSome (new (Mark m)) (λ bytes. bytes ≡ 0 ∷ [])) (sym last) written
one_more old new k zeros others written n low high (inr before) =
    subst (λ (o : Option (List ℕ)). IfSome o (λ bytes. bytes ≡ 0 ∷ [])) (sym (others.same (Mark n) (λ e. before (let h : n ≡ k + 1 = cc in h)))) (zeros n low (omega arith))

pub write-requires-clause-asked : goal.write-requires-clause-asked
write-requires-clause-asked g c = λ slot. absurd (false≢true slot)

pub write-requires-clause-not_target : goal.write-requires-clause-not_target
write-requires-clause-not_target g c = no_target (flights (g.S.Store.state c.loop-n.store)) (Mark (c.loop-n.n + 1)) (still_none (IsMark c.args.rounds) (g.S.Store.state c.args.store.now) (g.S.Store.state c.loop-n.store) c.requires.none c.loop-n.invariant.change)

pub write-requires-clause-not_source : goal.write-requires-clause-not_source
write-requires-clause-not_source g c = no_source (flights (g.S.Store.state c.loop-n.store)) (Mark (c.loop-n.n + 1)) (still_none (IsMark c.args.rounds) (g.S.Store.state c.args.store.now) (g.S.Store.state c.loop-n.store) c.requires.none c.loop-n.invariant.change)

pub returns-in_err-write-clause-change : goal.returns-in_err-write-clause-change
returns-in_err-write-clause-change g c = then_step (IsMark c.args.rounds) (g.S.Store.state c.args.store.now) (g.S.Store.state c.loop-n.store) (λ d. d ≡ Mark (c.loop-n.n + 1)) (g.S.Store.state c.write.new.self)
    (is_mark c.args.rounds c.loop-n.n c.loop-n-test.true) c.loop-n.invariant.change c.write.ensures.change

pub loop-n-preserved : goal.loop-n-preserved
loop-n-preserved g c = record {
  cleared = λ n low high. one_more _ _ c.loop-n.n c.loop-n.invariant.cleared c.write.ensures.change.told c.in_ok-write.ensures.written n low high (cases_eq n (c.loop-n.n + 1));
  change = then_step (IsMark c.args.rounds) (g.S.Store.state c.args.store.now) (g.S.Store.state c.loop-n.store) (λ d. d ≡ Mark (c.loop-n.n + 1)) (g.S.Store.state c.write.new.self)
      (is_mark c.args.rounds c.loop-n.n c.loop-n-test.true) c.loop-n.invariant.change c.write.ensures.change;
  later = omega (arith, c.loop-n.invariant.later, c.write.ensures.cause.later);
  seen = remembers_then c.loop-n.invariant.seen (remembers_at (Mark (c.loop-n.n + 1)) refl c.write.ensures.seen);
}

pub returns-in_err-write-clause-seen : goal.returns-in_err-write-clause-seen
returns-in_err-write-clause-seen g c = remembers_then c.loop-n.invariant.seen (remembers_at (Mark (c.loop-n.n + 1)) refl c.write.ensures.seen)

pub returns-in_err-write-clause-cause : goal.returns-in_err-write-clause-cause
returns-in_err-write-clause-cause g c = record {
  later = omega (arith, c.loop-n.invariant.later, c.write.ensures.cause.later);
  failed = err_any _ (rose_from c.loop-n.invariant.later (only_rose (no_erasure (Mark (c.loop-n.n + 1)) refl) c.in_err-write.ensures.cause.failed));
}
