use Rattle.mig_words.proofs.Common.{List, [], bytes_eq-Decides, map, rules, subst, sym, ℕ, ◌∙◌, ◌≢◌}
use Rattle.mig_words.proofs.Lists.{SoFar, SoFar-step, map-drop}
use Rattle.mig_words.proofs.words.differs_from.Goals as goal

pub returns-then-eq : goal.returns-then-eq
returns-then-eq c =
    let s = subst (λ (rest : List (List ℕ)). SoFar (λ other. c.args.word.now ≢ other) rest (map (λ w. w.now) c.args.others.now)) (map-drop (λ w. w.now) c.args.others.now c.loop-other.other-index (record { ref_ptr = (0, 0); now = [] }) c.loop-other-test.true) c.loop-other.invariant in
    let same = (bytes_eq-Decides _ _).0 (sym c.eq.ensures ∙ c.if-eq.true) in
    (λ f. absurd (search rules), λ all. absurd ((s.back all).0 (sym same)))

pub loop-other-preserved : goal.loop-other-preserved
loop-other-preserved c =
    let s = subst (λ (rest : List (List ℕ)). SoFar (λ other. c.args.word.now ≢ other) rest (map (λ w. w.now) c.args.others.now)) (map-drop (λ w. w.now) c.args.others.now c.loop-other.other-index (record { ref_ptr = (0, 0); now = [] }) c.loop-other-test.true) c.loop-other.invariant in
    SoFar-step (λ other. c.args.word.now ≢ other) _ _ _ s (λ e. let t = (bytes_eq-Decides _ c.args.word.now).1 (sym e) in cc)
