use Rattle.mig_store.specs.Grounds.{AreZeros}
use Rattle.std.proofs.lemmas.Bool.Decides.{nat_tests}
use Rattle.std.specs.Prelude.{bit_or}
use Rattle.mig_files.proofs.Common.{List, MatchBool, [], ap, arith, length, nat_eq, refl, rules, slice_index, subst, suc, zero, ℕ, ◌++◌, ◌<◌, ◌∙◌, ◌∷◌, ◌≡◌}
use Rattle.std.proofs.lemmas.Fn.{fold_over, fronts, slice_gives}
use Rattle.std.proofs.lemmas.Nat.{le_or_l, le_or_r}
use Rattle.mig_files.proofs.writes.is_empty.Goals as goal

-- bytes and one more are zeros where both are
zeros_push : (bytes : List ℕ) (byte : ℕ) → AreZeros bytes → byte ≡ 0 → AreZeros (bytes ++ byte ∷ [])
zeros_push [] byte zeros e zero l = e
zeros_push [] byte zeros e (suc i) l = absurd (omega (arith, l))
zeros_push (b ∷ bytes) byte zeros e zero l = zeros 0 (omega arith)
zeros_push (b ∷ bytes) byte zeros e (suc i) l = zeros_push bytes byte (λ k m. zeros (suc k) (omega (arith, m))) e i (omega (arith, l))

zeros_front : (bytes : List ℕ) (byte : ℕ) → AreZeros (bytes ++ byte ∷ []) → AreZeros bytes × (byte ≡ 0)
zeros_front [] byte zeros = (λ i l. absurd (omega (arith, l)), zeros 0 (omega arith))
zeros_front (b ∷ bytes) byte zeros =
    let rest = zeros_front bytes byte (λ k m. zeros (suc k) (omega (arith, m))) in
    (λ i l. first i l rest.0, rest.1)
  where
    first : (i : ℕ) → i < length (b ∷ bytes) → AreZeros bytes → slice_index (b ∷ bytes) i ≡ 0
    first zero l rest = zeros 0 (omega arith)
    first (suc i) l rest = rest i (omega (arith, l))

-- what is gathered is 0 exactly where all bytes are
abbrev Gathers : List ℕ → ℕ → Type 0
Gathers bytes all = (all ≡ 0 → AreZeros bytes) × (AreZeros bytes → all ≡ 0)

gathers_more : (bytes : List ℕ) (all byte more : ℕ) → Gathers bytes all → more ≡ bit_or all byte → Gathers (bytes ++ byte ∷ []) more
gathers_more bytes all byte more gathers is = (
  λ none. zeros_push bytes byte (gathers.0 (omega (arith, none, is, le_or_l all byte))) (omega (arith, none, is, le_or_r all byte)),
  λ zeros. let front = zeros_front bytes byte zeros in is ∙ ap {B = ℕ} (λ (n : ℕ). bit_or n byte) (gathers.1 front.0) ∙ front.1,
)

decided : (bytes : List ℕ) (all : ℕ) → Gathers bytes all → MatchBool (nat_eq all 0) (AreZeros bytes) (¬ (AreZeros bytes))
decided bytes all gathers = grind (arith, nat_tests)

pub returns : goal.returns
returns c =
    decided c.args.bytes.now c.fold.result
    (subst (λ l. Gathers l c.fold.result) c.iter.ensures.rest
    (fold_over fronts (λ y. y.now) _ Gathers _ (λ ys a x b f' j k. (gathers_more ys a x.now b j (search rules), search rules)) _ _ _ _ (slice_gives c.iter.result) (λ e i l. absurd (omega (arith, l)), λ zeros. refl) c.fold.ensures.ran))
