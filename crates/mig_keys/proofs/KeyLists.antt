-- Lists of different keys, by a test that only the same pass.
use Rattle.mig_keys.proofs.Common.{AllPairs-from_IsDistinct, AreDifferent, Bool, Contains, Contains-from_any, IndexSet, IsEquivalence, IsUnique, List, MatchOption, None, Option, Some, [], ap}
use Rattle.mig_keys.proofs.Common.{arith, cond, false, false≢true, get_or, get_or-take, insert_key, is_some, length, length-take, list_any, list_any-from_Contains, position, position-Some, refl}
use Rattle.mig_keys.proofs.Common.{slice_get, slice_get-get_or, subst, sym, take, true, ℕ, ◌++◌, ◌<◌, ◌∙◌, ◌∷◌, ◌≡◌}
use Rattle.mig_base.specs.contracts.cells.CellEq.TheImpl.Laws.{laws-law}
use Rattle.mig_base.specs.contracts.cells.CellPartialEq.TheImpl.{eq-value}
use Rattle.mig_base.specs.declared.cells.Cell.{Cell}
use Rattle.mig_keys.specs.SameKeys.{same_cells}

module _ {K : Type 0} {eq : K → K → Bool} (laws : IsEquivalence eq) (same : (x y : K) → eq x y ≡ true → x ≡ y) where
  -- what a look-up of a key says
  pub found_key : (keys : List K) (key : K) (r : Option ℕ) → r ≡ position (eq key) keys → is_some r ≡ list_any (eq key) keys
      → MatchOption r (¬ (Contains keys key)) (λ k. slice_get keys k ≡ Some key)
  found_key keys key None at found = λ has. false≢true (found ∙ list_any-from_Contains laws key keys has)
  found_key keys key (Some k) at found =
      let p = position-Some (eq key) keys k key (sym at) in
      slice_get-get_or keys k key p.0 ∙ ap Some (sym (same key _ p.1))

  added : (keys : List K) (key : K) (b : Bool) → b ≡ list_any (eq key) keys → ¬ (Contains keys key) → cond b keys (keys ++ key ∷ []) ≡ keys ++ key ∷ []
  added keys key true e new = absurd (new (Contains-from_any same key keys (sym e)))
  added keys key false e new = refl

  -- a new key goes last
  pub insert_key-new : (keys : List K) (key : K) → ¬ (Contains keys key) → insert_key eq keys key ≡ keys ++ key ∷ []
  insert_key-new keys key new = added keys key (list_any (eq key) keys) refl new

  -- a set's keys are different
  pub different_keys : {S : Type 0} (s : IndexSet K S) → IsUnique eq s → AreDifferent s.keys
  different_keys s unique = AllPairs-from_IsDistinct (λ x y. (same x y, λ e. subst (λ z. eq x z ≡ true) e (laws.refl x))) s.keys unique

-- a key of a list of different ones isn't among those before it
pub not_before : {K : Type 0} (keys : List K) (i : ℕ) (key : K) → AreDifferent keys → i < length keys → key ≡ get_or keys i key → Contains (take i keys) key → ⊥
not_before keys i key different lt here has =
    let low : has.0 < i = omega (arith, has.1, length-take i keys) in
    different has.0 i key low lt (sym (get_or-take i keys has.0 key low) ∙ has.2 ∙ here)

pub different_cells : {S : Type 0} (s : IndexSet Cell S) → IsUnique eq-value.it s → AreDifferent s.keys
different_cells s unique = different_keys laws-law same_cells s unique
