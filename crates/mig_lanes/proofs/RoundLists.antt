-- The events of rounds, one after the other.
use Rattle.mig_lanes.proofs.Common.{AreRoundEvents, AreRounds, BeginsRound, BeginsRounds, Event, Flight, IsPermutation, IsPermutation-refl, List, Task, [], ap, append-nil, append_assoc, arith, began}
use Rattle.mig_lanes.proofs.Common.{copies_of, drop, ended, later_rounds, length, map, map-append, map_more, range_with_len, refl, subst, suc, sym, take, take-append-drop, take_all, ℕ, ⊎_elim}
use Rattle.mig_lanes.proofs.Common.{◌++◌, ◌+◌, ◌-◌, ◌<◌, ◌∙◌, ◌∷◌, ◌≡◌, ◌≤◌}

-- part of a round's events is a prefix of a whole round's
part_is_prefix : (round : List Flight) (added : List Event) → BeginsRound round added → (more : List Event) × AreRoundEvents round (added ++ more)
part_is_prefix round added part = ⊎_elim early late part.all_first
  where
    early : part.done ≡ [] → (more : List Event) × AreRoundEvents round (added ++ more)
    early none = (
      map began (drop part.begun round) ++ map ended part.left,
      record {
        order = part.left;
        each_once = subst (λ (l : List Flight). IsPermutation round (l ++ part.left)) none part.each_once;
        is = ap (λ (l : List Event). l ++ (map began (drop part.begun round) ++ map ended part.left)) (part.is ∙ ap (λ (l : List Flight). map began (take part.begun round) ++ map ended l) none ∙ append-nil (map began (take part.begun round)))
            ∙ sym (append_assoc (map began (take part.begun round)) (map began (drop part.begun round)) (map ended part.left))
            ∙ ap (λ (l : List Event). l ++ map ended part.left) (sym (map-append began (take part.begun round) (drop part.begun round)) ∙ ap (map began) (take-append-drop part.begun round));
      },
    )

    late : length round ≤ part.begun → (more : List Event) × AreRoundEvents round (added ++ more)
    late all = (
      map ended part.left,
      record {
        order = part.done ++ part.left;
        each_once = part.each_once;
        is = ap (λ (l : List Event). l ++ map ended part.left) (part.is ∙ ap (λ (l : List Flight). map began l ++ map ended part.done) (take_all part.begun round all))
            ∙ append_assoc (map began round) (map ended part.done) (map ended part.left)
            ∙ ap (λ (l : List Event). map began round ++ l) (sym (map-append ended part.done part.left));
      },
    )

-- rounds have events
pub some_rounds : (rounds : List (List Flight)) → (added : List Event) × AreRounds rounds added
some_rounds [] = ([], refl)
some_rounds (round ∷ rounds) =
    let rest = some_rounds rounds in
    let first : List Event = map began round ++ map ended round in
    (first ++ rest.0, (first, rest.0, refl, record { order = round; each_once = IsPermutation-refl round; is = refl }, rest.1))

-- the events of some rounds, and then of others
pub rounds_append : (xs ys : List (List Flight)) (a b : List Event) → AreRounds xs a → AreRounds ys b → AreRounds (xs ++ ys) (a ++ b)
rounds_append [] ys a b none more = subst (AreRounds ys) (sym (ap (λ (l : List Event). l ++ b) none)) more
rounds_append (x ∷ xs) ys a b are more =
    (are.0, are.1 ++ b, ap (λ (l : List Event). l ++ b) are.2 ∙ append_assoc are.0 are.1 b, are.3, rounds_append xs ys are.1 b are.4 more)

one_round : (round : List Flight) (added : List Event) → AreRoundEvents round added → AreRounds (round ∷ []) added
one_round round added is = (added, [], sym (append-nil added), is, refl)

-- of rounds, the first ones, and then part of one
part_append : (xs ys : List (List Flight)) (round : List Flight) (a b : List Event) → AreRounds xs a → BeginsRound round b → BeginsRounds (xs ++ round ∷ ys) (a ++ b)
part_append xs ys round a b are part =
    let whole = part_is_prefix round b part in
    let rest = some_rounds ys in (
      whole.0 ++ rest.0,
      subst (AreRounds (xs ++ round ∷ ys)) (ap (λ (l : List Event). a ++ l) (append_assoc b whole.0 rest.0) ∙ sym (append_assoc a b (whole.0 ++ rest.0)))
          (rounds_append xs (round ∷ ys) a ((b ++ whole.0) ++ rest.0) are (b ++ whole.0, rest.0, refl, whole.1, rest.1)),
    )

module _ (task : Task) (k n : ℕ) (low : k ≤ n) where
  -- the rounds k + 1 to n
  abbrev pub rounds_to : List (List Flight)
  rounds_to = map (copies_of task) (range_with_len (k + 1) (n - k))

  pub rounds_next : (a b : List Event) → AreRounds (map (copies_of task) (range_with_len (k + 1) (n - k))) a → AreRoundEvents (copies_of task (n + 1)) b → AreRounds (map (copies_of task) (range_with_len (k + 1) (n + 1 - k))) (a ++ b)
  rounds_next a b are is = subst (λ (l : List (List Flight)). AreRounds l (a ++ b)) (sym next) (rounds_append rounds_to (copies_of task (n + 1) ∷ []) a b are (one_round (copies_of task (n + 1)) b is))
    where
      next : map (copies_of task) (range_with_len (k + 1) (n + 1 - k)) ≡ map (copies_of task) (range_with_len (k + 1) (n - k)) ++ copies_of task (n + 1) ∷ []
      next = ap (λ (j : ℕ). map (copies_of task) (range_with_len (k + 1) j)) (let e : n + 1 - k ≡ (n - k) + 1 = omega arith in e) ∙ map_more (copies_of task) (k + 1) (n - k) 1
          ∙ ap (λ (j : ℕ). map (copies_of task) (range_with_len (k + 1) (n - k)) ++ copies_of task j ∷ []) (let e : k + 1 + (n - k) ≡ n + 1 = omega arith in e)

  pub rounds_part : n < length task.plan → (a b : List Event) → AreRounds (map (copies_of task) (range_with_len (k + 1) (n - k))) a → BeginsRound (copies_of task (n + 1)) b → BeginsRounds (later_rounds task k) (a ++ b)
  rounds_part lt a b are part = subst (λ (l : List (List Flight)). BeginsRounds l (a ++ b)) (sym split) (part_append rounds_to (map (copies_of task) (range_with_len (n + 1 + 1) (length task.plan - n - 1))) (copies_of task (n + 1)) a b are part)
    where
      split : later_rounds task k ≡ map (copies_of task) (range_with_len (k + 1) (n - k)) ++ copies_of task (n + 1) ∷ map (copies_of task) (range_with_len (n + 1 + 1) (length task.plan - n - 1))
      split = ap (λ (j : ℕ). map (copies_of task) (range_with_len (k + 1) j)) (let e : length task.plan - k ≡ (n - k) + suc (length task.plan - n - 1) = omega arith in e)
          ∙ map_more (copies_of task) (k + 1) (n - k) (suc (length task.plan - n - 1))
          ∙ ap (λ (j : ℕ). map (copies_of task) (range_with_len (k + 1) (n - k)) ++ copies_of task j ∷ map (copies_of task) (range_with_len (j + 1) (length task.plan - n - 1))) (let e : k + 1 + (n - k) ≡ n + 1 = omega arith in e)

pub all_begin : (task : Task) (k : ℕ) (a : List Event) → AreRounds (later_rounds task k) a → BeginsRounds (later_rounds task k) a
all_begin task k a are = ([], subst (AreRounds (later_rounds task k)) (sym (append-nil a)) are)
