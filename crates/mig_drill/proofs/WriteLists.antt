-- The lists of writes.
use Rattle.mig_drill.proofs.Common.{ClearMark, Copy, Erase, List, SetMark, Shift, Write, [], ap, append-nil, arith, flat_map, flat_map-append, get_or, length, length-append, length-replicate}
use Rattle.mig_drill.proofs.Common.{refl, replicate, round_at, round_is, round_writes, shifts_of, sym, take, take_more, writes_of, ℕ, ◌*◌, ◌++◌, ◌+◌, ◌-◌, ◌<◌, ◌∙◌, ◌∷◌, ◌≡◌}
use Rattle.mig_drill.specs.declared.writes.Write.TheVariants.{Head, Gate}

round_length : (n : ℕ) → length (round_writes n) ≡ 2 * n + 1
round_length n = omega (arith, length-append (replicate n Copy) (SetMark ∷ replicate n Erase), length-replicate n Copy, length-replicate n Erase)

rounds_length : (plan : List (List Shift)) → length (flat_map (λ (round : List Shift). round_writes (length round)) plan) ≡ length plan + 2 * length (shifts_of plan)
rounds_length [] = refl
rounds_length (r ∷ rs) =
    omega (arith, length-append (round_writes (length r)) (flat_map (λ (round : List Shift). round_writes (length round)) rs), round_length (length r), rounds_length rs, length-append r (shifts_of rs))

-- how many writes there are
pub writes_counted : (plan : List (List Shift)) → length (writes_of plan) ≡ 2 * length plan + 2 + 2 * length (shifts_of plan)
writes_counted plan =
    let rounds = flat_map (λ (round : List Shift). round_writes (length round)) plan in
    omega (arith, length-append (replicate (length plan) ClearMark) (Head ∷ Gate ∷ rounds), length-replicate (length plan) ClearMark, rounds_length plan)

-- one round more
pub round_more : (plan : List (List Shift)) (n shifts : ℕ) → n < length plan → shifts ≡ length (round_at plan (n + 1))
    → flat_map (λ (round : List Shift). round_writes (length round)) (take n plan) ++ round_writes shifts ≡ flat_map (λ (round : List Shift). round_writes (length round)) (take (n + 1) plan)
round_more plan n shifts lt is =
    let f : List Shift → List Write = λ (round : List Shift). round_writes (length round) in
    let here : round_at plan (n + 1) ≡ get_or plan n [] = round_is plan (n + 1) [] (omega arith) (omega arith) ∙ ap (λ (j : ℕ). get_or plan j []) (let e : n + 1 - 1 ≡ n = omega arith in e) in
    ap (λ (k : ℕ). flat_map f (take n plan) ++ round_writes k) (is ∙ ap (λ (l : List Shift). length l) here)
    ∙ ap (λ (rest : List Write). flat_map f (take n plan) ++ rest) (sym (append-nil (f (get_or plan n []))))
    ∙ sym (flat_map-append f (take n plan) (get_or plan n [] ∷ []))
    ∙ ap (flat_map f) (sym (take_more plan n [] lt))
