use Rattle.mig_check.proofs.Common.{All, All-replicate, IsTakenSet, List, Spot, ap, arith, has_spot, layout_of, length, length-replicate, refl, replicate, subst, sym, ℕ, ◌<◌, ◌∙◌, ◌≡◌}
use Rattle.mig_check.proofs.rounds.Tables.new.Goals as goal

-- a list of so many zeros
zeros_len : (ns : List ℕ) (len : ℕ) → ns ≡ replicate len 0 → length ns ≡ len
zeros_len ns len e = ap length e ∙ length-replicate len 0

zeros : (P : ℕ → Type 0) → P 0 → (ns : List ℕ) (len : ℕ) → ns ≡ replicate len 0 → All P ns
zeros P p ns len e = subst (λ (xs : List ℕ). All P xs) (sym e) (All-replicate P len 0 p)

pub returns : goal.returns
returns c =
    let seen = c.in_ok-vec.field-0.items in
    let counts = c.in_ok-vec-2.field-0.items in
    let seen_zero = c.in_ok-vec.ensures.items_if_clones_equal (λ y e. e) in
    let counts_zero = c.in_ok-vec-2.ensures.items_if_clones_equal (λ y e. e) in
    record {
      taken = subst (λ (spots : List Spot). IsTakenSet (has_spot c.in_ok-take_all.field-0) (layout_of spots)) c.now.ensures.value c.in_ok-take_all.ensures;
      seen_len = zeros_len seen (length c.items.result.now) seen_zero ∙ ap length c.items.ensures.value;
      seen = zeros (λ n. n < 1) (omega arith) seen (length c.items.result.now) seen_zero;
      counts_len = zeros_len counts (length c.disks.result.now) counts_zero ∙ ap length c.disks.ensures.value;
      counts = zeros (λ n. n ≡ 0) refl counts (length c.disks.result.now) counts_zero;
    }
