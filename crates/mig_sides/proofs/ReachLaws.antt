-- What is reached from one disk, neighbour by neighbour.
use Rattle.mig_sides.proofs.Common.{All, Bool, Contains, DiskId, IsSome, List, Node, None, Option, Reaches, Some, StayReached, [], ap, arith, cases_eq, cases_lt, child_of, disk_on, false, false≢true}
use Rattle.mig_sides.proofs.Common.{get_or, get_or-set_other, get_or-set_same, get_or_default, inl, inr, is_some, length, length-append, length-set}
use Rattle.mig_sides.proofs.Common.{node_at, not, refl, same_Some, set, subst, sym, true, ℕ, ◌++◌, ◌+◌, ◌<◌, ◌∙◌, ◌∷◌, ◌≡◌}
use Rattle.mig_sides.proofs.ClimbLaws.{at_before, at_end}
use Rattle.mig_sides.proofs.TreeLaws.{kept_set, one_less, some_node}

module _ (disk : DiskId) (node : Node) (near : List DiskId) (old mid : List (Option Node)) (was queue : List DiskId) (w : DiskId) (there : w.0 < length mid) (plain : node_at mid w.0 ≡ None) where
  abbrev child : Node
  child = child_of disk node

  abbrev new : List (Option Node)
  new = set mid w.0 (Some (child_of disk node))

  here : node_at new w.0 ≡ Some child
  here = get_or-set_same mid w.0 (Some child) None there

  pub kept : StayReached mid new
  kept = kept_set mid w.0 child plain

  long : length (queue ++ w ∷ []) ≡ length queue + 1
  long = length-append queue (w ∷ [])

  pub reaches_more : Contains near w → Reaches disk node near old mid was queue → Reaches disk node near old new was (queue ++ w ∷ [])
  reaches_more has r = record {
    len = length-set mid w.0 (Some child) ∙ r.len;
    kept = λ v found is. kept v found (r.kept v found is);
    fresh = λ v found none is. elim (cases_eq v w.0) [
      | inl e ↦ record {
        child = sym (same_Some child found (sym here ∙ ap (node_at new) (sym e) ∙ is));
        beside = subst (λ (n : ℕ). Contains near (record { 0 = n })) (sym e) has;
        place = length queue;
        after = r.longer;
        within = omega (arith, long);
        queued = at_end queue w (length queue) refl ∙ sym e;
      }
      | inr ne ↦ (let f = r.fresh v found none (sym (get_or-set_other mid w.0 v (Some child) None ne) ∙ is) in record {
        child = f.child;
        beside = f.beside;
        place = f.place;
        after = f.after;
        within = omega (arith, f.within, long);
        queued = at_before queue w f.place f.within ∙ f.queued;
      })
    ];
    longer = omega (arith, r.longer, long);
    before = λ k h. at_before queue w k (omega (arith, h, r.longer)) ∙ r.before k h;
    added = λ k h l. elim (cases_lt k (length queue)) [
      | inl lt ↦ ap (node_at new) (at_before queue w k lt) ∙ kept (disk_on queue k) child (r.added k h lt)
      | inr ge ↦ ap (node_at new) (at_end queue w k (omega (arith, ge, l, long))) ∙ here
    ];
    count = omega (arith, one_less mid w.0 child there plain, long, r.count);
  }

-- what was reached stays so
pub still_reached : (old later : List (Option Node)) (v : ℕ) → StayReached old later → IsSome (node_at old v) → IsSome (node_at later v)
still_reached old later v kept some = let n = some_node (node_at old v) some in ap is_some (kept v n.0 n.1)

plain_of : (o : Option Node) (b : Bool) → is_some o ≡ not b → b ≡ true → o ≡ None
plain_of None b e t = refl
plain_of (Some node) b e t = absurd (false≢true (sym (e ∙ ap not t)))

-- a neighbour that was not reached before
pub reach_then : (near : List DiskId) (i : ℕ) (d : DiskId) (o : Option Node) (b : Bool) (disk : DiskId) (node : Node) (old mid later : List (Option Node)) (was queue longer : List DiskId)
    → i < length near → All (λ w. w.0 < length old) near → is_some (get_or mid (get_or near i d).0 o) ≡ not b → b ≡ true → later ≡ set mid (get_or near i d).0 (Some (child_of disk node)) → longer ≡ queue ++ get_or near i d ∷ []
    → Reaches disk node near old mid was queue → ((k : ℕ) → k < i → IsSome (node_at mid (disk_on near k))) → Reaches disk node near old later was longer × ((k : ℕ) → k < i + 1 → IsSome (node_at later (disk_on near k)))
reach_then near i d o b disk node old mid later was queue longer h there is fresh is_later is_longer r all =
    let e = get_or near i d in
    let within : e.0 < length mid = omega (arith, there i d h, r.len) in
    let plain : node_at mid e.0 ≡ None = get_or_default mid e.0 None o within ∙ plain_of (get_or mid e.0 o) b is fresh in
    let here : disk_on near i ≡ e.0 = ap (λ (x : DiskId). x.0) (get_or_default near i (record { 0 = 0 }) d h) in
    let more = reaches_more disk node near old mid was queue e within plain (i, h, get_or_default near i e d h) r in
    let kept_now : StayReached mid (set mid e.0 (Some (child_of disk node))) = kept_set mid e.0 (child_of disk node) plain in
    let now : IsSome (node_at (set mid e.0 (Some (child_of disk node))) e.0) = ap is_some (get_or-set_same mid e.0 (Some (child_of disk node)) None within) in (
      subst (λ (n : List (Option Node)). Reaches disk node near old n was longer) (sym is_later) (subst (λ (q : List DiskId). Reaches disk node near old (set mid e.0 (Some (child_of disk node))) was q) (sym is_longer) more),
      λ k l. subst (λ (n : List (Option Node)). IsSome (node_at n (disk_on near k))) (sym is_later) (elim (cases_lt k i) [
        | inl lt ↦ still_reached mid (set mid e.0 (Some (child_of disk node))) (disk_on near k) kept_now (all k lt)
        | inr ge ↦ (let same : k ≡ i = omega (arith, l, ge) in subst (λ v. IsSome (node_at (set mid e.0 (Some (child_of disk node))) v)) (sym (ap (disk_on near) same ∙ here)) now)
      ]),
    )

-- one that was
pub reach_else : (near : List DiskId) (i : ℕ) (d : DiskId) (o : Option Node) (b : Bool) (disk : DiskId) (node : Node) (old mid later : List (Option Node)) (was queue longer : List DiskId)
    → i < length near → All (λ w. w.0 < length old) near → is_some (get_or mid (get_or near i d).0 o) ≡ not b → b ≡ false → later ≡ mid → longer ≡ queue
    → Reaches disk node near old mid was queue → ((k : ℕ) → k < i → IsSome (node_at mid (disk_on near k))) → Reaches disk node near old later was longer × ((k : ℕ) → k < i + 1 → IsSome (node_at later (disk_on near k)))
reach_else near i d o b disk node old mid later was queue longer h there is found is_later is_longer r all =
    let e = get_or near i d in
    let within : e.0 < length mid = omega (arith, there i d h, r.len) in
    let here : disk_on near i ≡ e.0 = ap (λ (x : DiskId). x.0) (get_or_default near i (record { 0 = 0 }) d h) in
    let now : IsSome (node_at mid e.0) = ap is_some (get_or_default mid e.0 None o within) ∙ is ∙ ap not found in (
      subst (λ (n : List (Option Node)). Reaches disk node near old n was longer) (sym is_later) (subst (λ (q : List DiskId). Reaches disk node near old mid was q) (sym is_longer) r),
      λ k l. subst (λ (n : List (Option Node)). IsSome (node_at n (disk_on near k))) (sym is_later) (elim (cases_lt k i) [
        | inl lt ↦ all k lt
        | inr ge ↦ (let same : k ≡ i = omega (arith, l, ge) in subst (λ v. IsSome (node_at mid v)) (sym (ap (disk_on near) same ∙ here)) now)
      ]),
    )
