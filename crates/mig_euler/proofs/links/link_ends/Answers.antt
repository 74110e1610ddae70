use Rattle.mig_euler.proofs.Common.{AllInRange, AreFirst, AreLinksFrom, DiskId, List, arith, get_or, length, length-set, pair_at, refl, set, subst, sym, ℕ, ◌+◌, ◌-◌, ◌<◌, ◌∙◌, ◌≡◌}
use Rattle.mig_euler.proofs.LinkLaws.{first_more, links_more, ends_in}
use Rattle.mig_euler.proofs.links.link_ends.Goals as goal

in_bounds : (ends : List (DiskId × DiskId)) (first old : List ℕ) (p : ℕ) → AllInRange ends (length old) → length first ≡ length old → 0 < p → p - 1 < length ends → ((pair_at ends (p - 1)).0.0 < length first) × ((pair_at ends (p - 1)).1.0 < length first)
in_bounds ends first old p range same pos h = ends_in ends (length first) (p - 1) (subst (λ n. AllInRange ends n) (sym same) range) h

pub bounds-first-one : goal.bounds-first-one
bounds-first-one c = (in_bounds c.args.ends.now c.loop-place.first c.args.first.now c.loop-place.place c.requires.in_range c.loop-place.invariant.len c.loop-place-test.true (omega (arith, c.loop-place-test.true, c.loop-place.invariant.within))).0

pub bounds-first-two : goal.bounds-first-two
bounds-first-two c = (in_bounds c.args.ends.now c.loop-place.first c.args.first.now c.loop-place.place c.requires.in_range c.loop-place.invariant.len c.loop-place-test.true (omega (arith, c.loop-place-test.true, c.loop-place.invariant.within))).1

pub bounds-first-one-in-loop-place : goal.bounds-first-one-in-loop-place
bounds-first-one-in-loop-place c = (in_bounds c.args.ends.now c.loop-place.first c.args.first.now c.loop-place.place c.requires.in_range c.loop-place.invariant.len c.loop-place-test.true (omega (arith, c.loop-place-test.true, c.loop-place.invariant.within))).0

pub bounds-first-two-in-loop-place : goal.bounds-first-two-in-loop-place
bounds-first-two-in-loop-place c =
    let k = c.loop-place.place - 1 in
    let a = (pair_at c.args.ends.now k).0.0 in
    let b = (in_bounds c.args.ends.now c.loop-place.first c.args.first.now c.loop-place.place c.requires.in_range c.loop-place.invariant.len c.loop-place-test.true (omega (arith, c.loop-place-test.true, c.loop-place.invariant.within))).1 in
    omega (arith, b, length-set c.loop-place.first a k)

pub loop-place-preserved : goal.loop-place-preserved
loop-place-preserved c =
    let ends = c.args.ends.now in
    let k = c.loop-place.place - 1 in
    let x = c.loop-place.invariant in
    let h : k < length ends = omega (arith, c.loop-place-test.true, x.within) in
    let up : c.loop-place.place ≡ k + 1 = omega (arith, c.loop-place-test.true) in
    let range : AllInRange ends (length c.loop-place.first) = subst (λ n. AllInRange ends n) (sym x.len) c.requires.in_range in
    let f : AreFirst ends (k + 1) c.loop-place.first = subst (λ n. AreFirst ends n c.loop-place.first) up x.first in
    let l : AreLinksFrom ends (k + 1) c.loop-place.links.items = subst (λ n. AreLinksFrom ends n c.loop-place.links.items) up x.links in
    let a = (pair_at ends k).0.0 in
    let b = (pair_at ends k).1.0 in
    record {
      within = omega (arith, h);
      len = length-set (set c.loop-place.first a k) b k ∙ length-set c.loop-place.first a k ∙ x.len;
      links = links_more ends c.loop-place.links.items c.loop-place.first k (get_or c.loop-place.first a 0, get_or c.loop-place.first b 0) h range refl refl f l;
      first = first_more ends c.loop-place.first k h f;
    }
