use Rattle.mig_split.proofs.Common.{AreFewCopies, Global, IfOk-weaker, List, Vec, ap, arith, div_ceil, get_or, get_or-map, length, length-map, map, ℕ, ◌∙◌, ◌≡◌}
use Rattle.mig_split.proofs.Numbers.{AreFew-all}
use Rattle.mig_split.proofs.dealing.few_numbers.Goals as goal

pub returns : goal.returns
returns c =
    let q = c.args.q in
    let counts = c.in_ok-counts.counts.items in
    let made = c.in_ok-counts.ensures in
    let ceils : ℕ → ℕ = λ n. div_ceil n q in
    IfOk-weaker c.ceils_of.result (λ (v : Vec ℕ Global). v.items ≡ map ceils c.deref.result.now) (λ (v : Vec ℕ Global). AreFewCopies q c.args.disks c.args.stops.now v.items)
    (λ v h.
    let is : v.items ≡ map ceils counts = h ∙ ap (λ (xs : List ℕ). map ceils xs) c.deref.ensures.value in
    AreFew-all q c.args.disks c.args.stops.now v.items c.requires.q (ap (λ (xs : List ℕ). length xs) is ∙ length-map counts ceils ∙ made.len)
    (λ w hw. ap (λ (xs : List ℕ). get_or xs w 0) is ∙ get_or-map ceils counts w 0 0 (omega (arith, hw, made.len)) ∙ ap ceils (made.counted w hw)))
    c.ceils_of.ensures
