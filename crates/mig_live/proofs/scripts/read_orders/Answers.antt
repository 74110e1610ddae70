use Rattle.mig_live.proofs.Common.{Bool, IsStopAt, List, Order, WereRead, ap, arith, eq-eqb, false, false≢true, length, subst, sym, ℕ, ◌+◌, ◌==◌, ◌∙◌, ◌∷◌, ◌≡◌}
use Rattle.mig_live.proofs.ScriptLaws.{none_read, stops_missing, stops_wrong}
use Rattle.mig_live.proofs.scripts.read_orders.Goals.{else-is_empty-via-then-is_empty+else-is_done, else-is_empty-via-else-is_empty}
use Rattle.mig_live.proofs.scripts.read_orders.Goals as goal

pub loop-piece-init : goal.loop-piece-init
loop-piece-init c = subst (λ (orders : List Order). WereRead c.args.finder.now c.args.parts orders c.args.parts) (sym c.new-orders.ensures.items) (none_read c.args.finder.now c.args.parts)

-- a count that is 0 was said not to be
said_not : (n : ℕ) (said : Bool) → said ≡ (n == 0) → said ≡ false → n ≡ 0 → ⊥
said_not n said is unsaid none = false≢true (sym unsaid ∙ is ∙ eq-eqb n 0 none)

pub returns-in_default-fitting-clause-line : goal.returns-in_default-fitting-clause-line
returns-in_default-fitting-clause-line c =
    let finder = c.args.finder.now in
    let text = c.args.parts in
    let orders = c.loop-piece.orders in
    let piece = c.in-Some.piece.now in
    let rest = c.take_part.new.self in
    let read : WereRead finder text orders.items (piece ∷ rest) = subst (λ (l : List (List ℕ)). WereRead finder text orders.items l) c.in-Some.ensures c.loop-piece.invariant in
    let counted : orders.len ≡ length orders.items = orders.ok.0 in
    subst (IsStopAt finder text) (sym c.misfit.ensures)
    (stops_wrong finder text orders.items piece rest read
    (λ few. c.in_default-fitting.ensures (omega (arith, few, counted, c.len.ensures)))
    (λ empty done. elim c.else-is_empty.branch [
      | else-is_empty-via-then-is_empty+else-is_done w ↦ said_not (length rest) w.is_done.result w.is_done.ensures w.if-is_done.false done
      | else-is_empty-via-else-is_empty w ↦ said_not (length piece) c.is_empty.result c.is_empty.ensures w.if-is_empty.false (ap (λ (l : List ℕ). length l) empty)
    ])
    (c.len-in_default-fitting.result + 1) (omega (arith, counted, c.len-in_default-fitting.ensures)))

pub returns-clause-line : goal.returns-clause-line
returns-clause-line c =
    let read = subst (λ (l : List (List ℕ)). WereRead c.args.finder.now c.args.parts c.loop-piece.orders.items l) c.in_default.ensures.0
    c.loop-piece.invariant in
    subst (IsStopAt c.args.finder.now c.args.parts) (sym c.misfit-2.ensures)
    (stops_missing _ _ _ read (c.len-2.result + 1) (omega (arith, c.loop-piece.orders.ok.0, c.len-2.ensures)))
