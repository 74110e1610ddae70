-- What a session is asked to do.
use Rattle.std.specs.Prelude.{◌+◌, ◌<◌, ◌≤◌, ℕ, List, [], ◌∷◌, codes, length}
use Rattle.std.specs.Fmt.{decimal}
use Rattle.mig_base.specs.InputLists.{InputLists}
use Rattle.mig_base.specs.Texts.{item_name, words}
use Rattle.mig_live.specs.declared.limits.TheConstants.{MAX_STEPS}
use Rattle.mig_live.specs.declared.orders.Order.{Order}
use Rattle.mig_live.specs.declared.orders.Order.TheVariants.{Read, Step}

-- an order reads an item of the input, or makes at least one step and not too many
abbrev pub IsOrder : InputLists → Order → Type 0
IsOrder input (Read item) = item.0 < length input.items
IsOrder input (Step count) = (1 ≤ count) × (count ≤ MAX_STEPS)

-- the line of an order: `read ITEM`, or `step N`
abbrev pub order_words : InputLists → Order → List (List ℕ)
order_words input (Read item) = codes "read" ∷ item_name input item.0 ∷ []
order_words input (Step count) = codes "step" ∷ decimal count ∷ []

abbrev pub order_line : InputLists → Order → List ℕ
order_line input order = words (order_words input order)

-- the steps that an order asks for
abbrev pub steps_of : Order → ℕ
steps_of (Read item) = 0
steps_of (Step count) = count

-- the items that orders read, and the steps that they ask for
abbrev pub all_reads : List Order → List ℕ
all_reads [] = []
all_reads (Read item ∷ orders) = item.0 ∷ all_reads orders
all_reads (Step count ∷ orders) = all_reads orders

abbrev pub all_steps : List Order → ℕ
all_steps [] = 0
all_steps (order ∷ orders) = steps_of order + all_steps orders
