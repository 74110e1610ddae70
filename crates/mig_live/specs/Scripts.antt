-- The text of a script, and where a text goes wrong.
use Rattle.std.specs.Prelude.{◌≡◌, ◌⊎◌, ◌+◌, ◌++◌, ◌≤◌, ℕ, suc, List, [], All, length, map}
use Rattle.mig_base.specs.InputLists.{InputLists}
use Rattle.mig_base.specs.Misfits.{IsLine, IsMisfit, pieces}
use Rattle.mig_base.specs.Texts.{text_of_lines}
use Rattle.mig_live.specs.Orders.{IsOrder, order_line}
use Rattle.mig_live.specs.declared.limits.TheConstants.{MAX_ORDERS}
use Rattle.mig_live.specs.declared.orders.Order.{Order}
use Rattle.mig_live.specs.declared.scripts.ScriptError.{ScriptError}
use Rattle.mig_live.specs.declared.scripts.ScriptError.TheVariants as script_error

-- the bytes are the spelling of the orders: a line for each
pub record ScriptText (input : InputLists) (orders : List Order) (bytes : List ℕ) : Type 0 where
  pub few : length orders ≤ MAX_ORDERS
  pub fit : All (IsOrder input) orders
  pub lines : bytes ≡ text_of_lines (map (order_line input) orders)

-- the places of a script's text: that of the piece of this number, with so many pieces from it on, and that after the last
pub data ScriptPlace : Type 0 where
  Piece : (number left : ℕ) → ScriptPlace
  Over : ScriptPlace

-- the piece is the line of an order
abbrev pub IsOrderLine : InputLists → List ℕ → Type 0
IsOrderLine input piece = (order : Order) × IsOrder input order × (piece ≡ order_line input order)

-- the piece fits the place, and this is the place after it: a piece is an order's line, the last one nothing
abbrev pub ScriptNext : InputLists → ScriptPlace → List ℕ → ScriptPlace → Type 0
ScriptNext input (Piece number (suc left)) piece next =
    ((number ≤ MAX_ORDERS) × IsOrderLine input piece × (next ≡ Piece (number + 1) left)) ⊎ ((left ≡ 0) × (piece ≡ []) × (next ≡ Over))
ScriptNext input place piece next = ⊥

-- the bytes are the spelling of no orders, and n is the number of the line
pub record ScriptLine (input : InputLists) (bytes : List ℕ) (n : ℕ) : Type 0 where
  pub no_script : (orders : List Order) → ¬ ScriptText input orders bytes
  pub line : IsLine (ScriptNext input) (Piece 1 (length (pieces bytes))) Over bytes n

-- why a script isn't read: want of memory, or this line
abbrev pub IsScriptError : InputLists → List ℕ → ScriptError → Type 0
IsScriptError input bytes (script_error.Line n) = ScriptLine input bytes n
IsScriptError input bytes script_error.Memory = Unit {0}

-- the same of the pieces of a text
abbrev pub IsStopAt : InputLists → List (List ℕ) → ScriptError → Type 0
IsStopAt input text (script_error.Line n) = IsMisfit (ScriptNext input) (Piece 1 (length text)) Over text n
IsStopAt input text script_error.Memory = Unit {0}

-- the first pieces are the lines of these orders, and these pieces follow
pub record WereRead (input : InputLists) (text : List (List ℕ)) (orders : List Order) (rest : List (List ℕ)) : Type 0 where
  pub few : length orders ≤ MAX_ORDERS
  pub fit : All (IsOrder input) orders
  pub cut : text ≡ map (order_line input) orders ++ rest
