-- The pieces of a script's text, and where it goes wrong.
use Rattle.mig_live.proofs.Common.{AllByRecursion, FitsAlong, InputLists, IsInput, IsOrder, IsScriptError, IsStopAt, Lacks, Lacks-decimal}
use Rattle.mig_live.proofs.Common.{Lacks-words, List, MAX_FILE_BYTES, MAX_ORDERS, MatchOption, None, Option, Order, Over, Piece, Read, ScriptError}
use Rattle.mig_live.proofs.Common.{ScriptLine, ScriptNext, ScriptPlace, ScriptText, Some, Step, Stops, WereRead, [], ap, arith, codes, decimal}
use Rattle.mig_live.proofs.Common.{decimal_injective, get_or, inl, inr, item_name, lacks_test, length, length-append, length-decimal-le, length-map}
use Rattle.mig_live.proofs.Common.{map, order_line, order_words, pieces, recursion_from_All, refl, subst, suc, sym, text_of_lines, zero, ℕ, ◌*◌, ◌++◌}
use Rattle.mig_live.proofs.Common.{◌+◌, ◌<◌, ◌∙◌, ◌∷◌, ◌≡◌, ◌≢◌, ◌≤◌}
use Rattle.mig_base.proofs.Separators.{same_lines, same_words}
use Rattle.mig_base.proofs.Spelling.{item_lacks, same_place}
use Rattle.mig_live.specs.declared.scripts.ScriptError.TheVariants as script_error
use Rattle.mig_text.proofs.LineWords.{line_is, words_are, words_of}
use Rattle.mig_text.proofs.Places.{Leads-append, no_misfit, pieces_of_lines}
use Rattle.mig_text.proofs.PlanLengths.{text_cons, word_cons}
use Rattle.mig_text.proofs.PlanReads.{text_from_pieces}

-- Lines

module _ (input : InputLists) (valid : IsInput input) where
  -- no word of an order has a blank, or the end of a line
  words_lack_blank : (order : Order) → IsOrder input order → AllByRecursion (Lacks 32) (order_words input order)
  words_lack_blank (Read item) fits = (lacks_test 32 (codes "read") refl, (item_lacks input valid 32 item.0 refl fits, tt))
  words_lack_blank (Step count) fits = (lacks_test 32 (codes "step") refl, (Lacks-decimal 32 count (omega arith) (omega (arith, fits.1)), tt))

  words_lack_end : (order : Order) → IsOrder input order → AllByRecursion (Lacks 10) (order_words input order)
  words_lack_end (Read item) fits = (lacks_test 10 (codes "read") refl, (item_lacks input valid 10 item.0 refl fits, tt))
  words_lack_end (Step count) fits = (lacks_test 10 (codes "step") refl, (Lacks-decimal 10 count (omega arith) (omega (arith, fits.1)), tt))

  lines_lack : (orders : List Order) → AllByRecursion (IsOrder input) orders → AllByRecursion (Lacks 10) (map (order_line input) orders)
  lines_lack [] fits = tt
  lines_lack (order ∷ orders) fits = (Lacks-words 10 (order_words input order) (λ e. omega arith) (words_lack_end order fits.0), lines_lack orders fits.1)

  -- a line is an order's where its words are
  same_words_of : (order : Order) (line : List ℕ) → IsOrder input order → line ≡ order_line input order → words_of line ≡ order_words input order
  same_words_of (Read item) line fits e = words_are line (codes "read") (item_name input item.0 ∷ []) (words_lack_blank (Read item) fits) e
  same_words_of (Step count) line fits e = words_are line (codes "step") (decimal count ∷ []) (words_lack_blank (Step count) fits) e

  pub order_read : (line : List ℕ) (o : Option Order)
      → MatchOption o ((order : Order) → IsOrder input order → words_of line ≢ order_words input order) (λ order. IsOrder input order × (words_of line ≡ order_words input order))
      → MatchOption o ((order : Order) → IsOrder input order → line ≢ order_line input order) (λ order. IsOrder input order × (line ≡ order_line input order))
  order_read line None m = λ order fits e. m order fits (same_words_of order line fits e)
  order_read line (Some order) m = (m.0, line_is line (order_words input order) m.1)

  -- how long a script is
  line_length : (order : Order) → IsOrder input order → length (order_line input order) ≤ 37
  line_length (Read item) fits =
      let name : length (item_name input item.0) ≤ 32 = (valid.named_items item.0 [] fits).short in
      omega (arith, name, word_cons (codes "read") (item_name input item.0) [])
  line_length (Step count) fits =
      let digits : length (decimal count) ≤ 7 = length-decimal-le 7 count (omega arith) (omega (arith, fits.1)) (omega (arith, fits.1)) in
      omega (arith, digits, word_cons (codes "step") (decimal count) [])

  text_length : (orders : List Order) → AllByRecursion (IsOrder input) orders → length (text_of_lines (map (order_line input) orders)) ≤ 38 * length orders
  text_length [] fits = omega arith
  text_length (order ∷ orders) fits = omega (arith, text_cons (order_line input order) (map (order_line input) orders), line_length order fits.0, text_length orders fits.1)

  pub script_short : (orders : List Order) (bytes : List ℕ) → ScriptText input orders bytes → length bytes ≤ MAX_FILE_BYTES
  script_short orders bytes text = omega (arith, ap length text.lines, text.few, text_length orders (recursion_from_All (IsOrder input) orders text.fit))

  -- bytes are the spelling of one script at most
  one_order : (a b : Order) → IsOrder input a → IsOrder input b → order_line input a ≡ order_line input b → a ≡ b
  one_order (Read x) (Read y) fits also e =
      let w : codes "read" ∷ item_name input x.0 ∷ [] ≡ codes "read" ∷ item_name input y.0 ∷ [] = same_words _ _ _ _ (words_lack_blank (Read x) fits) (words_lack_blank (Read y) also) e in
      let item : x.0 ≡ y.0 = same_place (λ n. n) input.items [] _ _ valid.item_names fits also cc in
      λ i. Read (record { 0 = item i })
  one_order (Step m) (Step n) fits also e =
      let w : codes "step" ∷ decimal m ∷ [] ≡ codes "step" ∷ decimal n ∷ [] = same_words _ _ _ _ (words_lack_blank (Step m) fits) (words_lack_blank (Step n) also) e in
      let count : m ≡ n = decimal_injective m n (omega (arith, fits.1)) (omega (arith, also.1)) cc in
      λ i. Step (count i)
  one_order (Read x) (Step n) fits also e = let first : 114 ≡ 115 = ap (λ (l : List ℕ). get_or l 0 0) e in absurd (omega (arith, first))
  one_order (Step m) (Read y) fits also e = let first : 115 ≡ 114 = ap (λ (l : List ℕ). get_or l 0 0) e in absurd (omega (arith, first))

  same_orders : (a b : List Order) → AllByRecursion (IsOrder input) a → AllByRecursion (IsOrder input) b → map (order_line input) a ≡ map (order_line input) b → a ≡ b
  same_orders [] [] fits also e = refl
  same_orders [] (y ∷ ys) fits also e = absurd cc
  same_orders (x ∷ xs) [] fits also e = absurd cc
  same_orders (x ∷ xs) (y ∷ ys) fits also e =
      let head : x ≡ y = one_order x y fits.0 also.0 cc in
      let tail : xs ≡ ys = same_orders xs ys fits.1 also.1 cc in
      cc

  pub same_script : (a b : List Order) (bytes : List ℕ) → ScriptText input a bytes → ScriptText input b bytes → a ≡ b
  same_script a b bytes one two =
      let fits = recursion_from_All (IsOrder input) a one.fit in
      let also = recursion_from_All (IsOrder input) b two.fit in
      same_orders a b fits also (same_lines _ _ (lines_lack a fits) (lines_lack b also) (sym one.lines ∙ two.lines))

-- Places

-- an order's line isn't empty
line_full : (input : InputLists) (order : Order) → order_line input order ≡ [] → ⊥
line_full input (Read item) e = absurd cc
line_full input (Step count) e = absurd cc

module _ (input : InputLists) where
  -- a piece at a place has one place after it
  one_next : (a : ScriptPlace) (piece : List ℕ) (b c : ScriptPlace) → ScriptNext input a piece b → ScriptNext input a piece c → b ≡ c
  one_next (Piece number zero) piece b c h k = absurd h
  one_next (Piece number (suc left)) piece b c (inl h) (inl k) = h.2 ∙ sym k.2
  one_next (Piece number (suc left)) piece b c (inl h) (inr k) = absurd (line_full input h.1.0 (sym h.1.2 ∙ k.1))
  one_next (Piece number (suc left)) piece b c (inr h) (inl k) = absurd (line_full input k.1.0 (sym k.1.2 ∙ h.1))
  one_next (Piece number (suc left)) piece b c (inr h) (inr k) = h.2 ∙ sym k.2
  one_next Over piece b c h k = absurd h

  -- the lines of orders lead on
  orders_lead : (orders : List Order) (number all left : ℕ) → AllByRecursion (IsOrder input) orders → number + length orders ≤ MAX_ORDERS + 1 → all ≡ length orders + left
      → FitsAlong (ScriptNext input) (Piece number all) (map (order_line input) orders) (Piece (number + length orders) left)
  orders_lead [] number all left fits few count = let a : number + 0 ≡ number = omega arith in let b : left ≡ all = omega (arith, count) in (λ i. Piece (a i) (b i))
  orders_lead (order ∷ orders) number zero left fits few count = absurd (omega (arith, count))
  orders_lead (order ∷ orders) number (suc all) left fits few count =
      let last : (number + 1) + length orders ≡ number + suc (length orders) = omega arith in (
        Piece (number + 1) all,
        (
          inl (omega (arith, few), (order, fits.0, refl), refl),
          subst (λ (n : ℕ). FitsAlong (ScriptNext input) (Piece (number + 1) all) (map (order_line input) orders) (Piece n left)) last
              (orders_lead orders (number + 1) all left fits.1 (omega (arith, few)) (omega (arith, count))),
        ),
      )

  module _ (text : List (List ℕ)) (orders : List Order) (rest : List (List ℕ)) (read : WereRead input text orders rest) where
    count : length text ≡ length orders + length rest
    count = omega (arith, ap length read.cut, length-append (map (order_line input) orders) rest, length-map orders (order_line input))

    leads : FitsAlong (ScriptNext input) (Piece 1 (length text)) (map (order_line input) orders) (Piece (1 + length orders) (length rest))
    leads = orders_lead orders 1 (length text) (length rest) (recursion_from_All (IsOrder input) orders read.fit) (omega (arith, read.few)) count

    -- the next piece doesn't fit, or there is none
    pub stops_here : Stops (ScriptNext input) Over (Piece (1 + length orders) (length rest)) rest → (n : ℕ) → n ≡ length orders + 1 → IsStopAt input text (script_error.Line n)
    stops_here stops n is = record {
      before = map (order_line input) orders;
      after = rest;
      place = Piece (1 + length orders) (length rest);
      cut = read.cut;
      fit = leads;
      stops = stops;
      number = omega (arith, is, length-map orders (order_line input));
    }

  -- where no piece is left
  pub stops_missing : (text : List (List ℕ)) (orders : List Order) → WereRead input text orders [] → (n : ℕ) → n ≡ length orders + 1 → IsStopAt input text (script_error.Line n)
  stops_missing text orders read n is = stops_here text orders [] read (λ e. absurd cc) n is

  -- where the next one is no order, or one too many, and isn't the empty end
  pub stops_wrong : (text : List (List ℕ)) (orders : List Order) (piece : List ℕ) (rest : List (List ℕ)) → WereRead input text orders (piece ∷ rest)
      → (length orders < MAX_ORDERS → (order : Order) → IsOrder input order → piece ≢ order_line input order) → (piece ≡ [] → length rest ≡ 0 → ⊥) → (n : ℕ) → n ≡ length orders + 1
      → IsStopAt input text (script_error.Line n)
  stops_wrong text orders piece rest read none ends n is = stops_here text orders (piece ∷ rest) read stops n is
    where
      at : (left : ℕ) → left ≡ length rest → (next : ScriptPlace) → ScriptNext input (Piece (1 + length orders) (suc left)) piece next → ⊥
      at left same next (inl h) = none (omega (arith, h.0)) h.1.0 h.1.1 h.1.2
      at left same next (inr h) = ends h.1 (sym same ∙ h.0)

      stops : (next : ScriptPlace) → ScriptNext input (Piece (1 + length orders) (length (piece ∷ rest))) piece next → ⊥
      stops next h = at (length rest) refl next h

  -- Reading

  pub none_read : (text : List (List ℕ)) → WereRead input text [] text
  none_read text = record { few = omega arith; fit = λ i d lt. absurd (omega (arith, lt)); cut = refl }

-- The whole text

module _ (input : InputLists) (valid : IsInput input) (bytes : List ℕ) where
  abbrev lines_of : List Order → List (List ℕ)
  lines_of orders = map (order_line input) orders

  fitting : (orders : List Order) → ScriptText input orders bytes → AllByRecursion (IsOrder input) orders
  fitting orders text = recursion_from_All (IsOrder input) orders text.fit

  -- the pieces of a script fit
  text_leads : (orders : List Order) → ScriptText input orders bytes → FitsAlong (ScriptNext input) (Piece 1 (length (pieces bytes))) (pieces bytes) Over
  text_leads orders text = subst (λ (t : List (List ℕ)). FitsAlong (ScriptNext input) (Piece 1 (length t)) t Over)
      (sym (ap pieces text.lines ∙ pieces_of_lines (lines_of orders) (lines_lack input valid orders (fitting orders text))))
      (Leads-append (ScriptNext input) (Piece 1 (length (lines_of orders ++ [] ∷ []))) (Piece (1 + length orders) 1) Over (lines_of orders) ([] ∷ [])
      (orders_lead input orders 1 (length (lines_of orders ++ [] ∷ [])) 1 (fitting orders text) (omega (arith, text.few)) (omega (arith, length-append (lines_of orders) ([] ∷ []), length-map orders (order_line input))))
      (Over, (inr (refl, refl, refl), refl)))

  -- bytes that stop are no script
  pub script_line : length bytes ≤ MAX_FILE_BYTES → (e : ScriptError) → IsStopAt input (pieces bytes) e → IsScriptError input bytes e
  script_line short script_error.Memory stop = tt
  script_line short (script_error.Line n) stop = record {
    no_script = λ orders text. no_misfit (ScriptNext input) (one_next input) (Piece 1 (length (pieces bytes))) Over (pieces bytes) n (text_leads orders text) stop;
    line = record { long = λ long. absurd (omega (arith, long, short)); short = λ within. stop };
  }

  -- bytes that are too many are none
  pub script_long : MAX_FILE_BYTES < length bytes → ScriptLine input bytes 0
  script_long long = record {
    no_script = λ orders text. absurd (omega (arith, long, script_short input valid orders bytes text));
    line = record { long = λ same. refl; short = λ short. absurd (omega (arith, long, short)) };
  }

  pub script_text : (orders : List Order) → WereRead input (pieces bytes) orders ([] ∷ []) → ScriptText input orders bytes
  script_text orders read = record { few = read.few; fit = read.fit; lines = text_from_pieces bytes (map (order_line input) orders) read.cut }
