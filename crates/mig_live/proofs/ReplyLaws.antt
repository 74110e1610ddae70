-- Replies that are put, order by order.
use Rattle.mig_live.proofs.Common.{ArePut, ArePutUpTo, AreReplies, Bool, Contents, Err, Extends, ExtendsByPrefix, ExtendsInPart, IfSome, InStep, None, Option, Some, IsErrAnd, ItemId, List, InputLists, Ok, Order, Read, Result, ServeFault, Session, SinkState}
use Rattle.mig_live.proofs.Common.{State, Step, Task, [], all_reads, all_steps, ap, append-nil, append_assoc, arith, codes, encode_lower, flat_map-append}
use Rattle.mig_live.proofs.Common.{get_or, inl, inr, item_name, length, map, map-append, named, puts_nothing, refl, replies, reply_line, sha256, steps_of, subst, sym, take, take_more, text_of_lines}
use Rattle.mig_live.proofs.Common.{then_extends, words, ℕ, ◌++◌, ◌+◌, ◌<◌, ◌∙◌, ◌∷◌, ◌≡◌, ◌≤◌}
use Rattle.std.proofs.lemmas.Option.{IfSome_then}
use Rattle.mig_live.specs.Replies.{IsServeFault}
use Rattle.mig_live.specs.declared.serving.ServeFault.TheVariants as serve_fault

-- the parts of a reply's line
pub reply_spelled : (name hex : List ℕ) → name ++ (codes " " ++ (hex ++ (codes "\n" ++ []))) ≡ text_of_lines (words (name ∷ hex ∷ []) ∷ [])
reply_spelled name hex = sym (append-nil (words (name ∷ hex ∷ []) ++ 10 ∷ []) ∙ append_assoc name (32 ∷ hex) (10 ∷ []))

-- nothing is put
pub extends_nothing : (x : SinkState) → Extends [] x x
extends_nothing x = (puts_nothing x).extended

-- what an order that isn't there would be
abbrev pub no_order : Order
no_order = Read (record { 0 = 0 })

-- Steps

steps_append : (xs ys : List Order) → all_steps (xs ++ ys) ≡ all_steps xs + all_steps ys
steps_append [] ys = omega arith
steps_append (x ∷ xs) ys = omega (arith, steps_append xs ys)

pub steps_one_more : (orders : List Order) (i : ℕ) (d : Order) → i < length orders → all_steps (take (i + 1) orders) ≡ all_steps (take i orders) + steps_of (get_or orders i d)
steps_one_more orders i d lt = let e = ap all_steps (take_more orders i d lt) in omega (arith, e, steps_append (take i orders) (get_or orders i d ∷ []))

-- Reads

reads_append : (xs ys : List Order) → all_reads (xs ++ ys) ≡ all_reads xs ++ all_reads ys
reads_append [] ys = refl
reads_append (Read item ∷ xs) ys = ap (λ (l : List ℕ). item.0 ∷ l) (reads_append xs ys)
reads_append (Step count ∷ xs) ys = reads_append xs ys

module _ (input : InputLists) (contents : Contents) where
  replies_append : (xs ys : List Order) → replies input contents (xs ++ ys) ≡ replies input contents xs ++ replies input contents ys
  replies_append xs ys =
      ap (λ (items : List ℕ). text_of_lines (map (reply_line input contents) items)) (reads_append xs ys)
      ∙ ap text_of_lines (map-append (reply_line input contents) (all_reads xs) (all_reads ys))
      ∙ flat_map-append (λ (line : List ℕ). line ++ 10 ∷ []) (map (reply_line input contents) (all_reads xs)) (map (reply_line input contents) (all_reads ys))

  -- the line that is put is the reply
  pub reply_is : (item : ItemId) (name digest bytes : List ℕ) → name ≡ item_name input item.0 → digest ≡ sha256 bytes → bytes ≡ contents item.0
      → text_of_lines (words (name ∷ encode_lower digest ∷ []) ∷ []) ≡ replies input contents (Read item ∷ [])
  reply_is item name digest bytes named is holds =
      ap (λ (n : List ℕ). text_of_lines (words (n ∷ encode_lower digest ∷ []) ∷ [])) named
      ∙ ap (λ (d : List ℕ). text_of_lines (words (item_name input item.0 ∷ encode_lower d ∷ []) ∷ [])) (is ∙ ap sha256 holds)

-- a part of a reply, after nothing
pub part_put : (live : Session) (store : State) (item : ItemId) (more : List ℕ) (x y : SinkState) → AreReplies live store (Read item ∷ []) more → ExtendsInPart more x y
    → ArePutUpTo live store [] (Read item) x y serve_fault.Sink
part_put live store item more x y are part =
    let held : IfSome x.held (λ h. ExtendsByPrefix more (h ++ []) y.held) =
    IfSome_then x.held part (λ h is. subst (λ (l : List ℕ). ExtendsByPrefix more l y.held) (sym (append-nil h)) is) in
    (item, refl, ([], more, λ asked contents at. refl, are, held))

-- Orders are carried out, and then one more
module _ (live mid : Session) (same : mid.task ≡ live.task) (old now : State) (goes : (asked : Bool) (contents : Contents) → InStep asked live contents old → InStep asked mid contents now)
    (orders : List Order) (i : ℕ) (d : Order) (lt : i < length orders) (x y z : SinkState) (sofar : ArePut live old (take i orders) x y) where
  abbrev this : Order
  this = get_or orders i d

  -- the replies to both
  module _ (part : List Order) (more : List ℕ) (are : AreReplies mid now part more) where
    both : (whole : List Order) → take i orders ++ part ≡ whole → AreReplies live old whole (sofar.0 ++ more)
    both whole is = λ asked contents at.
        let input = live.task.input in
        ap (λ (text : List ℕ). text ++ more) (sofar.1 asked contents at)
        ∙ ap (λ (text : List ℕ). replies input contents (take i orders) ++ text) (are asked contents (goes asked contents at) ∙ ap (λ (t : Task). replies t.input contents part) same)
        ∙ sym (replies_append input contents (take i orders) part)
        ∙ ap (replies input contents) is

  pub served_more : ArePut mid now (this ∷ []) y z → ArePut live old (take (i + 1) orders) x z
  served_more (more, are, put) =
      let all = both (this ∷ []) more are (take (i + 1) orders) (sym (take_more orders i d lt)) in
      (sofar.0 ++ more, all, then_extends sofar.0 more x y z sofar.2 put)

  -- or a fault comes at it
  none_more : take i orders ++ [] ≡ take i orders
  none_more = append-nil (take i orders)

  pub served_stops : (e : ServeFault) → ArePutUpTo mid now [] this y z e → ArePutUpTo live old (take i orders) this x z e
  served_stops serve_fault.Store (text, are, put) = (sofar.0 ++ text, both [] text are (take i orders) none_more, then_extends sofar.0 text x y z sofar.2 put)
  served_stops serve_fault.Sink (item, is, (text, more, are, part, put)) = (
    item,
    is,
    (
      sofar.0 ++ text,
      more,
      both [] text are (take i orders) none_more,
      λ asked contents at. part asked contents (goes asked contents at) ∙ ap (λ (t : Task). replies t.input contents (this ∷ [])) same,
      by x.held sofar.2,
    ),
  )
    where
      by : (held : Option (List ℕ)) → IfSome held (λ h. y.held ≡ Some (h ++ sofar.0)) → IfSome held (λ h. ExtendsByPrefix more (h ++ (sofar.0 ++ text)) z.held)
      by None first = tt
      by (Some h) first = subst (λ (l : List ℕ). ExtendsByPrefix more l z.held) (append_assoc h sofar.0 text) (subst (λ (o : Option (List ℕ)). IfSome o (λ k. ExtendsByPrefix more (k ++ text) z.held)) first put)

-- a `?` hands on an error
pub handed : {C E : Type 0} (P : Result C E → Type 0) (r : Result C E) (e : E) → IsErrAnd r (λ x. x ≡ e) → P (Err e) → P r
handed P (Ok c) e is h = absurd is
handed P (Err x) e is h = subst (λ y. P (Err y)) (sym is) h

-- a fault comes for the same reasons since an earlier moment
pub fault_since : {Q R : Type 0} (old mid new : State) (x y z : SinkState) → old.faults ≤ mid.faults → x.faults ≤ y.faults → (Q → R)
    → (fault : ServeFault) → IsServeFault Q mid new y z fault → IsServeFault R old new x z fault
fault_since old mid new x y z later sink_later gives serve_fault.Store (inl rose) = inl (omega (arith, later, rose))
fault_since old mid new x y z later sink_later gives serve_fault.Store (inr why) = inr (gives why)
fault_since old mid new x y z later sink_later gives serve_fault.Sink rose = omega (arith, sink_later, rose)
