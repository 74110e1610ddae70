-- The records of a text, one after the other.
use Rattle.mig_csv.proofs.Common.{Action, Bool, Bor, ErrorKind, List, MatchBool, None, Option, Read, ReadRecord, Reader, ReadsOn, ReadsRecords, Ready}
use Rattle.mig_csv.proofs.Common.{Some, State, [], all_from, ap, arith, cond, default_config, ends_at_end, false, false≢true, field_after}
use Rattle.mig_csv.proofs.Common.{fields_after, has_failed, in_field, inl, is_end, is_flexible, length, reader_trim, records, records_next, refl}
use Rattle.mig_csv.proofs.Common.{rows-end, rows-more, start_field, start_record, step, stops_reader, subst, suc, sym, took_first, true, unread_bytes}
use Rattle.mig_csv.proofs.Common.{unread_records, zero, ℕ, ◌+◌, ◌<◌, ◌==◌, ◌||◌, ◌∙◌, ◌∷◌, ◌≡◌, ◌≤◌}
use Rattle.csv.specs.Reading.{Reached}
use Rattle.csv.specs.Machine.{next_record}
use Rattle.csv.specs.Reading.{records_from}
use Rattle.csv.specs.declared.reader.Trim.TheVariants as trim
use Rattle.csv.specs.declared.parser.State.TheVariants as st
use Rattle.csv.specs.declared.parser.Action.TheVariants as act

-- if the step ends a record, then the end of the text ends none after it
abbrev Good : State × Action → Type 0
Good x = is_end x.1 ≡ true → ends_at_end x.0 ≡ false

either : (b : Bool) (x y : State × Action) → Good x → Good y → Good (cond b x y)
either true x y p q = p
either false x y p q = q

-- a step that ends no record
goes : (x : State × Action) → is_end x.1 ≡ false → Good x
goes x e h = absurd (false≢true (sym e ∙ h))

good_field : (c : ℕ) → Good (in_field default_config c)
good_field c = grind (arith, either, goes)

good_start : (c : ℕ) → Good (start_field default_config c)
good_start c = either (c == 34) (st.InQuoted, act.Skip) (in_field default_config c) (goes (st.InQuoted, act.Skip) refl) (good_field c)

good_record : (c : ℕ) → Good (start_record default_config c)
good_record c = either ((c == 13) || (c == 10)) (st.StartRecord, act.Skip) (start_field default_config c) (goes (st.StartRecord, act.Skip) refl) (good_start c)

-- the byte that ends a record leaves a state in which the end of the text ends none
end_step : (s : State) (c : ℕ) → Good (step default_config s c)
end_step st.StartRecord c = good_record c
end_step st.StartField c = good_start c
end_step st.InField c = good_field c
end_step st.InQuoted c = either (c == 34) (st.AfterQuote, act.Skip) (st.InQuoted, act.Copy) (goes (st.AfterQuote, act.Skip) refl) (goes (st.InQuoted, act.Copy) refl)
end_step st.InEscape c = goes (st.InQuoted, act.Copy) refl
end_step st.AfterQuote c = either (c == 34) (st.InQuoted, act.Copy) (in_field default_config c) (goes (st.InQuoted, act.Copy) refl) (good_field c)
end_step st.InComment c = either (c == 10) (st.StartRecord, act.Skip) (st.InComment, act.Skip) (goes (st.StartRecord, act.Skip) refl) (goes (st.InComment, act.Skip) refl)
end_step st.AfterCr c = either (c == 10) (st.StartRecord, act.Skip) (start_record default_config c) (goes (st.StartRecord, act.Skip) refl) (good_record c)

-- what a read of a record leaves: a state between records, and no more bytes than there were
pub record Leaves (r : Read) (n : ℕ) : Type 0 where
  pub between : ends_at_end r.1 ≡ false
  pub rest : length r.2 ≤ n

at_end : (b : Bool) (q r : Read) (n : ℕ) → Leaves q n → cond b (Some q) None ≡ Some r → Leaves r n
at_end true q r n l h = let e : q ≡ r = cc h in subst (λ x. Leaves x n) e l
at_end false q r n l h = cc h

at_byte : (b : Bool) (q r : Read) (n : ℕ) (more : Option Read) → (b ≡ true → Leaves q n) → (more ≡ Some r → Leaves r n) → cond b (Some q) more ≡ Some r → Leaves r n
at_byte true q r n more l m h = let e : q ≡ r = cc h in subst (λ x. Leaves x n) e (l refl)
at_byte false q r n more l m h = m h

next_leaves : (s : State) (f : List (List ℕ)) (p xs : List ℕ) (r : Read) → next_record default_config s f p xs ≡ Some r → Leaves r (length xs)
unfolding next_record
next_leaves s f p [] r h = at_end (ends_at_end s) _ r 0 (record { between = refl; rest = omega arith }) h
next_leaves s f p (c ∷ xs) r h =
    at_byte (is_end (step default_config s c).1) _ r (length (c ∷ xs)) _
    (λ e. record { between = end_step s c e; rest = omega arith })
    (λ e. let l = next_leaves (step default_config s c).0 (fields_after (step default_config s c).1 f p) (field_after (step default_config s c).1 c p) xs r e in record { between = l.between; rest = omega (arith, l.rest) })
    h

-- how many turns the records of a text can take, from a state
abbrev size : State → List ℕ → ℕ
size s xs = length xs + cond (ends_at_end s) 1 0

shrinks : (s : State) (xs : List ℕ) (r : Read) → next_record default_config s [] [] xs ≡ Some r → size r.1 r.2 < size s xs
unfolding next_record
shrinks s [] r h = grind arith
shrinks s (c ∷ xs) r h = grind (arith, at_byte, end_step, next_leaves)

-- how many turns are allowed makes no difference, where they are enough
turns : (m n : ℕ) (s : State) (xs : List ℕ) → size s xs < m → size s xs < n → records_from default_config m s xs ≡ records_from default_config n s xs
unfolding records_from
turns zero n s xs p q = absurd (omega (arith, p))
turns (suc m) zero s xs p q = absurd (omega (arith, q))
turns (suc m) (suc n) s xs p q =
    by (next_record default_config s [] [] xs) (λ r e. let less = shrinks s xs r e in turns m n r.1 r.2 (omega (arith, less, p)) (omega (arith, less, q))) refl
  where
    by : (o : Option Read) → ((r : Read) → next_record default_config s [] [] xs ≡ Some r → records_from default_config m r.1 r.2 ≡ records_from default_config n r.1 r.2)
        → next_record default_config s [] [] xs ≡ o → records_next (records_from default_config m) o ≡ records_next (records_from default_config n) o
    by None rest e = refl
    by (Some r) rest e = ap (λ rs. r.0 ∷ rs) (rest r e)

small : (b : Bool) → cond b 1 0 ≤ 1
small true = omega arith
small false = omega arith

-- the next record is the first of them
pub all_from-next : (s : State) (xs : List ℕ) (r : Read) → next_record default_config s [] [] xs ≡ Some r → all_from s xs ≡ r.0 ∷ all_from r.1 r.2
unfolding records_from
all_from-next s xs r e = grind (arith, shrinks, small, turns)

-- and where there is none, there are none
pub all_from-none : (s : State) (xs : List ℕ) → next_record default_config s [] [] xs ≡ None → all_from s xs ≡ []
unfolding records_from
all_from-none s xs e = grind arith

-- from the start they are the records of the text
pub all_from-start : (xs : List ℕ) → all_from st.StartRecord xs ≡ records default_config xs
all_from-start xs = turns (length xs + 2) (length xs + 1) st.StartRecord xs (omega arith) (omega arith)

abbrev held : Bor (List ℕ) → Option (List ℕ)
held s = Some s.now

all_from-reached : (s t : State) (xs ys : List ℕ) (fields : List (List ℕ)) → Reached default_config s xs (fields ∷ []) t ys → all_from s xs ≡ fields ∷ all_from t ys
unfolding Reached
all_from-reached s t xs ys fields h = rw (h.2, ← h.3.0, ← h.3.1) (all_from-next s xs h.0 h.1)

pick : (failed fresh : Bool) (p q : List ℕ) → failed ≡ false → (y : List ℕ) × (cond failed None (cond fresh (Some p) (Some q)) ≡ Some y)
pick true fresh p q e = absurd (false≢true (sym e))
pick false true p q e = (p, refl)
pick false false p q e = (q, refl)

-- the bytes that a reader of bytes in memory has left are known
known : (a : Reader (Bor (List ℕ))) → has_failed a ≡ false → (y : List ℕ) × (unread_bytes a ≡ Some y)
known a e = pick a.failed _ _ _ e

-- what a read of a record leaves to be read
pub read_one : (a b : Reader (Bor (List ℕ))) (found : Bool) (fields : List (List ℕ)) → ReadsRecords a → has_failed b ≡ has_failed a
    → (reader_trim a ≡ trim.None → Ready a → ReadRecord held a b found fields) → (reader_trim a ≡ trim.None → took_first b ≡ true)
    → (has_failed a ≡ true → found ≡ false) → is_flexible b ≡ is_flexible a
    → MatchBool found (unread_records a ≡ fields ∷ unread_records b) (unread_records a ≡ []) × ReadsRecords b
unfolding Reached
read_one a b found fields inv same reads first failed flexible = by (has_failed a) refl
  where
    none : (f : Bool) → has_failed a ≡ false → f ≡ found → MatchBool f (unread_records a ≡ fields ∷ unread_records b) (unread_records a ≡ [])
    none true ok e =
        let i = inv ok in
        let k = known a ok in
        let m = rows-more held a b fields default_config a.state k.0 k.0 [] i.config k.1 (refl, refl) (rw (← e) at (reads i.trim i.ready)) in
        rw (k.1, m.1) (all_from-reached a.state b.state k.0 m.0 fields m.2)
    none false ok e =
        let i = inv ok in
        let k = known a ok in
        rw k.1 (all_from-none a.state k.0 (rows-end held a b fields default_config k.0 i.config k.1 (rw (← e) at (reads i.trim i.ready))))

    by : (f : Bool) → has_failed a ≡ f → MatchBool found (unread_records a ≡ fields ∷ unread_records b) (unread_records a ≡ []) × ReadsRecords b
    by true e = (rw (failed e, e) refl, λ h. absurd (false≢true (sym h ∙ same ∙ e)))
    by false e =
        let i = inv e in
        let r = reads i.trim i.ready in
        (none found e refl, λ h. record { config = r.2 ∙ i.config; trim = r.3 ∙ i.trim; ready = inl (first i.trim); flexible = flexible ∙ i.flexible })

-- a read that failed leaves a reader that has failed, or that reads on
pub read_none : (a b : Reader (Bor (List ℕ))) (k : ErrorKind) → ReadsRecords a → has_failed b ≡ stops_reader k → (stops_reader k ≡ false → ReadsOn a b)
    → (has_failed a ≡ true → ⊥) → ReadsRecords b
read_none a b k inv fails goes ok e = grind arith
