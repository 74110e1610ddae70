-- The reading of a certificate, part by part.
use Rattle.mig_cert.proofs.Common.{Bound, BoundLine, Cert, CertFits, CertLine, CertNext, CertText, Class, End, EndsWrong, Err, FitsLine, IfLine, IfOk, IsBoundLine, IsBoundRead, IsCert}
use Rattle.mig_cert.proofs.Common.{FitsAlong, InputLists, IsCertOpened, IsClassLine, IsCountUpTo, IsInput, IsLine, IsMisfit, IsMiss, IsStop, Kind, Last, Left, List, MAX_FILE_BYTES, Ok, Over, Quotient}
use Rattle.mig_cert.proofs.Common.{Result, Rounds, Shown, Stops, TextError, Title, Took, [], ap, arith, before_members, bound_line, bound_lines, bound_set, cert_lines, cert_title, class_word}
use Rattle.mig_cert.proofs.Common.{codes, decimal, inl, inr, is_duplex, is_duplex_class, later_stops, length, line_of, member_lines, members_after, miss_stops, opening_lines, pieces, refl, subst}
use Rattle.mig_cert.proofs.Common.{sym, text_from_pieces, took_next, took_one, words, ℕ, ◌++◌, ◌<◌, ◌^◌, ◌∙◌, ◌∷◌, ◌≡◌, ◌≢◌, ◌≤◌}
use Rattle.mig_text.specs.declared.errors.TextError.TheVariants as text_error
use Rattle.mig_cert.proofs.CertPlaces.{ascends_from, members_lead, as_many, line_no_cert}

abbrev count_line : List ℕ → ℕ → List ℕ
count_line word n = words (word ∷ decimal n ∷ [])

module _ (input : InputLists) where
  pub title_stops : (old : Left) (e : TextError) → IsMiss (λ piece. piece ≡ cert_title input) old e → IsStop (CertNext input) Title Over old e
  title_stops old e m = miss_stops (CertNext input) Title Over (λ piece. piece ≡ cert_title input) old e (λ q. absurd cc) (λ piece next n. n.0) m

  pub rounds_stops : (old a : Left) (e : TextError) → Took old (cert_title input) a → IsMiss (IsCountUpTo (codes "rounds") 4294967295) a e → IsStop (CertNext input) Title Over old e
  rounds_stops old a e t m =
      later_stops (CertNext input) Title Rounds Over old a (cert_title input ∷ []) e (Rounds, ((refl, refl), refl)) (took_one old a _ t)
      (miss_stops (CertNext input) Rounds Over (IsCountUpTo (codes "rounds") 4294967295) a e (λ q. absurd cc) (λ piece next n. (n.0.0, (omega (arith, n.0.1.0), n.0.1.1))) m)

  pub quotient_stops : (r : ℕ) (old a b : Left) (e : TextError) → Took old (cert_title input) a → r ≤ 4294967295 → Took a (words (codes "rounds" ∷ decimal r ∷ [])) b
      → IsMiss (IsCountUpTo (codes "quotient") 4294967295) b e → IsStop (CertNext input) Title Over old e
  quotient_stops r old a b e t hr u m =
      later_stops (CertNext input) Title Quotient Over old b (cert_title input ∷ count_line (codes "rounds") r ∷ []) e (Rounds, ((refl, refl), (Quotient, (((r, (omega arith, refl)), refl), refl))))
      (took_next old a b (cert_title input ∷ []) _ (took_one old a _ t) u)
      (miss_stops (CertNext input) Quotient Over (IsCountUpTo (codes "quotient") 4294967295) b e (λ q. absurd cc) (λ piece next n. (n.0.0, (omega (arith, n.0.1.0), n.0.1.1))) m)

  pub class_stops : (r q : ℕ) (old a b c : Left) (e : TextError) → Took old (cert_title input) a → r ≤ 4294967295 → Took a (words (codes "rounds" ∷ decimal r ∷ [])) b
      → q ≤ 4294967295 → Took b (words (codes "quotient" ∷ decimal q ∷ [])) c → IsMiss (IsClassLine input) c e → IsStop (CertNext input) Title Over old e
  class_stops r q old a b c e t hr u hq v m =
      later_stops (CertNext input) Title Kind Over old c (cert_title input ∷ count_line (codes "rounds") r ∷ count_line (codes "quotient") q ∷ []) e
      (Rounds, ((refl, refl), (Quotient, (((r, (omega arith, refl)), refl), (Kind, (((q, (omega arith, refl)), refl), refl))))))
      (took_next old b c (cert_title input ∷ count_line (codes "rounds") r ∷ []) _ (took_next old a b (cert_title input ∷ []) _ (took_one old a _ t) u) v)
      (miss_stops (CertNext input) Kind Over (IsClassLine input) c e (λ q. absurd cc) (λ piece next n. (n.0, (n.1.0, n.1.1))) m)

  opening_leads : (r q : ℕ) (k : Class) → is_duplex_class k ≡ is_duplex input.disks → r < 2 ^ 32 → q < 2 ^ 32 → FitsAlong (CertNext input) Title (opening_lines (cert_title input) r q (class_word k)) Shown
  opening_leads r q k kind hr hq = (Rounds, ((refl, refl), (Quotient, (((r, (hr, refl)), refl), (Kind, (((q, (hq, refl)), refl), (Shown, ((k, (kind, refl, refl)), refl))))))))

  pub bound_stops : (old : Left) (e : TextError) → IsMiss (IsBoundLine input) old e → IsStop (CertNext input) Shown Over old e
  bound_stops old e m = miss_stops (CertNext input) Shown Over (IsBoundLine input) old e (λ q. absurd cc) (λ piece next n. (n.0, (n.1.0, n.1.1))) m

  pub members_stop : (b : BoundLine) (old a : Left) (e : TextError) → FitsLine input b → Took old (bound_line input b) a → IsStop (CertNext input) (before_members (members_after b) 0) Over a e
      → IsStop (CertNext input) Shown Over old e
  members_stop b old a e fits t s =
      later_stops (CertNext input) Shown (before_members (members_after b) 0) Over old a (bound_line input b ∷ []) e (before_members (members_after b) 0, ((b, (fits, refl, refl)), refl)) (took_one old a _ t) s

  pub shown_stops : (r q : ℕ) (k : Class) (old a : Left) (e : TextError) → IsCertOpened input r q k old a → IsStop (CertNext input) Shown Over a e → IsStop (CertNext input) Title Over old e
  shown_stops r q k old a e opened s = later_stops (CertNext input) Title Shown Over old a _ e (opening_leads r q k opened.kind opened.few opened.small) opened.took s

  over_misses : (pieces : List (List ℕ)) → pieces ≢ [] → Stops (CertNext input) Over Over pieces
  over_misses [] some = λ q. some refl
  over_misses (piece ∷ rest) some = λ next n. n

  end_wrong_stops : (old : Left) (e : TextError) → EndsWrong old e → IsStop (CertNext input) End Over old e
  end_wrong_stops old e (inl m) = miss_stops (CertNext input) End Over (λ piece. piece ≡ codes "end") old e (λ q. absurd cc) (λ piece next n. n.0) m
  end_wrong_stops old e (inr (inl s)) =
      later_stops (CertNext input) End Last Over old s.0 (codes "end" ∷ []) e (Last, ((refl, refl), refl)) (took_one old s.0 _ s.1.0)
      (miss_stops (CertNext input) Last Over (λ piece. piece ≡ []) s.0 e (λ q. absurd cc) (λ piece next n. n.0) s.1.1)
  end_wrong_stops old e (inr (inr s)) =
      later_stops (CertNext input) End Over Over old s.1.0 (codes "end" ∷ [] ∷ []) e (Last, ((refl, refl), (Over, ((refl, refl), refl)))) (took_next old s.0 s.1.0 (codes "end" ∷ []) [] (took_one old s.0 _ s.1.1.0) s.1.1.1)
      (subst (IsStop (CertNext input) Over Over s.1.0) (sym s.1.1.2) (1, (refl, record { before = []; after = s.1.0.pieces; place = Over; cut = refl; fit = refl; stops = over_misses s.1.0.pieces s.1.1.3; number = omega arith })))

  pub closing_stops : (valid : IsInput input) (r q : ℕ) (k : Class) (bound : Bound) (old a b : Left) (e : TextError) → IsCertOpened input r q k old a → IsBoundRead input bound a b → EndsWrong b e → IsStop (CertNext input) Title Over old e
  closing_stops valid r q k bound old a b e opened read wrong =
      let names : List (List ℕ) = member_lines input (bound_set bound) in
      let lead : FitsAlong (CertNext input) (before_members (members_after (line_of bound)) 0) names End =
      subst (λ n. FitsAlong (CertNext input) (before_members n 0) names End) (as_many bound)
      (members_lead input valid 0 (bound_set bound) (ascends_from (length input.disks) (bound_set bound) read.increasing read.members)) in
      shown_stops r q k old a e opened
      (later_stops (CertNext input) Shown End Over a b (bound_lines input bound) e
      (before_members (members_after (line_of bound)) 0, ((line_of bound, (read.line, refl, refl)), lead)) read.took (end_wrong_stops b e wrong))

-- what a stop says of the whole text
pub cert_line : (input : InputLists) (bytes : List ℕ) (e : TextError) → IsInput input → length bytes ≤ MAX_FILE_BYTES → IsStop (CertNext input) Title Over (record { taken = 0; pieces = pieces bytes }) e → IfLine (CertLine input bytes) e
cert_line input bytes text_error.Memory valid short s = tt
cert_line input bytes (text_error.Line n) valid short s =
    let same : s.0 ≡ n = omega (arith, s.1.0) in
    let line : IsLine (CertNext input) Title Over bytes n = record { long = λ l. absurd (omega arith); short = λ _. subst (IsMisfit (CertNext input) Title Over (pieces bytes)) same s.1.1 } in
    record { no_cert = line_no_cert input valid bytes n line; line = line }

-- the value of a text whose lines were read
pub cert_text : (input found : InputLists) (bytes : List ℕ) (old : Left) (r : Result Cert TextError) → found ≡ input → old ≡ record { taken = 0; pieces = pieces bytes }
    → IfOk r IsCert → IfOk r (CertFits found) → IfOk r (λ cert. old.pieces ≡ cert_lines found cert ++ [] ∷ []) → IfOk r (λ cert. CertText input cert bytes)
cert_text input found bytes old (Ok cert) e l kept fits lines = record {
  kept = kept;
  fits = subst (λ q. CertFits q cert) e fits;
  lines = text_from_pieces bytes (cert_lines input cert) (sym (λ k. (l k).pieces) ∙ lines ∙ ap (λ q. cert_lines q cert ++ [] ∷ []) e);
}
cert_text input found bytes old (Err e) is l kept fits lines = tt
