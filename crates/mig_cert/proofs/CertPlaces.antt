-- The lines of a certificate fit their places.
use Rattle.mig_cert.proofs.Common.{All, Bound, BoundFits, Cert, CertFits, CertNext, CertPlace, CertText, DiskId, End, FitsAlong, FitsLine, IsCert, IsDiskSet, IsInput, IsLine, IsOfKind, Kind, Last}
use Rattle.mig_cert.proofs.Common.{InputLists, Leads-append, List, MAX_DISKS, MAX_FILE_BYTES, Member, Nothing, OfDisk, OfSet, OfSide, Over, Quotient, Rounds, Shown, Title, [], ap, append_assoc, arith}
use Rattle.mig_cert.proofs.Common.{before_members, bound_set, bound_value, cases_lt, cert_lines, cert_lines_lack, codes, get_or, inl, inr, is_duplex, length, line_of, member_lines, members_after}
use Rattle.mig_cert.proofs.Common.{no_misfit, pieces, pieces_of_lines, refl, spelt, stated_load, subst, suc, sym, transfer_graph, ℕ, ◌++◌, ◌+◌, ◌<◌, ◌^◌, ◌∙◌, ◌∷◌, ◌≡◌, ◌≤◌}
use Rattle.mig_cert.proofs.BoundWords.{same_bound_line, same_disk}

-- the ids rise from a number on, and are below another
abbrev pub Ascends : ℕ → ℕ → List DiskId → Type 0
Ascends n from [] = Unit {0}
Ascends n from (d ∷ ds) = (from ≤ d.0) × (d.0 < n) × Ascends n (d.0 + 1) ds

ascends : (n from : ℕ) (ds : List DiskId) → ((k : ℕ) (x : DiskId) → k < length ds → from ≤ (get_or ds k x).0) → IsDiskSet ds → All (λ (d : DiskId). d.0 < n) ds → Ascends n from ds
ascends n from [] low apart below = tt
ascends n from (d ∷ ds) low apart below = (
  low 0 d (omega arith),
  below 0 d (omega arith),
  ascends n (d.0 + 1) ds (λ k x h. let lt : d.0 < (get_or ds k x).0 = apart 0 (suc k) x (omega arith) (omega arith) in omega arith) (λ i j x l h. apart (suc i) (suc j) x (omega arith) (omega arith)) (λ k x h. below (suc k) x (omega arith)),
)

pub ascends_from : (n : ℕ) (ds : List DiskId) → IsDiskSet ds → All (λ (d : DiskId). d.0 < n) ds → Ascends n 0 ds
ascends_from n ds rising below = ascends n 0 ds (λ k x h. omega arith) rising below

pub ascends_len : (n from : ℕ) (ds : List DiskId) → Ascends n from ds → from ≤ n → from + length ds ≤ n
ascends_len n from [] h le = omega arith
ascends_len n from (d ∷ ds) h le = omega (arith, h.0, ascends_len n (d.0 + 1) ds h.2 (omega (arith, h.1)))

pub as_many : (b : Bound) → length (bound_set b) ≡ members_after (line_of b)
as_many Nothing = refl
as_many (OfDisk disk load value) = refl
as_many (OfSide disk side load value) = refl
as_many (OfSet disks inside value) = refl

module _ (input : InputLists) (valid : IsInput input) where
  pub one_next : (a : CertPlace) (piece : List ℕ) (b c : CertPlace) → CertNext input a piece b → CertNext input a piece c → b ≡ c
  one_next Title piece b c h k = h.1 ∙ sym k.1
  one_next Rounds piece b c h k = h.1 ∙ sym k.1
  one_next Quotient piece b c h k = h.1 ∙ sym k.1
  one_next Kind piece b c h k = h.1.2 ∙ sym k.1.2
  one_next Shown piece b c h k =
      let same : h.0 ≡ k.0 = same_bound_line input valid h.0 k.0 h.1.0 k.1.0 (sym h.1.1 ∙ k.1.1) in
      h.1.2 ∙ ap (λ x. before_members (members_after x) 0) same ∙ sym k.1.2
  one_next (Member more from) piece b c h k =
      let same : h.0 ≡ k.0 = same_disk input valid h.0 k.0 h.1.1 k.1.1 (sym h.1.2 ∙ k.1.2) in
      h.1.3 ∙ ap (λ x. before_members more (x + 1)) same ∙ sym k.1.3
  one_next End piece b c h k = h.1 ∙ sym k.1
  one_next Last piece b c h k = h.1 ∙ sym k.1
  one_next Over piece b c h k = absurd h

  pub members_lead : (from : ℕ) (ds : List DiskId) → Ascends (length input.disks) from ds → FitsAlong (CertNext input) (before_members (length ds) from) (member_lines input ds) End
  members_lead from [] h = refl
  members_lead from (d ∷ ds) h = (before_members (length ds) (d.0 + 1), ((d.0, (h.0, h.1, refl, refl)), members_lead (d.0 + 1) ds h.2))

  pub end_leads : FitsAlong (CertNext input) End (codes "end" ∷ [] ∷ []) Over
  end_leads = (Last, ((refl, refl), (Over, ((refl, refl), refl))))

  pub set_fits : (b : Bound) → BoundFits (transfer_graph input) b → All (λ (d : DiskId). d.0 < length input.disks) (bound_set b)
  set_fits Nothing fits = λ k d h. absurd (omega arith)
  set_fits (OfDisk disk load value) fits = λ k d h. absurd (omega arith)
  set_fits (OfSide disk side load value) fits = λ k d h. absurd (omega arith)
  set_fits (OfSet disks inside value) fits = fits

  pub set_ascends : (b : Bound) → BoundFits (transfer_graph input) b → IsDiskSet (bound_set b) → Ascends (length input.disks) 0 (bound_set b)
  set_ascends b fits set = ascends_from (length input.disks) (bound_set b) set (set_fits b fits)

  pub few_in_set : (ds : List DiskId) → IsDiskSet ds → All (λ (d : DiskId). d.0 < length input.disks) ds → length ds ≤ MAX_DISKS
  few_in_set ds rising below = omega (arith, ascends_len (length input.disks) 0 ds (ascends_from (length input.disks) ds rising below) (omega arith), valid.few_disks)

  pub bound_line_fits : (b : Bound) → BoundFits (transfer_graph input) b → IsOfKind (is_duplex input.disks) b → stated_load b < 2 ^ 32 → bound_value b < 2 ^ 32 → IsDiskSet (bound_set b) → FitsLine input (line_of b)
  bound_line_fits Nothing fits kind small low set = tt
  bound_line_fits (OfDisk disk load value) fits kind small low set = (fits, small, low, kind)
  bound_line_fits (OfSide disk side load value) fits kind small low set = (fits, small, low, kind)
  bound_line_fits (OfSet disks inside value) fits kind small low set = (few_in_set disks set fits, small, low, kind)

  pub line_fits : (cert : Cert) → CertFits input cert → IsCert cert → FitsLine input (line_of cert.bound)
  line_fits cert fits kept = bound_line_fits cert.bound fits.disks fits.kind kept.load kept.value kept.set

  bound_leads : (b : Bound) → BoundFits (transfer_graph input) b → IsDiskSet (bound_set b) → FitsAlong (CertNext input) (before_members (members_after (line_of b)) 0) ((member_lines input (bound_set b) ++ codes "end" ∷ []) ++ [] ∷ []) Over
  bound_leads b fits set =
      let names : List (List ℕ) = member_lines input (bound_set b) in
      let tail : FitsAlong (CertNext input) (before_members (length (bound_set b)) 0) (names ++ codes "end" ∷ [] ∷ []) Over =
      Leads-append (CertNext input) (before_members (length (bound_set b)) 0) End Over names (codes "end" ∷ [] ∷ []) (members_lead 0 (bound_set b) (set_ascends b fits set)) end_leads in
      subst (λ t. FitsAlong (CertNext input) (before_members (members_after (line_of b)) 0) t Over) (sym (append_assoc names (codes "end" ∷ []) ([] ∷ [])))
      (subst (λ n. FitsAlong (CertNext input) (before_members n 0) (names ++ codes "end" ∷ [] ∷ []) Over) (as_many b) tail)

  cert_leads : (cert : Cert) → IsCert cert → CertFits input cert → FitsAlong (CertNext input) Title (cert_lines input cert ++ [] ∷ []) Over
  cert_leads cert kept fits =
      let b : Bound = cert.bound in (
        Rounds,
        (
          (refl, refl),
          (
            Quotient,
            (
              ((cert.rounds, (kept.rounds, refl)), refl),
              (
                Kind,
                (
                  ((cert.quotient, (kept.quotient, refl)), refl),
                  (
                    Shown,
                    (
                      (cert.class, (fits.class, refl, refl)),
                      (before_members (members_after (line_of b)) 0, ((line_of b, (line_fits cert fits kept, refl, refl)), bound_leads b fits.disks kept.set)),
                    ),
                  ),
                ),
              ),
            ),
          ),
        ),
      )

  text_leads : (cert : Cert) (bytes : List ℕ) → CertText input cert bytes → FitsAlong (CertNext input) Title (pieces bytes) Over
  text_leads cert bytes text =
      subst (λ t. FitsAlong (CertNext input) Title t Over) (sym (ap pieces text.lines ∙ pieces_of_lines (cert_lines input cert) (cert_lines_lack input valid cert text.kept (spelt input valid cert bytes text))))
      (cert_leads cert text.kept text.fits)

  pub line_no_cert : (bytes : List ℕ) (n : ℕ) → IsLine (CertNext input) Title Over bytes n → (cert : Cert) → CertText input cert bytes → MAX_FILE_BYTES < length bytes
  line_no_cert bytes n line cert text =
      elim (cases_lt MAX_FILE_BYTES (length bytes)) [
        | inl long ↦ long
        | inr short ↦ absurd (no_misfit (CertNext input) one_next Title Over (pieces bytes) n (text_leads cert bytes text) (line.short short))
      ]
