-- Bytes that are alike are read alike: where a file is too long, that is the first thing that is wrong with it.
use Rattle.mig_top.proofs.Common.{Accepted, Accepted-short, AcceptedTight, AcceptedTight-short, Alike, AreReadAlike, CertLine, CertText, Disks, Fault, FileKind, Found, IsInputRefusal, IsListing, ThreeFiles}
use Rattle.mig_top.proofs.Common.{InputLists, IsNoCert, IsPlanUnspelled, IsRefusalBy, IsSame, LayoutBodies, List, ListingFault, ListingRefusedAs, MAX_FILE_BYTES, Next, NotSpelled, Now, Outcome, PlanLine}
use Rattle.mig_top.proofs.Common.{PlanText, Reader, Refused, RefusedAs, RefusedTightAs, Roomy, Step, Tight, Why, arith, cases_lt, inl, inr, length, length-take, other_cause, reads_cert, reads_input}
use Rattle.mig_top.proofs.Common.{reads_layout, reads_plan, refl, refused_tight, refused_with_room, subst, sym, take, take_all, ℕ, ◌+◌, ◌<◌, ◌≡◌, ◌≤◌}
use Rattle.mig_csv.proofs.TooLong.{carried_first, disks_alone, disks_apart, next_apart}
use Rattle.mig_base.specs.declared.faults.Why.TheVariants as why
use Rattle.mig_words.specs.declared.endings.TextFile.TheVariants as text_file

alike_sym : (a b : List ℕ) → Alike a b → Alike b a
alike_sym a b (inl same) = inl (sym same)
alike_sym a b (inr long) = inr (long.1, long.0)

-- of two that are alike, if one is short they are the same
short_same : (a b : List ℕ) → Alike a b → length a ≤ MAX_FILE_BYTES → a ≡ b
short_same a b (inl same) short = same
short_same a b (inr long) short = absurd (let more = long.0 in omega (arith, more, short))

begins : (whole : List ℕ) → Alike whole (take (MAX_FILE_BYTES + 1) whole)
begins whole = elim (cases_lt MAX_FILE_BYTES (length whole)) [
  | inl long ↦ inr (long, omega (arith, long, length-take (MAX_FILE_BYTES + 1) whole))
  | inr short ↦ inl (sym (take_all (MAX_FILE_BYTES + 1) whole (omega (arith, short))))
]

-- Inputs

abbrev three : (disks now next : List ℕ) → ThreeFiles
three disks now next = record { disks = disks; now = now; next = next }

refused : (d n x e m y : List ℕ) → Alike d e → Alike n m → Alike x y → (f : FileKind) (r : ℕ) (w : Why) → RefusedAs (three d n x) f r w → RefusedAs (three e m y) f r w
refused d n x e m y (inr long) second third f r w h =
    carried_first (Fault (three d n x)) (Fault (three e m y)) Disks (λ k i v lt q. absurd (omega (arith, lt))) (λ k i v lt q. absurd (omega (arith, lt))) (refl, long.0) (refl, long.1) f r w h
refused d n x e m y (inl same) (inr long) third f r w h = subst (λ (b : List ℕ). RefusedAs (three b m y) f r w) same
    (carried_first (Fault (three d n x)) (Fault (three d m y)) Now (disks_alone d n x m y) (disks_alone d m y n x) (refl, long.0) (refl, long.1) f r w h)
refused d n x e m y (inl same) (inl also) (inr long) f r w h = subst (λ (b : List ℕ). RefusedAs (three b m y) f r w) same (subst (λ (b : List ℕ). RefusedAs (three d b y) f r w) also
    (carried_first (Fault (three d n x)) (Fault (three d n y)) Next (next_apart d n x y) (next_apart d n y x) (refl, long.0) (refl, long.1) f r w h))
refused d n x e m y (inl same) (inl also) (inl too) f r w h =
    subst (λ (b : List ℕ). RefusedAs (three b m y) f r w) same (subst (λ (b : List ℕ). RefusedAs (three d b y) f r w) also (subst (λ (b : List ℕ). RefusedAs (three d n b) f r w) too h))

-- the three files of two inputs are alike
abbrev AreAlike : ThreeFiles → ThreeFiles → Type 0
AreAlike a b = Alike a.disks b.disks × Alike a.now b.now × Alike a.next b.next

-- what is so of three files that are short enough is so of those that are alike
same_three : (P : ThreeFiles → Type 0) (a b : ThreeFiles) → AreAlike a b → length a.disks ≤ MAX_FILE_BYTES → length a.now ≤ MAX_FILE_BYTES → length a.next ≤ MAX_FILE_BYTES → P a → P b
same_three P a b like disks now next h =
    let d = short_same a.disks b.disks like.0 disks in
    let n = short_same a.now b.now like.1 now in
    let x = short_same a.next b.next like.2 next in
    subst P (λ i. three (d i) (n i) (x i)) h

input_passes : (a b : ThreeFiles) → AreAlike a b → (input : InputLists) → Accepted a input → Accepted b input
input_passes a b like input h = same_three (λ c. Accepted c input) a b like (Accepted-short a input h Disks) (Accepted-short a input h Now) (Accepted-short a input h Next) h

-- what holds of all that is alike holds both ways
same_by : {X A : Type 0} (Like : X → X → Type 0) → ((a b : X) → Like a b → Like b a) → (reads : X → Step A) → ((a b : X) → Like a b → (v : A) → (reads a).Passes v → (reads b).Passes v)
    → ((a b : X) → Like a b → (o : Outcome) → (reads a).Stops o → (reads b).Stops o) → (a b : X) → Like a b → IsSame (reads a) (reads b)
same_by Like back reads passes stops a b like =
    let other = back a b like in
    record { passes = λ v. (passes a b like v, passes b a other v); stops = λ o. (stops a b like o, stops b a other o) }

refusal_stops : (R S : FileKind → ℕ → Why → Type 0) → ((f : FileKind) (r : ℕ) (w : Why) → R f r w → S f r w) → (o : Outcome) → IsInputRefusal (IsRefusalBy R) o → IsInputRefusal (IsRefusalBy S) o
refusal_stops R S to (Found (Refused f r w)) h = to f r w h
refusal_stops R S to _ h = absurd h

inputs_by : (reads : ThreeFiles → Step InputLists) → ((a b : ThreeFiles) → AreAlike a b → (v : InputLists) → (reads a).Passes v → (reads b).Passes v)
    → ((a b : ThreeFiles) → AreAlike a b → (o : Outcome) → (reads a).Stops o → (reads b).Stops o) → (a b : ThreeFiles) → AreAlike a b → IsSame (reads a) (reads b)
inputs_by = same_by AreAlike (λ a b like. (alike_sym a.disks b.disks like.0, alike_sym a.now b.now like.1, alike_sym a.next b.next like.2))

-- the same where nobody asks for room: what is refused so is refused alike, and for no want of room
tight_passes : (a b : ThreeFiles) → AreAlike a b → (input : InputLists) → AcceptedTight a input → AcceptedTight b input
tight_passes a b like input h = same_three (λ c. AcceptedTight c input) a b like (AcceptedTight-short a input h Disks) (AcceptedTight-short a input h Now) (AcceptedTight-short a input h Next) h

tight_refused : (a b : ThreeFiles) → AreAlike a b → (f : FileKind) (r : ℕ) (w : Why) → RefusedTightAs a f r w → RefusedTightAs b f r w
tight_refused a b like f r w h =
    refused_tight b f r w (other_cause a f r w h.fault) (refused a.disks a.now a.next b.disks b.now b.next like.0 like.1 like.2 f r w (refused_with_room a f r w h))

inputs : (reader : Reader) (a b : ThreeFiles) → AreAlike a b → IsSame (reads_input reader a) (reads_input reader b)
inputs Roomy = inputs_by (reads_input Roomy) input_passes
    (λ a b like. refusal_stops (RefusedAs a) (RefusedAs b) (refused a.disks a.now a.next b.disks b.now b.next like.0 like.1 like.2))
inputs Tight = inputs_by (reads_input Tight) tight_passes
    (λ a b like. refusal_stops (RefusedTightAs a) (RefusedTightAs b) (tight_refused a b like))

-- Layouts

listing_refused : (d n e m : List ℕ) → Alike d e → Alike n m → (f : FileKind) (r : ℕ) (w : Why) → ListingRefusedAs d n f r w → ListingRefusedAs e m f r w
listing_refused d n e m (inr long) second f r w h =
    carried_first (ListingFault d n) (ListingFault e m) Disks (λ k i v lt q. absurd (omega (arith, lt))) (λ k i v lt q. absurd (omega (arith, lt))) (refl, long.0) (refl, long.1) f r w h
listing_refused d n e m (inl same) (inr long) f r w h = subst (λ (b : List ℕ). ListingRefusedAs b m f r w) same
    (carried_first (ListingFault d n) (ListingFault d m) Now (disks_apart d n m) (disks_apart d m n) (refl, long.0) (refl, long.1) f r w h)
listing_refused d n e m (inl same) (inl also) f r w h = subst (λ (b : List ℕ). ListingRefusedAs b m f r w) same (subst (λ (b : List ℕ). ListingRefusedAs d b f r w) also h)

module _ (a b : LayoutBodies) (disks : Alike a.disks b.disks) (now : Alike a.now b.now) where
  short_listed : (input : InputLists) (f : FileKind) (bytes : List ℕ) → IsListing a.disks a.now input → (MAX_FILE_BYTES < length bytes → ListingFault a.disks a.now f 0 why.TooLong)
      → length bytes ≤ MAX_FILE_BYTES
  short_listed input f bytes h fault = elim (cases_lt MAX_FILE_BYTES (length bytes)) [ inl long ↦ absurd (h.sound f 0 why.TooLong (fault long)) | inr short ↦ short ]

  layout_passes : (input : InputLists) → IsListing a.disks a.now input → IsListing b.disks b.now input
  layout_passes input h =
      let d = short_same a.disks b.disks disks (short_listed input Disks a.disks h (λ long. (refl, long))) in
      let n = short_same a.now b.now now (short_listed input Now a.now h (λ long. (refl, long))) in
      subst (λ (e : List ℕ). IsListing e b.now input) d (subst (λ (m : List ℕ). IsListing a.disks m input) n h)

abbrev AreLayoutsAlike : LayoutBodies → LayoutBodies → Type 0
AreLayoutsAlike a b = Alike a.disks b.disks × Alike a.now b.now

layouts : (a b : LayoutBodies) → AreLayoutsAlike a b → IsSame (reads_layout a) (reads_layout b)
layouts = same_by AreLayoutsAlike (λ a b like. (alike_sym a.disks b.disks like.0, alike_sym a.now b.now like.1)) reads_layout (λ a b like. layout_passes a b like.0 like.1)
    (λ a b like. refusal_stops (ListingRefusedAs a.disks a.now) (ListingRefusedAs b.disks b.now) (listing_refused a.disks a.now b.disks b.now like.0 like.1))

-- Texts

module _ (a b : List ℕ) (input : InputLists) (same : Alike a b) where
  plan_stops : (o : Outcome) → IsInputRefusal (IsPlanUnspelled a input) o → IsInputRefusal (IsPlanUnspelled b input) o
  plan_stops (Found (NotSpelled text_file.Plan line)) h = by same
    where
      by : Alike a b → PlanLine input b line
      by (inl is) = subst (λ (t : List ℕ). PlanLine input t line) is h
      by (inr long) = record { no_plan = λ plan text. long.1; line = record { long = λ _. h.line.long long.0; short = λ le. absurd (let more = long.1 in omega (arith, le, more)) } }
  plan_stops _ h = absurd h

  cert_stops : (o : Outcome) → IsInputRefusal (IsNoCert a input) o → IsInputRefusal (IsNoCert b input) o
  cert_stops (Found (NotSpelled text_file.Cert line)) h = by same
    where
      by : Alike a b → CertLine input b line
      by (inl is) = subst (λ (t : List ℕ). CertLine input t line) is h
      by (inr long) = record { no_cert = λ cert text. long.1; line = record { long = λ _. h.line.long long.0; short = λ le. absurd (let more = long.1 in omega (arith, le, more)) } }
  cert_stops _ h = absurd h

-- what is short enough to be read is the same
short_passes : {X : Type 0} (Spells : X → List ℕ → Type 0) (a b : List ℕ) → Alike a b → (x : X) → Spells x a × (length a ≤ MAX_FILE_BYTES) → Spells x b × (length b ≤ MAX_FILE_BYTES)
short_passes Spells a b same x h = subst (λ (t : List ℕ). Spells x t × (length t ≤ MAX_FILE_BYTES)) (short_same a b same h.1) h

plans : (input : InputLists) (a b : List ℕ) → Alike a b → IsSame (reads_plan a input) (reads_plan b input)
plans input = same_by Alike alike_sym (λ bytes. reads_plan bytes input) (short_passes (PlanText input)) (λ a b. plan_stops a b input)

certs : (input : InputLists) (a b : List ℕ) → Alike a b → IsSame (reads_cert a input) (reads_cert b input)
certs input = same_by Alike alike_sym (λ bytes. reads_cert bytes input) (short_passes (CertText input)) (λ a b. cert_stops a b input)

pub read_alike : AreReadAlike
read_alike = record {
  begins = begins;
  inputs = λ reader a b d n x. inputs reader a b (d, n, x);
  layouts = λ a b d n. layouts a b (d, n);
  plans = λ a b input. plans input a b;
  certs = λ a b input. certs input a b;
}
