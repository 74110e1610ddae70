-- How long the text of a certificate is.
use Rattle.mig_cert.proofs.Common.{Bool, BoundLine, Cert, CertText, Class, DiskId, Empty, FitsLine, Incoming, InputLists, IsInput, List, MAX_FILE_BYTES, Many, One, OneSide, Outgoing, Side, [], ap}
use Rattle.mig_cert.proofs.Common.{arith, bound_line, bound_set, cert_title, class_word, codes, cond, decimal, disk_name, ends_small, false, is_duplex, length, length-decimal-le, limit_of}
use Rattle.mig_cert.proofs.Common.{limits_at, line_of, member_lines, no_disk, refl, side_limit_of, side_small, side_word, text_append, text_cons, text_of_lines, true, word_cons, words, ℕ, ◌*◌}
use Rattle.mig_cert.proofs.Common.{◌++◌, ◌+◌, ◌<◌, ◌^◌, ◌∷◌, ◌≡◌, ◌≤◌}
use Rattle.mig_base.specs.declared.certs.Class.TheVariants as class
use Rattle.mig_cert.proofs.CertPlaces.{Ascends, ascends_len, line_fits, set_ascends}

digits_length : (n : ℕ) → n < 2 ^ 32 → length (decimal n) ≤ 10
digits_length n h = length-decimal-le 10 n (omega arith) (omega arith) (omega arith)

class_length : (k : Class) → length (words (codes "class" ∷ class_word k ∷ [])) ≤ 13
class_length class.Even = omega arith
class_length class.General = omega arith
class_length class.Duplex = omega arith

title_length : (b : Bool) → length (cond b (codes "migration-certificate 2") (codes "migration-certificate 1")) ≡ 23
title_length true = refl
title_length false = refl

side_length : (side : Side) → length (side_word side) ≤ 3
side_length Outgoing = omega arith
side_length Incoming = omega arith

module _ (input : InputLists) (valid : IsInput input) where
  bound_length : (b : BoundLine) → FitsLine input b → length (bound_line input b) ≤ 80
  bound_length Empty fits = omega arith
  bound_length (One d l v) fits =
      let name : length (disk_name input d) ≤ 32 = (valid.named_disks d no_disk fits.0).short in
      omega (
        arith,
        word_cons (codes "bound") (codes "disk") (disk_name input d ∷ decimal l ∷ decimal (limit_of input d) ∷ decimal v ∷ []),
        word_cons (codes "disk") (disk_name input d) (decimal l ∷ decimal (limit_of input d) ∷ decimal v ∷ []),
        word_cons (disk_name input d) (decimal l) (decimal (limit_of input d) ∷ decimal v ∷ []),
        word_cons (decimal l) (decimal (limit_of input d)) (decimal v ∷ []),
        word_cons (decimal (limit_of input d)) (decimal v) [],
        digits_length l fits.1,
        digits_length v fits.2,
        digits_length (limit_of input d) (omega (arith, ends_small _ (limits_at input valid d fits.0))),
      )
  bound_length (OneSide d side l v) fits =
      let name : length (disk_name input d) ≤ 32 = (valid.named_disks d no_disk fits.0).short in
      omega (
        arith,
        word_cons (codes "bound") (codes "side") (disk_name input d ∷ side_word side ∷ decimal l ∷ decimal (side_limit_of input side d) ∷ decimal v ∷ []),
        word_cons (codes "side") (disk_name input d) (side_word side ∷ decimal l ∷ decimal (side_limit_of input side d) ∷ decimal v ∷ []),
        word_cons (disk_name input d) (side_word side) (decimal l ∷ decimal (side_limit_of input side d) ∷ decimal v ∷ []),
        word_cons (side_word side) (decimal l) (decimal (side_limit_of input side d) ∷ decimal v ∷ []),
        word_cons (decimal l) (decimal (side_limit_of input side d)) (decimal v ∷ []),
        word_cons (decimal (side_limit_of input side d)) (decimal v) [],
        side_length side,
        digits_length l fits.1,
        digits_length v fits.2,
        digits_length (side_limit_of input side d) (omega (arith, side_small side _ (limits_at input valid d fits.0))),
      )
  bound_length (Many n i v) fits =
      omega (
        arith,
        word_cons (codes "bound") (codes "set") (decimal n ∷ decimal i ∷ decimal v ∷ []),
        word_cons (codes "set") (decimal n) (decimal i ∷ decimal v ∷ []),
        word_cons (decimal n) (decimal i) (decimal v ∷ []),
        word_cons (decimal i) (decimal v) [],
        digits_length n (omega (arith, fits.0)),
        digits_length i fits.1,
        digits_length v fits.2,
      )

  members_length : (from : ℕ) (ds : List DiskId) → Ascends (length input.disks) from ds → length (text_of_lines (member_lines input ds)) ≤ 33 * length ds
  members_length from [] h = omega arith
  members_length from (d ∷ ds) h =
      omega (arith, text_cons (disk_name input d.0) (member_lines input ds), (valid.named_disks d.0 no_disk h.1).short, members_length (d.0 + 1) ds h.2)

  -- the text of a certificate is short
  pub cert_length : (cert : Cert) (bytes : List ℕ) → CertText input cert bytes → length bytes ≤ 34000
  cert_length cert bytes text =
      let r : List ℕ = words (codes "rounds" ∷ decimal cert.rounds ∷ []) in
      let q : List ℕ = words (codes "quotient" ∷ decimal cert.quotient ∷ []) in
      let k : List ℕ = words (codes "class" ∷ class_word cert.class ∷ []) in
      let b : List ℕ = bound_line input (line_of cert.bound) in
      let names : List (List ℕ) = member_lines input (bound_set cert.bound) in
      let up = set_ascends input valid cert.bound text.fits.disks text.kept.set in
      let few = ascends_len (length input.disks) 0 (bound_set cert.bound) up (omega arith) in
      omega (
        arith,
        ap length text.lines,
        text_cons (cert_title input) (r ∷ q ∷ k ∷ b ∷ names ++ codes "end" ∷ []),
        title_length (is_duplex input.disks),
        text_cons r (q ∷ k ∷ b ∷ names ++ codes "end" ∷ []),
        text_cons q (k ∷ b ∷ names ++ codes "end" ∷ []),
        text_cons k (b ∷ names ++ codes "end" ∷ []),
        text_cons b (names ++ codes "end" ∷ []),
        text_append names (codes "end" ∷ []),
        word_cons (codes "rounds") (decimal cert.rounds) [],
        word_cons (codes "quotient") (decimal cert.quotient) [],
        digits_length cert.rounds text.kept.rounds,
        digits_length cert.quotient text.kept.quotient,
        class_length cert.class,
        bound_length (line_of cert.bound) (line_fits input valid cert text.fits text.kept),
        members_length 0 (bound_set cert.bound) up,
        few,
        valid.few_disks,
      )

pub short_text : (input : InputLists) (cert : Cert) (bytes : List ℕ) → IsInput input → CertText input cert bytes → length bytes ≤ MAX_FILE_BYTES
short_text input cert bytes valid text = omega (arith, cert_length input valid cert bytes text)
