-- Bytes are the spelling of at most one certificate.
use Rattle.mig_base.proofs.Common.{All, AllByRecursion, AllPairs, Bool, Bound, BoundFits, Cert, CertText, Class, Disk, DiskId, Duplex, Even, General, Incoming, InputLists, IsCert, IsInput, List}
use Rattle.mig_base.proofs.Common.{Nothing, OfDisk, OfSet, OfSide, Outgoing, Side, [], ap, arith, bound_lines, bound_set, bound_value, cert_lines, class_word, codes, cond, decimal}
use Rattle.mig_base.proofs.Common.{decimal_injective, disk_at, disk_name, false, inl, inr, is_duplex, is_name_byte, length, length-map, map, most_ends, no_disk, recursion_from_All, refl}
use Rattle.mig_base.proofs.Common.{side_limit, side_word, stated_load, suc, sym, transfer_graph, true, words, ℕ, ◌++◌, ◌+◌, ◌<◌, ◌^◌, ◌∙◌, ◌∷◌, ◌≡◌, ◌≢◌, ◌≤◌, ◌⊎◌}
use Rattle.mig_base.proofs.KeptLimits.{ends_small, limits_at, side_small}
use Rattle.mig_base.proofs.Separators.{Lacks, same_lines, same_words, Lacks-words, Lacks-decimal, same_front}
use Rattle.mig_base.proofs.Spelling.{lacks_test, same_place, rounds_word_lacks, rounds_word_lacks_end, end_lacks, disk_lacks, lines_append}

-- two lines of words are of the same words
same_line : (us vs : List (List ℕ)) → 0 < length us → 0 < length vs → AllByRecursion (Lacks 32) us → AllByRecursion (Lacks 32) vs → words us ≡ words vs → us ≡ vs
same_line [] vs some some' h k e = absurd (omega (arith, some))
same_line (u ∷ us) [] some some' h k e = absurd (omega (arith, some'))
same_line (u ∷ us) (v ∷ vs) some some' h k e = same_words u v us vs h k e

pub same_number : (word : List ℕ) (m n : ℕ) → Lacks 32 word → m < 2 ^ 32 → n < 2 ^ 32 → words (word ∷ decimal m ∷ []) ≡ words (word ∷ decimal n ∷ []) → m ≡ n
same_number word m n lacks hm hn e =
    let w : word ∷ decimal m ∷ [] ≡ word ∷ decimal n ∷ [] =
    same_words word word (decimal m ∷ []) (decimal n ∷ []) (lacks, (Lacks-decimal 32 m (omega arith) (omega arith), tt)) (lacks, (Lacks-decimal 32 n (omega arith) (omega arith), tt)) e in
    decimal_injective m n (omega arith) (omega arith) cc

number_lacks : (word : List ℕ) (n : ℕ) → Lacks 10 word → n < 2 ^ 32 → Lacks 10 (words (word ∷ decimal n ∷ []))
number_lacks word n lacks h = Lacks-words 10 (word ∷ decimal n ∷ []) (λ e. omega arith) (lacks, (Lacks-decimal 10 n (omega arith) (omega arith), tt))

class_lacks : (c : ℕ) → (x : Class) → c < 97 → Lacks c (class_word x)
class_lacks c Even small = ((λ e. omega arith), ((λ e. omega arith), ((λ e. omega arith), ((λ e. omega arith), tt))))
class_lacks c Duplex small = ((λ e. omega arith), ((λ e. omega arith), ((λ e. omega arith), ((λ e. omega arith), ((λ e. omega arith), ((λ e. omega arith), tt))))))
class_lacks c General small = ((λ e. omega arith), ((λ e. omega arith), ((λ e. omega arith), ((λ e. omega arith), ((λ e. omega arith), ((λ e. omega arith), ((λ e. omega arith), tt)))))))

same_class_word : (x y : Class) → class_word x ≡ class_word y → x ≡ y
same_class_word Even Even e = refl
same_class_word Even General e = absurd (let n : ◌≡◌ {A = ℕ} 4 7 = ap (λ (l : List ℕ). length l) e in omega arith)
same_class_word General Even e = absurd (let n : ◌≡◌ {A = ℕ} 7 4 = ap (λ (l : List ℕ). length l) e in omega arith)
same_class_word General General e = refl
same_class_word Duplex Duplex e = refl
same_class_word Even Duplex e = absurd (let n : ◌≡◌ {A = ℕ} 4 6 = ap (λ (l : List ℕ). length l) e in omega arith)
same_class_word General Duplex e = absurd (let n : ◌≡◌ {A = ℕ} 7 6 = ap (λ (l : List ℕ). length l) e in omega arith)
same_class_word Duplex Even e = absurd (let n : ◌≡◌ {A = ℕ} 6 4 = ap (λ (l : List ℕ). length l) e in omega arith)
same_class_word Duplex General e = absurd (let n : ◌≡◌ {A = ℕ} 6 7 = ap (λ (l : List ℕ). length l) e in omega arith)

side_lacks : (c : ℕ) → (x : Side) → c < 97 → Lacks c (side_word x)
side_lacks c Outgoing small = ((λ e. omega arith), ((λ e. omega arith), ((λ e. omega arith), tt)))
side_lacks c Incoming small = ((λ e. omega arith), ((λ e. omega arith), tt))

pub same_side_word : (x y : Side) → side_word x ≡ side_word y → x ≡ y
same_side_word Outgoing Outgoing e = refl
same_side_word Incoming Incoming e = refl
same_side_word Outgoing Incoming e = absurd (let n : ◌≡◌ {A = ℕ} 3 2 = ap (λ (l : List ℕ). length l) e in omega arith)
same_side_word Incoming Outgoing e = absurd (let n : ◌≡◌ {A = ℕ} 2 3 = ap (λ (l : List ℕ). length l) e in omega arith)

pub same_class : (x y : Class) → words (codes "class" ∷ class_word x ∷ []) ≡ words (codes "class" ∷ class_word y ∷ []) → x ≡ y
same_class x y e =
    let w : codes "class" ∷ class_word x ∷ [] ≡ codes "class" ∷ class_word y ∷ [] =
    same_words (codes "class") (codes "class") (class_word x ∷ []) (class_word y ∷ [])
    (lacks_test 32 (codes "class") refl, (class_lacks 32 x (omega arith), tt)) (lacks_test 32 (codes "class") refl, (class_lacks 32 y (omega arith), tt)) e in
    same_class_word x y cc

abbrev pub nothing_words : List (List ℕ)
nothing_words = codes "bound" ∷ codes "nothing" ∷ []

module _ (input : InputLists) (valid : IsInput input) where
  abbrev pub disk_words : DiskId → ℕ → ℕ → List (List ℕ)
  disk_words disk l x = codes "bound" ∷ codes "disk" ∷ disk_name input disk.0 ∷ decimal l ∷ decimal (most_ends (disk_at input.disks disk.0).limits) ∷ decimal x ∷ []

  abbrev pub side_words : DiskId → Side → ℕ → ℕ → List (List ℕ)
  side_words disk side l x = codes "bound" ∷ codes "side" ∷ disk_name input disk.0 ∷ side_word side ∷ decimal l ∷ decimal (side_limit side (disk_at input.disks disk.0).limits) ∷ decimal x ∷ []

  abbrev pub set_words : List DiskId → ℕ → ℕ → List (List ℕ)
  set_words set i x = codes "bound" ∷ codes "set" ∷ decimal (length set) ∷ decimal i ∷ decimal x ∷ []

  pub nothing_lacks : (c : ℕ) → c < 48 → AllByRecursion (Lacks c) nothing_words
  nothing_lacks c small = (bound_lacks c small, (((λ e. omega arith), ((λ e. omega arith), ((λ e. omega arith), ((λ e. omega arith), ((λ e. omega arith), ((λ e. omega arith), ((λ e. omega arith), tt))))))), tt))
    where
      bound_lacks : (c : ℕ) → c < 48 → Lacks c (codes "bound")
      bound_lacks c small = ((λ e. omega arith), ((λ e. omega arith), ((λ e. omega arith), ((λ e. omega arith), ((λ e. omega arith), tt)))))

  pub disk_limit : (v : ℕ) → v < length input.disks → most_ends (disk_at input.disks v).limits < 2 ^ 32
  disk_limit v there = omega (arith, ends_small (disk_at input.disks v).limits (limits_at input valid v there))

  pub one_side_limit : (side : Side) (v : ℕ) → v < length input.disks → side_limit side (disk_at input.disks v).limits < 2 ^ 32
  one_side_limit side v there = omega (arith, side_small side (disk_at input.disks v).limits (limits_at input valid v there))

  pub disk_words_lack : (c : ℕ) → c < 48 → is_name_byte c ≡ false → (disk : DiskId) (l x : ℕ) → disk.0 < length input.disks → l < 2 ^ 32 → x < 2 ^ 32 → AllByRecursion (Lacks c) (disk_words disk l x)
  disk_words_lack c small other disk l x there hl hx =
      let most = disk_limit disk.0 there in (
        (nothing_lacks c small).0,
        (
          ((λ e. omega arith), ((λ e. omega arith), ((λ e. omega arith), ((λ e. omega arith), tt)))),
          (
            disk_lacks input valid c disk.0 other there,
            (Lacks-decimal c l small (omega arith), (Lacks-decimal c _ small (omega (arith, most)), (Lacks-decimal c x small (omega arith), tt))),
          ),
        ),
      )

  pub side_words_lack : (c : ℕ) → c < 48 → is_name_byte c ≡ false → (disk : DiskId) (side : Side) (l x : ℕ) → disk.0 < length input.disks → l < 2 ^ 32 → x < 2 ^ 32 → AllByRecursion (Lacks c) (side_words disk side l x)
  side_words_lack c small other disk side l x there hl hx =
      let most = one_side_limit side disk.0 there in (
        (nothing_lacks c small).0,
        (
          ((λ e. omega arith), ((λ e. omega arith), ((λ e. omega arith), ((λ e. omega arith), tt)))),
          (
            disk_lacks input valid c disk.0 other there,
            (side_lacks c side (omega arith), (Lacks-decimal c l small (omega arith), (Lacks-decimal c _ small (omega (arith, most)), (Lacks-decimal c x small (omega arith), tt)))),
          ),
        ),
      )

  pub set_words_lack : (c : ℕ) → c < 48 → (set : List DiskId) (i x : ℕ) → length set < 2 ^ 32 → i < 2 ^ 32 → x < 2 ^ 32 → AllByRecursion (Lacks c) (set_words set i x)
  set_words_lack c small set i x few hi hx = (
    (nothing_lacks c small).0,
    (
      ((λ e. omega arith), ((λ e. omega arith), ((λ e. omega arith), tt))),
      (Lacks-decimal c (length set) small (omega arith), (Lacks-decimal c i small (omega arith), (Lacks-decimal c x small (omega arith), tt))),
    ),
  )

  pub same_disk : (a b : DiskId) → a.0 < length input.disks → b.0 < length input.disks → disk_name input a.0 ≡ disk_name input b.0 → a ≡ b
  same_disk a b ha hb e =
      let n : a.0 ≡ b.0 = same_place (λ (d : Disk). d.name) input.disks no_disk a.0 b.0 valid.disk_names ha hb e in
      λ k. record { 0 = n k }

  same_set : (xs ys : List DiskId) → AllByRecursion (λ disk. disk.0 < length input.disks) xs → AllByRecursion (λ disk. disk.0 < length input.disks) ys
      → map (λ disk. disk_name input disk.0) xs ≡ map (λ disk. disk_name input disk.0) ys → xs ≡ ys
  same_set [] [] hx hy e = refl
  same_set [] (y ∷ ys) hx hy e = absurd cc
  same_set (x ∷ xs) [] hx hy e = absurd cc
  same_set (x ∷ xs) (y ∷ ys) hx hy e =
      let head : x ≡ y = same_disk x y hx.0 hy.0 cc in
      let tail : xs ≡ ys = same_set xs ys hx.1 hy.1 cc in
      cc

  -- what a bound that is spelled keeps
  pub record IsSpelt (bound : Bound) : Type 0 where
    pub fits : BoundFits (transfer_graph input) bound
    pub load : stated_load bound < 2 ^ 32
    pub value : bound_value bound < 2 ^ 32
    pub few : length (bound_set bound) < 2 ^ 32

  -- the words of a bound's line
  abbrev bound_words : Bound → List (List ℕ)
  bound_words Nothing = nothing_words
  bound_words (OfDisk disk l x) = disk_words disk l x
  bound_words (OfSide disk side l x) = side_words disk side l x
  bound_words (OfSet set i x) = set_words set i x

  words_some : (b : Bound) → 0 < length (bound_words b)
  words_some Nothing = omega arith
  words_some (OfDisk disk l x) = omega arith
  words_some (OfSide disk side l x) = omega arith
  words_some (OfSet set i x) = omega arith

  words_lack : (b : Bound) → IsSpelt b → AllByRecursion (Lacks 32) (bound_words b)
  words_lack Nothing h = nothing_lacks 32 (omega arith)
  words_lack (OfDisk disk l x) h = disk_words_lack 32 (omega arith) refl disk l x h.fits h.load h.value
  words_lack (OfSide disk side l x) h = side_words_lack 32 (omega arith) refl disk side l x h.fits h.load h.value
  words_lack (OfSet set i x) h = set_words_lack 32 (omega arith) set i x h.few h.load h.value

  first_line : (b : Bound) → (rest : List (List ℕ)) × (bound_lines input b ++ codes "end" ∷ [] ≡ words (bound_words b) ∷ rest)
  first_line Nothing = (_, refl)
  first_line (OfDisk disk l x) = (_, refl)
  first_line (OfSide disk side l x) = (_, refl)
  first_line (OfSet set i x) = (_, refl)

  -- the words of a bound by their number: 2, 6, 7 and 5
  apart : {m n : ℕ} {us vs : List (List ℕ)} → us ≡ vs → length us ≡ m → length vs ≡ n → m ≢ n → ⊥
  apart e a b ne = ne (sym a ∙ ap (λ (ws : List (List ℕ)). length ws) e ∙ b)

  same_by_words : (a b : Bound) → IsSpelt a → IsSpelt b → bound_words a ≡ bound_words b → bound_lines input a ++ codes "end" ∷ [] ≡ bound_lines input b ++ codes "end" ∷ [] → a ≡ b
  same_by_words Nothing Nothing ha hb w e = refl
  same_by_words Nothing (OfDisk disk l x) ha hb w e = absurd (apart w refl refl (λ n. omega (arith, n)))
  same_by_words Nothing (OfSide disk side l x) ha hb w e = absurd (apart w refl refl (λ n. omega (arith, n)))
  same_by_words Nothing (OfSet set i x) ha hb w e = absurd (apart w refl refl (λ n. omega (arith, n)))
  same_by_words (OfDisk disk l x) Nothing ha hb w e = absurd (apart w refl refl (λ n. omega (arith, n)))
  same_by_words (OfDisk disk l x) (OfDisk disk' l' x') ha hb w e =
      let name : disk ≡ disk' = same_disk disk disk' ha.fits hb.fits cc in
      let a = ha.load in
      let b = hb.load in
      let c = ha.value in
      let d = hb.value in
      let load : l ≡ l' = decimal_injective l l' (omega (arith, a)) (omega (arith, b)) cc in
      let value : x ≡ x' = decimal_injective x x' (omega (arith, c)) (omega (arith, d)) cc in
      λ k. OfDisk (name k) (load k) (value k)
  same_by_words (OfDisk disk l x) (OfSide disk' side l' x') ha hb w e = absurd (apart w refl refl (λ n. omega (arith, n)))
  same_by_words (OfDisk disk l x) (OfSet set i y) ha hb w e = absurd (apart w refl refl (λ n. omega (arith, n)))
  same_by_words (OfSide disk side l x) Nothing ha hb w e = absurd (apart w refl refl (λ n. omega (arith, n)))
  same_by_words (OfSide disk side l x) (OfDisk disk' l' x') ha hb w e = absurd (apart w refl refl (λ n. omega (arith, n)))
  same_by_words (OfSide disk side l x) (OfSide disk' side' l' x') ha hb w e =
      let name : disk ≡ disk' = same_disk disk disk' ha.fits hb.fits cc in
      let which : side ≡ side' = same_side_word side side' cc in
      let a = ha.load in
      let b = hb.load in
      let c = ha.value in
      let d = hb.value in
      let load : l ≡ l' = decimal_injective l l' (omega (arith, a)) (omega (arith, b)) cc in
      let value : x ≡ x' = decimal_injective x x' (omega (arith, c)) (omega (arith, d)) cc in
      λ k. OfSide (name k) (which k) (load k) (value k)
  same_by_words (OfSide disk side l x) (OfSet set i y) ha hb w e = absurd (apart w refl refl (λ n. omega (arith, n)))
  same_by_words (OfSet set i x) Nothing ha hb w e = absurd (apart w refl refl (λ n. omega (arith, n)))
  same_by_words (OfSet set i y) (OfDisk disk l x) ha hb w e = absurd (apart w refl refl (λ n. omega (arith, n)))
  same_by_words (OfSet set i y) (OfSide disk side l x) ha hb w e = absurd (apart w refl refl (λ n. omega (arith, n)))
  same_by_words (OfSet set i x) (OfSet set' i' x') ha hb w e =
      let tail : map (λ disk. disk_name input disk.0) set ++ codes "end" ∷ [] ≡ map (λ disk. disk_name input disk.0) set' ++ codes "end" ∷ [] = cc in
      let a = ha.load in
      let b = hb.load in
      let c = ha.value in
      let d = hb.value in
      let few = ha.few in
      let few' = hb.few in
      let count : length set ≡ length set' = decimal_injective _ _ (omega (arith, few)) (omega (arith, few')) cc in
      let load : i ≡ i' = decimal_injective i i' (omega (arith, a)) (omega (arith, b)) cc in
      let value : x ≡ x' = decimal_injective x x' (omega (arith, c)) (omega (arith, d)) cc in
      let names = same_front (map (λ (disk : DiskId). disk_name input disk.0) set) (map (λ (disk : DiskId). disk_name input disk.0) set') (codes "end" ∷ []) (codes "end" ∷ []) (length-map set (λ (disk : DiskId). disk_name input disk.0) ∙ count ∙ sym (length-map set' (λ (disk : DiskId). disk_name input disk.0))) tail in
      let sets : set ≡ set' = same_set set set' (recursion_from_All _ set ha.fits) (recursion_from_All _ set' hb.fits) names.0 in
      λ k. OfSet (sets k) (load k) (value k)

  pub same_bound : (a b : Bound) → IsSpelt a → IsSpelt b → bound_lines input a ++ codes "end" ∷ [] ≡ bound_lines input b ++ codes "end" ∷ [] → a ≡ b
  same_bound a b ha hb e =
      let fa = first_line a in
      let fb = first_line b in
      let both : words (bound_words a) ∷ fa.0 ≡ words (bound_words b) ∷ fb.0 = sym fa.1 ∙ e ∙ fb.1 in
      let line : words (bound_words a) ≡ words (bound_words b) = cc in
      same_by_words a b ha hb (same_line (bound_words a) (bound_words b) (words_some a) (words_some b) (words_lack a ha) (words_lack b hb) line) e

  names_lack : (set : List DiskId) → AllByRecursion (λ disk. disk.0 < length input.disks) set → AllByRecursion (Lacks 10) (map (λ disk. disk_name input disk.0) set)
  names_lack [] h = tt
  names_lack (x ∷ xs) h = (disk_lacks input valid 10 x.0 refl h.0, names_lack xs h.1)

  bound_lines_lack : (b : Bound) → IsSpelt b → AllByRecursion (Lacks 10) (bound_lines input b)
  bound_lines_lack Nothing h = (Lacks-words 10 nothing_words (λ e. omega arith) (nothing_lacks 10 (omega arith)), tt)
  bound_lines_lack (OfDisk disk l x) h = (Lacks-words 10 (disk_words disk l x) (λ e. omega arith) (disk_words_lack 10 (omega arith) refl disk l x h.fits h.load h.value), tt)
  bound_lines_lack (OfSide disk side l x) h = (Lacks-words 10 (side_words disk side l x) (λ e. omega arith) (side_words_lack 10 (omega arith) refl disk side l x h.fits h.load h.value), tt)
  bound_lines_lack (OfSet set i x) h =
      (Lacks-words 10 (set_words set i x) (λ e. omega arith) (set_words_lack 10 (omega arith) set i x h.few h.load h.value), names_lack set (recursion_from_All _ set h.fits))

  pub cert_lines_lack : (a : Cert) → IsCert a → IsSpelt a.bound → AllByRecursion (Lacks 10) (cert_lines input a)
  cert_lines_lack a kept spelt = (
    title_lacks (is_duplex input.disks),
    (
      number_lacks (codes "rounds") a.rounds rounds_word_lacks_end kept.rounds,
      (
        number_lacks (codes "quotient") a.quotient (lacks_test 10 (codes "quotient") refl) kept.quotient,
        (
          Lacks-words 10 (codes "class" ∷ class_word a.class ∷ []) (λ e. omega arith) (lacks_test 10 (codes "class") refl, (class_lacks 10 a.class (omega arith), tt)),
          lines_append input valid (bound_lines input a.bound) (codes "end" ∷ []) (bound_lines_lack a.bound spelt) (end_lacks, tt),
        ),
      ),
    ),
  )
    where
      title_lacks : (b : Bool) → Lacks 10 (cond b (codes "migration-certificate 2") (codes "migration-certificate 1"))
      title_lacks true = lacks_test 10 (codes "migration-certificate 2") refl
      title_lacks false = lacks_test 10 (codes "migration-certificate 1") refl

  -- a set of disks of the input, each listed once, has at most as many as there are
  pub few_in_set : (set : List DiskId) (low : ℕ) → AllPairs (λ a b. a.0 < b.0) set → All (λ disk. disk.0 < length input.disks) set → All (λ disk. low ≤ disk.0) set → (length set ≡ 0) × (0 ≤ low) ⊎ (low + length set ≤ length input.disks)
  few_in_set [] low inc there least = inl (refl, omega arith)
  few_in_set (x ∷ xs) low inc there least = inr (bound (few_in_set xs (x.0 + 1) (λ i j d lt h. inc (suc i) (suc j) d (omega arith) (omega arith)) (λ k d h. there (suc k) d (omega arith)) (λ k d h. let lt = inc 0 (suc k) d (omega arith) (omega arith) in omega (arith, lt))))
    where
      bound : (length xs ≡ 0) × (0 ≤ x.0 + 1) ⊎ (x.0 + 1 + length xs ≤ length input.disks) → low + length (x ∷ xs) ≤ length input.disks
      bound (inl none) = let a = there 0 x (omega arith) in let b = least 0 x (omega arith) in let c = none.0 in omega (arith, a, b, c)
      bound (inr rest) = let b = least 0 x (omega arith) in omega (arith, b, rest)

  pub spelt : (a : Cert) (bytes : List ℕ) → CertText input a bytes → IsSpelt a.bound
  spelt a bytes h = record { fits = h.fits.disks; load = h.kept.load; value = h.kept.value; few = few a.bound h.fits.disks h.kept.set }
    where
      few : (b : Bound) → BoundFits (transfer_graph input) b → AllPairs (λ x y. x.0 < y.0) (bound_set b) → length (bound_set b) < 2 ^ 32
      few Nothing fits inc = omega arith
      few (OfDisk disk l x) fits inc = omega arith
      few (OfSide disk side l x) fits inc = omega arith
      few (OfSet set i x) fits inc = either (few_in_set set 0 inc fits (λ k d h. omega arith))
        where
          either : (length set ≡ 0) × (0 ≤ 0) ⊎ (0 + length set ≤ length input.disks) → length set < 2 ^ 32
          either (inl none) = let c = none.0 in omega (arith, c)
          either (inr most) = let d = valid.few_disks in omega (arith, d, most)

  pub same_cert : (a b : Cert) (bytes : List ℕ) → CertText input a bytes → CertText input b bytes → a ≡ b
  same_cert a b bytes ha hb =
      let sa = spelt a bytes ha in
      let sb = spelt b bytes hb in
      let lines : cert_lines input a ≡ cert_lines input b = same_lines _ _ (cert_lines_lack a ha.kept sa) (cert_lines_lack b hb.kept sb) (sym ha.lines ∙ hb.lines) in
      let second : words (codes "rounds" ∷ decimal a.rounds ∷ []) ≡ words (codes "rounds" ∷ decimal b.rounds ∷ []) = cc in
      let third : words (codes "quotient" ∷ decimal a.quotient ∷ []) ≡ words (codes "quotient" ∷ decimal b.quotient ∷ []) = cc in
      let fourth : words (codes "class" ∷ class_word a.class ∷ []) ≡ words (codes "class" ∷ class_word b.class ∷ []) = cc in
      let rest : bound_lines input a.bound ++ codes "end" ∷ [] ≡ bound_lines input b.bound ++ codes "end" ∷ [] = cc in
      let rounds : a.rounds ≡ b.rounds = same_number (codes "rounds") _ _ rounds_word_lacks ha.kept.rounds hb.kept.rounds second in
      let quotient : a.quotient ≡ b.quotient = same_number (codes "quotient") _ _ (lacks_test 32 (codes "quotient") refl) ha.kept.quotient hb.kept.quotient third in
      let class : a.class ≡ b.class = same_class a.class b.class fourth in
      let bound : a.bound ≡ b.bound = same_bound a.bound b.bound sa sb rest in
      λ k. record { rounds = rounds k; quotient = quotient k; class = class k; bound = bound k }
