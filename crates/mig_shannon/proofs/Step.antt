-- One edge of a board, by a repaint or a walk.
use Rattle.mig_shannon.proofs.Common.{CanRepaint, Colour, Colouring, CopyId, EdgeId, Exchanges, HasNoCommon, IsFreeAt, IsMissing, IsPainted, IsPlain, IsPresent, IsProper, Joins, Leads, None}
use Rattle.mig_shannon.proofs.Common.{PaintsOne, PaintsOne-after, PaintsOne-painted, Recolours-repainted, Some, WalksTo, ap, arith, degree_of, degrees_of_three, end_cases, end_of}
use Rattle.mig_shannon.proofs.Common.{exchanges_plain, exchanges_start, exchanges_third, inl, inr, leads_back, painted_with, present_at_first, present_at_second, present_differs, refl}
use Rattle.mig_shannon.proofs.Common.{repainted_old, repainted_other, same_far, slice_get_within, subst, sym, walk_from_end, walk_unique, ℕ, ◌*◌, ◌+◌, ◌∙◌, ◌≡◌, ◌≢◌, ◌≤◌}
use Rattle.mig_shannon.proofs.Open.{walk_free}

-- ---- the repaint

pub beside_painted : (g : Colouring) (e f : EdgeId) (a c : Colour) → CanRepaint g e f a c → IsPainted g f
beside_painted g e f a c s = (a, s.beside.colour)

pub beside_free : (g : Colouring) (e f : EdgeId) (a c : Colour) → CanRepaint g e f a c → IsFreeAt g f c
beside_free g e f a c s = λ v w j.
    elim (end_cases g f s.second s.third v w s.beside.joins j) [
      | inl h ↦ subst (λ (q : CopyId). IsMissing g q c) (sym h) s.at_second
      | inr h ↦ subst (λ (q : CopyId). IsMissing g q c) (sym h) s.at_third
    ]

colours_differ : (g : Colouring) (e f : EdgeId) (a c : Colour) → CanRepaint g e f a c → a ≢ c
colours_differ g e f a c s = present_differs g s.second a c (f, s.third, s.beside) s.at_second

pub beside_plain : (g : Colouring) (e f : EdgeId) (a c : Colour) → CanRepaint g e f a c → IsPlain (painted_with g f c) e
beside_plain g e f a c s = (Recolours-repainted g f c (a, s.beside.colour)).plain e s.plain

pub beside_free_after : (g : Colouring) (e f : EdgeId) (a c : Colour) → CanRepaint g e f a c → IsFreeAt (painted_with g f c) e a
beside_free_after g e f a c s = λ v w j.
    elim (end_cases g e s.first s.second v w s.joins j) [
      | inl h ↦ subst (λ (q : CopyId). IsMissing (painted_with g f c) q a) (sym h) (repainted_other g s.first a c f (slice_get_within g.painted f.0 (Some a) s.beside.colour) s.lacks (colours_differ g e f a c s))
      | inr h ↦ subst (λ (q : CopyId). IsMissing (painted_with g f c) q a) (sym h) (repainted_old g s.proper s.second a c f s.third s.beside (colours_differ g e f a c s))
    ]

pub beside_done : (g : Colouring) (e f : EdgeId) (a c : Colour) → CanRepaint g e f a c → PaintsOne g (painted_with (painted_with g f c) e a) e
beside_done g e f a c s =
    PaintsOne-after g (painted_with g f c) (painted_with (painted_with g f c) e a) e (Recolours-repainted g f c (a, s.beside.colour))
    (PaintsOne-painted (painted_with g f c) e a (slice_get_within (painted_with g f c).painted e.0 None (beside_plain g e f a c s)))

-- ---- the walk

-- edge e has no colour and joins u and v, a is missing at u and b at v, none at both, and edge f of colour a leads from v to w
pub record IsFan (g : Colouring) (e : EdgeId) (u v : CopyId) (a b : Colour) (f : EdgeId) (w : CopyId) : Type 0 where
  pub proper : IsProper g
  pub joins : Joins g e u v
  pub plain : IsPlain g e
  pub lacks : IsMissing g u a
  pub has : IsMissing g v b
  pub none : HasNoCommon g u v
  pub beside : Leads g v a f w

fan_first : (g : Colouring) (e : EdgeId) (u v : CopyId) (a b : Colour) (f : EdgeId) (w : CopyId) → IsFan g e u v a b f w → w ≢ u
fan_first g e u v a b f w x = λ h. x.lacks.absent f v (subst (λ (q : CopyId). Leads g q a f v) h (leads_back x.beside))

fan_second : (g : Colouring) (e : EdgeId) (u v : CopyId) (a b : Colour) (f : EdgeId) (w : CopyId) → IsFan g e u v a b f w → w ≢ v
fan_second g e u v a b f w x = λ h. x.proper.no_loop f v w x.beside.joins (sym h)

-- some colour is missing at w and also at u, if at none it is at w and at v
pub fan_common : (g : Colouring) (e : EdgeId) (u v : CopyId) (a b : Colour) (f : EdgeId) (w : CopyId) → IsFan g e u v a b f w → (most : ℕ) → degree_of g u ≤ most → degree_of g v ≤ most → degree_of g w ≤ most → 3 * most ≤ 2 * g.colours + 1 → HasNoCommon g v w → HasNoCommon g u w → ⊥
fan_common g e u v a b f w x most du dv dw half vw uw =
    absurd (omega (arith, degrees_of_three g u v w e x.joins x.plain x.none uw vw))

-- ---- the walk from u does not end at v

pub free_by_walk : (g new : Colouring) (e : EdgeId) (u v : CopyId) (a b : Colour) (f : EdgeId) (w : CopyId) → IsFan g e u v a b f w → (c : Colour) (x y : CopyId) → IsMissing g u c → WalksTo g u c b x → x ≢ v → Exchanges g new u c b y → IsFreeAt new e b
free_by_walk g new e u v a b f w fan c x y mc walk away ex =
    let same : y ≡ x = sym ex.walk.end ∙ same_far g u c b x walk ex.walk.steps ex.walk.law.walk in
    walk_free g new e u v c b (record { at = record { proper = fan.proper; joins = fan.joins; plain = fan.plain }; lacks = mc; has = fan.has }) y (λ h. away (sym same ∙ h)) ex

-- ---- the walk from u ends at v: the walk from w ends at neither

not_at_first : (g : Colouring) (e : EdgeId) (u v : CopyId) (a b : Colour) (f : EdgeId) (w : CopyId) → IsFan g e u v a b f w → (c : Colour) → IsMissing g u c → WalksTo g u c b v → WalksTo g w c b u → ⊥
not_at_first g e u v a b f w fan c mc walk back =
    let r = walk_from_end g w c b u back c b (inl (refl, refl)) mc (present_at_first g u v b fan.none fan.has) in
    fan_second g e u v a b f w fan (sym r.2 ∙ same_far g u c b v walk r.0 r.1)

not_at_second : (g : Colouring) (e : EdgeId) (u v : CopyId) (a b : Colour) (f : EdgeId) (w : CopyId) → IsFan g e u v a b f w → (c : Colour) → IsMissing g u c → WalksTo g u c b v → WalksTo g w c b v → ⊥
not_at_second g e u v a b f w fan c mc walk back =
    let hc : IsPresent g v c = present_at_second g u v c fan.none mc in
    let r = walk_from_end g w c b v back b c (inr (refl, refl)) fan.has hc in
    let s = walk_from_end g u c b v walk b c (inr (refl, refl)) fan.has hc in
    fan_first g e u v a b f w fan (sym r.2 ∙ ap (end_of v) (walk_unique g fan.proper v b c r.0 s.0 r.1 s.1) ∙ s.2)

pub beside_by_walk : (g new : Colouring) (e : EdgeId) (u v : CopyId) (a b : Colour) (f : EdgeId) (w : CopyId) → IsFan g e u v a b f w → (c : Colour) (x y : CopyId) → IsMissing g u c → IsMissing g w c → WalksTo g u c b x → x ≡ v → Exchanges g new w c b y → IsProper new → CanRepaint new e f a b
beside_by_walk g new e u v a b f w fan c x y mc mw walk there ex proper =
    let to : WalksTo g u c b v = subst (λ (q : CopyId). WalksTo g u c b q) there walk in
    let not_u : y ≢ u = λ h. not_at_first g e u v a b f w fan c mc to (subst (λ (q : CopyId). WalksTo g w c b q) h ex.walk) in
    let not_v : y ≢ v = λ h. not_at_second g e u v a b f w fan c mc to (subst (λ (q : CopyId). WalksTo g w c b q) h ex.walk) in
    record {
      proper = proper;
      first = u;
      second = v;
      third = w;
      joins = subst (λ (q : Colouring). Joins q e u v) (sym ex.frame) fan.joins;
      plain = exchanges_plain g new w c b y ex e fan.plain;
      lacks = (ex.others u a (λ h. fan_first g e u v a b f w fan (sym h)) (λ h. not_u (sym h))).1 fan.lacks;
      beside = exchanges_third g new w c b y ex v a f w (present_differs g w a c (f, v, leads_back fan.beside) mw) (present_differs g v a b (f, w, fan.beside) fan.has) fan.beside;
      at_second = (ex.others v b (λ h. fan_second g e u v a b f w fan (sym h)) (λ h. not_v (sym h))).1 fan.has;
      at_third = exchanges_start g new w c b y ex mw;
    }
