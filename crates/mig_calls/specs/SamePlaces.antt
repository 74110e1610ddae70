-- Equal files are the same.
use Rattle.mig_calls.specs.contracts.places.PlacePartialEq.TheImpl.{eq-value}
use Rattle.mig_calls.specs.declared.places.Place.{Place}
use Rattle.mig_calls.specs.declared.places.Place.TheVariants.{Disk, Journal}
use Rattle.std.proofs.Common.{ap, refl, sym}
use Rattle.std.specs.Prelude.{true, ◌≡◌}
use Rattle.std.proofs.lemmas.Bool.{false≢true}
use Rattle.std.specs.Cmp.Lexicographic.{same_text}

pub same_places : (p q : Place) → eq-value.it p q ≡ true → p ≡ q
same_places (Disk d) (Disk e) is = ap Disk (same_text d e (sym is))
same_places Journal Journal is = refl
same_places (Disk d) Journal is = absurd (false≢true is)
same_places Journal (Disk e) is = absurd (false≢true is)
