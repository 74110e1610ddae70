-- What was found at a path, and what is then opened there.
use Rattle.std.proofs.Common.{List, subst, sym, ℕ, ◌≡◌}
use Rattle.mig_host.specs.Systems.{Absent, Bare, Finds, Goes, IsBareAt, IsFoundAt, IsKindOf, IsOpenedAt, Led, SystemState, stat_node}
use Rattle.mig_host.specs.declared.identity.PathKind.{PathKind}
use Rattle.mig_host.specs.declared.identity.PathKind.TheVariants as found
use Rattle.mig_host.specs.declared.system.FileIdentity.{FileIdentity}
use Rattle.mig_host.specs.declared.system.FileIdentity.TheVariants.{Device}
use Rattle.mig_host.specs.declared.system.Stat.{Stat}
use Rattle.mig_host.proofs.Going.{finds_then, then_finds}

pub kind_found : (a b : SystemState) (path : List ℕ) (s : Stat) → Finds a b (Led path (stat_node s)) → (f : PathKind) → IsKindOf s f → IsFoundAt a b path f
kind_found a b path s led found.Nothing is = absurd is
kind_found a b path s led found.File is = tt
kind_found a b path s led (found.Device number) is = subst (λ (node : FileIdentity). Finds a b (Led path node)) is led

pub bare_found : (a b c : SystemState) (path : List ℕ) → Finds a b (Absent path) → Goes a b → Goes b c → (f : PathKind) → IsBareAt b c path f → IsFoundAt a c path f
bare_found a b c path absent first then found.Nothing is = (finds_then a b c (Absent path) absent then, then_finds a b c (Bare path) first is)
bare_found a b c path absent first then found.File is = absurd is
bare_found a b c path absent first then (found.Device number) is = absurd is

pub opened_led : (a b c : SystemState) (path : List ℕ) (node : FileIdentity) → Goes a b → Goes b c → (f : PathKind) → IsFoundAt a b path f → IsOpenedAt b c path node f → Finds a c (Led path node)
opened_led a b c path node first then found.Nothing was is = absurd is
opened_led a b c path node first then found.File was is = then_finds a b c (Led path node) first is
opened_led a b c path node first then (found.Device number) was is =
    finds_then a b c (Led path node) (subst (λ (n : FileIdentity). Finds a b (Led path n)) (sym is) was) then
