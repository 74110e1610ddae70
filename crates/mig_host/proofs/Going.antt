-- How calls of the system follow one another.
use Rattle.std.proofs.Common.{ℕ, ◌≤◌, arith}
use Rattle.mig_host.specs.Systems.{Fact, Finds, Goes, SystemState}

pub goes_then : (a b c : SystemState) → Goes a b → Goes b c → Goes a c
goes_then a b c first then = record {
  later = omega (arith, first.later, then.later);
  keeps = λ fact t was. then.keeps fact t (first.keeps fact t was);
}

pub finds_then : (a b c : SystemState) (fact : Fact) → Finds a b fact → Goes b c → Finds a c fact
finds_then a b c fact found then = λ t le. then.keeps fact t (found t le)

pub then_finds : (a b c : SystemState) (fact : Fact) → Goes a b → Finds b c fact → Finds a c fact
then_finds a b c fact first found = λ t le. found t (omega (arith, le, first.later))
