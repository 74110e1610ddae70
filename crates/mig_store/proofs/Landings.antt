-- A loop that ends the copies in flight.
use Rattle.mig_store.proofs.Common.{AreFlights, Ends, Flight, Landing, Lands, List, Log, Memory, Some, Trouble, [], after_end, ap, arith, ends_then}
use Rattle.mig_store.proofs.Common.{flying, land_many, landed, length, length-append, length_permutation, moment_of, next_flight, pushed, refl}
use Rattle.mig_store.proofs.Common.{state_at, suc, sym, ℕ, ◌++◌, ◌+◌, ◌∙◌, ◌∷◌, ◌≡◌, NoCell, ends_quiet}
use Rattle.mig_store.proofs.Moments.{unrecorded}

-- so many copies ended
pub record HaveLanded (old new : Log) (i : ℕ) : Type 0 where
  pub these : List Flight
  pub ends : (a b : ℕ) → Ends these (state_at old.first old.calls a) (state_at new.first new.calls b)
  pub calls : length new.calls ≡ length old.calls + i
  pub left : length (flying (moment_of new)) + i ≡ length (flying (moment_of old))
  pub first : new.first ≡ old.first
  pub room : new.room ≡ old.room

module _ (old : Log) where
  none_ends : (a b : ℕ) → Ends [] (state_at old.first old.calls a) (state_at old.first old.calls b)
  none_ends a b = ends_quiet (state_at old.first old.calls a) (state_at old.first old.calls b) (unrecorded NoCell NoCell old.first old.calls a b)

  pub landed_none : HaveLanded old old 0
  landed_none = record { these = []; ends = none_ends; calls = omega arith; left = omega arith; first = refl; room = refl }

  pub landed_more : (mid new : Log) (i : ℕ) (f : Flight) → AreFlights (flying (moment_of old)) → HaveLanded old mid i → new ≡ pushed mid (Lands f.from f.to)
      → ((a b : ℕ) → Ends (f ∷ []) (state_at mid.first mid.calls a) (state_at new.first new.calls b)) → HaveLanded old new (i + 1)
  landed_more mid new i f are sofar value one = record {
    these = sofar.these ++ f ∷ [];
    ends = λ a b. ends_then sofar.these (f ∷ []) (state_at old.first old.calls a) (state_at mid.first mid.calls a) (state_at new.first new.calls b) are (sofar.ends a a) (one a b);
    calls = omega (arith, ap (λ (l : Log). length l.calls) value, length-append mid.calls (Lands f.from f.to ∷ []), sofar.calls);
    left = omega (arith, sofar.left, length_permutation (flying (moment_of mid)) (f ∷ flying (moment_of new)) (one 0 0).others);
    first = ap (λ (l : Log). l.first) value ∙ sofar.first;
    room = ap (λ (l : Log). l.room) value ∙ sofar.room;
  }

pub landed_next : (old new : Log) (before after : Landing) (t : Trouble) (f : Flight) → new ≡ pushed old (Lands f.from f.to) → after ≡ after_end before → next_flight (record { log = old; landing = before; trouble = t }) ≡ Some f
    → (n : ℕ) (m : Memory) → record { log = old; landing = before; trouble = t } ≡ land_many n m → record { log = new; landing = after; trouble = t } ≡ land_many (n + 1) m
landed_next old new before after t f log landing next n m sofar =
    (λ i. record { log = log i; landing = landing i; trouble = t })
    ∙ sym (ap (landed (record { log = old; landing = before; trouble = t })) next)
    ∙ ap (λ (k : Memory). landed k (next_flight k)) sofar
    ∙ ap (λ (k : ℕ). land_many k m) (let e : suc n ≡ n + 1 = omega arith in e)
