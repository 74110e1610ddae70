-- What errors and absent values say.
use Rattle.mig_files.proofs.Common.{Err, IfNone, None, Ok, OnErr, Option, Result, subst, ◌≡◌}

-- a fact that each error says
pub err_any : {T E A : Type 0} (r : Result T E) → A → OnErr r A
err_any (Ok x) a = tt
err_any (Err e) a = a

pub none_of : {T A : Type 0} (o : Option T) → o ≡ None → IfNone o A → A
none_of {T} {A} o is says = subst (λ (p : Option T). IfNone p A) is says
