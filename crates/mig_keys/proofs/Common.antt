-- The names that the proofs of this crate cite, passed on from one place. Declares nothing.
pub use Rattle.indexmap.specs.IndexSet.{IndexSet, IsUnique, insert_key}
pub use Rattle.mig_base.proofs.Common.{AreDifferent, Bool, Contains, List, MatchOption, None, Option, Some, [], ap, arith, cond, false, false≢true, get_or, get_or-take, is_some, length, length-take}
pub use Rattle.mig_base.proofs.Common.{list_any, refl, slice_get, slice_get-get_or, subst, sym, take, true, ℕ, ◌++◌, ◌<◌, ◌∙◌, ◌∷◌, ◌≡◌}
pub use Rattle.std.proofs.Common.{position}
pub use Rattle.std.proofs.lemmas.List.Quantifiers.{position-Some}
pub use Rattle.std.proofs.lemmas.Map.Made.{AllPairs-from_IsDistinct}
pub use Rattle.std.proofs.lemmas.Map.Views.{Contains-from_any, list_any-from_Contains}
pub use Rattle.std.specs.Cmp.{IsEquivalence}
