-- The names that the proofs of this crate cite, passed on from one place. Declares nothing.
pub use Rattle.mig_base.specs.declared.blames.Blame.{Blame}
pub use Rattle.mig_io.specs.Held.{Extends, ExtendsByPrefix, ExtendsInPart, SinkState}
pub use Rattle.mig_io.specs.declared.sink.SinkFailed.{SinkFailed}
pub use Rattle.mig_words.specs.Commands.{form_of}
pub use Rattle.mig_words.specs.Outcomes.{blame_pieces, cause_text, joined}
pub use Rattle.mig_words.specs.Puts.{Puts, part_text}
pub use Rattle.mig_words.specs.Words.{Form, IsFileWord, IsListed, texts}
pub use Rattle.mig_words.specs.declared.putting.TextPart.TheVariants.{Text}
pub use Rattle.std.proofs.Common.{Err, List, MatchOption, None, Ok, Option, Result, Some, [], ap, append_assoc, arith, codes, drop, false, get_or}
pub use Rattle.std.proofs.Common.{length, map, refl, rules, subst, suc, sym, take, true, ℕ, ◌++◌, ◌+◌, ◌<◌, ◌∙◌, ◌∷◌, ◌≡◌, ◌≢◌}
pub use Rattle.std.proofs.Math.Seq.{drop-cons, take-append-add, take-length}
pub use Rattle.std.proofs.lemmas.Grind.{flat_map-append}
pub use Rattle.std.proofs.lemmas.List.{append-nil, length-append, map-append, take-append-drop, take-append-le}
pub use Rattle.std.proofs.lemmas.Slice.Eq.{bytes_eq-Decides}
pub use Rattle.std.specs.List.{AllByRecursion}
pub use Rattle.std.specs.Option.{IfSome}
pub use Rattle.std.specs.Result.{IsErr}
pub use Rattle.std.specs.String.{string_bytes}
pub use Rattle.std.specs.declared.alloc.Global.{Global}
pub use Rattle.std.specs.declared.string.String.{String}
