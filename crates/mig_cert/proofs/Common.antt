-- The names that the proofs of this crate cite, passed on from one place. Declares nothing.
pub use Rattle.mig_base.proofs.CertSpelling.{cert_lines_lack, disk_words_lack, nothing_lacks, same_side_word, side_words_lack, spelt}
pub use Rattle.mig_base.proofs.Common.{All, All-push, AllByRecursion, Bool, BoundFits, CertText, Err, FitsAlong, FitsLine, IfOk, InputLists}
pub use Rattle.mig_base.proofs.Common.{IsDiskSet, IsInput, IsLine, IsMisfit, List, MatchOption, MatchResult-weaker, None, Ok, Option, Result, Some}
pub use Rattle.mig_base.proofs.Common.{Stops, [], ap, append-nil, append_assoc, arith, bound_lines, bound_set, cases_lt, cert_lines, cert_title}
pub use Rattle.mig_base.proofs.Common.{class_word, codes, cond, decimal, decimal_injective, disk_name, drop, false, get_or, inl, inr, is_duplex}
pub use Rattle.mig_base.proofs.Common.{is_ok, length, length-append, length-decimal-le, map, no_disk, not, pieces, refl, subst, suc, sym}
pub use Rattle.mig_base.proofs.Common.{text_of_lines, transfer_graph, true, words, ℕ, ◌*◌, ◌++◌, ◌+◌, ◌-◌, ◌<◌, ◌^◌, ◌∙◌, ◌∷◌, ◌≡◌, ◌≢◌, ◌≤◌}
pub use Rattle.mig_base.proofs.KeptLimits.{ends_small, limits_at, side_small}
pub use Rattle.mig_base.proofs.Separators.{Lacks, Lacks-decimal, same_words}
pub use Rattle.mig_base.proofs.Spelling.{lacks_test, same_place}
pub use Rattle.mig_base.specs.Bounding.{bound_value, stated_load}
pub use Rattle.mig_base.specs.CertLines.{CertLine, CertNext, CertPlace, End, Kind, Last, Member, Over, Quotient, Rounds, Shown, Title, before_members, members_after}
pub use Rattle.mig_base.specs.Certificates.{CertFits, IsOfKind, is_duplex_class}
pub use Rattle.mig_base.specs.Texts.{BoundLine, Empty, IsCert, Many, One, OneSide, bound_line, line_of, side_word}
pub use Rattle.mig_base.specs.declared.certs.Bound.{Bound}
pub use Rattle.mig_base.specs.declared.certs.Bound.TheVariants.{Nothing, OfDisk, OfSet, OfSide}
pub use Rattle.mig_base.specs.declared.certs.Cert.{Cert}
pub use Rattle.mig_base.specs.declared.certs.Class.{Class}
pub use Rattle.mig_base.specs.declared.certs.Side.{Side}
pub use Rattle.mig_base.specs.declared.certs.Side.TheVariants.{Incoming, Outgoing}
pub use Rattle.mig_base.specs.declared.ids.DiskId.{DiskId}
pub use Rattle.mig_base.specs.declared.inputs.Disk.{Disk}
pub use Rattle.mig_base.specs.declared.limits.TheConstants.{MAX_DISKS, MAX_FILE_BYTES}
pub use Rattle.mig_cert.specs.BoundParts.{IsBoundLine, IsMemberLine, bound_words, limit_of, line_of_head, side_limit_of}
pub use Rattle.mig_cert.specs.CertParts.{IsBoundRead, IsCertOpened, IsClassLine}
pub use Rattle.mig_cert.specs.MemberParts.{AreMembersPart}
pub use Rattle.mig_cert.specs.Prints.{bound_text, member_lines, opening_lines, opening_text}
pub use Rattle.mig_cert.specs.declared.bounds.Head.{Head}
pub use Rattle.mig_text.proofs.LineWords.{line_is, words_are, words_of}
pub use Rattle.mig_text.proofs.Places.{Leads-append, no_misfit, pieces_of_lines}
pub use Rattle.mig_text.proofs.PlanLengths.{text_append, text_cons, word_cons}
pub use Rattle.mig_text.proofs.PlanReads.{text_from_pieces}
pub use Rattle.mig_text.proofs.Stops.{later_stops, miss_stops, took_next, took_one}
pub use Rattle.mig_text.specs.Reads.{EndsWrong, IfLine, IsCountUpTo, IsMiss, IsStop, Left, Took, TookAll}
pub use Rattle.mig_text.specs.declared.errors.TextError.{TextError}
pub use Rattle.std.proofs.lemmas.Result.{err_from_is_err_and}
