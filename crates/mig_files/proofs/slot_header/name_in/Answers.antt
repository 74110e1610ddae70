use Rattle.mig_files.proofs.Common.{List, ap, arith, header_of, length, slice_index, slice_range, ℕ, ◌+◌, ◌∙◌, ◌≡◌}
use Rattle.mig_files.proofs.Headers.{name_range, some_of}
use Rattle.mig_files.proofs.slot_header.name_in.Goals as goal

pub returns-then-count-gt32 : goal.returns-then-count-gt32
returns-then-count-gt32 c = λ item name is. absurd (omega (arith, name.short, ap (λ (l : List ℕ). slice_index l 1) is))

pub returns : goal.returns
returns c = λ item name is.
    let count : slice_index c.args.first.now 1 ≡ length item = ap (λ (l : List ℕ). slice_index l 1) is in
    some_of c.read.result _ item c.read.ensures.valid c.read.ensures.value
    (ap (λ (l : List ℕ). slice_range l 2 (2 + slice_index c.args.first.now 1)) is ∙ ap (λ (n : ℕ). slice_range (header_of item) 2 (2 + n)) count ∙ name_range item) name
