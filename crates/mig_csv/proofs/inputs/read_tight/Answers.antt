use Rattle.mig_csv.proofs.Common.{AcceptedTight, AcceptedTight-IsInput, InputLists, ThreeFiles, arith, err_from_is_err_and, sym, ◌∙◌}
use Rattle.mig_csv.proofs.Whole.{clean_next, clean_now, listed_of, none_missing, refusal_of_disks, refusal_of_missing, refusal_of_next, refusal_of_now}
use Rattle.mig_csv.proofs.Tight.{accepted_tight, disks_other, missing_other, next_other, now_other, tight_refusal}
use Rattle.mig_csv.proofs.inputs.read_tight.Goals as goal
use Rattle.mig_csv.proofs.inputs.read_tight.Goals.{In_ok-next}

pub returns-in_err-listed-clause-refused : goal.returns-in_err-listed-clause-refused
returns-in_err-listed-clause-refused c = grind (arith, err_from_is_err_and, tight_refusal, disks_other, refusal_of_disks)

pub returns-in_err-layout-clause-refused : goal.returns-in_err-layout-clause-refused
returns-in_err-layout-clause-refused c =
    let fs : ThreeFiles = record { disks = c.args.disks.now; now = c.args.now.now; next = c.args.next.now } in
    let p = err_from_is_err_and c.from_residual-in_err-layout.result c.from_residual-in_err-layout.ensures.1 in
    let d = c.in_ok-listed.ensures in
    let fault = c.in_err-layout.ensures.fault in
    rw (p.1, p.2) (tight_refusal fs _ (now_other _ fs.now _ fault) (refusal_of_now fs _ _ d.value d.sound fault))

pub returns-in_err-places-clause-refused : goal.returns-in_err-places-clause-refused
returns-in_err-places-clause-refused c =
    let fs : ThreeFiles = record { disks = c.args.disks.now; now = c.args.now.now; next = c.args.next.now } in
    let p = err_from_is_err_and c.from_residual-in_err-places.result c.from_residual-in_err-places.ensures.1 in
    let d = c.in_ok-listed.ensures in
    let n = c.in_ok-layout.ensures in
    let fault = c.in_err-places.ensures.fault in
    rw (p.1, p.2) (tight_refusal fs _ (next_other _ _ fs.next _ fault) (refusal_of_next fs _ c.in_ok-layout.layout.names _ d.value (sym n.names ∙ n.items) d.sound (clean_now fs _ d.value n.sound) fault))

pub returns-in_err-next-clause-refused : goal.returns-in_err-next-clause-refused
returns-in_err-next-clause-refused c =
    let fs : ThreeFiles = record { disks = c.args.disks.now; now = c.args.now.now; next = c.args.next.now } in
    let p = err_from_is_err_and c.from_residual-in_err-next.result c.from_residual-in_err-next.ensures.1 in
    let d = c.in_ok-listed.ensures in
    let n = c.in_ok-layout.ensures in
    let x = c.in_ok-places.ensures in
    let names = c.in_ok-layout.layout.names in
    let those = sym n.names ∙ n.items in
    let missing = c.in_err-next.ensures.missing in
    rw (p.1, p.2) (tight_refusal fs _ (missing_other _ _ missing) (refusal_of_missing fs _ names c.deref.result.now _ those d.sound (clean_now fs _ d.value n.sound) (clean_next fs _ names d.value those x.sound)
    (rw (← c.deref.ensures.value) at x.value) missing))

-- what the files list, and that nothing but room may be wrong with them
abbrev bodies : goal.In_ok-next → ThreeFiles
bodies c = record { disks = c.args.disks.now; now = c.args.now.now; next = c.args.next.now }

abbrev lists : goal.In_ok-next → InputLists
lists c = record { disks = c.in_ok-listed.listed.disks.items; items = c.in_ok-layout.layout.items.items; spots = c.in_ok-layout.layout.spots.items; next = c.in_ok-next.next.items }

accepted : (c : goal.In_ok-next) → AcceptedTight (bodies c) (lists c)
accepted c =
    let fs = bodies c in
    let i = lists c in
    let d = c.in_ok-listed.ensures in
    let n = c.in_ok-layout.ensures in
    let x = rw (← n.names) at c.in_ok-places.ensures in
    let filled = sym c.deref.ensures.value ∙ c.in_ok-next.ensures.value in
    accepted_tight fs i (record {
      disks = d.sound;
      now = clean_now fs i.disks d.value n.sound;
      next = clean_next fs i.disks i.items d.value n.items x.sound;
      missing = none_missing fs i.disks i.items c.in_ok-places.places.items i.next n.items x.value filled;
      listed = listed_of fs i c.in_ok-places.places.items d.value n.items n.spots x.value filled;
    })

pub input_of-requires : goal.input_of-requires
input_of-requires c = AcceptedTight-IsInput (bodies c) (lists c) (accepted c)

pub returns-clause-accepted : goal.returns-clause-accepted
returns-clause-accepted c = rw c.input_of.ensures (accepted (goal.at.returns-clause-accepted c).In_ok-next)
