use Rattle.mig_csv.proofs.Common.{ThreeFiles, arith, err_from_is_err_and}
use Rattle.mig_csv.proofs.Whole.{Accepted-roomy, refusal_of_room}
use Rattle.mig_csv.proofs.Tight.{read_of, refusal_of_tight}
use Rattle.mig_csv.proofs.inputs.read_input.Goals as goal

pub returns-in_err-input-clause-refused : goal.returns-in_err-input-clause-refused
returns-in_err-input-clause-refused c = grind (arith, err_from_is_err_and, refusal_of_tight)

pub returns-in_err-check_room-clause-refused : goal.returns-in_err-check_room-clause-refused
returns-in_err-check_room-clause-refused c =
    let fs : ThreeFiles = record { disks = c.args.disks.now; now = c.args.now.now; next = c.args.next.now } in
    let p = err_from_is_err_and c.from_residual-in_err-check_room.result c.from_residual-in_err-check_room.ensures.1 in
    rw (p.1, p.2) (refusal_of_room fs c.in_ok-input.input _ (read_of fs c.in_ok-input.input c.in_ok-input.ensures.accepted) c.in_err-check_room.ensures.lacking)

pub returns-clause-accepted : goal.returns-clause-accepted
returns-clause-accepted c =
    let fs : ThreeFiles = record { disks = c.args.disks.now; now = c.args.now.now; next = c.args.next.now } in
    Accepted-roomy fs c.in_ok-input.input (read_of fs c.in_ok-input.input c.in_ok-input.ensures.accepted) c.in_ok-check_room.ensures.roomy
