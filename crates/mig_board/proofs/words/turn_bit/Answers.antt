use Rattle.mig_board.proofs.Bits.{TurnsBit-from}
use Rattle.mig_board.proofs.words.turn_bit.Goals as goal

pub returns : goal.returns
returns c = TurnsBit-from c.args.words.now c.args.number c.requires
