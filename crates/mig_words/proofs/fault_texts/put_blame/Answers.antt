use Rattle.mig_words.proofs.PutTexts.{blamed}
use Rattle.mig_words.proofs.fault_texts.put_blame.Goals as goal

pub returns-in-EmptyRound : goal.returns-in-EmptyRound
returns-in-EmptyRound g c = blamed c.args.name.now c.in-EmptyRound.is c.put_parts.ensures

pub returns-in-NotHere : goal.returns-in-NotHere
returns-in-NotHere g c = blamed c.args.name.now c.in-NotHere.is c.put_item.ensures

pub returns-in-SlotNotFree : goal.returns-in-SlotNotFree
returns-in-SlotNotFree g c = blamed c.args.name.now c.in-SlotNotFree.is c.put_item-in-SlotNotFree.ensures

pub returns-in-OverLimit : goal.returns-in-OverLimit
returns-in-OverLimit g c = blamed c.args.name.now c.in-OverLimit.is c.put_over_limit.ensures

pub returns-in-WrongEnd : goal.returns-in-WrongEnd
returns-in-WrongEnd g c = blamed c.args.name.now c.in-WrongEnd.is c.put_parts-in-WrongEnd.ensures

pub returns-in-RoundsDiffer : goal.returns-in-RoundsDiffer
returns-in-RoundsDiffer g c = blamed c.args.name.now c.in-RoundsDiffer.is c.put_differ.ensures

pub returns-in-QuotientDiffers : goal.returns-in-QuotientDiffers
returns-in-QuotientDiffers g c = blamed c.args.name.now c.in-QuotientDiffers.is c.put_differ-in-QuotientDiffers.ensures

pub returns-in-ClassDiffers : goal.returns-in-ClassDiffers
returns-in-ClassDiffers g c = blamed c.args.name.now c.in-ClassDiffers.is (let e = c.put.ensures in record { extended = e.extended; in_part = e.in_part; later = e.later; failed = e.failed })

pub returns-in-LoadDiffers : goal.returns-in-LoadDiffers
returns-in-LoadDiffers g c = blamed c.args.name.now c.in-LoadDiffers.is c.put_differ-in-LoadDiffers.ensures
