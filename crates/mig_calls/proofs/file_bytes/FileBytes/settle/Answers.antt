use Rattle.mig_calls.proofs.Common.{arith, get_or, get_or_default, length, map_over_more, no_byte, settled, ◌<◌}
use Rattle.mig_calls.proofs.file_bytes.FileBytes.settle.Goals as goal

pub loop-byte-preserved : goal.loop-byte-preserved
loop-byte-preserved c =
    let bytes = c.loop-byte.byte-items in
    let i = c.loop-byte.byte-index in
    let lt : i < length bytes = omega arith in
    map_over_more settled c.deref_mut-byte-items.result.now bytes i (get_or bytes i no_byte) c.loop-byte-test.true c.loop-byte.invariant
    (get_or_default bytes i no_byte (get_or bytes i no_byte) lt)
