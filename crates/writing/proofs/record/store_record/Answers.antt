-- The record's bytes are 128.
use Rattle.std.proofs.Common.{arith, length-take}
use Rattle.writing.proofs.record.store_record.Goals as goal

pub put_bytes-requires : goal.put_bytes-requires
put_bytes-requires c = simp length-take (omega arith)
