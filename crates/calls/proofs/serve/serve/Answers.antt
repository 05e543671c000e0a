-- `calls::serve::serve` meets its contract: what each call's routine did is what the call is to do.
use Rattle.std.proofs.Common.{refl, rules}
use Rattle.rules.specs.declared.routine.Routine.TheVariants.{Open, Close, Delete, Read, Write, Size, WriteZeros, TestWrite, Lock, Unlock}
use Rattle.calls.specs.Drives.{uses_count}
use Rattle.calls.proofs.Serving.{serving, told_beside, beside-any, beside-run, beside_make, beside_rename}
use Rattle.calls.proofs.serve.serve.Goals as goal

pub returns-in-Open : goal.returns-in-Open
unfolding uses_count
returns-in-Open c = told_beside _ _ _ _ _ _ c.answer_of.ensures (beside-any _ Open _ _ _ _ _ _ _ c.in-Open.is refl c.open_file.ensures (search rules))

pub returns-in-Close : goal.returns-in-Close
unfolding uses_count
returns-in-Close c = told_beside _ _ _ _ _ _ c.answer_of-in-Close.ensures (beside-any _ Close _ _ _ _ _ _ _ c.in-Close.is refl c.close_file.ensures (search rules))

pub returns-in-SearchFirst : goal.returns-in-SearchFirst
unfolding uses_count
returns-in-SearchFirst c = search serving

pub returns-in-SearchNext : goal.returns-in-SearchNext
unfolding uses_count
returns-in-SearchNext c = search serving

pub returns-in-Delete : goal.returns-in-Delete
unfolding uses_count
returns-in-Delete c = told_beside _ _ _ _ _ _ c.answer_of-in-Delete.ensures (beside-any _ Delete _ _ _ _ _ _ _ c.in-Delete.is refl c.delete_file.ensures.0 c.delete_file.ensures.1)

pub returns-in-Make : goal.returns-in-Make
unfolding uses_count
returns-in-Make c = told_beside _ _ _ _ _ _ c.answer_of-in-Make.ensures (beside_make _ _ _ _ _ _ _ _ (search rules) (search rules) (search rules) c.in-Make.is c.make_file.ensures)

pub returns-in-Rename : goal.returns-in-Rename
unfolding uses_count
returns-in-Rename c = told_beside _ _ _ _ _ _ c.answer_of-in-Rename.ensures (beside_rename _ _ _ _ _ _ _ _ (search rules) (search rules) (search rules) c.in-Rename.is c.rename_file.ensures)

pub returns-in-Read : goal.returns-in-Read
unfolding uses_count
returns-in-Read c = told_beside _ _ _ _ _ _ c.answer_of-in-Read.ensures (beside-any _ Read _ _ _ _ _ _ _ c.in-Read.is refl c.read_random.ensures (search rules))

pub returns-in-Write : goal.returns-in-Write
unfolding uses_count
returns-in-Write c = told_beside _ _ _ _ _ _ c.answer_of-in-Write.ensures (beside-any _ Write _ _ _ _ _ _ _ c.in-Write.is refl c.write.ensures.0 c.write.ensures.1)

pub returns-in-Size : goal.returns-in-Size
unfolding uses_count
returns-in-Size c = told_beside _ _ _ _ _ _ c.answer_of-in-Size.ensures (beside-any _ Size _ _ _ _ _ _ _ c.in-Size.is refl c.file_size.ensures (search rules))

pub returns-in-WriteZeros : goal.returns-in-WriteZeros
unfolding uses_count
returns-in-WriteZeros c = told_beside _ _ _ _ _ _ c.answer_of-in-WriteZeros.ensures (beside-any _ WriteZeros _ _ _ _ _ _ _ c.in-WriteZeros.is refl c.write-in-WriteZeros.ensures.0 c.write-in-WriteZeros.ensures.1)

pub returns-in-TestWrite : goal.returns-in-TestWrite
unfolding uses_count
returns-in-TestWrite c = told_beside _ _ _ _ _ _ c.answer_of-in-TestWrite.ensures (beside-any _ TestWrite _ _ _ _ _ _ _ c.in-TestWrite.is refl c.test_write.ensures.0 c.test_write.ensures.1)

pub returns-in-Lock : goal.returns-in-Lock
unfolding uses_count
returns-in-Lock c = told_beside _ _ _ _ _ _ c.answer_of-in-Lock.ensures (beside-run _ Lock _ _ _ _ _ _ _ c.in-Lock.is c.lock_records.ensures (search rules))

pub returns-in-Unlock : goal.returns-in-Unlock
unfolding uses_count
returns-in-Unlock c = told_beside _ _ _ _ _ _ c.answer_of-in-Unlock.ensures (beside-run _ Unlock _ _ _ _ _ _ _ c.in-Unlock.is c.unlock_records.ensures (search rules))

pub returns-in-FreeSpace : goal.returns-in-FreeSpace
unfolding uses_count
returns-in-FreeSpace c = search serving

pub returns-in-Terminate : goal.returns-in-Terminate
unfolding uses_count
returns-in-Terminate c = search serving
