-- `calls::serve::serve_by` meets its contract: a run of records for 33, 34 and 40, else the call's routine.
use Rattle.std.proofs.Common.{refl, ap, rules}
use Rattle.rules.specs.Serves.{function_of}
use Rattle.several.specs.So.{write_number}
use Rattle.calls.proofs.Serving.{by_one, by_run, drive_at, serves_33, serves_34, serves_40, by_plain}
use Rattle.calls.proofs.serve.serve_by.Goals as goal
use Rattle.calls.proofs.serve.serve_by.Goals.{in_default-via-in-Read+else-several, in_default-via-in-Write+else-several-2, in_default-via-in-WriteZeros+else-several-3, in_default-via-in_default}

pub read_several-requires : goal.read_several-requires
unfolding function_of
read_several-requires c = (search rules, search rules, search rules, drive_at _ 33 _ (ap function_of c.in-Read.is) c.requires.4, search rules)

pub write_several-requires : goal.write_several-requires
unfolding function_of write_number
write_several-requires c =
    (search rules, search rules, search rules, drive_at _ 34 _ (ap function_of c.in-Write.is) c.requires.4, search rules, search rules)

pub write_several-requires-in-WriteZeros : goal.write_several-requires-in-WriteZeros
unfolding function_of write_number
write_several-requires-in-WriteZeros c =
    (search rules, search rules, search rules, drive_at _ 40 _ (ap function_of c.in-WriteZeros.is) c.requires.4, search rules, search rules)

pub returns-in-Read : goal.returns-in-Read
unfolding function_of
returns-in-Read c = by_run _ _ _ _ _ _ _ _ _ 33 c.if-several.true _ c.in-Read.is refl serves_33 c.read_several.ensures (search rules)

pub returns-in-Write : goal.returns-in-Write
unfolding function_of write_number
returns-in-Write c = by_run _ _ _ _ _ _ _ _ _ 34 c.if-several-2.true _ c.in-Write.is refl serves_34 c.write_several.ensures.0 c.write_several.ensures.1

pub returns-in-WriteZeros : goal.returns-in-WriteZeros
unfolding function_of write_number
returns-in-WriteZeros c =
    by_run _ _ _ _ _ _ _ _ _ 40 c.if-several-3.true _ c.in-WriteZeros.is refl serves_40 c.write_several-in-WriteZeros.ensures.0
    c.write_several-in-WriteZeros.ensures.1

pub returns-in_default : goal.returns-in_default
returns-in_default c =
    elim c.in_default.branch [
      | in_default-via-in-Read+else-several w ↦ by_one _ _ _ _ _ _ _ _ _ w.if-several.false c.serve.ensures
      | in_default-via-in-Write+else-several-2 w ↦ by_one _ _ _ _ _ _ _ _ _ w.if-several-2.false c.serve.ensures
      | in_default-via-in-WriteZeros+else-several-3 w ↦ by_one _ _ _ _ _ _ _ _ _ w.if-several-3.false c.serve.ensures
      | in_default-via-in_default w ↦ by_plain _ _ _ _ _ _ _ _ _ w.in_default.not-Read w.in_default.not-Write w.in_default.not-WriteZeros c.serve.ensures
    ]
