-- `calls::refuse::refused_in` meets its contract.
use Rattle.std.proofs.Common.{not, ap, sym, ◌∙◌}
use Rattle.rules.proofs.Sound.{image_long}
use Rattle.calls.proofs.Within.{within_vector, within_drive, within_none}
use Rattle.calls.proofs.refuse.refused_in.Goals as goal

pub of-requires : goal.of-requires
of-requires c =
    (image_long _ _ (sym c.sound_vector.ensures.answer ∙ c.if-not-sound_vector.false), c.sound_vector.ensures.knows c.if-not-sound_vector.false)

pub returns-then-not-same : goal.returns-then-not-same
returns-then-not-same c =
    let h = rw (c.of.ensures.0, c.of.ensures.1) at c.sound_list.ensures in
    within_vector _ _ _ _ _ _ _ _ _ c.sound_vector.ensures (ap not c.if-not-sound_vector.false) _ h
    (ap not c.if-not-sound_list.false) c.requires.0 _ c.same.ensures (ap not c.if-not-same.true)

pub returns-then-bad_drive : goal.returns-then-bad_drive
returns-then-bad_drive c =
    let h = rw (c.of.ensures.0, c.of.ensures.1) at c.sound_list.ensures in
    within_drive _ _ _ _ _ _ _ _ _ c.sound_vector.ensures (ap not c.if-not-sound_vector.false) _ h
    (ap not c.if-not-sound_list.false) c.requires.0 _ c.same.ensures (ap not c.if-not-same.false) _ c.bad_drive.ensures c.if-bad_drive.true

pub returns : goal.returns
returns c =
    let h = rw (c.of.ensures.0, c.of.ensures.1) at c.sound_list.ensures in
    within_none _ _ _ _ _ _ _ _ _ c.sound_vector.ensures (ap not c.if-not-sound_vector.false) _ h
    (ap not c.if-not-sound_list.false) c.requires.0 _ c.same.ensures (ap not c.if-not-same.false) _ c.bad_drive.ensures c.if-bad_drive.false
