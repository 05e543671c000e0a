-- The rows in their order.
use Rattle.std.proofs.Common.{rules, sym, ◌∙◌}
use Rattle.rules.proofs.Sound.{image_long}
use Rattle.packcall.proofs.Calling.{none_applies}
use Rattle.packcall.proofs.call.refusal.Goals as goal

pub of-requires : goal.of-requires
of-requires c =
    (image_long _ _ (sym c.sound_index.ensures.answer ∙ c.if-not-sound_index.false), c.sound_index.ensures.knows c.if-not-sound_index.false)

pub returns : goal.returns
returns c = search none_applies
