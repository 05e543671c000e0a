-- `unfolding history` opens what the history tells, and `unfolding listed` the session as listed. Assumes nothing.
use Rattle.session.specs.Session.{session, orders, fcb_with, dma_with, first_image, first_list, image_with, unwritten, written_with, list_with, open_by, lock_by, none}
use Rattle.session.specs.Session.{list0, list1, list3, list11, list12, list13, image0, image2, image5, image13}
use Rattle.words.specs.Bytes.{are_bytes}
use Rattle.words.specs.Lists.{tally, without}
use Rattle.words.specs.Tests.{sum_below}
use Rattle.rules.specs.Drive.{is_numbered, is_in_use, blocks_in_use}
use Rattle.history.specs.History.{is_word, is_lendable, is_possible, are_possible, is_kept, forgetful, outcome_of, state_after, events_of, after, history_of}
use Rattle.history.specs.History.{outcome_after}
use Rattle.history.specs.Deeds.{file_by, new_by, deed_by, writes_run, deed}
use Rattle.history.specs.Held.{same_item, is_among, granting, granting_at, granting_run, is_by, holding, held_after}
use Rattle.history.specs.Groups.{same_group, is_counted, has_block, group_at, groups_below, groups_of, touching, touching_at, touching_run, of_file, carried}
use Rattle.history.specs.Groups.{counting, counted_after}
use Rattle.history.specs.Demands.{items_of, groups_by, is_item_at, items_by, figure_in, is_user_of, is_unheld}

-- the words of the history
unfoldable pub history : Unit {0}
unfolding are_bytes is_word is_lendable is_possible are_possible is_kept forgetful outcome_of state_after events_of after history_of outcome_after file_by new_by
    deed_by writes_run deed same_item tally is_among granting granting_at granting_run without is_by holding held_after same_group is_counted has_block
    is_numbered group_at groups_below groups_of is_in_use blocks_in_use touching touching_at touching_run of_file carried counting counted_after items_of groups_by
    is_item_at sum_below items_by figure_in is_user_of is_unheld
history = tt

-- the words of the session
unfoldable pub listed : Unit {0}
unfolding session orders fcb_with dma_with first_image first_list image_with unwritten written_with list_with open_by lock_by none list0 list1 list3 list11
    list12 list13 image0 image2 image5 image13
listed = tt
