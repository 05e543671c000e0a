-- `unfolding rules` opens every definition of the rules. Assumes nothing.
use Rattle.words.specs.Bits.{bits, bit_of, is_set, set_bit, is_clear, with_bit, clear_bit, without_bit}
use Rattle.words.specs.Bytes.{same_byte, is_zero, bytes_from, put, le, number_at, are_bytes}
use Rattle.words.specs.Lists.{tab, flat, passing, tally, without, turns}
use Rattle.words.specs.Tables.{only_if, first_of, any_row, none_zero}
use Rattle.words.specs.Tests.{◌and◌, ◌or◌, ◌if◌else◌, all, any, lowest, greatest, count, sum_below, lowest_or}
use Rattle.rules.specs.Asks.{caller_file, new_file, record_of, open_mode, make_mode}
use Rattle.rules.specs.Call.{decided, unless, asked_by, asked, rows_of, effect_of, rows_call, call, served}
use Rattle.rules.specs.Codes.{bad_numbers, bad_drive, rows_inside, rows_all, stands_against, stands_against_at, rows_new, rows15, rows22, rows16, opens_elsewhere_at, stops_delete, rows19, stops_rename, rows23, rows_there, rows33, rows_may, rows_room, rows34, rows35, differs, rows_differ, rows41, is_file_id, rows_run, no_extent, lacks, first_lacking, rows_lacking, is_others, is_new, rows_take, rows42, rows43}
use Rattle.rules.specs.Drive.{blocks, good_length, is_empty, map_number, map_place, legal_byte, legal_at, legal_name, same_low, is_named, file_from, file_at, is_of, is_entry, entry_of, highest_extent, look_up, missing, read_only, free_entry, block_in, block_of, record_at, holds_number, names_block, is_used, is_numbered, is_in_use, blocks_in_use, is_free, free_block, free_blocks, good_user, good_numbers, good_fields, in_range, named_before, is_first, is_repeat, good_entry, has_first, sound_directory, sound_image, reasons, reason, bad_for, is_bad, bad_entry, judged, lacks_first, headless, is_sound, directory_answer, image_check, fault_number, image_number, fault_entry, image_entry, image_told}
use Rattle.rules.specs.Effects.{is_any, admits_byte, admits_extent, is_match, is_match_from, match_from, finds, finds_none, searched, does17, does18, fcb_mapped, fcb_numbered, fcb_opened, placed, opened, made_entry, made, does15, makes, does22, erased_at, erased, low_changed, renamed_at, renamed, does23, spot_at, new_entry, entered, mapped, counted, cleared, stored, written, contents, does33, does34, does41, size_of, file_size, does35, is_of_file, unless_of_file, closed, is_in_run, unless_in_run, unlocked_run, unless_by, without_by, terminated, does16, closed_where, does19, does143, locked_at, locked_run, does42, does43, does46}
use Rattle.rules.specs.Kinds.{told_rule, told_kind, rule_of, same_rule, with_rule, is_large, block_size, block_records, fewest, most, vector_size, entries, highest, top, module_of, last_module, numbers, width}
use Rattle.rules.specs.Locks.{kind_of, first_mark, second_mark, moved_to, item_from, pack_item, item_in, unpack, pack, rule_in, same_name, same_file, opens_name, opens_file, locks_record, is_kind_by, opens_name_at, open_of, is_opened, opens_file_at, any_open, locks_record_at, is_others_lock, locked_by_other, is_own_lock, held, is_kind_by_at, opens_by, locks_by, is_empty_at, free_place, free_places, is_limit, is_user, is_low, good_empty, good_open, opens_unlocked, good_lock, good_item, good_place, stand_beside, clash, clash_at, is_apart, keeps_limits, is_position, is_rule, sound_locks, zero_at, sound_list, bad_start, rows_start, fresh_list, start_ends, start}
use Rattle.rules.specs.Look.{may_look, look_block, part_at, look_at, part_from, look}
use Rattle.rules.specs.Serves.{function_of, chosen, is_unknown, is_search}
use Rattle.rules.specs.Several.{serves_run, three_of, fcb_at, dma_at, single, back_at, goes_on, turn_at, several, singly, told, call_run, call_singly}
use Rattle.rules.specs.Told.{call_told, five_told, singly_five_told, build_told, start_told, check_told, look_told}
use Rattle.rules.specs.Vector.{is_taken, taken_from, vector_byte, vector_of, rows_build, build_ends, build, same_vector_byte, agrees, rows_vector, besides, call_five, singly_five}

unfoldable pub rules : Unit {0}
unfolding bits bit_of is_set set_bit is_clear with_bit clear_bit without_bit same_byte is_zero bytes_from put le number_at are_bytes tab flat passing tally without turns only_if first_of any_row none_zero ◌and◌ ◌or◌ ◌if◌else◌ all any lowest greatest count sum_below lowest_or caller_file new_file record_of open_mode make_mode decided unless asked_by asked rows_of effect_of rows_call call served bad_numbers bad_drive rows_inside rows_all stands_against stands_against_at rows_new rows15 rows22 rows16 opens_elsewhere_at stops_delete rows19 stops_rename rows23 rows_there rows33 rows_may rows_room rows34 rows35 differs rows_differ rows41 is_file_id rows_run no_extent lacks first_lacking rows_lacking is_others is_new rows_take rows42 rows43 blocks good_length is_empty map_number map_place legal_byte legal_at legal_name same_low is_named file_from file_at is_of is_entry entry_of highest_extent look_up missing read_only free_entry block_in block_of record_at holds_number names_block is_used is_numbered is_in_use blocks_in_use is_free free_block free_blocks good_user good_numbers good_fields in_range named_before is_first is_repeat good_entry has_first sound_directory sound_image reasons reason bad_for is_bad bad_entry judged lacks_first headless is_sound directory_answer image_check fault_number image_number fault_entry image_entry image_told is_any admits_byte admits_extent is_match is_match_from match_from finds finds_none searched does17 does18 fcb_mapped fcb_numbered fcb_opened placed opened made_entry made does15 makes does22 erased_at erased low_changed renamed_at renamed does23 spot_at new_entry entered mapped counted cleared stored written contents does33 does34 does41 size_of file_size does35 is_of_file unless_of_file closed is_in_run unless_in_run unlocked_run unless_by without_by terminated does16 closed_where does19 does143 locked_at locked_run does42 does43 does46 told_rule told_kind rule_of same_rule with_rule is_large block_size block_records fewest most vector_size entries highest top module_of last_module numbers width kind_of first_mark second_mark moved_to item_from pack_item item_in unpack pack rule_in same_name same_file opens_name opens_file locks_record is_kind_by opens_name_at open_of is_opened opens_file_at any_open locks_record_at is_others_lock locked_by_other is_own_lock held is_kind_by_at opens_by locks_by is_empty_at free_place free_places is_limit is_user is_low good_empty good_open opens_unlocked good_lock good_item good_place stand_beside clash clash_at is_apart keeps_limits is_position is_rule sound_locks zero_at sound_list bad_start rows_start fresh_list start_ends start may_look look_block part_at look_at part_from look function_of chosen is_unknown is_search serves_run three_of fcb_at dma_at single back_at goes_on turn_at several singly told call_run call_singly call_told five_told singly_five_told build_told start_told check_told look_told is_taken taken_from vector_byte vector_of rows_build build_ends build same_vector_byte agrees rows_vector besides call_five singly_five
rules = tt
