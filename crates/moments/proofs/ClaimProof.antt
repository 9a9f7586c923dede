-- Every row of the tables, by computation from the definitions: on a fresh log from the history, on one by hand from the log itself.
use mathlib.Core.Path.{refl}
use Rattle.number.specs.Decimal.{decimal, value, plain_decimal}
use Rattle.escape.specs.Escape.{well_escaped, unescape}
use Rattle.console.specs.Console.{saved_fits, setting_fits, saved_by, turned_off, restored, turned_on, raised, level_set, set_to, minimum_set, with_minimum}
use Rattle.record.specs.Dictionary.{is_dictionary}
use Rattle.record.specs.Record.{cost}
use Rattle.record.specs.Heading.{heading_of, heading_bytes, heading_cost, heading_fits, record_heading, record_bytes}
use Rattle.ring.specs.Ring.{unrolled, wrapped, ring_put}
use Rattle.record.specs.Forms.{kmsg_entries, kmsg_header, kmsg_line, syslog_head, syslog_lines, syslog_form, syslog_forms}
use Rattle.eventlog.specs.View.{next_of, record_at}
use Rattle.eventlog.specs.Check.{numbers_fit, dictionary_bytes, record_fits, after, record_of, skipped, walked, records_in, offset_fits, finished, checked, marks_of, view_of, with_marks, ruled}
use Rattle.eventlog.specs.Excess.{excess}
use Rattle.store.specs.Write.{dropped_by, kept_by, written_log, written_buffer}
use Rattle.front.specs.Prefix.{has_prefix, prefix_in, after_prefix, not_kernel, without_newline}
use Rattle.savedtrail.specs.Save.{save_by, saving}
use Rattle.writes.specs.Write.{outside_record, box_record, outside_ruling, box_ruling, write_by, outside_write, box_write}
use Rattle.kmsg.specs.Read.{line_at, read_ruling, read_refused, read_done, read_by, seek_ruling, seek_place, seek_by, seeking}
use Rattle.kmsg.specs.Read.{reading as kmsgReading}
use Rattle.forms.specs.Copy.{onward}
use Rattle.syslog.specs.Command.{from_number, from_offset, unread_records, unread, copied, moved, since_clear, last_of, command_ruling, marks_after, given, count, command_by, commanding}
use Rattle.syslog.specs.Minimum.{minimum_ruling, minimum_by, setting_minimum}
use Rattle.history.specs.Calls.{step, state_after}
use Rattle.history.specs.Past.{first_held, held, past_write, past_step, past_after, fresh_past}
use Rattle.header.specs.Header.{header, fields, field, lacks_header, lacks_number}
use Rattle.message.specs.Message.{body, lines, text, continuations, dictionary, is_long, is_unended, has_wrong_byte, has_wrong_entry, is_bulky, refusal, reading}
use Rattle.message.specs.Line.{line_refusal, read_line}
use Rattle.board.specs.Board.{fresh, lacks_room, board_refusal, show, deliver}
use Rattle.moments.specs.Case.{AllAgree, done, ◌and◌}
use Rattle.moments.specs.Table.{t1, t2, t3, t4, t5, t6, t7, t8, t9, t10, t11, t12, last_line, TableAgrees}
use Rattle.moments.specs.Refusals.{refusals, readers-refused, writes_refused, zeros_refused, commands_refused}
use Rattle.moments.specs.Pages.{pages, prefixes, from-box, seeks, goes_on, mark_passed, mark_passed_by_4, none_of_dropped, console_8, console_6, console_7, overtaken_end}
use Rattle.moments.specs.Bytes.{stored, in_front, with_dictionary, only-marks, only-setting, text-over, start-over, heading-over, dictionary-over, just_full, full_goes_on, position-stays}
use Rattle.moments.specs.Pairs.{together, eperm_before_einval, efault_between, eperm_alone}
use Rattle.moments.specs.Console.{anthem, nothing-saved, twice, set-between, more_between, under_five, below_it, minimum-refused, without_privilege, levels}
use Rattle.moments.specs.Lines.{sheets, five_texts, team_sheet, cut-lines, last-lines, longest_form}
use Rattle.moments.specs.Fragments.{fragments, in_pieces, fragments-refused, flag-stored}
use Rattle.moments.specs.Callers.{who_wrote, caller-stored, caller-over, callers}
use Rattle.moments.specs.Claim.{Claim}
use Rattle.moments.proofs.CaseLaws.{is_timed, past_outcome, sight, on-fresh, past_changes, changed, on-changes, listed, past_numbers, sight_left, lying_left, on_any}
use Rattle.moments.proofs.LyingLaws.{laid, lying_write, lying_step, lying_after}

-- what the rows are computed by, named once for all tables; each table is a declaration, since the prover counts its steps by declaration
unfoldable the_definitions : Unit {0}
unfolding saved_fits setting_fits saved_by turned_off restored turned_on raised level_set set_to minimum_set with_minimum minimum_ruling minimum_by setting_minimum save_by saving decimal value plain_decimal well_escaped unescape is_dictionary cost heading_of heading_bytes heading_cost heading_fits record_heading record_bytes unrolled wrapped ring_put kmsg_entries kmsg_header kmsg_line syslog_head syslog_lines syslog_form syslog_forms next_of record_at numbers_fit dictionary_bytes record_fits after record_of skipped walked records_in offset_fits finished checked marks_of view_of with_marks ruled excess dropped_by kept_by written_log written_buffer has_prefix prefix_in after_prefix not_kernel without_newline outside_record box_record outside_ruling box_ruling write_by outside_write box_write line_at read_ruling read_refused read_done read_by kmsgReading seek_ruling seek_place seek_by seeking from_number from_offset unread_records unread copied onward moved since_clear last_of command_ruling marks_after given count command_by commanding step state_after first_held held past_write past_step past_after fresh_past header fields field body lines text continuations dictionary is_long is_unended lacks_header lacks_number has_wrong_byte has_wrong_entry is_bulky refusal reading line_refusal read_line fresh lacks_room board_refusal show deliver is_timed past_outcome sight past_changes changed listed past_numbers sight_left lying_left laid lying_write lying_step lying_after
the_definitions = tt

-- T1 to T16
pub table_agrees : TableAgrees
unfolding the_definitions
table_agrees =
    on-fresh t1 refl
    and on-fresh t2 refl
    and on-fresh t3 refl
    and on-fresh t4 refl
    and on-fresh t5 refl
    and on-fresh t6 refl
    and on-fresh t7 refl
    and on-fresh t8 refl
    and on-fresh t9 refl
    and on-fresh t10 refl
    and on-fresh t11 refl
    and on-fresh t12 refl
    and refl
    and refl
    and refl
    and refl
    and on-fresh last_line refl
    and done

refusals_agree : AllAgree refusals
unfolding the_definitions
refusals_agree =
    refl
    and refl
    and refl
    and refl
    and on-fresh readers-refused refl
    and on-fresh writes_refused refl
    and on-fresh zeros_refused refl
    and on-fresh commands_refused refl
    and refl
    and refl
    and refl
    and refl
    and refl
    and refl
    and refl
    and refl
    and refl
    and refl
    and refl
    and refl
    and refl
    and refl
    and refl
    and refl
    and refl
    and refl
    and refl
    and refl
    and refl
    and refl
    and refl
    and refl
    and refl
    and refl
    and refl
    and refl
    and done

pages_agree : AllAgree pages
unfolding the_definitions
pages_agree =
    on-fresh prefixes refl
    and on-fresh from-box refl
    and on-fresh seeks refl
    and on-fresh goes_on refl
    and on-fresh mark_passed refl
    and on-fresh mark_passed_by_4 refl
    and on-fresh none_of_dropped refl
    and on-fresh console_8 refl
    and on-fresh console_6 refl
    and on-fresh console_7 refl
    and on-fresh overtaken_end refl
    and refl
    and refl
    and refl
    and refl
    and done

stored_agree : AllAgree stored
unfolding the_definitions
stored_agree =
    on_any in_front refl (λ f. refl)
    and on_any with_dictionary refl (λ f. refl)
    and on_any only-marks refl (λ f. refl)
    and on_any only-setting refl (λ f. refl)
    and on_any text-over refl (λ f. refl)
    and on_any start-over refl (λ f. refl)
    and on_any heading-over refl (λ f. refl)
    and on_any dictionary-over refl (λ f. refl)
    and on_any just_full refl (λ f. refl)
    and on_any full_goes_on refl (λ f. refl)
    and on_any position-stays refl (λ f. refl)
    and done

pairs_agree : AllAgree together
unfolding the_definitions
pairs_agree =
    refl
    and on-fresh eperm_before_einval refl
    and on-fresh efault_between refl
    and on-fresh eperm_alone refl
    and refl
    and refl
    and refl
    and refl
    and refl
    and refl
    and refl
    and refl
    and done

levels_agree : AllAgree levels
unfolding the_definitions
levels_agree =
    on-changes anthem refl
    and on-changes nothing-saved refl
    and on-changes twice refl
    and on-changes set-between refl
    and on-changes more_between refl
    and on-changes under_five refl
    and on-changes below_it refl
    and on-changes minimum-refused refl
    and on-changes without_privilege refl
    and refl
    and refl
    and refl
    and refl
    and refl
    and refl
    and refl
    and refl
    and done

sheets_agree : AllAgree sheets
unfolding the_definitions
sheets_agree =
    on-fresh five_texts refl
    and on-fresh team_sheet refl
    and on-fresh cut-lines refl
    and on-fresh last-lines refl
    and on-fresh longest_form refl
    and refl
    and refl
    and refl
    and refl
    and refl
    and done

fragments_agree : AllAgree fragments
unfolding the_definitions
fragments_agree =
    on-fresh in_pieces refl
    and on-fresh fragments-refused refl
    and on_any flag-stored refl (λ f. refl)
    and refl
    and refl
    and refl
    and refl
    and refl
    and done

callers_agree : AllAgree callers
unfolding the_definitions
callers_agree =
    on-fresh who_wrote refl
    and on_any caller-stored refl (λ f. refl)
    and on_any caller-over refl (λ f. refl)
    and refl
    and refl
    and refl
    and refl
    and refl
    and refl
    and refl
    and refl
    and refl
    and refl
    and done

pub all_agree : Claim
all_agree =
    record {
      moments = table_agrees;
      refused = refusals_agree;
      others = pages_agree;
      bytes = stored_agree;
      pairs = pairs_agree;
      console = levels_agree;
      syslog = sheets_agree;
      flags = fragments_agree;
      caller = callers_agree;
    }
