-- Every definition of specs/ that a call or survey comes to, opened at once: an example says `unfolding everything` and computes.
use Rattle.words.specs.Tests.{all_hold, some_holds, all_occur, distinct}
use Rattle.legs.specs.Legs.{measure_in_range}
use Rattle.legs.specs.Minutes.{hundredths_of, angles_in_range}
use Rattle.legs.specs.Positions.{position_by, is_permutation}
use Rattle.tickets.specs.Tickets.{all_well_made, well_made}
use Rattle.tickets.specs.Steps.{swap_tried, value_noted, settled, step_of}
use Rattle.edits.specs.Edits.{listed_targets}
use Rattle.edits.specs.Ranges.{edit_in_range, edit_repeats}
use Rattle.edits.specs.Opened.{insert_by, ordered_by, opened_ticket}
use Rattle.edits.specs.Views.{all_in_book, view_in_range, view_repeats, opened_view}
use Rattle.frames.specs.Numbers.{numbers16, fields64}
use Rattle.frames.specs.Requests.{length_fits, add_in, correct_in, strike_in, move_in, add_in_minutes, correct_in_minutes, edit_of_kind, angles_of_kind, request_of_kind, request_in}
use Rattle.frames.specs.Answers.{answer_frame}
use Rattle.frames.specs.Writing.{request_frame}
use Rattle.calls.specs.Call.{refusal_checks, refusal_of, request_done, done_of, sent_of, call_of}
use Rattle.calls.specs.Loading.{load_checks, load_refusal, load_of}
use Rattle.calls.specs.Survey.{survey_from, survey_under}

unfoldable pub everything : Unit {0}
unfolding all_hold some_holds all_occur distinct measure_in_range position_by is_permutation all_well_made well_made swap_tried value_noted settled step_of listed_targets edit_in_range edit_repeats insert_by ordered_by opened_ticket all_in_book view_in_range view_repeats opened_view numbers16 fields64 length_fits add_in correct_in strike_in move_in hundredths_of angles_in_range add_in_minutes correct_in_minutes edit_of_kind angles_of_kind request_of_kind request_in answer_frame request_frame refusal_checks refusal_of request_done done_of sent_of call_of load_checks load_refusal load_of survey_from survey_under
everything = tt
