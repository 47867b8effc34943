-- One name that opens every definition that a row computes with: a declaration's own `unfolding` line is opened with it.
use Prim.Native.Nat.{ℕ}
use Rattle.numbers.specs.Number.{value_after, digits}
use Rattle.numbers.specs.Bits.{bit, with_bit}
use Rattle.message.specs.Cue.{cue_in, cue_with}
use Rattle.message.specs.Section.{entries, flat, section, section_from, after, all, rises}
use Rattle.message.specs.Message.{bytes_with, meaning_with}
use Rattle.message.specs.Question.{in_range, window_fits, hosts_fit, read_refusal, read_of, write_refusal, written_of, output_of}
use Rattle.end.specs.Sound.{all_below, sound_of}
use Rattle.end.specs.Round.{factor, share}
use Rattle.end.specs.Names.{filled, lacking, rise_with}
use Rattle.end.specs.Messages.{reports_below, echoes_below}
use Rattle.end.specs.Records.{record_at, attempt_at}
use Rattle.end.specs.Decide.{same_cue, decide_data, reached, decide_reply, decide_round, decide_request, decide_express, decide_repair, decide_as, apply, effect_of, step_at}
use Rattle.end.specs.Session.{all_reported, measured, reported_after, session_of}
use Rattle.end.specs.Fetch.{may_fetch, untried, nearest, try_of, fetch_of, may_answer, fetched_of, may_hand, late_of}
use Rattle.end.specs.Arrival.{message_step, arrival_of}
use Rattle.end.specs.Fire.{fold_up, earliest, fire_at, fired}
use Rattle.end.specs.Event.{moved_end, move_of, act_of, step_of, question_of, event_of}
use Rattle.end.specs.Why.{why_of}
use Rattle.end.specs.Opening.{open_refusal, opening_of}
use Rattle.end.specs.Book.{put, read_as, raised_to, reported_to, brought_to, among, first_of, not_below, is_some, kept, limits, gets, due_message, due, cleared_by, moved_book, file, higher, hand, bring, hears, after_message, after as after_call, is_got, book_after}
use Rattle.end.specs.Run.{result_of, sent_after, world_after, seen}
use Rattle.end.specs.Answer.{answer_of, buffer_of, read_off}
use Rattle.cases.specs.Shown.{returned, onlooked}

unfoldable pub opened : ℕ
unfolding value_after digits bit with_bit cue_in cue_with entries flat section section_from after all rises bytes_with meaning_with in_range window_fits hosts_fit read_refusal read_of write_refusal written_of output_of all_below sound_of factor share filled lacking rise_with reports_below echoes_below record_at attempt_at same_cue decide_data reached decide_reply decide_round decide_request decide_express decide_repair decide_as apply effect_of step_at all_reported measured reported_after session_of may_fetch untried nearest try_of fetch_of may_answer fetched_of may_hand late_of message_step fold_up earliest fire_at fired moved_end move_of arrival_of act_of step_of question_of event_of why_of open_refusal opening_of put read_as raised_to reported_to brought_to among first_of not_below is_some kept limits gets due_message due cleared_by moved_book file higher hand bring hears after_message after_call is_got book_after result_of sent_after world_after seen answer_of buffer_of returned read_off onlooked
opened = 0
