-- Document 01's listing, computed from the definition of the whole program: the bytes of this crate's stdin give those of its stdout.
use mathlib.Core.Path.{◌≡◌, refl}
use mathlib.Core.List.{List, [], ◌∷◌}
use Prim.Native.Nat.{ℕ}
use Rattle.numbers.specs.Number.{value_after, digits}
use Rattle.message.specs.Cue.{cue_in, cue_with}
use Rattle.message.specs.Section.{entries, flat, section, section_from, after, all, rises}
use Rattle.message.specs.Message.{bytes_with, meaning_with}
use Rattle.message.specs.Question.{in_range, window_fits, hosts_fit, read_refusal}
use Rattle.end.specs.Sound.{all_below, sound_of}
use Rattle.end.specs.Round.{factor, share}
use Rattle.end.specs.Names.{filled, lacking, rise_with}
use Rattle.end.specs.Records.{record_at}
use Rattle.end.specs.Decide.{decide_data, reached, decide_reply, decide_round, decide_request, decide_express, decide_repair, decide_as, apply, effect_of, step_at}
use Rattle.end.specs.Session.{all_reported, measured, session_of}
use Rattle.end.specs.Arrival.{message_step}
use Rattle.end.specs.Fire.{fold_up, earliest, fire_at, fired}
use Rattle.end.specs.Event.{moved_end, move_of, act_of, step_of, question_of, event_of}
use Rattle.end.specs.Arrival.{arrival_of}
use Rattle.end.specs.Opening.{open_refusal, opening_of}
use Rattle.decimal.specs.Decimal.{figures, decimal, signed_decimal, all_digits, well_written, unsigned_word, signed_word, value_after as numberAfter}
use Rattle.script.specs.Words.{onto, words, same}
use Rattle.script.specs.Line.{later_verb, plain_verb, verb_with, line_in, line_of}
use Rattle.answers.specs.AnswerLine.{answer_words, answer_line}
use Rattle.player.specs.Play.{turn_of, played_of}
use Rattle.player.specs.House.{printed_line, prints_from, house_of}

-- the script, line by line
abbrev pub script : List ℕ
script =
    48 ∷ 32 ∷ 106 ∷ 111 ∷ 105 ∷ 110 ∷ 32 ∷ 48 ∷ 10 ∷
    48 ∷ 32 ∷ 106 ∷ 111 ∷ 105 ∷ 110 ∷ 101 ∷ 100 ∷ 32 ∷ 48 ∷ 10 ∷
    49 ∷ 32 ∷ 106 ∷ 111 ∷ 105 ∷ 110 ∷ 32 ∷ 48 ∷ 10 ∷
    49 ∷ 32 ∷ 106 ∷ 111 ∷ 105 ∷ 110 ∷ 101 ∷ 100 ∷ 32 ∷ 48 ∷ 10 ∷
    48 ∷ 32 ∷ 115 ∷ 101 ∷ 110 ∷ 100 ∷ 32 ∷ 49 ∷ 48 ∷ 32 ∷ 45 ∷ 50 ∷ 10 ∷
    49 ∷ 32 ∷ 104 ∷ 101 ∷ 97 ∷ 114 ∷ 32 ∷ 49 ∷ 50 ∷ 32 ∷ 48 ∷ 10 ∷
    48 ∷ 32 ∷ 115 ∷ 101 ∷ 110 ∷ 100 ∷ 32 ∷ 50 ∷ 48 ∷ 32 ∷ 45 ∷ 50 ∷ 10 ∷
    48 ∷ 32 ∷ 115 ∷ 101 ∷ 110 ∷ 100 ∷ 32 ∷ 51 ∷ 48 ∷ 32 ∷ 45 ∷ 50 ∷ 10 ∷
    49 ∷ 32 ∷ 104 ∷ 101 ∷ 97 ∷ 114 ∷ 32 ∷ 51 ∷ 50 ∷ 32 ∷ 50 ∷ 10 ∷
    49 ∷ 32 ∷ 102 ∷ 105 ∷ 114 ∷ 101 ∷ 32 ∷ 51 ∷ 57 ∷ 49 ∷ 10 ∷
    49 ∷ 32 ∷ 102 ∷ 105 ∷ 114 ∷ 101 ∷ 32 ∷ 51 ∷ 57 ∷ 50 ∷ 10 ∷
    48 ∷ 32 ∷ 104 ∷ 101 ∷ 97 ∷ 114 ∷ 32 ∷ 52 ∷ 48 ∷ 48 ∷ 32 ∷ 51 ∷ 10 ∷
    48 ∷ 32 ∷ 102 ∷ 105 ∷ 114 ∷ 101 ∷ 32 ∷ 53 ∷ 54 ∷ 48 ∷ 10 ∷
    49 ∷ 32 ∷ 104 ∷ 101 ∷ 97 ∷ 114 ∷ 32 ∷ 53 ∷ 55 ∷ 48 ∷ 32 ∷ 52 ∷ 10 ∷ []

-- what is printed, line by line
abbrev pub prints : List ℕ
prints =
    48 ∷ 32 ∷ 48 ∷ 32 ∷ 100 ∷ 111 ∷ 110 ∷ 101 ∷ 10 ∷
    48 ∷ 32 ∷ 48 ∷ 32 ∷ 100 ∷ 111 ∷ 110 ∷ 101 ∷ 10 ∷
    49 ∷ 32 ∷ 48 ∷ 32 ∷ 100 ∷ 111 ∷ 110 ∷ 101 ∷ 10 ∷
    49 ∷ 32 ∷ 48 ∷ 32 ∷ 100 ∷ 111 ∷ 110 ∷ 101 ∷ 10 ∷
    48 ∷ 32 ∷ 49 ∷ 48 ∷ 32 ∷ 111 ∷ 117 ∷ 116 ∷ 32 ∷ 48 ∷ 10 ∷
    49 ∷ 32 ∷ 49 ∷ 50 ∷ 32 ∷ 103 ∷ 111 ∷ 116 ∷ 32 ∷ 48 ∷ 32 ∷ 48 ∷ 32 ∷ 45 ∷ 50 ∷ 10 ∷
    48 ∷ 32 ∷ 50 ∷ 48 ∷ 32 ∷ 111 ∷ 117 ∷ 116 ∷ 32 ∷ 49 ∷ 10 ∷
    48 ∷ 32 ∷ 51 ∷ 48 ∷ 32 ∷ 111 ∷ 117 ∷ 116 ∷ 32 ∷ 50 ∷ 10 ∷
    49 ∷ 32 ∷ 51 ∷ 50 ∷ 32 ∷ 103 ∷ 111 ∷ 116 ∷ 32 ∷ 48 ∷ 32 ∷ 50 ∷ 32 ∷ 45 ∷ 50 ∷ 10 ∷
    49 ∷ 32 ∷ 51 ∷ 57 ∷ 49 ∷ 32 ∷ 110 ∷ 111 ∷ 116 ∷ 104 ∷ 105 ∷ 110 ∷ 103 ∷ 10 ∷
    49 ∷ 32 ∷ 51 ∷ 57 ∷ 50 ∷ 32 ∷ 111 ∷ 117 ∷ 116 ∷ 32 ∷ 51 ∷ 10 ∷
    48 ∷ 32 ∷ 52 ∷ 48 ∷ 48 ∷ 32 ∷ 100 ∷ 111 ∷ 110 ∷ 101 ∷ 10 ∷
    48 ∷ 32 ∷ 53 ∷ 54 ∷ 48 ∷ 32 ∷ 111 ∷ 117 ∷ 116 ∷ 32 ∷ 52 ∷ 10 ∷
    49 ∷ 32 ∷ 53 ∷ 55 ∷ 48 ∷ 32 ∷ 103 ∷ 111 ∷ 116 ∷ 32 ∷ 48 ∷ 32 ∷ 49 ∷ 32 ∷ 45 ∷ 50 ∷ 10 ∷ []

pub listing : house_of script ≡ prints
unfolding value_after digits cue_in cue_with entries flat section section_from after all rises bytes_with meaning_with in_range window_fits hosts_fit read_refusal all_below sound_of factor share filled lacking rise_with record_at decide_data reached decide_reply decide_round decide_request decide_express decide_repair decide_as apply effect_of step_at all_reported measured session_of message_step fold_up earliest fire_at fired moved_end move_of arrival_of act_of step_of question_of event_of open_refusal opening_of figures decimal signed_decimal all_digits well_written unsigned_word signed_word numberAfter onto words same plain_verb later_verb verb_with line_in line_of answer_words answer_line turn_of played_of printed_line prints_from
listing = refl
