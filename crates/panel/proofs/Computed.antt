-- Every row of specs/Rows.antt holds, by computation alone.
use mathlib.Core.Path.{refl}
use Rattle.numbers.specs.Number.{value_after, digits}
use Rattle.message.specs.Cue.{cue_in}
use Rattle.message.specs.Section.{entries, flat, section, section_from, after, all, rises}
use Rattle.message.specs.Message.{bytes_with, meaning_with}
use Rattle.message.specs.Question.{in_range, window_fits, hosts_fit, read_refusal, read_of}
use Rattle.panel.specs.Answers.{verdict_of, cue_test_of, data_refusal, data_answer, data_output}
use Rattle.panel.specs.Rows.{Hold, verdict_rows, cue_rows, writer_rows, OutputRows}

pub verdicts_hold : Hold verdict_rows
unfolding verdict_rows verdict_of read_of read_refusal in_range window_fits hosts_fit meaning_with entries section_from after all rises cue_in value_after
verdicts_hold = (refl, (refl, (refl, (refl, (refl, (refl, (refl, (refl, (refl, (refl, tt))))))))))

pub cues-hold : Hold cue_rows
unfolding cue_rows cue_test_of cue_in value_after
cues-hold = (refl, (refl, (refl, (refl, (refl, (refl, (refl, (refl, (refl, (refl, tt))))))))))

pub writers_hold : Hold writer_rows
unfolding writer_rows data_answer data_refusal in_range window_fits hosts_fit all rises cue_in value_after
writers_hold = (refl, (refl, (refl, (refl, (refl, (refl, (refl, (refl, (refl, (refl, (refl, tt)))))))))))

pub outputs_hold : OutputRows
unfolding data_output data_refusal in_range window_fits hosts_fit all rises cue_in value_after bytes_with flat section digits
outputs_hold = (refl, refl, refl)
