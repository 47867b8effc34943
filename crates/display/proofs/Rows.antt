-- The rows of specs/Rows.antt, and openings that are refused, computed.
use mathlib.Core.Path.{◌≡◌, refl}
use Prim.Native.Nat.{ℕ}
use Rattle.numbers.specs.Number.{value_after, digits}
use Rattle.numbers.specs.Bits.{bit, with_bit}
use Rattle.message.specs.Cue.{cue_in}
use Rattle.message.specs.Section.{entries, flat, section, section_from, after, all, rises}
use Rattle.message.specs.Entry.{as_host}
use Rattle.message.specs.Message.{bytes_with, meaning_with}
use Rattle.message.specs.Question.{in_range, window_fits, hosts_fit}
use Rattle.message.specs.declared.Verdict.TheVariants.{Accepted, Refused}
use Rattle.display_window.specs.Window.{raised, received, is_new, lost_by, lowest_clear, lowest_missing}
use Rattle.display.specs.declared.OpenedDisplay.{OpenedDisplay}
use Rattle.display.specs.Display.{sound_of, fresh, opening_of}
use Rattle.display.specs.Hear.{heard_in}
use Rattle.display.specs.Request.{step_of}
use Rattle.display.specs.Call.{question_of, event_of}
use Rattle.display.specs.Rows.{rows, heard_rows, foreseen_rows, steps, steps_give, probed, probed_gives, old_heard, old_gives, refused_as, numbers}

-- one name that opens every definition that a row computes with
unfoldable pub computed : ℕ
unfolding value_after digits bit with_bit cue_in entries flat section section_from after all rises bytes_with meaning_with in_range window_fits hosts_fit sound_of raised received is_new lost_by heard_in lowest_clear lowest_missing step_of question_of event_of
computed = 0

pub as_foreseen : heard_rows rows ≡ foreseen_rows rows
unfolding heard_rows foreseen_rows rows computed
as_foreseen = refl

pub steps-give : steps ≡ steps_give
unfolding steps steps_give computed
steps-give = refl

pub old_kinds : old_heard ≡ old_gives
unfolding old_heard old_gives computed
old_kinds = refl

pub probe-passed : probed ≡ probed_gives
unfolding computed
probe-passed = refl

pub refused_as_lem : refused_as ≡ numbers
unfolding refused_as computed
refused_as_lem = refl

abbrev refused : OpenedDisplay
refused = record { verdict = Refused 12; display = fresh (as_host 0) (as_host 1) }

pub opens : opening_of (as_host 3) (as_host 1) ≡ record { verdict = Accepted; display = fresh (as_host 3) (as_host 1) }
unfolding opening_of
opens = refl

pub one-host : opening_of (as_host 3) (as_host 3) ≡ refused
unfolding opening_of
one-host = refl

pub no_own : opening_of (as_host 8) (as_host 1) ≡ refused
unfolding opening_of
no_own = refl

pub no_sender : opening_of (as_host 3) (as_host 8) ≡ refused
unfolding opening_of
no_sender = refl
