-- The definition of an answer's line, computed on document 01's examples.
use mathlib.Core.Path.{◌≡◌, refl}
use mathlib.Core.List.{[], ◌∷◌, ◌++◌}
use lib.IntN.{negsuc}
use Prim.Native.Nat.{ℕ}
use Rattle.message.specs.declared.Name.{Name}
use Rattle.message.specs.Entry.{as_host, as_number}
use Rattle.decimal.specs.Decimal.{figures, decimal, signed_decimal}
use Rattle.end.specs.declared.Reason.TheVariants.{AlreadyHeld}
use Rattle.end.specs.Why.{reason_words}
use Rattle.answers.specs.declared.Shown.TheVariants.{Out, Got, Done, Ignored, IgnoredFor, Nothing, Refused, Clash, Late, Exhausted}
use Rattle.answers.specs.AnswerLine.{done, ignored, nothing, late, exhausted, answer_words, answer_line}

-- a cue of host 0
abbrev cue : ℕ → Name
cue n = record { source = as_host 0; number = as_number n }

-- "0 0 done"
done-line : answer_line (as_host 0) 0 Done ≡ 48 ∷ 32 ∷ 48 ∷ 32 ∷ done ++ (10 ∷ [])
unfolding answer_line answer_words decimal figures
done-line = refl

-- "0 10 out 0"
out_line : answer_line (as_host 0) 10 (Out 0) ≡ 48 ∷ 32 ∷ 49 ∷ 48 ∷ 32 ∷ 111 ∷ 117 ∷ 116 ∷ 32 ∷ 48 ∷ 10 ∷ []
unfolding answer_line answer_words decimal figures
out_line = refl

-- "1 12 got 0 0 -2"
got-line : answer_line (as_host 1) 12 (Got (cue 0) (negsuc 1)) ≡ 49 ∷ 32 ∷ 49 ∷ 50 ∷ 32 ∷ 103 ∷ 111 ∷ 116 ∷ 32 ∷ 48 ∷ 32 ∷ 48 ∷ 32 ∷ 45 ∷ 50 ∷ 10 ∷ []
unfolding answer_line answer_words signed_decimal decimal figures
got-line = refl

-- "1 391 nothing"
nothing_line : answer_line (as_host 1) 391 Nothing ≡ 49 ∷ 32 ∷ 51 ∷ 57 ∷ 49 ∷ 32 ∷ nothing ++ (10 ∷ [])
unfolding answer_line answer_words decimal figures
nothing_line = refl

-- "0 5 ignored"
ignored-line : answer_line (as_host 0) 5 Ignored ≡ 48 ∷ 32 ∷ 53 ∷ 32 ∷ ignored ++ (10 ∷ [])
unfolding answer_line answer_words decimal figures
ignored-line = refl

-- "1 40 ignored: already held"
reason_line : answer_line (as_host 1) 40 (IgnoredFor AlreadyHeld) ≡ 49 ∷ 32 ∷ 52 ∷ 48 ∷ 32 ∷ ignored ++ (58 ∷ 32 ∷ reason_words AlreadyHeld ++ (10 ∷ []))
unfolding answer_line answer_words decimal figures
reason_line = refl

-- "0 5 refused 7"
refused-line : answer_line (as_host 0) 5 (Refused 7) ≡ 48 ∷ 32 ∷ 53 ∷ 32 ∷ 114 ∷ 101 ∷ 102 ∷ 117 ∷ 115 ∷ 101 ∷ 100 ∷ 32 ∷ 55 ∷ 10 ∷ []
unfolding answer_line answer_words decimal figures
refused-line = refl

-- "1 40 clash 0 3"
clash-line : answer_line (as_host 1) 40 (Clash (cue 3)) ≡ 49 ∷ 32 ∷ 52 ∷ 48 ∷ 32 ∷ 99 ∷ 108 ∷ 97 ∷ 115 ∷ 104 ∷ 32 ∷ 48 ∷ 32 ∷ 51 ∷ 10 ∷ []
unfolding answer_line answer_words decimal figures
clash-line = refl

-- "1 40 late 0 3 -2"
late-line : answer_line (as_host 1) 40 (Late (cue 3) (negsuc 1)) ≡ 49 ∷ 32 ∷ 52 ∷ 48 ∷ 32 ∷ late ++ (48 ∷ 32 ∷ 51 ∷ 32 ∷ 45 ∷ 50 ∷ 10 ∷ [])
unfolding answer_line answer_words signed_decimal decimal figures
late-line = refl

-- "1 40 exhausted"
exhausted-line : answer_line (as_host 1) 40 Exhausted ≡ 49 ∷ 32 ∷ 52 ∷ 48 ∷ 32 ∷ exhausted ++ (10 ∷ [])
unfolding answer_line answer_words decimal figures
exhausted-line = refl
