-- What is printed of a record, computed from bytes to bytes on examples.
use mathlib.Core.Path.{◌≡◌, refl}
use mathlib.Core.List.{List, [], ◌∷◌, ◌++◌}
use Prim.Native.Nat.{ℕ, zero, suc}
use Rattle.end.specs.Book.{put, cleared_by, moved_book, after}
use Rattle.decimal.specs.Decimal.{figures, decimal, all_digits, well_written, value_after, unsigned_word}
use Rattle.script.specs.Words.{onto, words, same}
use Rattle.script.specs.Line.{join, joined, crash}
use Rattle.record.specs.Line.{move_word, moved_in, line_in}
use Rattle.ledger.specs.Judgement.{permits_said, written_said, judged_from, any_malformed, judgement_of}
use Rattle.judgement.specs.Record.{allowed_word, refused_word, lines_from, printed, record_prints}

-- every definition is opened that lines without a cue need
prints : List ℕ → List ℕ
unfolding put cleared_by moved_book after figures decimal all_digits well_written value_after unsigned_word onto words same move_word moved_in line_in permits_said written_said judged_from any_malformed judgement_of lines_from printed record_prints
prints s = record_prints s

-- "join 0", "joined 0" and "crash 0", each with its line feed
abbrev join0 : List ℕ
join0 = join ++ (32 ∷ 48 ∷ 10 ∷ [])

abbrev joined0 : List ℕ
joined0 = joined ++ (32 ∷ 48 ∷ 10 ∷ [])

abbrev crash0 : List ℕ
crash0 = crash ++ (32 ∷ 48 ∷ 10 ∷ [])

abbrev allowed : List ℕ
allowed = allowed_word ++ (10 ∷ [])

abbrev refused : ℕ → List ℕ
refused digit = refused_word ++ (49 ∷ digit ∷ 10 ∷ [])

empty_record : prints [] ≡ allowed
unfolding prints
empty_record = refl

two-lines : prints (join0 ++ joined0) ≡ allowed
unfolding prints
two-lines = refl

-- the second "joined 0" is line 3
third-line : prints (join0 ++ (joined0 ++ (joined0 ++ crash0))) ≡ 51 ∷ 10 ∷ []
unfolding prints
third-line = refl

-- an empty line is one too, and a last line without line feed
empty_line : prints (join0 ++ (10 ∷ joined0)) ≡ refused 55
unfolding prints
empty_line = refl

no_line_feed : prints (join0 ++ (joined ++ (32 ∷ 48 ∷ []))) ≡ refused 55
unfolding prints
no_line_feed = refl

-- 1,024 lines; one more; and the same with a rest instead
crashes : ℕ → List ℕ → List ℕ
crashes zero s = s
crashes (suc k) s = crash0 ++ crashes k s

most-lines : prints (crashes 1024 []) ≡ allowed
unfolding prints crashes
most-lines = refl

too_many_lines : prints (crashes 1025 []) ≡ refused 54
unfolding prints crashes
too_many_lines = refl

too_many_with_rest : prints (crashes 1024 (120 ∷ [])) ≡ refused 54
unfolding prints crashes
too_many_with_rest = refl
