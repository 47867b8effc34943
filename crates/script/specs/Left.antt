-- The words that are left, as `Words` gives them.
use Rattle.std.specs.Prelude.{List, [], ℕ, Option, Some, None}
use denote.Ref.{Bor}
use Rattle.script.specs.declared.Words.{Words}
use Rattle.script.specs.Words.{words}

abbrev pub left_of : Option (Bor (List ℕ)) → List (List ℕ)
left_of None = []
left_of (Some line) = words line.now

abbrev pub left : Words → List (List ℕ)
left w = left_of w.rest
