-- A line's words. Document 01, "Cases": "there is one space between words". 32 is the space.
use Rattle.std.specs.Prelude.{Bool, true, false, cond, ◌&&◌, List, [], ◌∷◌, ℕ, eqb}

-- a byte before the first of some words
unfoldable pub onto : ℕ → List (List ℕ) → List (List ℕ)
onto b [] = (b ∷ []) ∷ []
onto b (w ∷ l) = (b ∷ w) ∷ l

-- the words between the spaces: two spaces together have an empty word between them, and so has one at either end
unfoldable pub words : List ℕ → List (List ℕ)
words [] = [] ∷ []
words (b ∷ s) = cond (eqb b 32) ([] ∷ words s) (onto b (words s))

-- whether a byte parts two words
abbrev pub is_space : ℕ → Bool
is_space b = eqb b 32

-- whether two words are the same
unfoldable pub same : List ℕ → List ℕ → Bool
same [] [] = true
same [] (b ∷ t) = false
same (a ∷ s) [] = false
same (a ∷ s) (b ∷ t) = eqb a b && same s t
