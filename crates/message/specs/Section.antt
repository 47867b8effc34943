-- A section of a message: its one-byte count, then its entries, each of the same width. Document 01, "Messages": "then four
-- sections, each after its one-byte count". An entry is read from the bytes that start at it.
use Rattle.std.specs.Prelude.{ℕ, zero, suc, ◌+◌, ◌*◌, ◌-◌, Bool, true, ◌&&◌, List, [], ◌∷◌, ◌++◌, length, get_or, drop, replicate, ltb}

-- n entries of w bytes each, read by f
unfoldable pub entries : {A : Type 0} → (List ℕ → A) → ℕ → ℕ → List ℕ → List A
entries f w zero s = []
entries f w (suc n) s = f s ∷ entries f w n (drop w s)

-- the entries' bytes, one after the other, written by g
unfoldable pub flat : {A : Type 0} → (A → List ℕ) → List A → List ℕ
flat g [] = []
flat g (a ∷ l) = g a ++ flat g l

-- the bytes of a section
unfoldable pub section : {A : Type 0} → (A → List ℕ) → List A → List ℕ
section g l = length l ∷ flat g l

-- the entries of the section that s starts with; a count past the end is 0
unfoldable pub section_from : {A : Type 0} → (List ℕ → A) → ℕ → List ℕ → List A
section_from f w s = entries f w (get_or s 0 0) (drop 1 s)

-- what comes after the section that s starts with
unfoldable pub after : ℕ → List ℕ → List ℕ
after w s = drop (1 + get_or s 0 0 * w) s

-- an array of k places that holds l, with d in the places left over; for an l of at most k
abbrev pub padded : {A : Type 0} → ℕ → A → List A → List A
padded k d l = l ++ replicate (k - length l) d

-- each element passes the test
unfoldable pub all : {A : Type 0} → (A → Bool) → List A → Bool
all p [] = true
all p (a ∷ l) = p a && all p l

-- the keys rise strictly: each is below the next
unfoldable pub rises : {A : Type 0} → (A → ℕ) → List A → Bool
rises key [] = true
rises key (a ∷ []) = true
rises key (a ∷ b ∷ l) = ltb (key a) (key b) && rises key (b ∷ l)
