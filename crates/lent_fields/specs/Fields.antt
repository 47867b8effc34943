-- Numbers at places of a buffer.
use Rattle.std.specs.Prelude.{◌≡◌, ℕ, zero, suc, ◌+◌, ◌^◌, ◌<◌, Bool, true, cond, ◌&&◌, List, [], ◌∷◌, ◌++◌, length, take, drop, eqb}
use Rattle.std.specs.declared.option.Option.{Option}
use Rattle.std.specs.declared.option.Option.TheVariants.{None, Some}
use Rattle.numbers.specs.Number.{value, digits}
use Rattle.layout.specs.Puts.{Puts}

-- the number of w bytes at place k
abbrev pub number : ℕ → List ℕ → ℕ → ℕ
number w s k = value (take w (drop k s))

-- the n bytes at place k
abbrev pub part : ℕ → List ℕ → ℕ → List ℕ
part n s k = take n (drop k s)

-- what a number's writer promises: its bytes, and that it fits them, which its type says
pub record PutsNumber (at w v : ℕ) (start last : List ℕ) : Type 0 where
  pub puts : Puts at w (digits w v) start last
  pub fits : v < 256 ^ w

-- n things of w bytes each from place k on, each read by f; and whether each passes t
unfoldable pub many : {A : Type 0} → (List ℕ → ℕ → A) → ℕ → ℕ → List ℕ → ℕ → List A
many f w zero s k = []
many f w (suc n) s k = f s k ∷ many f w n s (k + w)

unfoldable pub all_pass : (List ℕ → ℕ → Bool) → ℕ → ℕ → List ℕ → ℕ → Bool
all_pass t w zero s k = true
all_pass t w (suc n) s k = t s k && all_pass t w n s (k + w)

-- ---- a form of two parts
pub record Two (A B : Type 0) : Type 0 where
  pub one : A
  pub two : B

-- what the type of a number of w bytes says, and that of n bytes
abbrev pub Below : ℕ → ℕ → Type 0
Below w v = v < 256 ^ w

abbrev pub Long : ℕ → List ℕ → Type 0
Long n b = length b ≡ n

-- a test that all bytes pass
abbrev pub free : List ℕ → ℕ → Bool
free s k = true

abbrev pub cat_bytes : {A B : Type 0} → (A → List ℕ) → (B → List ℕ) → Two A B → List ℕ
cat_bytes g h x = g x.one ++ h x.two

abbrev pub BothFit : {A B : Type 0} → (A → Type 0) → (B → Type 0) → Two A B → Type 0
BothFit P Q x = P x.one × Q x.two

-- two, three or four numbers
abbrev pub two : ℕ → ℕ → Two ℕ ℕ
two a b = record { one = a; two = b }

abbrev pub three : ℕ → ℕ → ℕ → Two (Two ℕ ℕ) ℕ
three a b c = record { one = two a b; two = c }

abbrev pub four : ℕ → ℕ → ℕ → ℕ → Two (Two (Two ℕ ℕ) ℕ) ℕ
four a b c d = record { one = three a b c; two = d }

abbrev pub two_at : ℕ → ℕ → List ℕ → ℕ → Two ℕ ℕ
two_at v w s k = two (number v s k) (number w s (k + v))

abbrev pub three_at : ℕ → ℕ → ℕ → List ℕ → ℕ → Two (Two ℕ ℕ) ℕ
three_at v w x s k = three (number v s k) (number w s (k + v)) (number x s (k + (v + w)))

abbrev pub four_at : ℕ → ℕ → ℕ → ℕ → List ℕ → ℕ → Two (Two (Two ℕ ℕ) ℕ) ℕ
four_at v w x y s k = four (number v s k) (number w s (k + v)) (number x s (k + (v + w))) (number y s (k + (v + w + x)))

-- ---- what is there or not: tag 1, or tag 0 and else zeros (`none`: whether all its other numbers are 0)
abbrev pub is_option : ℕ → Bool → Bool
is_option tag none = cond (eqb tag 0) none (eqb tag 1)

abbrev pub option_of : {A : Type 0} → ℕ → A → Option A
option_of tag x = cond (eqb tag 0) None (Some x)
