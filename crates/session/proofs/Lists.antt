-- A test of all of a list, and what a loop over it does, a turn for each.
use mathlib.Core.Path.{◌≡◌, sym, ap, ◌∙◌}
use Prim.Native.Nat.{ℕ, zero, suc, ◌+◌, ◌<◌}
use native.Mathlib.Numerals.{add-one}
use native.Mathlib.Omega.{arith}
use mathlib.Core.Bool.{Bool, true}
use mathlib.Core.List.{List, [], ◌∷◌, ◌++◌}
use lib.ListN.{length, take, get_or}
use lib.Seq.{take-suc}
use Rattle.message.specs.Section.{all}
use Rattle.message.proofs.QuestionLaws.{and_both}

-- a test of all holds of the first, or of what stands for it
pub all_first : {A : Type 0} (p : A → Bool) (l : List A) (d : A) → all p l ≡ true → p d ≡ true → p (get_or l 0 d) ≡ true
unfolding all
all_first p [] d h k = k
all_first p (a ∷ l) d h k = (and_both (p a) (all p l) h).0

-- and at each place of the list
pub all_at : {A : Type 0} (p : A → Bool) (l : List A) (i : ℕ) (d : A) → all p l ≡ true → i < length l → p (get_or l i d) ≡ true
unfolding all
all_at p [] i d h a = absurd (omega arith)
all_at p (x ∷ l) zero d h a = (and_both (p x) (all p l) h).0
all_at p (x ∷ l) (suc i) d h a = all_at p l i d (and_both (p x) (all p l) h).1 (omega arith)

-- F goes through a list from its first element on, and each element steps by g
module _ {A B : Type 0} (F : List A → B → B) (g : A → B → B) (stop : (b : B) → F [] b ≡ b)
    (more : (a : A) (l : List A) (b : B) → F (a ∷ l) b ≡ F l (g a b)) where
  through_snoc : (l : List A) (x : A) (b : B) → F (l ++ (x ∷ [])) b ≡ g x (F l b)
  through_snoc [] x b = more x [] b ∙ stop (g x b) ∙ ap (g x) (sym (stop b))
  through_snoc (a ∷ l) x b = more a (l ++ (x ∷ [])) b ∙ through_snoc l x (g a b) ∙ ap (g x) (sym (more a l b))

  -- so does a loop, a turn for each
  pub through-turn : (l : List A) (i : ℕ) (d : A) (start before after : B) → i < length l
      → before ≡ F (take i l) start → after ≡ g (get_or l i d) before → after ≡ F (take (i + 1) l) start
  through-turn l i d start before after h p q =
      q ∙ ap (g (get_or l i d)) p ∙ sym (rw (add-one, take-suc l i d) (through_snoc (take i l) (get_or l i d) start))
