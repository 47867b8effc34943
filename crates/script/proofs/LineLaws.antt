-- What `line_of` answers, by the words that were taken: the answers of `read_line`.
use mathlib.Core.Path.{◌≡◌, sym, ap, ◌∙◌}
use mathlib.Core.Bool.{true, false}
use mathlib.Core.List.{List, [], ◌∷◌}
use Prim.Native.Nat.{ℕ, ◌≤◌, ◌<◌}
use native.Mathlib.Omega.{arith}
use denote.Ref.{Bor}
use lib.ListN.{length}
use borrow.Author.Tests.{le-leb, lt-leb}
use Rattle.std.specs.Prelude.{Option, Some, None, is_some}
use Rattle.std.specs.Option.{option_copied}
use Rattle.script.specs.Words.{words}
use Rattle.script.proofs.WordsLaws.{Found}
use Rattle.script.specs.Line.{Malformed, line_in, line_by, line_of}

pub long-line : (s : List ℕ) → 34 < length s → Malformed ≡ line_of s
unfolding line_of
long-line s h = rw (lt-leb (length s) 34 h)

pub short_line : (s : List ℕ) (l : List (List ℕ)) → length s ≤ 34 → words s ≡ l → line_in l ≡ line_of s
unfolding line_of
short_line s l h e = ap line_in (sym e) ∙ rw (le-leb (length s) 34 h)

-- after three words two more were looked for
pub more_words : (e v t : List ℕ) (w r : Option (Bor (List ℕ))) (l m n : List (List ℕ)) → Found w l m → Found r m n → is_some r ≡ true → Malformed ≡ line_in (e ∷ v ∷ t ∷ l)
unfolding line_in
more_words e v t w None l m n p q h = absurd (let z : ◌≡◌ {A = ℕ} 0 1 = cc in omega arith)
more_words e v t None (Some y) l m n p q h = absurd (let f = sym p.1 ∙ q in let z : ◌≡◌ {A = ℕ} 0 1 = cc in omega arith)
more_words e v t (Some x) (Some y) l m n p q h = sym (ap (λ (k : List (List ℕ)). line_in (e ∷ v ∷ t ∷ k)) (p ∙ ap (λ (k : List (List ℕ)). x.now ∷ k) q))

pub no_more : (e v t : List ℕ) (w r : Option (Bor (List ℕ))) (l m n : List (List ℕ)) → Found w l m → Found r m n → is_some r ≡ false → line_by e v t (option_copied w) ≡ line_in (e ∷ v ∷ t ∷ l)
unfolding line_in
no_more e v t w (Some y) l m n p q h = absurd (let z : ◌≡◌ {A = ℕ} 0 1 = cc in omega arith)
no_more e v t None None l m n p q h = sym (ap (λ (k : List (List ℕ)). line_in (e ∷ v ∷ t ∷ k)) p.0)
no_more e v t (Some x) None l m n p q h = sym (ap (λ (k : List (List ℕ)). line_in (e ∷ v ∷ t ∷ k)) (p ∙ ap (λ (k : List (List ℕ)). x.now ∷ k) q.0))
