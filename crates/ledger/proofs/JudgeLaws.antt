-- The lines one by one: the book after them, the first that is not permitted, and a malformed one.
use mathlib.Core.Path.{◌≡◌, refl, sym, ap, ◌∙◌}
use mathlib.Core.Bool.{Bool, true, false, cond, or-true}
use mathlib.Core.List.{List, [], ◌∷◌, ◌++◌}
use Prim.Native.Nat.{ℕ, zero, suc, ◌+◌, ◌≤◌, ◌<◌}
use native.Mathlib.Numerals.{add-one}
use native.Mathlib.Omega.{arith}
use lib.ListN.{length, take, drop, get_or, drop_of_length-le}
use lib.Seq.{take-suc, take_all, drop-cons}
use Rattle.end.specs.Book.{Book, empty_book}
use Rattle.record.specs.declared.Line.{Line}
use Rattle.ledger.specs.declared.Asked.{Asked}
use Rattle.ledger.specs.declared.View.{View}
use Rattle.std.specs.Prelude.{Option, Some, None, MatchOption}
use Rattle.std.specs.Bool.{MatchBool}
use Rattle.std.specs.List.{HoldsAt, AllWithin}
use Rattle.ledger.specs.declared.Judgement.{Judgement}
use Rattle.ledger.specs.declared.Judgement.TheVariants.{Allowed, BrokenAt}
use Rattle.ledger.specs.Judgement.{permits, written, written_all, judged_from, is_malformed, any_malformed}
use Rattle.ledger.specs.View.{no_line, view_of, view_after}
use Rattle.ledger.proofs.ViewLaws.{view_written, filed-few}

-- ---- the book after some lines

pub written_last : (b : Book) (ls : List Line) (l : Line) → written_all b (ls ++ (l ∷ [])) ≡ written (written_all b ls) l
unfolding written_all
written_last b [] l = refl
written_last b (x ∷ ls) l = written_last (written b x) ls l

written-more : (b : Book) (ls : List Line) (i : ℕ) → i < length ls → written_all b (take (i + 1) ls) ≡ written (written_all b (take i ls)) (get_or ls i no_line)
written-more b ls i h = ap (written_all b) (ap (λ (k : ℕ). take k ls) (add-one i) ∙ take-suc ls i no_line h) ∙ written_last b (take i ls) (get_or ls i no_line)

-- the view of the book after the first i lines
pub record Viewed (lines : List Line) (a : Asked) (v : View) (i : ℕ) : Type 0 where
  pub is : v ≡ view_of (written_all empty_book (take i lines)) a
  pub few : v.filed ≤ i

pub none_viewed : (lines : List Line) (a : Asked) {v : View} → v ≡ view_of empty_book a → v.filed ≤ 0 → Viewed lines a v 0
unfolding written_all
none_viewed lines a e f = record { is = e; few = f }

pub line_viewed : {lines : List Line} {a : Asked} {v w : View} {i : ℕ} → Viewed lines a v i → i < length lines
    → w ≡ view_after a (get_or lines i no_line).said (get_or lines i no_line).cue v → Viewed lines a w (i + 1)
line_viewed {lines} {a} {v} {w} {i} p h e =
    let l = get_or lines i no_line in
    record {
      is =
          e ∙ ap (view_after a l.said l.cue) p.is
          ∙ sym (view_written (written_all empty_book (take i lines)) a l.said l.cue)
          ∙ sym (ap (λ (b : Book). view_of b a) (written-more empty_book lines i h));
      few = omega (arith, ap (λ (x : View). x.filed) e, filed-few a l.said l.cue v, p.few);
    }

-- after all of them
pub all_viewed : {lines : List Line} {a : Asked} {v : View} {i : ℕ} → Viewed lines a v i → length lines ≤ i → v ≡ view_of (written_all empty_book lines) a
all_viewed {lines} {a} {v} {i} p h = p.is ∙ ap (λ (ls : List Line). view_of (written_all empty_book ls) a) (take_all i lines h)

-- ---- the first line that is not permitted

-- the first k lines are permitted
record Permitted (lines : List Line) (k : ℕ) : Type 0 where
  within : k ≤ length lines
  left : judged_from (written_all empty_book (take k lines)) (k + 1) (drop k lines) ≡ judged_from empty_book 1 lines

none_judged : (lines : List Line) → Permitted lines 0
unfolding written_all
none_judged lines = record { within = omega arith; left = refl }

module _ {lines : List Line} {k : ℕ} (p : Permitted lines k) where
  book : Book
  book = written_all empty_book (take k lines)

  line : Line
  line = get_or lines k no_line

  next : k < length lines → drop k lines ≡ line ∷ drop (k + 1) lines
  unfolding line
  next h = drop-cons lines k no_line h ∙ (λ i. get_or lines k no_line ∷ drop (sym (add-one k) i) lines)

  stepped : k < length lines → judged_from empty_book 1 lines
      ≡ cond (permits book line) (judged_from (written book line) (k + 1 + 1) (drop (k + 1) lines)) (BrokenAt (k + 1))
  unfolding book line judged_from
  stepped h = sym p.left ∙ ap (judged_from (written_all empty_book (take k lines)) (k + 1)) (next h)

  line_permitted : k < length lines → permits (written_all empty_book (take k lines)) (get_or lines k no_line) ≡ true → Permitted lines (k + 1)
  unfolding book line
  line_permitted h t =
      record {
        within = omega arith;
        left =
            let next = written-more empty_book lines k (omega arith) in
            sym (stepped h ∙ rw t (ap (λ (b : Book). judged_from b (k + 1 + 1) (drop (k + 1) lines)) (sym next)));
      }

  line-broken : k < length lines → permits (written_all empty_book (take k lines)) (get_or lines k no_line) ≡ false
      → BrokenAt (k + 1) ≡ judged_from empty_book 1 lines
  unfolding book line
  line-broken h f = sym (stepped h ∙ rw f)

  all_permitted : length lines ≤ k → Allowed ≡ judged_from empty_book 1 lines
  unfolding judged_from
  all_permitted h = sym (ap (judged_from (written_all empty_book (take k lines)) (k + 1)) (drop_of_length-le lines {i = k} h)) ∙ p.left

-- whether the book permits line k after the lines before it
abbrev pub permits_at : List Line → ℕ → Bool
permits_at lines k = permits (written_all empty_book (take k lines)) (get_or lines k no_line)

permitted_to : (lines : List Line) (k : ℕ) → k ≤ length lines → ((i : ℕ) → i < k → permits_at lines i ≡ true) → Permitted lines k
permitted_to lines zero h each = none_judged lines
permitted_to lines (suc k) h each =
    let p = permitted_to lines k (omega arith) (λ i l. each i (omega arith)) in
    rw add-one at (line_permitted p (omega arith) (each k (omega arith)))

-- what a search for the first that is not permitted finds
abbrev pub told_by : Option ℕ → Judgement
told_by None = Allowed
told_by (Some k) = BrokenAt (k + 1)

abbrev pub First : List Line → Option ℕ → Type 0
First lines found =
    MatchOption found
    ((k : ℕ) → 0 ≤ k → k < length lines → permits_at lines k ≡ true)
    (λ i. (0 ≤ i) × (i < length lines) × (permits_at lines i ≡ false) × ((k : ℕ) → 0 ≤ k → k < i → permits_at lines k ≡ true))

pub first_judged : (lines : List Line) (found : Option ℕ) → First lines found → told_by found ≡ judged_from empty_book 1 lines
first_judged lines None h =
    all_permitted (permitted_to lines (length lines) (omega arith) (λ i l. h i (omega arith) l)) (omega arith)
first_judged lines (Some k) h = line-broken (permitted_to lines k (omega (arith, h.1)) (λ i l. h.3 i (omega arith) l)) h.1 h.2

-- ---- a malformed line
one_malformed : (ls : List Line) (k : ℕ) → k < length ls → is_malformed (get_or ls k no_line).said ≡ true → any_malformed ls ≡ true
unfolding any_malformed
one_malformed [] k h t = absurd (omega arith)
one_malformed (l ∷ ls) zero h t = rw t
one_malformed (l ∷ ls) (suc k) h t = rw (one_malformed ls k (omega arith) t) (or-true (is_malformed l.said))

no_malformed : (ls : List Line) → ((k : ℕ) → k < length ls → is_malformed (get_or ls k no_line).said ≡ false) → any_malformed ls ≡ false
unfolding any_malformed
no_malformed [] h = refl
no_malformed (l ∷ ls) h = rw (h 0 (omega arith), no_malformed ls (λ k b. h (suc k) (omega arith)))

-- what a search for one finds
pub malformed_told : (ls : List Line) (found : Bool)
    → MatchBool found
    ((k : ℕ) × (k < length ls) × HoldsAt (λ l. is_malformed l.said ≡ true) ls k)
    (AllWithin (λ l. is_malformed l.said ≡ false) ls 0 (length ls))
    → found ≡ any_malformed ls
malformed_told ls true h = sym (one_malformed ls h.0 h.1 (h.2 no_line))
malformed_told ls false h = sym (no_malformed ls (λ k b. h k no_line (omega arith) b))
