-- The list of windows in its places, and what a line leaves.
use mathlib.Core.Path.{◌≡◌, refl, sym, ◌∙◌, subst}
use mathlib.Core.Bool.{false}
use mathlib.Core.List.{List, [], ◌∷◌, ◌++◌}
use Prim.Native.Nat.{ℕ, zero, suc, ◌+◌, ◌≤◌, ◌<◌, min}
use native.Mathlib.Nat.{add-zero, min-eq_left}
use native.Mathlib.Numerals.{add-one}
use native.Mathlib.Omega.{arith}
use lib.ListN.{length, take, set, length-take}
use lib.Seq.{take-suc-set, take_all}
use borrow.Author.Tests.{lt-ltb, le-ltb, eq-eqb, ne_eqb}
use Rattle.numbers.proofs.SpliceLaws.{splice_nil}
use Rattle.numbers.proofs.Cases.{by_order}
use Rattle.answers.specs.Put.{Put}
use Rattle.answers.proofs.PutLaws.{put_same}
use Rattle.openings.specs.declared.Window.{Window}
use Rattle.entries.specs.Line.{Line}
use Rattle.entries.specs.Line.{Malformed}
use Rattle.entries.specs.Line.{line_of}
use Rattle.entries.specs.Print.{bad_line, widest}
use Rattle.timetable.specs.declared.Step.{Step}
use Rattle.timetable.specs.Table.{added_to}
use Rattle.timetable.specs.Run.{Standing, within, longest, after_byte, byte_prints, at_end, standing}
use Rattle.timetable.specs.Promise.{Ends, TakesByte}

-- ---- the list
pub added_more : (places : List Window) (count : ℕ) (w : Window) → length places ≡ 33 → count < 33
    → take (count + 1) (set places count w) ≡ added_to (take count places) w
added_more places count w l h =
    rw (lt-ltb (length (take count places)) 33 (omega (arith, length-take count places)), add-one) (take-suc-set places count w (omega arith))

pub added_full : (places : List Window) (count : ℕ) (w : Window) → length places ≡ 33 → 33 ≤ count → take count places ≡ added_to (take count places) w
added_full places count w l h = rw (le-ltb (length (take count places)) 33 (omega (arith, length-take count places)))

-- ---- the line so far
pub longer_line : (line : List ℕ) (len b : ℕ) → length line ≡ 40 → len < 40 → take (len + 1) (set line len b) ≡ take len line ++ (b ∷ [])
longer_line line len b l h = rw add-one (take-suc-set line len b (omega arith))

pub first-bytes : (len : ℕ) (line : List ℕ) → take (min len (length line)) line ≡ take len line
first-bytes len line =
    by_order (length line) len
    (λ l. let e : min len (length line) ≡ length line = omega arith in rw e (take_all (length line) line (omega arith) ∙ sym (take_all len line (omega arith))))
    (λ g. rw (min-eq_left g))

pub some-line : (len : ℕ) (line : List ℕ) → (len ≡ 0 → ⊥) → 0 < length line → at_end (take len line) ≡ bad_line
some-line zero line h k = absurd (h refl)
some-line (suc n) [] h k = absurd (omega arith)
some-line (suc n) (b ∷ line) h k = refl

pub put-none : {most : ℕ} (at : ℕ) (output : List ℕ) → Put most at [] output output at
put-none at output = record { bytes = sym (splice_nil at output); ends = sym (add-zero at); small = omega arith }

-- ---- one byte
module _ (s : Standing) (b at : ℕ) (before output : List ℕ) (plays : s.stopped ≡ false) where
  pub feed_byte : (l : Line) (r : Step) → b ≡ 10 → l ≡ line_of s.line → Ends l s.list at before output r → TakesByte s b at before output r
  unfolding after_byte byte_prints
  feed_byte l r e f x =
      let y : Ends (line_of s.line) s.list at before output r = subst (λ (m : Line). Ends m s.list at before output r) f x in
      record { stands = y.stands ∙ sym (simp (plays, eq-eqb _ _ e)); put = put_same y.put (sym (simp (plays, eq-eqb _ _ e))) }

  pub other_byte : (r : Step) → (b ≡ 10 → ⊥) → length s.line < longest → standing r.playing ≡ within s b → r.used ≡ at → output ≡ before
      → TakesByte s b at before output r
  unfolding after_byte byte_prints
  other_byte r e h x u o =
      record {
        stands = x ∙ sym (simp (plays, ne_eqb _ _ e, lt-ltb _ _ h));
        put = subst (λ (t : List ℕ). Put widest at (byte_prints s b) before t r.used) (sym o)
            (subst (λ (n : ℕ). Put widest at (byte_prints s b) before before n) (sym u)
            (put_same (put-none at before) (sym (simp (plays, ne_eqb _ _ e, lt-ltb _ _ h)))));
      }

  pub long_byte : (r : Step) → (b ≡ 10 → ⊥) → longest ≤ length s.line → Ends Malformed s.list at before output r → TakesByte s b at before output r
  unfolding after_byte byte_prints
  long_byte r e h x =
      record { stands = x.stands ∙ sym (simp (plays, ne_eqb _ _ e, le-ltb _ _ h)); put = put_same x.put (sym (simp (plays, ne_eqb _ _ e, le-ltb _ _ h))) }
