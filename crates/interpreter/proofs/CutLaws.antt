-- Bytes taken line by line, as the code does, stand and print as they do byte by byte.
use mathlib.Core.Path.{◌≡◌, refl, sym, ap, ◌∙◌}
use mathlib.Core.Bool.{true, false}
use mathlib.Core.List.{List, [], ◌∷◌, ◌++◌, append-nil}
use Prim.Native.Nat.{ℕ, suc, ◌+◌, ◌≤◌, ◌<◌}
use native.Mathlib.Nat.{add-zero}
use native.Mathlib.Numerals.{add-one}
use native.Mathlib.Omega.{arith}
use lib.ListN.{length, take, set, length-set, length-take}
use lib.Seq.{take-suc-set}
use lib.Dec.{eqb, ltb}
use borrow.Author.Tests.{lt-ltb, le-ltb}
use Rattle.numbers.proofs.Cases.{by_flag, by_order}
use Rattle.lines.specs.declared.Fed.{Fed}
use Rattle.lines.specs.declared.Fed.TheVariants.{Whole, TooLong}
use Rattle.lines.specs.declared.Cut.{Cut}
use Rattle.lines.specs.Cut.{longest, fed_of, onward, cut_of, line_cut}
use Rattle.player.specs.House.{House}
use Rattle.interpreter.specs.Interpreter.{Standing, within, after_byte, byte_prints, after, prints}
use Rattle.interpreter.specs.Promise.{fed_standing, fed_prints}

-- the bytes that a cut takes: how many, and what they do
pub record Cuts (s : List ℕ) (at len : ℕ) (line : List ℕ) (h : House) (c : Cut) (kept : List ℕ) : Type 0 where
  pub taken : ℕ
  pub reach : c.at ≡ at + taken
  pub inside : taken ≤ length s
  pub some : 0 < length s → 0 < taken
  pub stands : after (within h (take len line)) (take taken s) ≡ fed_standing c.fed kept h
  pub printed : prints (within h (take len line)) (take taken s) ≡ fed_prints c.fed kept h
  pub same : length kept ≡ length line

-- the length of a line so far
so_far : (len : ℕ) (line : List ℕ) → length line ≡ longest → ltb (length (take len line)) longest ≡ ltb len longest
so_far len line e =
    by_order len longest
    (λ l. let k : length (take len line) < longest = rw length-take (omega arith) in lt-ltb (length (take len line)) longest k ∙ sym (lt-ltb len longest l))
    (λ g. let k : longest ≤ length (take len line) = rw length-take (omega arith) in le-ltb (length (take len line)) longest k ∙ sym (le-ltb len longest g))

module _ (b : ℕ) (s : List ℕ) (at len : ℕ) (line : List ℕ) (h : House) (size : length line ≡ longest) where
  abbrev here : Standing
  here = within h (take len line)

  -- the byte ends the line
  ends : (f : Fed) → fed_of len b ≡ f → ((A : Type 0) (x y : A) → onward f x y ≡ y)
      → after_byte here b ≡ fed_standing f line h → byte_prints here b ≡ fed_prints f line h
      → Cuts (b ∷ s) at len line h (cut_of (b ∷ s) at len) (line_cut (b ∷ s) len line)
  unfolding cut_of line_cut after prints
  ends f e over p q =
      let cut : cut_of (b ∷ s) at len ≡ record { fed = f; at = at + 1 } =
      ap (λ (g : Fed). onward g (cut_of s (at + 1) (len + 1)) (record { fed = g; at = at + 1 })) e ∙ over Cut (cut_of s (at + 1) (len + 1)) (record { fed = f; at = at + 1 }) in
      let kept : line_cut (b ∷ s) len line ≡ line =
      ap (λ (g : Fed). onward g (line_cut s (len + 1) (set line len b)) line) e ∙ over (List ℕ) (line_cut s (len + 1) (set line len b)) line in
      rw (cut, kept)
      (record {
        taken = 1;
        reach = refl;
        inside = omega arith;
        some = λ _. omega arith;
        stands = p;
        printed = append-nil (byte_prints here b) ∙ q;
        same = refl;
      })

  -- the line goes on
  goes_on : (eqb b 10 ≡ false) → len < longest
      → Cuts s (at + 1) (len + 1) (set line len b) h (cut_of s (at + 1) (len + 1)) (line_cut s (len + 1) (set line len b))
      → Cuts (b ∷ s) at len line h (cut_of (b ∷ s) at len) (line_cut (b ∷ s) len line)
  unfolding cut_of line_cut fed_of after prints after_byte byte_prints
  goes_on f l i =
      let fed : ltb len longest ≡ true = lt-ltb len longest l in
      let more : ltb (length (take len line)) longest ≡ true = so_far len line size ∙ fed in
      let longer : take len line ++ (b ∷ []) ≡ take (len + 1) (set line len b) = sym (rw add-one (take-suc-set line len b (omega arith))) in
      let step : after_byte here b ≡ within h (take (len + 1) (set line len b)) = rw (f, more) (ap (within h) longer) in
      let none : byte_prints here b ≡ [] = rw (f, more) in
      rw (f, fed)
      (record {
        taken = suc i.taken;
        reach = i.reach ∙ omega arith;
        inside = omega (arith, i.inside);
        some = λ _. omega arith;
        stands = ap (λ (x : Standing). after x (take i.taken s)) step ∙ i.stands;
        printed = (λ j. none j ++ prints (step j) (take i.taken s)) ∙ i.printed;
        same = i.same ∙ length-set line len b;
      })

  -- it ends by a line feed, or is too long
  feeds : eqb b 10 ≡ true → Cuts (b ∷ s) at len line h (cut_of (b ∷ s) at len) (line_cut (b ∷ s) len line)
  unfolding fed_of after_byte byte_prints
  feeds t = ends (Whole len) (rw t) (λ A x y. refl) (rw t) (rw t)

  too_long : eqb b 10 ≡ false → longest ≤ len → Cuts (b ∷ s) at len line h (cut_of (b ∷ s) at len) (line_cut (b ∷ s) len line)
  unfolding fed_of after_byte byte_prints
  too_long f g =
      let fed : ltb len longest ≡ false = le-ltb len longest g in
      let more : ltb (length (take len line)) longest ≡ false = so_far len line size ∙ fed in
      ends TooLong (rw (f, fed)) (λ A x y. refl) (rw (f, more)) (rw (f, more))

no_bytes : (at len : ℕ) (line : List ℕ) (h : House) → Cuts [] at len line h (cut_of [] at len) (line_cut [] len line)
unfolding cut_of line_cut after prints
no_bytes at len line h =
    record { taken = 0; reach = sym (add-zero at); inside = omega arith; some = λ k. absurd (omega arith); stands = refl; printed = refl; same = refl }

pub cuts : (s : List ℕ) (at len : ℕ) (line : List ℕ) (h : House) → length line ≡ longest → Cuts s at len line h (cut_of s at len) (line_cut s len line)
cuts [] at len line h size = no_bytes at len line h
cuts (b ∷ s) at len line h size =
    by_flag (eqb b 10)
    (λ t. feeds b s at len line h size t)
    (λ f.
    by_order len longest
    (λ l. goes_on b s at len line h size f l (cuts s (at + 1) (len + 1) (set line len b) h (length-set line len b ∙ size)))
    (λ g. too_long b s at len line h size f g))
