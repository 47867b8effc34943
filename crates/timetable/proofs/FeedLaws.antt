-- A piece that is taken byte by byte: before the first byte, one byte more, and the end.
use mathlib.Core.Path.{◌≡◌, refl, sym, ap, ◌∙◌}
use mathlib.Core.Bool.{Bool, true, false, not, ◌&&◌, true≢false}
use mathlib.Core.Logic.{◌⊎◌, inl, inr, ⊎_elim}
use mathlib.Core.List.{List, [], ◌∷◌, ◌++◌}
use Prim.Native.Nat.{ℕ, ◌+◌, ◌-◌, ◌≤◌, ◌<◌}
use native.Mathlib.Nat.{zero-add}
use native.Mathlib.Numerals.{add-one}
use native.Mathlib.Omega.{arith}
use lib.ListN.{length, take, get_or, length-append}
use lib.Seq.{take-suc}
use lib.Dec.{ltb, leb}
use borrow.Author.Tests.{ltb-true, ltb-false, leb-true, leb-false, not-true, not-false}
use Rattle.numbers.specs.Splice.{splice}
use Rattle.numbers.proofs.SpliceLaws.{splice_nil, length-splice, put_next}
use Rattle.entries.specs.Print.{widest}
use Rattle.timetable.specs.declared.Playing.{Playing}
use Rattle.timetable.specs.declared.Step.{Step}
use Rattle.timetable.specs.Run.{Standing, after_byte, byte_prints, after, prints, standing}
use Rattle.timetable.specs.Promise.{TakesByte, Feeds}
use Rattle.timetable.proofs.Pieces.{after_both, prints_both}

-- the first `at` bytes of a piece are taken
pub record SoFar (s : Standing) (piece before : List ℕ) (p : Playing) (at used : ℕ) (output : List ℕ) : Type 0 where
  pub stands : standing p ≡ after s (take at piece)
  pub written : output ≡ splice 0 (prints s (take at piece)) before
  pub size : used ≡ length (prints s (take at piece))
  pub inside : used ≤ length before
  pub taken_in : at ≤ length piece
  pub same : length output ≡ length before

pub none-taken : (piece before : List ℕ) (p : Playing) → SoFar (standing p) piece before p 0 0 before
unfolding after prints
none-taken piece before p =
    record { stands = refl; written = sym (splice_nil 0 before); size = refl; inside = omega arith; taken_in = omega arith; same = refl }

-- ---- the loop's test

abbrev goes : ℕ → List ℕ → ℕ → List ℕ → Bool → Bool
goes at piece used output stopped = (ltb at (length piece) && leb widest (length output - used)) && not stopped

both : (a b : Bool) → a && b ≡ true → (a ≡ true) × (b ≡ true)
both true b h = (refl, h)
both false b h = absurd (true≢false (sym h))

either : (a b : Bool) → a && b ≡ false → (a ≡ false) ⊎ (b ≡ false)
either true b h = inr h
either false b h = inl refl

pub record Goes (at : ℕ) (piece : List ℕ) (used : ℕ) (output : List ℕ) (stopped : Bool) : Type 0 where
  pub left : at < length piece
  pub room : widest ≤ length output - used
  pub plays : stopped ≡ false

pub goes_on : (at : ℕ) (piece : List ℕ) (used : ℕ) (output : List ℕ) (stopped : Bool) → goes at piece used output stopped ≡ true
    → Goes at piece used output stopped
goes_on at piece used output stopped h =
    let p = both (ltb at (length piece) && leb widest (length output - used)) (not stopped) h in
    let q = both (ltb at (length piece)) (leb widest (length output - used)) p.0 in
    record { left = ltb-true at (length piece) q.0; room = leb-true widest (length output - used) q.1; plays = not-true stopped p.1 }

-- ---- one byte more, and the end

module _ {s : Standing} {piece before : List ℕ} {p : Playing} {at used : ℕ} {output : List ℕ} (f : SoFar s piece before p at used output) where
  pub all-taken : goes at piece used output p.stopped ≡ false → Feeds s piece before output (record { playing = p; taken = at; used = used })
  all-taken h =
      record {
        stands = f.stands;
        output-is = f.written;
        size = f.size;
        inside = f.inside;
        taken_in = f.taken_in;
        goes_on =
            ⊎_elim
            (λ q.
            ⊎_elim
            (λ a. let g : length piece ≤ at = ltb-false at (length piece) a in inl (omega (arith, f.taken_in)))
            (λ b. let g = leb-false widest (length output - used) b in inr (inr (omega (arith, f.inside, f.same))))
            (either (ltb at (length piece)) (leb widest (length output - used)) q))
            (λ c. inr (inl (not-false p.stopped c)))
            (either (ltb at (length piece) && leb widest (length output - used)) (not p.stopped) h);
      }

  module _ {output' : List ℕ} {r : Step} (g : Goes at piece used output p.stopped) (t : TakesByte (standing p) (get_or piece at 0) used output output' r) where
    abbrev b : ℕ
    b = get_or piece at 0

    abbrev first : List ℕ
    first = take at piece

    abbrev printed : List ℕ
    printed = byte_prints (standing p) b

    taken_both : take (at + 1) piece ≡ first ++ (b ∷ [])
    taken_both = rw add-one (take-suc piece at 0 g.left)

    one_more : (x : Standing) → after x (b ∷ []) ≡ after_byte x b
    unfolding after
    one_more x = refl

    one-prints : (x : Standing) → prints x (b ∷ []) ≡ byte_prints x b ++ []
    unfolding prints
    one-prints x = refl

    after_these : after s (take (at + 1) piece) ≡ after_byte (standing p) b
    after_these = ap (after s) taken_both ∙ after_both s first (b ∷ []) ∙ one_more (after s first) ∙ ap (λ (x : Standing). after_byte x b) (sym f.stands)

    no_more : (l : List ℕ) → l ++ [] ≡ l
    no_more [] = refl
    no_more (x ∷ l) = ap (λ (q : List ℕ). x ∷ q) (no_more l)

    prints_these : prints s (take (at + 1) piece) ≡ prints s first ++ printed
    prints_these =
        ap (prints s) taken_both ∙ prints_both s first (b ∷ [])
        ∙ ap (λ (q : List ℕ). prints s first ++ q)
        (one-prints (after s first) ∙ no_more (byte_prints (after s first) b) ∙ ap (λ (x : Standing). byte_prints x b) (sym f.stands))

    long : length (prints s (take (at + 1) piece)) ≡ length (prints s first) + length printed
    long = ap length prints_these ∙ length-append (prints s first) printed

    written_these : output' ≡ splice 0 (prints s (take (at + 1) piece)) before
    written_these =
        put_next before 0 used (prints s first) printed
        (f.size ∙ sym (zero-add (length (prints s first)))) (omega (arith, f.size, f.inside)) f.written t.put.bytes
        ∙ ap (λ (q : List ℕ). splice 0 q before) (sym prints_these)

    fits : used + length printed ≤ length before
    fits = omega (arith, t.put.small, g.room, f.same, f.inside)

    pub byte_taken : SoFar s piece before r.playing (at + 1) r.used output'
    byte_taken =
        record {
          stands = t.stands ∙ sym after_these;
          written = written_these;
          size = omega (arith, t.put.ends, f.size, long);
          inside = omega (arith, t.put.ends, fits);
          taken_in = omega (arith, g.left);
          same = ap length written_these ∙ length-splice 0 (prints s (take (at + 1) piece)) before (omega (arith, long, f.size, fits));
        }
