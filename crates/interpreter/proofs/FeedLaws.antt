-- A piece that is taken line by line: before the first line, one line more, and the end.
use mathlib.Core.Path.{◌≡◌, refl, sym, ap, ◌∙◌, subst}
use mathlib.Core.Bool.{Bool, true, false, not, ◌&&◌, true≢false}
use mathlib.Core.Logic.{◌⊎◌, inl, inr, ⊎_elim}
use mathlib.Core.List.{List, ◌++◌}
use Prim.Native.Nat.{ℕ, ◌+◌, ◌-◌, ◌≤◌, ◌<◌}
use native.Mathlib.Nat.{zero-add}
use native.Mathlib.Omega.{arith}
use lib.ListN.{length, take, drop, length-append, length-drop}
use lib.Seq.{take-add}
use lib.Dec.{ltb, leb}
use borrow.Author.Tests.{ltb-true, ltb-false, leb-true, leb-false, not-true, not-false}
use Rattle.numbers.specs.Splice.{splice}
use Rattle.numbers.proofs.SpliceLaws.{splice_nil, length-splice, put_next}
use Rattle.lines.specs.declared.Cut.{Cut}
use Rattle.lines.specs.Cut.{longest, cut_of, line_cut}
use Rattle.player.specs.House.{widest}
use Rattle.interpreter.specs.declared.Pair.{Pair}
use Rattle.interpreter.specs.declared.Turned.{Turned}
use Rattle.interpreter.specs.Interpreter.{Standing, within, after, prints, house_in, standing_of}
use Rattle.interpreter.specs.Promise.{fed_standing, fed_prints, Turns, Feeds}
use Rattle.interpreter.proofs.Pieces.{after_both, prints_both}
use Rattle.interpreter.proofs.CutLaws.{Cuts, cuts}

-- the first `at` bytes of a piece are taken
pub record SoFar (s : Standing) (piece before : List ℕ) (pair : Pair) (line : List ℕ) (len : ℕ) (stopped : Bool) (at used : ℕ) (output : List ℕ) : Type 0 where
  pub stands : standing_of pair line len stopped ≡ after s (take at piece)
  pub written : output ≡ splice 0 (prints s (take at piece)) before
  pub size : used ≡ length (prints s (take at piece))
  pub inside : used ≤ length before
  pub taken_in : at ≤ length piece
  pub same : length output ≡ length before
  pub line-size : length line ≡ longest

pub none-taken : (piece before : List ℕ) (pair : Pair) (line : List ℕ) (len : ℕ) (stopped : Bool) → length line ≡ longest
    → SoFar (standing_of pair line len stopped) piece before pair line len stopped 0 0 before
unfolding after prints
none-taken piece before pair line len stopped l =
    record { stands = refl; written = sym (splice_nil 0 before); size = refl; inside = omega arith; taken_in = omega arith; same = refl; line-size = l }

-- ---- the loop's test

abbrev goes : ℕ → List ℕ → ℕ → List ℕ → Bool → Bool
goes at piece used output stopped = (ltb at (length piece) && leb widest (length output - used)) && not stopped

both : (a b : Bool) → a && b ≡ true → (a ≡ true) × (b ≡ true)
both true b h = (refl, h)
both false b h = absurd (true≢false (sym h))

either : (a b : Bool) → a && b ≡ false → (a ≡ false) ⊎ (b ≡ false)
either true b h = inr h
either false b h = inl refl

pub record Goes (at : ℕ) (piece : List ℕ) (used : ℕ) (output : List ℕ) (stopped : Bool) : Type 0 where
  pub left : at < length piece
  pub room : widest ≤ length output - used
  pub plays : stopped ≡ false

pub goes_on : (at : ℕ) (piece : List ℕ) (used : ℕ) (output : List ℕ) (stopped : Bool) → goes at piece used output stopped ≡ true → Goes at piece used output stopped
goes_on at piece used output stopped h =
    let p = both (ltb at (length piece) && leb widest (length output - used)) (not stopped) h in
    let q = both (ltb at (length piece)) (leb widest (length output - used)) p.0 in
    record { left = ltb-true at (length piece) q.0; room = leb-true widest (length output - used) q.1; plays = not-true stopped p.1 }

-- ---- one line more, and the end

module _ {s : Standing} {piece before : List ℕ} {pair : Pair} {line : List ℕ} {len : ℕ} {stopped : Bool} {at used : ℕ} {output : List ℕ}
    (f : SoFar s piece before pair line len stopped at used output) where
  pub all-taken : goes at piece used output stopped ≡ false
      → Feeds s piece before output (record { playing = record { pair = pair; line = line; len = len; stopped = stopped }; taken = at; used = used })
  all-taken h =
      record {
        stands = f.stands;
        output-is = f.written;
        size = f.size;
        inside = f.inside;
        taken_in = f.taken_in;
        goes_on =
            ⊎_elim
            (λ p.
            ⊎_elim
            (λ a. let g : length piece ≤ at = ltb-false at (length piece) a in inl (omega (arith, f.taken_in)))
            (λ b. let g = leb-false widest (length output - used) b in inr (inr (omega (arith, f.inside, f.same))))
            (either (ltb at (length piece)) (leb widest (length output - used)) p))
            (λ c. inr (inl (not-false stopped c)))
            (either (ltb at (length piece) && leb widest (length output - used)) (not stopped) h);
      }

  module _ {c : Cut} {kept output' : List ℕ} {r : Turned} (g : Goes at piece used output stopped)
      (is_cut : c ≡ cut_of (drop at piece) at len) (is-kept : kept ≡ line_cut (drop at piece) len line)
      (t : Turns c.fed kept (house_in pair) used output output' r) where
    cut : Cuts (drop at piece) at len line (house_in pair) c kept
    cut =
        subst (λ (x : Cut). Cuts (drop at piece) at len line (house_in pair) x kept) (sym is_cut)
        (subst (λ (x : List ℕ). Cuts (drop at piece) at len line (house_in pair) (cut_of (drop at piece) at len) x) (sym is-kept)
        (cuts (drop at piece) at len line (house_in pair) f.line-size))

    rest : length (drop at piece) ≡ length piece - at
    rest = length-drop at piece

    -- the bytes that were taken before, and these
    abbrev first : List ℕ
    first = take at piece

    abbrev these : List ℕ
    these = take cut.taken (drop at piece)

    abbrev printed : List ℕ
    printed = fed_prints c.fed kept (house_in pair)

    taken_both : take c.at piece ≡ first ++ these
    taken_both = ap (λ (n : ℕ). take n piece) cut.reach ∙ take-add at cut.taken piece

    here : after s first ≡ within (house_in pair) (take len line)
    here = sym f.stands ∙ ap (standing_of pair line len) g.plays

    after_these : after s (take c.at piece) ≡ fed_standing c.fed kept (house_in pair)
    after_these = ap (after s) taken_both ∙ after_both s first these ∙ ap (λ (x : Standing). after x these) here ∙ cut.stands

    prints_these : prints s (take c.at piece) ≡ prints s first ++ printed
    prints_these =
        ap (prints s) taken_both ∙ prints_both s first these
        ∙ ap (λ (x : List ℕ). prints s first ++ x) (ap (λ (x : Standing). prints x these) here ∙ cut.printed)

    long : length (prints s (take c.at piece)) ≡ length (prints s first) + length printed
    long = ap length prints_these ∙ length-append (prints s first) printed

    written_these : output' ≡ splice 0 (prints s (take c.at piece)) before
    written_these =
        put_next before 0 used (prints s first) printed (f.size ∙ sym (zero-add (length (prints s first)))) (omega (arith, f.size, f.inside)) f.written t.put.bytes
        ∙ ap (λ (x : List ℕ). splice 0 x before) (sym prints_these)

    fits : used + length printed ≤ length before
    fits = omega (arith, t.put.small, g.room, f.same, f.inside)

    pub line_taken : SoFar s piece before r.pair kept r.len r.stopped c.at r.used output'
    line_taken =
        record {
          stands = t.stands ∙ sym after_these;
          written = written_these;
          size = omega (arith, t.put.ends, f.size, long);
          inside = omega (arith, t.put.ends, fits);
          taken_in = omega (arith, cut.reach, cut.inside, rest, f.taken_in);
          same = ap length written_these ∙ length-splice 0 (prints s (take c.at piece)) before (omega (arith, long, f.size, fits));
          line-size = cut.same ∙ f.line-size;
        }

    pub line_less : at < c.at
    line_less = omega (arith, cut.reach, cut.some (omega (arith, rest, g.left)))
