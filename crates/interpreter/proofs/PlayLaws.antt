-- A line that is played: what its call and its printing give.
use mathlib.Core.Path.{◌≡◌, refl, sym, ap, ◌∙◌}
use mathlib.Core.Bool.{Bool, true, false, not, cond, true≢false}
use mathlib.Core.List.{List, [], ◌∷◌}
use Prim.Native.Nat.{ℕ, zero, suc, ◌<◌, min}
use native.Mathlib.Nat.{min-eq_left, add-zero}
use native.Mathlib.Omega.{arith}
use lib.Dec.{eqb}
use lib.ListN.{length, take}
use lib.Seq.{take_all}
use Rattle.numbers.proofs.Cases.{by_order}
use Rattle.numbers.proofs.SpliceLaws.{splice_nil}
use Rattle.end.specs.declared.End.{End}
use Rattle.script.specs.declared.Call.{Call}
use Rattle.script.specs.Line.{Line, Play}
use Rattle.store.specs.declared.Store.{Store}
use Rattle.store.specs.Store.{kept}
use Rattle.answers.specs.Put.{Put}
use Rattle.answers.proofs.PutLaws.{put_same}
use Rattle.player.specs.declared.Played.{Played}
use Rattle.std.specs.Prelude.{is_some}
use Rattle.player.specs.Play.{Printed, Bad, Shows, Turn}
use Rattle.player.specs.Explain.{played_by}
use Rattle.player.specs.Promise.{Plays}
use Rattle.player.specs.House.{House, widest, is_bad, printed_line, end_at, turn_at, at_end, bad_line}
use Rattle.interpreter.specs.declared.Pair.{Pair}
use Rattle.interpreter.specs.declared.Turned.{Turned}
use Rattle.interpreter.specs.Interpreter.{house_in, ended, standing_of}
use Rattle.interpreter.specs.Promise.{PlaysLine}

-- ---- a call

module _ (p : Pair) (call : Call) where
  abbrev is_zero : Bool
  is_zero = eqb call.end.0 0

  abbrev gives : Turn
  gives = turn_at call (house_in p)

  pub called : {e first second : End} {store : Store} {before output : List ℕ} {played : Played} {at used : ℕ} {stopped : Bool}
      → e ≡ end_at call.end (house_in p)
      → Plays p.explains e call.verb call.clock (kept p.store) played (kept store)
      → Put widest at (printed_line call.end call.clock played.printed) before output used
      → stopped ≡ is_bad played.printed → first ≡ cond is_zero played.end p.zero → second ≡ cond is_zero p.one played.end
      → PlaysLine (Play call) (house_in p) at before output
      (record { pair = record { zero = first; one = second; store = store; explains = p.explains }; len = 0; stopped = stopped; used = used })
  called {e} {first} {second} {store} {before} {output} {played} is-e plays put bad is-first is-second =
      let by : End → Turn = λ x. played_by p.explains x call.verb call.clock (house_in p).messages in
      let t : by e ≡ gives = ap by is-e in
      let printed : played.printed ≡ gives.printed = plays.printed ∙ ap (λ (x : Turn). x.printed) t in
      let left : played.end ≡ gives.left = plays.left ∙ ap (λ (x : Turn). x.left) t in
      let messages = plays.kept ∙ ap (λ (x : Turn). x.messages) t in
      let one = is-first ∙ ap (λ (x : End). cond is_zero x p.zero) left in
      let two = is-second ∙ ap (λ (x : End). cond is_zero p.one x) left in
      let stops = bad ∙ ap is_bad printed in
      record {
        stands = λ i. record { house = record { zero = one i; one = two i; messages = messages i; explains = p.explains }; line = []; stopped = stops i };
        fresh = refl;
        put = put_same put (ap (printed_line call.end call.clock) printed);
      }

-- "bad" is printed where there is no answer
pub stops-bad : (p : Printed) (s : Bool) → is_some p ≡ not s → s ≡ is_bad p
stops-bad Bad true h = refl
stops-bad Bad false h = absurd (true≢false (sym h))
stops-bad (Shows a) true h = absurd (true≢false h)
stops-bad (Shows a) false h = refl

-- another name for the same line
pub line_same : {l m : Line} {h : House} {at : ℕ} {before output : List ℕ} {r : Turned} → PlaysLine l h at before output r → m ≡ l → PlaysLine m h at before output r
line_same {l} {m} {h} {at} {before} {output} {r} p e = rw e p

-- ---- what became of a line

-- it was played
pub turn-played : {l : Line} {h : House} {at : ℕ} {before output : List ℕ} {r : Turned} (line : List ℕ) → PlaysLine l h at before output r
    → standing_of r.pair line r.len r.stopped ≡ ended l h
turn-played {r = r} line p = ap (λ (n : ℕ). standing_of r.pair line n r.stopped) p.fresh ∙ p.stands

-- nothing was printed
pub put-none : {most : ℕ} (at : ℕ) (output : List ℕ) → Put most at [] output output at
put-none at output = record { bytes = sym (splice_nil at output); ends = sym (add-zero at); small = omega arith }

-- a line's first bytes, of those that there are
pub first-bytes : (len : ℕ) (line : List ℕ) → take (min len (length line)) line ≡ take len line
first-bytes len line =
    by_order (length line) len
    (λ l. let e : min len (length line) ≡ length line = omega arith in rw e (take_all (length line) line (omega arith) ∙ sym (take_all len line (omega arith))))
    (λ g. rw (min-eq_left g))

-- a line with some bytes is malformed without its line feed
pub some-line : (len : ℕ) (line : List ℕ) → (len ≡ 0 → ⊥) → 0 < length line → at_end (take len line) ≡ bad_line
some-line zero line h k = absurd (h refl)
some-line (suc n) [] h k = absurd (omega arith)
some-line (suc n) (b ∷ line) h k = refl
