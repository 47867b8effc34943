use mathlib.Core.Path.{◌≡◌, refl, sym, ap, ◌∙◌}
use mathlib.Core.List.{List}
use Prim.Native.Nat.{ℕ, ◌+◌}
use native.Mathlib.Omega.{arith}
use lib.ListN.{drop, drop_of_length-le}
use Rattle.lines.specs.declared.Fed.TheVariants.{More, Whole, TooLong}
use Rattle.lines.specs.Cut.{cut_of, line_cut}
use Rattle.lines.proofs.CutLaws.{cut_more, cut_ended}
use Rattle.lines.proofs.take_line.Goals as goal

pub loop-place-init : goal.loop-place-init
loop-place-init c = (refl, refl, omega arith)

pub bounds-piece-place : goal.bounds-piece-place
bounds-piece-place c = omega arith

pub loop-place-preserved : goal.loop-place-preserved
loop-place-preserved c =
    let bytes : List ℕ = c.args.piece.now in
    let place : ℕ = c.loop-place.place in
    let l = c.loop-place in
    let p = cut_more bytes place l.n l.line (omega arith) c.in-More.m (sym c.feed.ensures.value ∙ c.in-More.is) in
    (p.0 ∙ l.invariant.0, ap (line_cut (drop (place + 1) bytes) c.in-More.m) c.feed.ensures.line_after ∙ p.1 ∙ l.invariant.1, omega arith)

pub returns-in-Whole : goal.returns-in-Whole
returns-in-Whole c =
    let bytes : List ℕ = c.args.piece.now in
    let place : ℕ = c.loop-place.place in
    let l = c.loop-place in
    let p = cut_ended bytes place l.n l.line (omega arith) (Whole c.in-Whole.m) (λ A y z. refl) (sym c.feed.ensures.value ∙ c.in-Whole.is) in record { value = p.0 ∙ l.invariant.0; line_after = c.feed.ensures.line_after ∙ p.1 ∙ l.invariant.1 }

pub returns-in-TooLong : goal.returns-in-TooLong
returns-in-TooLong c =
    let bytes : List ℕ = c.args.piece.now in
    let place : ℕ = c.loop-place.place in
    let l = c.loop-place in
    let p = cut_ended bytes place l.n l.line (omega arith) TooLong (λ A y z. refl) (sym c.feed.ensures.value ∙ c.in-TooLong.is) in record { value = p.0 ∙ l.invariant.0; line_after = c.feed.ensures.line_after ∙ p.1 ∙ l.invariant.1 }

pub returns : goal.returns
unfolding cut_of line_cut
returns c =
    let l = c.loop-place in
    let e : c.max.result ≡ l.place = omega (arith, c.max.ensures) in
    let none = drop_of_length-le c.args.piece.now {i = l.place} (omega arith) in
    record {
      value = ap (λ (k : ℕ). record { fed = More l.n; at = k }) e ∙ sym (ap (λ (s : List ℕ). cut_of s l.place l.n) none) ∙ l.invariant.0;
      line_after = sym (ap (λ (s : List ℕ). line_cut s l.n l.line) none) ∙ l.invariant.1;
    }
