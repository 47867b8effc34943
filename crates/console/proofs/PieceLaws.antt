-- A piece that is taken by several calls: each takes bytes, one call more, and the end.
use mathlib.Core.Path.{◌≡◌, refl, sym, ap, ◌∙◌}
use mathlib.Core.Bool.{true, false, true≢false}
use mathlib.Core.Logic.{⊎_elim}
use mathlib.Core.List.{List, [], ◌∷◌}
use Prim.Native.Nat.{ℕ, ◌+◌, ◌-◌, ◌≤◌, ◌<◌}
use native.Mathlib.Omega.{arith}
use lib.ListN.{length, take, drop, length-drop, take-append-drop}
use lib.Seq.{take_all}
use Rattle.numbers.proofs.Cases.{by_order}
use Rattle.player.specs.House.{widest}
use Rattle.interpreter.specs.declared.Playing.{Playing}
use Rattle.interpreter.specs.declared.Progress.{Progress}
use Rattle.interpreter.specs.Interpreter.{Standing, after, prints, standing}
use Rattle.interpreter.specs.Promise.{Feeds}
use Rattle.interpreter.proofs.Pieces.{after_both, after-stopped}

-- ---- a call takes bytes where it can

module _ {s : Standing} {piece before output : List ℕ} {r : Progress} (f : Feeds s piece before output r)
    (plays : s.stopped ≡ false) (some : 0 < length piece) (room : widest ≤ length before) where
  not_none : r.taken ≡ 0 → ⊥
  unfolding after prints
  not_none e =
      let none : take r.taken piece ≡ [] = ap (λ (n : ℕ). take n piece) e in
      let used : r.used ≡ 0 = f.size ∙ ap (λ (t : List ℕ). length (prints s t)) none in
      let stays : r.playing.stopped ≡ s.stopped = ap (λ (x : Standing). x.stopped) (f.stands ∙ ap (after s) none) in
      ⊎_elim
      (λ all. omega arith)
      (λ other. ⊎_elim (λ stops. true≢false (sym stops ∙ stays ∙ plays)) (λ full. omega arith) other)
      f.goes_on

  pub some-taken : 0 < r.taken
  some-taken = by_order 0 r.taken (λ l. l) (λ g. absurd (not_none (omega arith)))

-- ---- one call more, and the end

-- what is left of a piece gives from here on what the whole of it gives from the start
abbrev pub Left : Playing → List ℕ → Standing → Type 0
Left p rest end = after (standing p) rest ≡ end

-- after a call, what it did not take is left
pub more-taken : {end : Standing} (p q : Playing) (rest : List ℕ) (n m : ℕ) → length rest ≤ n + m → Left p rest end → standing q ≡ after (standing p) (take n rest)
    → Left q (take m (drop n rest)) end
more-taken p q rest n m k h t =
    let d : length (drop n rest) ≡ length rest - n = length-drop n rest in
    ap (after (standing q)) (take_all m (drop n rest) (omega (arith, d, k)))
    ∙ ap (λ (x : Standing). after x (drop n rest)) t ∙ sym (after_both (standing p) (take n rest) (drop n rest))
    ∙ ap (after (standing p)) (take-append-drop n rest) ∙ h

-- nothing is left, or nothing that is left changes anything
pub none-left : {end : Standing} (p : Playing) (rest : List ℕ) → Left p rest end → length rest ≡ 0 → standing p ≡ end
unfolding after
none-left p [] h e = h
none-left p (b ∷ rest) h e = absurd (omega (arith, e))

pub stopped-left : {end : Standing} (p : Playing) (rest : List ℕ) → Left p rest end → p.stopped ≡ true → standing p ≡ end
stopped-left p rest h e = sym (after-stopped (standing p) rest e) ∙ h
