-- A line of more than 34 bytes ends the script at once, whatever comes after.
use mathlib.Core.Path.{◌≡◌, refl, sym, ap}
use mathlib.Core.Bool.{Bool, true, false, cond}
use mathlib.Core.List.{List, [], ◌∷◌, ◌++◌}
use Prim.Native.Nat.{ℕ, ◌<◌}
use native.Mathlib.Omega.{arith}
use lib.ListN.{length, length-append}
use lib.Dec.{eqb}
use Rattle.script.specs.Line.{Line}
use Rattle.script.specs.Line.{line_of}
use Rattle.script.proofs.LineLaws.{long-line}
use Rattle.player.specs.House.{House, bad_line, after_line, at_end, prints_from}

long-end : (line : List ℕ) → 34 < length line → at_end line ≡ bad_line
long-end [] h = absurd (omega arith)
long-end (b ∷ line) h = refl

pub prints-long : (h : House) (line s : List ℕ) → 34 < length line → prints_from h line s ≡ bad_line
unfolding prints_from
prints-long h line [] k = long-end line k
prints-long h line (b ∷ s) k = go (eqb b 10) (prints-long h (line ++ (b ∷ [])) s more)
  where
    more : 34 < length (line ++ (b ∷ []))
    more = rw length-append (omega arith)

    go : (t : Bool) → prints_from h (line ++ (b ∷ [])) s ≡ bad_line → cond t (after_line (line_of line) h (λ next. prints_from next [] s)) (prints_from h (line ++ (b ∷ [])) s) ≡ bad_line
    go true p = ap (λ (l : Line). after_line l h (λ next. prints_from next [] s)) (sym (long-line line k))
    go false p = p
