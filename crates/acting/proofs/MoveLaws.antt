-- A move writes nothing.
use mathlib.Core.Path.{◌≡◌, refl}
use mathlib.Core.Bool.{Bool, true, false, cond}
use mathlib.Core.List.{List}
use Prim.Native.Nat.{ℕ}
use Rattle.end.specs.declared.Move.{Move}
use Rattle.end.specs.declared.End.{End}
use Rattle.end.specs.Answer.{Done, Ignored, give, Did, buffer_of}
use Rattle.end.specs.Event.{moves, moved_end, move_of}

pub move-quiet : (m : Move) (e : End) (out : List ℕ) → out ≡ buffer_of (Did (move_of m e).effect) out
unfolding move_of buffer_of
move-quiet m e out = go (moves m e.status)
  where
    go : (b : Bool) → out ≡ buffer_of (Did (cond b (give Done (moved_end m e)) (give Ignored e)).effect) out
    go true = refl
    go false = refl
