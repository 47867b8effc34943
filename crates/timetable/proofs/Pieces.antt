-- However the input is cut, its pieces print together what is printed from the whole.
use mathlib.Core.Path.{◌≡◌, refl, sym, ap, ◌∙◌}
use mathlib.Core.Bool.{Bool, true, false, cond, true≢false}
use mathlib.Core.List.{List, [], ◌∷◌, ◌++◌, append_assoc}
use Prim.Native.Nat.{ℕ}
use Rattle.timetable.specs.Run.{Standing, start, after_byte, byte_prints, after, prints, end_prints, windows_of, all_print, joined, PrintsInPieces}

pub after_both : (s : Standing) (a b : List ℕ) → after s (a ++ b) ≡ after (after s a) b
unfolding after
after_both s [] b = refl
after_both s (x ∷ a) b = after_both (after_byte s x) a b

pub prints_both : (s : Standing) (a b : List ℕ) → prints s (a ++ b) ≡ prints s a ++ prints (after s a) b
unfolding after prints
prints_both s [] b = refl
prints_both s (x ∷ a) b =
    ap (λ (l : List ℕ). byte_prints s x ++ l) (prints_both (after_byte s x) a b)
    ∙ sym (append_assoc (byte_prints s x) (prints (after_byte s x) a) (prints (after (after_byte s x) a) b))

-- a run that has stopped stays where it is
kept : (t : Bool) (s x : Standing) → t ≡ true → cond t s x ≡ s
kept true s x h = refl
kept false s x h = absurd (true≢false (sym h))

stays : (s : Standing) (b : ℕ) → s.stopped ≡ true → after_byte s b ≡ s
unfolding after_byte
stays s b h = kept s.stopped s _ h

pub after-stopped : (s : Standing) (piece : List ℕ) → s.stopped ≡ true → after s piece ≡ s
unfolding after
after-stopped s [] h = refl
after-stopped s (b ∷ piece) h = ap (λ (x : Standing). after x piece) (stays s b h) ∙ after-stopped s piece h

-- from any standing on
all_pieces : (s : Standing) (pieces : List (List ℕ)) → all_print s pieces ≡ prints s (joined pieces) ++ end_prints (after s (joined pieces))
unfolding all_print joined after prints
all_pieces s [] = refl
all_pieces s (piece ∷ pieces) =
    ap (λ (l : List ℕ). prints s piece ++ l) (all_pieces (after s piece) pieces)
    ∙ sym (append_assoc (prints s piece) (prints (after s piece) (joined pieces)) (end_prints (after (after s piece) (joined pieces))))
    ∙ (λ i. sym (prints_both s piece (joined pieces)) i ++ end_prints (sym (after_both s piece (joined pieces)) i))

pub windows_in_pieces : PrintsInPieces
unfolding windows_of
windows_in_pieces pieces = all_pieces start pieces
