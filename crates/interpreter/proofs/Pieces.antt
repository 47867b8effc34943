-- However a script is cut into pieces, they print together what `prints_of` says of the whole script.
use mathlib.Core.Path.{◌≡◌, refl, sym, ap, ◌∙◌}
use mathlib.Core.Bool.{Bool, true, false, cond, true≢false}
use mathlib.Core.List.{List, [], ◌∷◌, ◌++◌, append_assoc}
use Prim.Native.Nat.{ℕ, ◌≤◌, ◌<◌}
use native.Mathlib.Omega.{arith}
use lib.ListN.{length, length-append}
use lib.Dec.{eqb}
use borrow.Author.Tests.{lt-ltb, le-ltb}
use Rattle.numbers.proofs.Cases.{by_flag, by_order}
use Rattle.lines.specs.Cut.{longest}
use Rattle.script.specs.Line.{Line}
use Rattle.script.specs.Line.{line_of}
use Rattle.player.specs.House.{House, bad_line, after_line, line_prints, line_house, line_stops, prints_from}
use Rattle.interpreter.specs.Interpreter.{Standing, start, within, ended, after_byte, byte_prints, after, prints, end_prints, all_print, joined, PrintsInPieces}
use Rattle.interpreter.proofs.HouseLaws.{prints-long}

-- ---- two pieces are one

pub after_both : (s : Standing) (a b : List ℕ) → after s (a ++ b) ≡ after (after s a) b
unfolding after
after_both s [] b = refl
after_both s (x ∷ a) b = after_both (after_byte s x) a b

pub prints_both : (s : Standing) (a b : List ℕ) → prints s (a ++ b) ≡ prints s a ++ prints (after s a) b
unfolding after prints
prints_both s [] b = refl
prints_both s (x ∷ a) b =
    ap (λ (l : List ℕ). byte_prints s x ++ l) (prints_both (after_byte s x) a b)
    ∙ sym (append_assoc (byte_prints s x) (prints (after_byte s x) a) (prints (after (after_byte s x) a) b))

-- ---- a script that has stopped stays where it is

kept : (t : Bool) (s x : Standing) → t ≡ true → cond t s x ≡ s
kept true s x h = refl
kept false s x h = absurd (true≢false (sym h))

stays : (s : Standing) (b : ℕ) → s.stopped ≡ true → after_byte s b ≡ s
unfolding after_byte
stays s b h = kept s.stopped s _ h

pub after-stopped : (s : Standing) (piece : List ℕ) → s.stopped ≡ true → after s piece ≡ s
unfolding after
after-stopped s [] h = refl
after-stopped s (b ∷ piece) h = ap (λ (x : Standing). after x piece) (stays s b h) ∙ after-stopped s piece h

-- ---- one piece

-- what is printed from here to the end of the input
abbrev whole : Standing → List ℕ → List ℕ
whole s piece = prints s piece ++ end_prints (after s piece)

-- after "bad" nothing is
abbrev done : House → List ℕ → Standing
done h line = record { house = h; line = line; stopped = true }

stopped_none : (h : House) (line piece : List ℕ) → whole (done h line) piece ≡ []
unfolding after prints after_byte byte_prints
stopped_none h line [] = refl
stopped_none h line (b ∷ piece) = stopped_none h line piece

-- one byte more
whole-next : (s : Standing) (b : ℕ) (piece : List ℕ) → whole s (b ∷ piece) ≡ byte_prints s b ++ whole (after_byte s b) piece
unfolding after prints
whole-next s b piece = append_assoc (byte_prints s b) (prints (after_byte s b) piece) (end_prints (after (after_byte s b) piece))

-- the end of a line
module _ (l : Line) (h : House) (piece : List ℕ) (next : whole (within (line_house l h) []) piece ≡ prints_from (line_house l h) [] piece) where
  whole-line : line_prints l h ++ whole (ended l h) piece ≡ after_line l h (λ n. prints_from n [] piece)
  whole-line = ap (λ (r : List ℕ). line_prints l h ++ r) (go (line_stops l h))
    where
      go : (t : Bool) → whole (record { house = line_house l h; line = []; stopped = t }) piece ≡ cond t [] (prints_from (line_house l h) [] piece)
      go true = stopped_none (line_house l h) [] piece
      go false = next

-- a line goes on, or has become too long
module _ (h : House) (line : List ℕ) (b : ℕ) (piece : List ℕ) (f : eqb b 10 ≡ false) where
  abbrev longer : List ℕ
  longer = line ++ (b ∷ [])

  whole-more : length line < longest → whole (within h longer) piece ≡ prints_from h longer piece
      → byte_prints (within h line) b ++ whole (after_byte (within h line) b) piece ≡ prints_from h line (b ∷ piece)
  unfolding prints_from after_byte byte_prints
  whole-more l next = rw (f, lt-ltb (length line) longest l) next

  whole_long : longest ≤ length line → byte_prints (within h line) b ++ whole (after_byte (within h line) b) piece ≡ prints_from h line (b ∷ piece)
  unfolding prints_from after_byte byte_prints
  whole_long g =
      let long : 34 < length longer = rw length-append (omega arith) in
      rw (f, le-ltb (length line) longest g)
      (ap (λ (r : List ℕ). bad_line ++ r) (stopped_none h [] piece) ∙ sym (prints-long h longer piece long))

whole-ended : (h : House) (line : List ℕ) (b : ℕ) (piece : List ℕ) → eqb b 10 ≡ true
    → ((next : House) → whole (within next []) piece ≡ prints_from next [] piece)
    → byte_prints (within h line) b ++ whole (after_byte (within h line) b) piece ≡ prints_from h line (b ∷ piece)
unfolding prints_from after_byte byte_prints
whole-ended h line b piece t next = rw t (whole-line (line_of line) h piece (next (line_house (line_of line) h)))

whole-none : (h : House) (line : List ℕ) → whole (within h line) [] ≡ prints_from h line []
unfolding after prints prints_from
whole-none h line = refl

pub whole_piece : (h : House) (line piece : List ℕ) → length line ≤ longest → whole (within h line) piece ≡ prints_from h line piece
whole_piece h line [] k = whole-none h line
whole_piece h line (b ∷ piece) k =
    whole-next (within h line) b piece
    ∙ by_flag (eqb b 10)
    (λ t. whole-ended h line b piece t (λ next. whole_piece next [] piece (omega arith)))
    (λ f.
    by_order (length line) longest
    (λ l. whole-more h line b piece f l (whole_piece h (line ++ (b ∷ [])) piece (rw length-append (omega arith))))
    (λ g. whole_long h line b piece f g))

-- ---- all pieces

whole-end : (s : Standing) → end_prints s ≡ whole s []
unfolding after prints
whole-end s = refl

pub all_pieces : (s : Standing) (pieces : List (List ℕ)) → all_print s pieces ≡ whole s (joined pieces)
unfolding all_print joined
all_pieces s [] = whole-end s
all_pieces s (piece ∷ pieces) =
    ap (λ (r : List ℕ). prints s piece ++ r) (all_pieces (after s piece) pieces)
    ∙ sym (append_assoc (prints s piece) (prints (after s piece) (joined pieces)) (end_prints (after (after s piece) (joined pieces))))
    ∙ (λ i. sym (prints_both s piece (joined pieces)) i ++ end_prints (sym (after_both s piece (joined pieces)) i))

pub house_in_pieces : PrintsInPieces
house_in_pieces explains pieces = all_pieces (start explains) pieces ∙ whole_piece (start explains).house [] (joined pieces) (omega arith)
