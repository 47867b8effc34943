-- However a record is cut, its pieces are judged together as the whole is; and what comes after too many lines does not count.
use mathlib.Core.Path.{◌≡◌, refl, sym, ap, ◌∙◌}
use mathlib.Core.Bool.{Bool, true, false, cond}
use mathlib.Core.List.{List, [], ◌∷◌, ◌++◌, append_assoc, append-nil}
use Prim.Native.Nat.{ℕ, ◌≤◌, ◌<◌}
use native.Mathlib.Omega.{arith}
use lib.Dec.{ltb, eqb}
use lib.ListN.{length, take, length-take, length-append}
use lib.Seq.{take_all, take-append-le}
use borrow.Author.Tests.{lt-ltb, le-ltb}
use Rattle.numbers.proofs.Cases.{by_flag, by_order}
use Rattle.record.specs.declared.Line.{Line}
use Rattle.record.specs.Line.{malformed, line_of}
use Rattle.record.proofs.LongLines.{long-line}
use Rattle.ledger.specs.declared.Judgement.TheVariants.{Refused}
use Rattle.ledger.specs.Judgement.{most_lines, judgement_of}
use Rattle.judgement.specs.Record.{last_line, lines_from, printed, record_prints}
use Rattle.judgement.specs.Pieces.{Standing, start, line_places, byte_places, added, within, ended, after_byte, after, closed, end_prints, all_print, joined, JudgedInPieces, TooManyStays}

-- ---- what is kept is the first of all that came

-- one more of the first ones is the first of one more
first-added : {A : Type 0} (places : ℕ) (l : List A) (x : A) → added places (take places l) x ≡ take places (l ++ (x ∷ []))
first-added places l x =
    by_order (length l) places
    (λ h.
    rw (take_all places l (omega arith), lt-ltb (length l) places h)
    (sym (take_all places (l ++ (x ∷ [])) (omega (arith, length-append l (x ∷ []))))))
    (λ g.
    rw (le-ltb (length (take places l)) places (omega (arith, length-take places l)))
    (sym (take-append-le places l (x ∷ []) g)))

-- a line is malformed by its first 63 bytes, and a record has too many lines by its first 1,025
first-line : (line : List ℕ) → line_of (take byte_places line) ≡ line_of line
first-line line =
    by_order byte_places (length line)
    (λ h. long-line (take byte_places line) (omega (arith, length-take byte_places line)) ∙ sym (long-line line (omega arith)))
    (λ g. ap line_of (take_all byte_places line g))

too_long : (lines : List Line) → most_lines < length lines → judgement_of lines ≡ Refused 16
unfolding judgement_of
too_long lines h = rw (lt-ltb most_lines (length lines) h)

first-lines : (lines : List Line) → judgement_of (take line_places lines) ≡ judgement_of lines
first-lines lines =
    by_order line_places (length lines)
    (λ h. too_long (take line_places lines) (omega (arith, length-take line_places lines)) ∙ sym (too_long lines (omega arith)))
    (λ g. ap judgement_of (take_all line_places lines g))

-- what is kept of these lines and of this one
abbrev keeps : List Line → List ℕ → Standing
keeps lines line = within (take line_places lines) (take byte_places line)

ends-line : (lines : List Line) (line : List ℕ) → ended (take line_places lines) (line_of (take byte_places line)) ≡ keeps (lines ++ (line_of line ∷ [])) []
ends-line lines line =
    ap (λ (l : Line). ended (take line_places lines) l) (first-line line) ∙ ap (λ (ls : List Line). within ls []) (first-added line_places lines (line_of line))

goes_on : (lines : List Line) (line : List ℕ) (b : ℕ)
    → within (take line_places lines) (added byte_places (take byte_places line) b) ≡ keeps lines (line ++ (b ∷ []))
goes_on lines line b = ap (within (take line_places lines)) (first-added byte_places line b)

closes : (lines : List Line) (line : List ℕ) → judgement_of (closed (take line_places lines) (take byte_places line)) ≡ judgement_of (lines ++ last_line line)
closes lines [] = first-lines lines ∙ ap judgement_of (sym (append-nil lines))
closes lines (b ∷ line) = ap judgement_of (first-added line_places lines malformed) ∙ first-lines (lines ++ (malformed ∷ []))

-- one byte more: a line feed, another, or none
feed_taken : (x : Standing) (b : ℕ) (s : List ℕ) → eqb b 10 ≡ true → after x (b ∷ s) ≡ after (ended x.lines (line_of x.line)) s
unfolding after after_byte
feed_taken x b s t = ap (λ (u : Bool). after (cond u (ended x.lines (line_of x.line)) (within x.lines (added byte_places x.line b))) s) t

other-taken : (x : Standing) (b : ℕ) (s : List ℕ) → eqb b 10 ≡ false → after x (b ∷ s) ≡ after (within x.lines (added byte_places x.line b)) s
unfolding after after_byte
other-taken x b s f = ap (λ (u : Bool). after (cond u (ended x.lines (line_of x.line)) (within x.lines (added byte_places x.line b))) s) f

none-taken : (x : Standing) → end_prints (after x []) ≡ printed (judgement_of (closed x.lines x.line))
unfolding after end_prints
none-taken x = refl

pub feed_line : (line : List ℕ) (b : ℕ) (s : List ℕ) → eqb b 10 ≡ true → lines_from line (b ∷ s) ≡ line_of line ∷ lines_from [] s
unfolding lines_from
feed_line line b s t = ap (λ (u : Bool). cond u (line_of line ∷ lines_from [] s) (lines_from (line ++ (b ∷ [])) s)) t

pub other-line : (line : List ℕ) (b : ℕ) (s : List ℕ) → eqb b 10 ≡ false → lines_from line (b ∷ s) ≡ lines_from (line ++ (b ∷ [])) s
unfolding lines_from
other-line line b s f = ap (λ (u : Bool). cond u (line_of line ∷ lines_from [] s) (lines_from (line ++ (b ∷ [])) s)) f

no_line_lem : (line : List ℕ) → lines_from line [] ≡ last_line line
unfolding lines_from
no_line_lem line = refl

-- the bytes that are left, after any lines and the start of a line
all_judged : (lines : List Line) (line s : List ℕ) → end_prints (after (keeps lines line) s) ≡ printed (judgement_of (lines ++ lines_from line s))
all_judged lines line [] =
    none-taken (keeps lines line) ∙ ap printed (closes lines line) ∙ ap (λ (ls : List Line). printed (judgement_of (lines ++ ls))) (sym (no_line_lem line))
all_judged lines line (b ∷ s) =
    by_flag (eqb b 10)
    (λ t.
    ap end_prints (feed_taken (keeps lines line) b s t)
    ∙ ap (λ (x : Standing). end_prints (after x s)) (ends-line lines line)
    ∙ all_judged (lines ++ (line_of line ∷ [])) [] s
    ∙ ap (λ (ls : List Line). printed (judgement_of ls))
    (append_assoc lines (line_of line ∷ []) (lines_from [] s) ∙ ap (λ (ls : List Line). lines ++ ls) (sym (feed_line line b s t))))
    (λ f.
    ap end_prints (other-taken (keeps lines line) b s f)
    ∙ ap (λ (x : Standing). end_prints (after x s)) (goes_on lines line b)
    ∙ all_judged lines (line ++ (b ∷ [])) s
    ∙ ap (λ (ls : List Line). printed (judgement_of (lines ++ ls))) (sym (other-line line b s f)))

-- ---- pieces
after_both : (s : Standing) (a b : List ℕ) → after s (a ++ b) ≡ after (after s a) b
unfolding after
after_both s [] b = refl
after_both s (x ∷ a) b = after_both (after_byte s x) a b

all_pieces : (s : Standing) (pieces : List (List ℕ)) → all_print s pieces ≡ end_prints (after s (joined pieces))
unfolding all_print joined after
all_pieces s [] = refl
all_pieces s (piece ∷ pieces) = all_pieces (after s piece) pieces ∙ sym (ap end_prints (after_both s piece (joined pieces)))

pub judged_in_pieces : JudgedInPieces
unfolding record_prints
judged_in_pieces pieces = all_pieces start pieces ∙ all_judged [] [] (joined pieces)

-- ---- too many lines stay too many
added_grows : {A : Type 0} (places : ℕ) (l : List A) (x : A) → length l ≤ length (added places l x)
added_grows places l x = by_flag (ltb (length l) places) (λ t. rw t (omega (arith, length-append l (x ∷ [])))) (λ f. rw f (omega arith))

byte_grows : (s : Standing) (b : ℕ) → length s.lines ≤ length (after_byte s b).lines
unfolding after_byte
byte_grows s b = by_flag (eqb b 10) (λ t. rw t (added_grows line_places s.lines (line_of s.line))) (λ f. rw f (omega arith))

after_grows : (s : Standing) (rest : List ℕ) → length s.lines ≤ length (after s rest).lines
unfolding after
after_grows s [] = omega arith
after_grows s (b ∷ rest) = omega (arith, byte_grows s b, after_grows (after_byte s b) rest)

closed_grows : (lines : List Line) (line : List ℕ) → length lines ≤ length (closed lines line)
closed_grows lines [] = omega arith
closed_grows lines (b ∷ line) = added_grows line_places lines malformed

refused : (s : Standing) → most_lines < length s.lines → end_prints s ≡ printed (Refused 16)
unfolding end_prints
refused s h = ap printed (too_long (closed s.lines s.line) (omega (arith, closed_grows s.lines s.line)))

pub too_many_stays : TooManyStays
too_many_stays s rest h = refused (after s rest) (omega (arith, after_grows s rest)) ∙ sym (refused s h)
