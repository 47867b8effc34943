-- What a line is written as is read as that line.
use mathlib.Core.Path.{◌≡◌, refl, sym, ap, ◌∙◌}
use mathlib.Core.Bool.{true, false, not, ◌&&◌}
use mathlib.Core.List.{List, [], ◌∷◌, ◌++◌}
use Prim.Native.Nat.{ℕ, suc, ◌+◌, ◌*◌, ◌-◌, ◌/◌, ◌%◌, ◌<◌}
use native.Mathlib.Omega.{arith}
use lib.Dec.{leb, eqb}
use lib.ListN.{length}
use borrow.Author.Tests.{lt-ltb, le-ltb, le-leb, lt-leb, eq-eqb, ne_eqb}
use Rattle.std.specs.Prelude.{Some}
use Rattle.numbers.specs.Number.{Bytes}
use Rattle.numbers.proofs.Cases.{by_order}
use Rattle.message.specs.declared.Host.{Host}
use Rattle.message.specs.declared.CueNumber.{CueNumber}
use Rattle.message.specs.declared.Name.{Name}
use Rattle.message.specs.Cue.{cue_in}
use Rattle.end.specs.declared.Move.{Move}
use Rattle.end.specs.declared.Move.TheVariants.{Join, Joined, Leave, Left, Crash}
use Rattle.decimal.specs.Decimal.{decimal, is_digit, all_digits, well_written, unsigned_word}
use Rattle.decimal.proofs.DecimalLaws.{both, digit_range, figure_digit}
use Rattle.decimal.proofs.ReadBack.{printed-reads, is_read}
use Rattle.script.specs.Words.{onto, words, same}
use Rattle.record.specs.declared.Said.{Said}
use Rattle.record.specs.declared.Said.TheVariants.{Malformed, Moved, Sent, Got}
use Rattle.record.specs.declared.Line.{Line}
use Rattle.record.specs.Line.{move_word, is_hex, all_hex, hex_value, bytes_in, cue_word, moved_of, sent_of, got_of, moved_in, sent_in, got_in, line_in, line_of}
use Rattle.record.specs.Text.{hex_digit, hex_text, move_text, words_of, spaced, text_of, ProperCue, ProperSaid, Proper, ReadsBack}

-- ---- bytes above the space, of which a word is made
abbrev Solid : List ℕ → Type 0
Solid [] = Unit {0}
Solid (b ∷ w) = (32 < b) × Solid w

abbrev AllSolid : List (List ℕ) → Type 0
AllSolid [] = Unit {0}
AllSolid (w ∷ l) = Solid w × AllSolid l

no_space : (b : ℕ) → 32 < b → eqb b 32 ≡ false
no_space b h = ne_eqb b 32 (λ e. omega arith)

one_word : (w : List ℕ) → Solid w → words w ≡ w ∷ []
unfolding words onto
one_word [] s = refl
one_word (b ∷ w) s = rw (no_space b s.0, one_word w s.1)

more-words : (w s : List ℕ) → Solid w → words (w ++ (32 ∷ s)) ≡ w ∷ words s
unfolding words onto
more-words [] s h = refl
more-words (b ∷ w) s h = rw (no_space b h.0, more-words w s h.1)

spaced-words : (w : List ℕ) (l : List (List ℕ)) → AllSolid (w ∷ l) → words (spaced (w ∷ l)) ≡ w ∷ l
unfolding spaced
spaced-words w [] h = one_word w h.0
spaced-words w (x ∷ l) h = more-words w (spaced (x ∷ l)) h.0 ∙ ap (λ (ws : List (List ℕ)). w ∷ ws) (spaced-words x l h.1)

-- ---- decimal words
solid_digits : (s : List ℕ) → all_digits s ≡ true → Solid s
unfolding all_digits
solid_digits [] h = tt
solid_digits (b ∷ s) h = let p = both (is_digit b) (all_digits s) h in (omega (arith, digit_range b p.0), solid_digits s p.1)

well_digits : (s : List ℕ) → well_written s ≡ true → all_digits s ≡ true
unfolding well_written all_digits
well_digits [] h = refl
well_digits (b ∷ []) h = rw h
well_digits (b ∷ c ∷ s) h = (both (not (eqb b 48)) (all_digits (b ∷ c ∷ s)) h).1

solid_decimal : (n : ℕ) → n < 65536 → Solid (decimal n)
solid_decimal n h = solid_digits (decimal n) (well_digits (decimal n) (is_read (decimal n) n (printed-reads n (omega arith))).0)

-- ---- hexadecimal words
digit_back : (x : ℕ) → x < 16 → (hex_value (hex_digit x) ≡ x) × (is_hex (hex_digit x) ≡ true)
digit_back x h =
    by_order x 10
    (λ l.
    let e : 48 + x - 48 ≡ x = omega arith in
    let d = figure_digit x l in
    (rw (lt-ltb x 10 l, d) e, rw (lt-ltb x 10 l, d)))
    (λ g.
    let e : 55 + x - 55 ≡ x = omega arith in
    let a : leb 48 (55 + x) ≡ true = le-leb 48 (55 + x) (omega arith) in
    let b : leb (55 + x) 57 ≡ false = lt-leb (55 + x) 57 (omega arith) in
    let c : leb 65 (55 + x) ≡ true = le-leb 65 (55 + x) (omega arith) in
    let d : leb (55 + x) 70 ≡ true = le-leb (55 + x) 70 (omega arith) in
    (rw (le-ltb x 10 g, a, b, c, d) e, rw (le-ltb x 10 g, a, b, c, d)))

solid_digit : (x : ℕ) → 32 < hex_digit x
solid_digit x = by_order x 10 (λ l. rw (lt-ltb x 10 l) (omega arith)) (λ g. rw (le-ltb x 10 g) (omega arith))

solid_hex : (cue : List ℕ) → Solid (hex_text cue)
unfolding hex_text
solid_hex [] = tt
solid_hex (b ∷ cue) = (solid_digit (b / 16), (solid_digit (b % 16), solid_hex cue))

hex_length : (cue : List ℕ) → length (hex_text cue) ≡ length cue * 2
unfolding hex_text
hex_length [] = refl
hex_length (b ∷ cue) = omega (arith, hex_length cue)

hex_back : (cue : List ℕ) → Bytes cue → (bytes_in (hex_text cue) ≡ cue) × (all_hex (hex_text cue) ≡ true)
unfolding hex_text bytes_in all_hex
hex_back [] h = (refl, refl)
hex_back (b ∷ cue) h =
    let small : b < 256 = h 0 in
    let high = digit_back (b / 16) (omega arith) in
    let low = digit_back (b % 16) (omega arith) in
    let rest = hex_back cue (λ i. h (suc i)) in
    let e : b / 16 * 16 + b % 16 ≡ b = omega arith in
    ((λ i. (high.0 i * 16 + low.0 i) ∷ rest.0 i) ∙ ap (λ (x : ℕ). x ∷ cue) e, (λ i. high.1 i && (low.1 i && rest.1 i)))

cue_back : (cue : List ℕ) → ProperCue cue → cue_word (hex_text cue) ≡ Some cue
unfolding cue_word
cue_back cue p =
    let back = hex_back cue p.bytes in
    let long : length (hex_text cue) ≡ 48 = omega (arith, hex_length cue, p.size) in
    let right : (all_hex (hex_text cue) && cue_in (bytes_in (hex_text cue))) ≡ true = λ i. back.1 i && (ap cue_in back.0 ∙ p.range) i in
    rw (eq-eqb (length (hex_text cue)) 48 long, right) (ap Some back.0)

-- ---- lines
number_back : (n : ℕ) → n < 65536 → unsigned_word (decimal n) ≡ Some n
number_back n h = printed-reads n (omega arith)

move_back : (m : Move) → move_word (move_text m) ≡ Some m
unfolding move_word same
move_back Join = refl
move_back Joined = refl
move_back Leave = refl
move_back Left = refl
move_back Crash = refl

solid_move : (m : Move) → Solid (move_text m)
solid_move Join = omega arith
solid_move Joined = omega arith
solid_move Leave = omega arith
solid_move Left = omega arith
solid_move Crash = omega arith

moved_back : (m : Move) (h : Host) (cue : List ℕ) → ProperSaid (Moved m h) cue → line_in (words_of (Moved m h) cue) ≡ record { said = Moved m h; cue = cue }
unfolding line_in words_of moved_in
moved_back m h cue p =
    (λ i. moved_of (move_back m i) (number_back h.0 (omega (arith, p.0)) i))
    ∙ rw (lt-ltb h.0 8 p.0) (λ i. record { said = Moved m h; cue = sym p.1 i })

sent_back : (h : Host) (n : CueNumber) (cue : List ℕ) → ProperSaid (Sent h n) cue → line_in (words_of (Sent h n) cue) ≡ record { said = Sent h n; cue = cue }
unfolding line_in words_of sent_in same
sent_back h n cue p =
    (λ i. sent_of (number_back h.0 (omega (arith, p.0)) i) (number_back n.0 p.1 i) (cue_back cue p.2 i))
    ∙ rw (lt-ltb h.0 8 p.0, lt-ltb n.0 65536 p.1)

got_back : (h : Host) (name : Name) (cue : List ℕ) → ProperSaid (Got h name) cue → line_in (words_of (Got h name) cue) ≡ record { said = Got h name; cue = cue }
unfolding line_in words_of got_in same
got_back h name cue p =
    (λ i. got_of (number_back h.0 (omega (arith, p.0)) i) (number_back name.source.0 (omega (arith, p.1)) i)
    (number_back name.number.0 p.2 i) (cue_back cue p.3 i))
    ∙ rw (lt-ltb h.0 8 p.0, lt-ltb name.source.0 8 p.1, lt-ltb name.number.0 65536 p.2)

-- each word is solid
said_solid : (x : Said) (cue : List ℕ) → ProperSaid x cue → AllSolid (words_of x cue)
unfolding words_of
said_solid Malformed cue p = tt
said_solid (Moved m h) cue p = (solid_move m, (solid_decimal h.0 (omega (arith, p.0)), tt))
said_solid (Sent h n) cue p = (omega arith, (solid_decimal h.0 (omega (arith, p.0)), (solid_decimal n.0 p.1, (solid_hex cue, tt))))
said_solid (Got h name) cue p =
    let source = solid_decimal name.source.0 (omega (arith, p.1)) in
    (omega arith, (solid_decimal h.0 (omega (arith, p.0)), (source, (solid_decimal name.number.0 p.2, (solid_hex cue, tt)))))

said_back : (x : Said) (cue : List ℕ) → ProperSaid x cue → line_of (spaced (words_of x cue)) ≡ record { said = x; cue = cue }
unfolding words_of
said_back Malformed cue p = absurd p
said_back (Moved m h) cue p = ap line_in (spaced-words _ _ (said_solid (Moved m h) cue p)) ∙ moved_back m h cue p
said_back (Sent h n) cue p = ap line_in (spaced-words _ _ (said_solid (Sent h n) cue p)) ∙ sent_back h n cue p
said_back (Got h name) cue p = ap line_in (spaced-words _ _ (said_solid (Got h name) cue p)) ∙ got_back h name cue p

pub lines_back : ReadsBack
unfolding text_of
lines_back l p = said_back l.said l.cue p

-- ---- a line's text has no line feed
abbrev pub Unbroken : List ℕ → Type 0
Unbroken [] = Unit {0}
Unbroken (b ∷ s) = (eqb b 10 ≡ false) × Unbroken s

word_unbroken : (w s : List ℕ) → Solid w → Unbroken s → Unbroken (w ++ s)
word_unbroken [] s h u = u
word_unbroken (b ∷ w) s h u = (ne_eqb b 10 (λ e. omega (arith, h.0)), word_unbroken w s h.1 u)

solid_unbroken : (w : List ℕ) → Solid w → Unbroken w
solid_unbroken [] h = tt
solid_unbroken (b ∷ w) h = (ne_eqb b 10 (λ e. omega (arith, h.0)), solid_unbroken w h.1)

words_unbroken : (l : List (List ℕ)) → AllSolid l → Unbroken (spaced l)
unfolding spaced
words_unbroken [] h = tt
words_unbroken (w ∷ []) h = solid_unbroken w h.0
words_unbroken (w ∷ x ∷ l) h = word_unbroken w (32 ∷ spaced (x ∷ l)) h.0 (refl, words_unbroken (x ∷ l) h.1)

pub text_unbroken : (l : Line) → Proper l → Unbroken (text_of l)
unfolding text_of
text_unbroken l p = words_unbroken (words_of l.said l.cue) (said_solid l.said l.cue p)
