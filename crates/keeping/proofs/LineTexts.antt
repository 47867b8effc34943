-- The text of a line is its pieces, one after the other.
use mathlib.Core.Path.{◌≡◌, refl, sym, ap, ◌∙◌}
use Rattle.std.specs.Prelude.{Some}
use mathlib.Core.List.{List, [], ◌∷◌, ◌++◌, append_assoc}
use Prim.Native.Nat.{ℕ, zero, suc, ◌/◌, ◌%◌, ◌<◌}
use native.Mathlib.Nat.{add-zero}
use native.Mathlib.Omega.{arith}
use lib.ListN.{length, get_or, take}
use Rattle.numbers.proofs.SpliceLaws.{splice_nil}
use Rattle.message.specs.declared.Host.{Host}
use Rattle.message.specs.declared.CueNumber.{CueNumber}
use Rattle.message.specs.declared.Name.{Name}
use Rattle.end.specs.declared.Move.{Move}
use Rattle.decimal.specs.Decimal.{decimal}
use Rattle.script.specs.Line.{send}
use Rattle.answers.specs.Put.{Put}
use Rattle.answers.specs.AnswerLine.{spaced as numberSpaced}
use Rattle.record.specs.declared.Said.TheVariants.{Moved, Sent, Got}
use Rattle.record.specs.Line.{got}
use Rattle.record.specs.Text.{hex_digit, hex_text, move_text, words_of, spaced, text_of, record_text}
use Rattle.keeping.specs.Kept.{kept}
use Rattle.keeping.specs.Promise.{moved_text, numbered_text, sent_text, got_text}

-- a word, a space and the rest, up to the line feed
then_space : (w rest feed : List ℕ) → (w ++ (32 ∷ rest)) ++ feed ≡ (w ++ (32 ∷ [])) ++ (rest ++ feed)
then_space w rest feed = append_assoc w (32 ∷ rest) feed ∙ sym (append_assoc w (32 ∷ []) (rest ++ feed))

pub moved_text_lem : (m : Move) (h : Host) (cue : List ℕ) → moved_text m h.0 ≡ record_text (kept (Some (record { said = Moved m h; cue = cue })))
unfolding record_text text_of words_of spaced
moved_text_lem m h cue = sym (then_space (move_text m) (decimal h.0) (10 ∷ []))

numbered : (n : ℕ) (cue : List ℕ) → (decimal n ++ (32 ∷ hex_text cue)) ++ (10 ∷ []) ≡ numbered_text n cue
numbered n cue = then_space (decimal n) (hex_text cue) (10 ∷ [])

pub sent_text_lem : (h : Host) (n : CueNumber) (cue : List ℕ) → sent_text h.0 n.0 cue ≡ record_text (kept (Some (record { said = Sent h n; cue = cue })))
unfolding record_text text_of words_of spaced
sent_text_lem h n cue =
    let tail = decimal n.0 ++ (32 ∷ hex_text cue) in
    sym
    (then_space send (decimal h.0 ++ (32 ∷ tail)) (10 ∷ [])
    ∙ ap (λ (t : List ℕ). (send ++ (32 ∷ [])) ++ t) (then_space (decimal h.0) tail (10 ∷ []))
    ∙ ap (λ (t : List ℕ). (send ++ (32 ∷ [])) ++ (numberSpaced h.0 ++ t)) (numbered n.0 cue))

pub got_text_lem : (h : Host) (name : Name) (cue : List ℕ) → got_text h.0 name cue ≡ record_text (kept (Some (record { said = Got h name; cue = cue })))
unfolding record_text text_of words_of spaced
got_text_lem h name cue =
    let tail = decimal name.number.0 ++ (32 ∷ hex_text cue) in
    let rest = decimal name.source.0 ++ (32 ∷ tail) in
    sym
    (then_space got (decimal h.0 ++ (32 ∷ rest)) (10 ∷ [])
    ∙ ap (λ (t : List ℕ). (got ++ (32 ∷ [])) ++ t) (then_space (decimal h.0) rest (10 ∷ []))
    ∙ ap (λ (t : List ℕ). (got ++ (32 ∷ [])) ++ (numberSpaced h.0 ++ t)) (then_space (decimal name.source.0) tail (10 ∷ []))
    ∙ ap (λ (t : List ℕ). (got ++ (32 ∷ [])) ++ (numberSpaced h.0 ++ (numberSpaced name.source.0 ++ t))) (numbered name.number.0 cue))

-- nothing is written
pub put-none : (at : ℕ) (out : List ℕ) → Put 0 at [] out out at
put-none at out = record { bytes = sym (splice_nil at out); ends = sym (add-zero at); small = omega arith }

-- ---- the digits of one byte more
pub hex_next : (i : ℕ) (cue : List ℕ) → i < length cue → hex_text (take i cue) ++ hex_text (get_or cue i 0 ∷ []) ≡ hex_text (take (suc i) cue)
unfolding hex_text
hex_next zero [] h = absurd (omega arith)
hex_next zero (b ∷ cue) h = refl
hex_next (suc i) [] h = absurd (omega arith)
hex_next (suc i) (b ∷ cue) h = ap (λ (t : List ℕ). hex_digit (b / 16) ∷ hex_digit (b % 16) ∷ t) (hex_next i cue (omega arith))
