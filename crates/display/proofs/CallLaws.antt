-- A call by its first no: refused, or what the event does on a display whose clock is set.
use mathlib.Core.Path.{◌≡◌, refl, sym, ap, ◌∙◌, subst}
use mathlib.Core.Bool.{Bool, true, false, cond, ◌&&◌, ◌||◌}
use mathlib.Core.List.{List, [], ◌∷◌, ◌++◌}
use Rattle.std.specs.Prelude.{Option, Some, None, is_some, option_map}
use Prim.Native.Nat.{ℕ, zero, suc, ◌-◌}
use native.Mathlib.Omega.{arith}
use lib.ListN.{length, get_or, replicate}
use lib.Dec.{leb, eqb}
use borrow.Author.Tests.{leb-true, eq-eqb, ne_eqb}
use Rattle.numbers.specs.Splice.{splice}
use Rattle.numbers.proofs.SpliceLaws.{splice-start}
use Rattle.message.specs.Limit.{room_needed}
use Rattle.message.specs.Entry.{as_host, as_number, blank_name}
use Rattle.message.specs.Section.{padded}
use Rattle.message.specs.declared.Host.{Host}
use Rattle.message.specs.declared.Name.{Name}
use Rattle.message.specs.declared.CueNumber.{CueNumber}
use Rattle.message.specs.declared.Message.{Message}
use Rattle.message.specs.Message.{ANNC, DATA, REPL, Meaning, held_as, bytes_of, meaning_from}
use Rattle.message.specs.Question.{ticks_in, same_host, read_refusal, message_for, read_of}
use Rattle.message.proofs.QuestionLaws.{and_both}
use Rattle.end.specs.declared.Answer.TheVariants as answer
use Rattle.end.specs.Messages.{message_name, message_cue}
use Rattle.end.specs.Answer.{Out, Got, Refused, Did, answer_of, buffer_of}
use Rattle.display_window.specs.declared.Window.{Window}
use Rattle.display_window.specs.Parts.{Unstarted, Started}
use Rattle.display_window.specs.declared.Lost.{Lost}
use Rattle.display_window.specs.Window.{window_sound, none_lost, start_at, lowest_missing}
use Rattle.display.specs.declared.Display.{Display}
use Rattle.display.specs.declared.Shown.{Shown}
use Rattle.display.specs.Display.{hosts_apart, sound_of, with_clock, with_window}
use Rattle.display.specs.Hear.{Hearing, hearing, passed_over, is_original, is_repair, is_announced, heard_in}
use Rattle.display.specs.Request.{request_if, step_of}
use Rattle.display.specs.Call.{Event, Hear, Step, question_of, act_of, event_of, gives, leaves}
use Rattle.display.specs.Frame.{shown_of, first_of, Ready, saying, later_of}

-- ---- the questions
pub hear-asks : (d : Display) (clock room : ℕ) (bytes : List ℕ) → question_of d (Hear bytes) clock room ≡ first_of d clock room (read_refusal bytes)
unfolding question_of read_refusal
hear-asks d clock room bytes = refl

pub step-asks : (d : Display) (clock room : ℕ) → question_of d Step clock room ≡ first_of d clock room 0
unfolding question_of
step-asks d clock room = refl

-- what all of them leave
pub record Passed (d : Display) (clock room own : ℕ) : Type 0 where
  pub room_in : leb room_needed room ≡ true
  pub sound : sound_of d ≡ true
  pub ticks : ticks_in clock ≡ true
  later : leb d.clock clock ≡ true
  pub rest : own ≡ 0

pub passed : (d : Display) (clock room own : ℕ) → first_of d clock room own ≡ 0 → Passed d clock room own
passed d clock room own h = go (leb room_needed room) refl (sound_of d) refl (ticks_in clock) refl (leb d.clock clock) refl h
  where
    go : (a : Bool) → leb room_needed room ≡ a → (b : Bool) → sound_of d ≡ b → (c : Bool) → ticks_in clock ≡ c → (e : Bool) → leb d.clock clock ≡ e
        → cond a (cond b (cond c (cond e own 5) 4) 3) 1 ≡ 0 → Passed d clock room own
    go true p true q true r true s h = record { room_in = p; sound = q; ticks = r; later = s; rest = h }
    go true p true q true r false s h = absurd (omega arith)
    go true p true q false r e s h = absurd (omega arith)
    go true p false q c r e s h = absurd (omega arith)
    go false p b q c r e s h = absurd (omega arith)

-- a sound display's hosts, and its window
pub apart : (d : Display) → sound_of d ≡ true → hosts_apart d.own d.sender ≡ true
unfolding sound_of
apart d h = (and_both (hosts_apart d.own d.sender) (ticks_in d.clock && window_sound d.window) h).0

pub sound_in : (d : Display) → sound_of d ≡ true → window_sound d.window ≡ true
unfolding sound_of
sound_in d h =
    let rest = (and_both (hosts_apart d.own d.sender) (ticks_in d.clock && window_sound d.window) h).1 in
    (and_both (ticks_in d.clock) (window_sound d.window) rest).1

pub ready : (d x : Display) (clock room own q : ℕ) → x ≡ with_clock d clock → q ≡ first_of d clock room own → q ≡ 0 → Ready x room
ready d x clock room own q p h z =
    let w = passed d clock room own (sym h ∙ z) in
    record { room_in = leb-true room_needed room w.room_in; sound = ap (λ (y : Display). window_sound y.window) p ∙ sound_in d w.sound }

-- ---- what a call gives
abbrev pub Answers : Display → Event → ℕ → List ℕ → Shown → List ℕ → Type 0
Answers d ev clock out r last = (r ≡ gives d ev clock out) × (last ≡ leaves d ev clock out)

pub taken-gives : (d : Display) (ev : Event) (clock : ℕ) (out last : List ℕ) (r : Shown) (h : Hearing) → question_of d ev clock (length out) ≡ 0
    → act_of ev (with_clock d clock) ≡ h → r ≡ shown_of h → last ≡ buffer_of (Did h.effect) out → Answers d ev clock out r last
unfolding event_of
taken-gives d ev clock out last r h q a p l =
    let t : eqb (question_of d ev clock (length out)) 0 ≡ true = eq-eqb (question_of d ev clock (length out)) 0 q in
    (p ∙ sym (rw (t, a)), l ∙ sym (rw (t, a)))

pub refused-gives : (d : Display) (ev : Event) (clock q : ℕ) (out : List ℕ) (r : Shown) → q ≡ question_of d ev clock (length out) → eqb q 0 ≡ false
    → r ≡ record { answer = answer_of (Refused q); lost = none_lost; display = d } → Answers d ev clock out r out
unfolding event_of buffer_of
refused-gives d ev clock q out r h n p =
    let t : eqb (question_of d ev clock (length out)) 0 ≡ false = sym (ap (λ (k : ℕ). eqb k 0) h) ∙ n in
    (rw t (p ∙ ap (λ (k : ℕ). record { answer = answer_of (Refused k); lost = none_lost; display = d }) h), rw t)

-- ---- what is written
pub put-out : (y z : Meaning) (n : ℕ) (out last : List ℕ) (d : Display) (lost : Lost) → n ≡ length (bytes_of y) → last ≡ splice 0 (bytes_of y) out → y ≡ z
    → lost ≡ none_lost
    → (record { answer = answer.Out n; lost = lost; display = d } ≡ shown_of (hearing (Out (bytes_of z)) none_lost d))
    × (last ≡ buffer_of (Did (Out (bytes_of z))) out)
unfolding answer_of buffer_of
put-out y z n out last d lost p l e q =
    let long : n ≡ length (bytes_of z) = p ∙ ap (λ (m : Meaning). length (bytes_of m)) e in (
      λ i. record { answer = answer.Out (long i); lost = q i; display = d },
      (l ∙ ap (λ (m : Meaning). splice 0 (bytes_of m) out) e) ∙ splice-start (bytes_of z) out,
    )

-- ---- what a message does, by its parts

-- what a function that does this promises of its result and of its output
abbrev pub Shows : Hearing → Shown → List ℕ → List ℕ → Type 0
Shows h r out last = (r ≡ shown_of h) × (last ≡ buffer_of (Did h.effect) out)

shows_as : (h k : Hearing) (r : Shown) (out last : List ℕ) → h ≡ k → Shows h r out last → Shows k r out last
shows_as h k r out last e s = subst (λ (x : Hearing). Shows x r out last) e s

later : (d : Display) (w : Option Window) (kind : ℕ) (from : Host) (name : Name) (lead : CueNumber) (cue : List ℕ) → is_some w ≡ true
    → let m = saying kind from name lead cue in
    heard_in w m d ≡ later_of (is_original d m || is_repair d m) (is_announced d m) name lead cue d
unfolding heard_in
later d Unstarted kind from name lead cue h = let z : ◌≡◌ {A = ℕ} 0 1 = cc in absurd (omega arith)
later d (Started v) kind from name lead cue h = refl

first : (d : Display) (w : Option Window) (m : Meaning) → is_some w ≡ false
    → heard_in w m d
    ≡ cond (is_original d m) (hearing (Got (message_name m) (message_cue m)) none_lost (with_window d (start_at (message_name m).number.0))) (passed_over d)
unfolding heard_in
first d Unstarted m h = refl
first d (Started v) m h = let z : ◌≡◌ {A = ℕ} 0 1 = cc in absurd (omega arith)

by_parts : (d : Display) (w : Option Window) (m : Meaning)
    → heard_in w m d ≡ heard_in w (saying m.kind m.sender (message_name m) (get_or m.names 1 blank_name).name.number (message_cue m)) d
unfolding heard_in
by_parts d Unstarted m = refl
by_parts d (Started v) m = refl

module _ (d : Display) (kind : ℕ) (from : Host) (name : Name) (lead : CueNumber) (cue : List ℕ) (own its started : Bool)
    (p : own ≡ same_host from d.sender) (q : its ≡ same_host name.source d.sender) (s : started ≡ is_some d.window) where
  abbrev This : Meaning
  This = saying kind from name lead cue

  pub later-shows : (r : Shown) (out last : List ℕ) → started ≡ true
      → Shows (later_of ((eqb kind DATA && own) || (eqb kind REPL && its)) (eqb kind ANNC && own) name lead cue d) r out last
      → Shows (heard_in d.window This d) r out last
  later-shows r out last t w =
      let parts : later_of ((eqb kind DATA && own) || (eqb kind REPL && its)) (eqb kind ANNC && own) name lead cue d
      ≡ later_of (is_original d This || is_repair d This) (is_announced d This) name lead cue d =
      λ i. later_of ((eqb kind DATA && p i) || (eqb kind REPL && q i)) (eqb kind ANNC && p i) name lead cue d in
      shows_as _ _ r out last (parts ∙ sym (later d d.window kind from name lead cue (sym s ∙ t))) w

  abbrev chosen : Bool → Hearing
  chosen b = cond b (hearing (Got name cue) none_lost (with_window d (start_at name.number.0))) (passed_over d)

  first-is : (b : Bool) → started ≡ false → eqb kind DATA && own ≡ b → heard_in d.window This d ≡ chosen b
  first-is b t e = first d d.window This (sym s ∙ t) ∙ ap chosen (ap (λ (x : Bool). eqb kind DATA && x) (sym p) ∙ e)

  pub first-shows : (r : Shown) (out last : List ℕ) → started ≡ false → eqb kind DATA && own ≡ true
      → Shows (hearing (Got name cue) none_lost (with_window d (start_at name.number.0))) r out last → Shows (heard_in d.window This d) r out last
  first-shows r out last t e w = shows_as _ _ r out last (sym (first-is true t e)) w

  pub none-shows : (r : Shown) (out : List ℕ) → started ≡ false → eqb kind DATA && own ≡ false → r ≡ shown_of (passed_over d)
      → Shows (heard_in d.window This d) r out out
  unfolding buffer_of
  none-shows r out t e w = shows_as (passed_over d) (heard_in d.window This d) r out out (sym (first-is false t e)) (w, refl)

-- the places of an array that no name uses are blank
blanks_at : {A : Type 0} (l : List A) (k i : ℕ) (x : A) → get_or (l ++ replicate k x) i x ≡ get_or l i x
blanks_at [] zero i x = refl
blanks_at [] (suc k) zero x = refl
blanks_at [] (suc k) (suc i) x = blanks_at [] k i x
blanks_at (a ∷ l) k zero x = refl
blanks_at (a ∷ l) k (suc i) x = blanks_at l k i x

pub padded-at : {A : Type 0} (l : List A) (k i : ℕ) (x : A) → get_or (padded k x l) i x ≡ get_or l i x
padded-at l k i x = blanks_at l (k - length l) i x

-- a message struct that was read, by its parts
abbrev parts_of : Message → Meaning
parts_of m = saying m.kind m.sender (get_or m.names 0 blank_name).name (get_or m.names 1 blank_name).name.number m.cue

pub held-shows : (d : Display) (m : Message) (M : Meaning) (r : Shown) (out last : List ℕ) → m ≡ held_as M
    → Shows (heard_in d.window (parts_of m) d) r out last
    → Shows (heard_in d.window M d) r out last
held-shows d m M r out last p w =
    let at : (i : ℕ) → get_or m.names i blank_name ≡ get_or M.names i blank_name =
    λ i. ap (λ (x : Message). get_or x.names i blank_name) p ∙ padded-at M.names 2 i blank_name in
    let parts : saying m.kind m.sender (get_or m.names 0 blank_name).name (get_or m.names 1 blank_name).name.number m.cue
    ≡ saying M.kind M.sender (message_name M) (get_or M.names 1 blank_name).name.number (message_cue M) =
    λ i. saying (p i).kind (p i).sender (at 0 i).name (at 1 i).name.number (p i).cue in
    shows_as _ _ r out last (ap (λ (x : Meaning). heard_in d.window x d) parts ∙ sym (by_parts d d.window M)) w

-- ---- what is read: a message, or for a probe zeros, which are of no kind
abbrev zeros : Meaning
zeros = record { kind = 0; sender = as_host 0; stamp = 0; names = []; cues = []; reports = []; echoes = [] }

pub record Read (bytes : List ℕ) (m : Message) : Type 0 where
  pub meaning : Meaning
  pub held : m ≡ held_as meaning
  pub does : (d : Display) → act_of (Hear bytes) d ≡ heard_in d.window meaning d

zeros_pass : (d : Display) (w : Option Window) → passed_over d ≡ heard_in w zeros d
unfolding heard_in
zeros_pass d Unstarted = refl
zeros_pass d (Started v) = refl

pub read : (bytes : List ℕ) (m : Message) → m ≡ (read_of bytes).message → read_refusal bytes ≡ 0 → Read bytes m
unfolding read_of
read [] m p h = record { meaning = zeros; held = p; does = λ d. zeros_pass d d.window }
read (b ∷ s) m p h = record {
  meaning = meaning_from (b ∷ s);
  held = p ∙ ap (λ (k : ℕ). message_for k (meaning_from (b ∷ s))) h;
  does = λ d. refl;
}

-- ---- the calls
pub heard-call : (d x : Display) (clock own q : ℕ) (bytes out last : List ℕ) (r : Shown) (m : Message) → own ≡ read_refusal bytes
    → q ≡ first_of d clock (length out) own → q ≡ 0 → x ≡ with_clock d clock → m ≡ (read_of bytes).message
    → ((M : Meaning) → m ≡ held_as M → r ≡ shown_of (heard_in x.window M x))
    → ((M : Meaning) → m ≡ held_as M → last ≡ buffer_of (Did (heard_in x.window M x).effect) out)
    → Answers d (Hear bytes) clock out r last
heard-call d x clock own q bytes out last r m p a z e h f g =
    let w = read bytes m h (sym p ∙ (passed d clock (length out) own (sym a ∙ z)).rest) in
    let asked : question_of d (Hear bytes) clock (length out) ≡ 0 =
    hear-asks d clock (length out) bytes ∙ ap (first_of d clock (length out)) (sym p) ∙ sym a ∙ z in
    let same : act_of (Hear bytes) (with_clock d clock) ≡ heard_in x.window w.meaning x = ap (act_of (Hear bytes)) (sym e) ∙ w.does x in
    taken-gives d (Hear bytes) clock out last r _ asked same (f w.meaning w.held) (g w.meaning w.held)

pub hear-refused : (d : Display) (clock own q : ℕ) (bytes out : List ℕ) (r : Shown) → own ≡ read_refusal bytes
    → q ≡ first_of d clock (length out) own → (q ≡ 0 → ⊥) → r ≡ record { answer = answer_of (Refused q); lost = none_lost; display = d }
    → Answers d (Hear bytes) clock out r out
hear-refused d clock own q bytes out r p a n e =
    refused-gives d (Hear bytes) clock q out r (a ∙ ap (first_of d clock (length out)) p ∙ sym (hear-asks d clock (length out) bytes)) (ne_eqb q 0 n) e

pub step_call : (d x : Display) (clock q : ℕ) (out last : List ℕ) (r : Shown) → q ≡ first_of d clock (length out) 0 → q ≡ 0 → x ≡ with_clock d clock
    → Shows (step_of x) r out last → Answers d Step clock out r last
step_call d x clock q out last r a z e w =
    taken-gives d Step clock out last r (step_of x) (step-asks d clock (length out) ∙ sym a ∙ z) (ap step_of (sym e)) w.0 w.1

pub step-refused : (d : Display) (clock q : ℕ) (out : List ℕ) (r : Shown) → q ≡ first_of d clock (length out) 0 → (q ≡ 0 → ⊥)
    → r ≡ record { answer = answer_of (Refused q); lost = none_lost; display = d } → Answers d Step clock out r out
step-refused d clock q out r a n e = refused-gives d Step clock q out r (a ∙ sym (step-asks d clock (length out))) (ne_eqb q 0 n) e

-- ---- the lowest missing number
-- what the code's answer says of the definition's
pub missing_at : (o : Option ℕ) (n : CueNumber) → option_map as_number o ≡ Some n → o ≡ Some n.0
missing_at None n h = let z : ◌≡◌ {A = ℕ} 0 1 = cc in absurd (omega arith)
missing_at (Some j) n h = let e : as_number j ≡ n = cc in ap (λ (x : CueNumber). Some x.0) e

pub missing_no : (o : Option ℕ) → option_map as_number o ≡ None → o ≡ None
missing_no None h = refl
missing_no (Some j) h = let z : ◌≡◌ {A = ℕ} 0 1 = cc in absurd (omega arith)

pub step-shows : (d : Display) (o : Option ℕ) (r : Shown) (out last : List ℕ) → lowest_missing d.window ≡ o → Shows (request_if o d) r out last
    → Shows (step_of d) r out last
unfolding step_of
step-shows d o r out last e w = shows_as _ _ r out last (ap (λ (x : Option ℕ). request_if x d) (sym e)) w

pub step_rests : (d : Display) (r : Shown) (out : List ℕ) → lowest_missing d.window ≡ None → r ≡ shown_of (request_if None d) → Shows (step_of d) r out out
unfolding buffer_of
step_rests d r out e w = step-shows d None r out out e (w, refl)
