-- The record of a list of demand 3, written down, is read as its lines, so it is judged as they are.
use mathlib.Core.Path.{◌≡◌, refl, sym, ap, ◌∙◌, subst}
use mathlib.Core.Bool.{Bool, true, false, not}
use mathlib.Core.List.{List, [], ◌∷◌, ◌++◌, append_assoc, append-nil}
use mathlib.Core.Logic.{◌⊎◌, inl, inr, ⊎_elim}
use mathlib.Core.Option.{Option, none, some}
use Prim.Native.Nat.{ℕ, zero, suc, ◌≤◌, ◌<◌}
use native.Mathlib.Omega.{arith}
use lib.Dec.{eqb}
use lib.ListN.{length, get_or, get_elem?}
use Rattle.numbers.specs.Number.{value_after, Bytes}
use Rattle.numbers.proofs.Cases.{by_order}
use Rattle.message.specs.Section.{all}
use Rattle.message.specs.Cue.{cue_in}
use Rattle.message.specs.Entry.{blank_cue}
use Rattle.message.specs.Message.{Meaning}
use Rattle.message.specs.Question.{in_range, host_in, ticks_in, name_in}
use Rattle.message.proofs.QuestionLaws.{and_both}
use Rattle.roundtrip.proofs.RoundTrip.{accepted, range_read}
use Rattle.end.specs.declared.Move.{Move}
use Rattle.end.specs.State.{is_member}
use Rattle.end.specs.Answer.{Effect, Got, Done, Ignored, Outcome, Refused, Did}
use Rattle.end.specs.Arrival.{message_name, message_cue}
use Rattle.end.specs.Event.{Action, Moves, Send, Arrival, Else, moves}
use Rattle.end.specs.Book.{Book, empty_book, Entry, RunFrom, Answered, Meets, Original, read_as, source, number, is_got, is_some, limits, gets, hears, due_message, due, moved_book, file, hand, bring, after_message, after, book_after}
use Rattle.end.specs.Run.{Call, World, result_of, world_after, seen, CueArray, Allowed, Fresh}
use Rattle.end.proofs.Tools.{by_test, by_cond, put_all, get_elem_get_d, and_left, and_right, clash'}
use Rattle.end.proofs.Readings.{read_is, in_range_lem}
use Rattle.end.proofs.Service.Ends.{service}
use Rattle.record.specs.declared.Line.{Line}
use Rattle.record.specs.Line.{line_of, handed_out}
use Rattle.record.specs.Text.{text_of, record_text, ProperCue, Proper}
use Rattle.record.proofs.LinesBack.{Unbroken, lines_back, text_unbroken}
use Rattle.ledger.specs.declared.Judgement.TheVariants as judged
use Rattle.ledger.specs.Judgement.{most_lines, judgement_of}
use Rattle.judgement.specs.Record.{lines_from, printed, record_prints}
use Rattle.judgement.proofs.Pieces.{feed_line, other-line}
use Rattle.record.specs.Kept.{lines_for, lines_of}
use Rattle.fairness.specs.Honest.{record_of, CueBytes, AllCueBytes, NeverAccused, RejectedIsNone}
use Rattle.fairness.proofs.Judged.{over, judged_only_so}
use Rattle.fairness.proofs.Honest.{within-limits, quiet-lines, else_lines, got-line, lists_permitted}

-- ---- written lines are read as those lines
abbrev pub AllProper : List Line → Type 0
AllProper [] = Unit {0}
AllProper (l ∷ ls) = Proper l × AllProper ls

line_read : (line t s : List ℕ) → Unbroken t → lines_from line (t ++ (10 ∷ s)) ≡ line_of (line ++ t) ∷ lines_from [] s
line_read line [] s u = feed_line line 10 s refl ∙ ap (λ (l : List ℕ). line_of l ∷ lines_from [] s) (sym (append-nil line))
line_read line (b ∷ t) s u =
    other-line line b (t ++ (10 ∷ s)) u.0 ∙ line_read (line ++ (b ∷ [])) t s u.1
    ∙ ap (λ (l : List ℕ). line_of l ∷ lines_from [] s) (append_assoc line (b ∷ []) t)

nothing_read_lem : lines_from [] [] ≡ []
unfolding lines_from
nothing_read_lem = refl

pub record_read : (ls : List Line) → AllProper ls → lines_from [] (record_text ls) ≡ ls
unfolding record_text
record_read [] p = nothing_read_lem
record_read (l ∷ ls) p =
    line_read [] (text_of l) (record_text ls) (text_unbroken l p.0) ∙ (λ i. lines_back l p.0 i ∷ record_read ls p.1 i)

pub both_proper : (a b : List Line) → AllProper a → AllProper b → AllProper (a ++ b)
both_proper [] b p q = q
both_proper (l ∷ a) b p q = (p.0, both_proper a b p.1 q)

-- ---- a cue that was put out is in range
first_in_lem : (p : List ℕ → Bool) (l : List (List ℕ)) (d : List ℕ) → all p l ≡ true → p d ≡ true → p (get_or l 0 d) ≡ true
unfolding all
first_in_lem p [] d h k = k
first_in_lem p (a ∷ l) d h k = (and_both (p a) (all p l) h).0

cue_in_range : (x : List ℕ) (m : Meaning) → read_as x ≡ some m → cue_in (message_cue m) ≡ true
unfolding in_range cue_in value_after
cue_in_range x m p =
    let r = read_is x m p in
    let range : in_range 65535 m ≡ true = ap (in_range 65535) (sym r.1) ∙ range_read x (accepted x r.0) in
    let b = (and_both (ticks_in m.stamp) _ (and_both (host_in m.sender) _ range).1).1 in
    let c = (and_both (all (name_in 65535) m.names) _ b).1 in
    first_in_lem cue_in m.cues blank_cue (and_both (all cue_in m.cues) _ c).0 refl

-- ---- every line of the record is in range
abbrev pub Sized : Action → Type 0
Sized a = CueArray a × CueBytes a

abbrev pub AllSized : List Entry → Type 0
AllSized [] = Unit {0}
AllSized (x ∷ xs) = (x.host < 8) × Sized x.action × AllSized xs

-- what a book has filed
abbrev pub Filed : Book → Type 0
Filed b = (s n : ℕ) (c : List ℕ) → get_elem? (b.filed s) n ≡ some c → ProperCue c

added-filed : (l : List (List ℕ)) (x c : List ℕ) (n : ℕ) → get_elem? (l ++ (x ∷ [])) n ≡ some c → (get_elem? l n ≡ some c) ⊎ (x ≡ c)
added-filed [] x c zero p = inr (cc)
added-filed [] x c (suc n) p = inl p
added-filed (y ∷ l) x c zero p = inl p
added-filed (y ∷ l) x c (suc n) p = added-filed l x c n p

file-filed : (b : Book) (h : ℕ) (cue : List ℕ) → Filed b → ProperCue cue → Filed (file b h cue)
unfolding file
file-filed b h cue f p s n c =
    put_all (λ s l. get_elem? l n ≡ some c → ProperCue c) b.filed h (b.filed h ++ (cue ∷ []))
    (λ e. ⊎_elim (λ q. f h n c q) (λ q. subst ProperCue q p) (added-filed (b.filed h) cue c n e)) s (λ d e. f s n c e)

-- a call's lines, and what the book has filed after it
pub record Steps (next : Book) (ls : List Line) : Type 0 where
  pub lines : AllProper ls
  pub filed : Filed next

no_lines : (next : Book) {ls : List Line} → ls ≡ [] → Filed next → Steps next ls
no_lines next e f = record { lines = subst AllProper (sym e) tt; filed = f }

module _ (b : Book) (f : Filed b) (h : ℕ) (small : h < 8) where
  moved-steps : (m : Move) (a : Effect) → Meets (due b h (Moves m)) a → Steps (after b h (Moves m)) (lines_for h (Moves m) a)
  unfolding due after lines_for moved_book
  moved-steps m a p =
      by_test (moves m (b.status h))
      (λ t. let e : a ≡ Done = rw t at p in rw (t, e) (record { lines = ((small, refl), tt); filed = f }))
      (λ t. let e : a ≡ Ignored = rw t at p in rw (t, e) (record { lines = tt; filed = f }))

  sent-steps : (cue : List ℕ) → length cue ≡ 24 → Bytes cue → (a : Effect) → Meets (due b h (Send cue)) a
      → Steps (after b h (Send cue)) (lines_for h (Send cue) a)
  unfolding due after lines_for
  sent-steps cue size bytes a p =
      by_test (is_member (b.status h))
      (λ t.
      let q : Meets (Original h (length (b.filed h)) cue) a = rw t at p in
      let o = q.2 in
      let proper : ProperCue cue = record { size = size; bytes = bytes; range = ap cue_in (sym o.carried) ∙ cue_in_range q.0 o.message o.reads } in
      rw (t, q.1, o.reads) (record { lines = ((small, (in_range_lem q.0 o.message o.reads).number, proper), tt); filed = file-filed b h cue f proper }))
      (λ t. let e : a ≡ Ignored = rw t at p in rw (t, e) (record { lines = tt; filed = f }))

  -- a message is handed out, or passes
  got-steps : (m : Meaning) (cue : List ℕ) → source m < 8 → number m < 65536 → limits b h (source m) (number m) ≡ true
      → cue ≡ get_or (b.filed (source m)) (number m) [] → AllProper (handed_out h (source m) (number m) cue ∷ [])
  unfolding limits is_some
  got-steps m cue s n t e =
      let there = and_left (is_some (get_elem? (b.filed (source m)) (number m))) _
      (and_right (not (eqb h (source m))) _ (and_right (is_member (b.status h)) _ t)) in
      ((small, s, n, filed_proper (get_elem? (b.filed (source m)) (number m)) refl there), tt)
    where
      filed_proper : (o : Option (List ℕ)) → get_elem? (b.filed (source m)) (number m) ≡ o → is_some o ≡ true → ProperCue cue
      filed_proper none p q = clash' q
      filed_proper (some c) p q =
          subst ProperCue (sym (e ∙ get_elem_get_d (b.filed (source m)) (number m) c [] p)) (f (source m) (number m) c p)

  passed-filed : (m : Meaning) → gets b h m ≡ false → Filed (after_message b h (some m))
  unfolding after_message bring
  passed-filed m t = rw t (by_cond Filed (hears b h m) (λ e. f) (λ e. f))

  taken-filed : (m : Meaning) → gets b h m ≡ true → Filed (after_message b h (some m))
  unfolding after_message hand
  taken-filed m t = rw t f

  unread_filed : Filed (after_message b h none)
  unfolding after_message
  unread_filed = f

  message-steps : (x : List ℕ) (o : Option Meaning) → read_as x ≡ o → (a : Effect) → Meets (due_message b h o) a
      → Steps (after_message b h o) (lines_for h (Arrival x) a)
  unfolding due_message
  message-steps x none r a p = no_lines (after_message b h none) (quiet-lines h x a p) unread_filed
  message-steps x (some m) r a p =
      by_test (gets b h m)
      (λ t.
      let cue = get_or (b.filed (source m)) (number m) [] in
      let e : a ≡ Got (message_name m) cue = rw t at p in
      let range = in_range_lem x m r in
      record {
        lines =
            subst AllProper (sym (ap (lines_for h (Arrival x)) e ∙ got-line h x m cue))
            (got-steps m cue range.source range.number (within-limits b h m t) refl);
        filed = taken-filed m t;
      })
      (λ t. let q : is_got a ≡ false = rw t at p in no_lines (after_message b h (some m)) (quiet-lines h x a q) (passed-filed m t))

  pub steps : (ev : Action) → Sized ev → (o : Outcome) → Answered b h ev o → Steps (book_after b h ev o) (lines_of h ev o)
  unfolding book_after due after
  steps ev z (Refused k) p = no_lines b refl f
  steps (Moves m) z (Did a) p = moved-steps m a p
  steps (Send cue) z (Did a) p = sent-steps cue z.0 z.1 a p
  steps (Arrival x) z (Did a) p = message-steps x (read_as x) refl a p
  steps (Else o) z (Did a) p = no_lines b (else_lines h o a p) f

all_proper : (b : Book) → Filed b → (xs : List Entry) → AllSized xs → RunFrom b xs → AllProper (record_of xs)
unfolding record_of
all_proper b f [] z p = tt
all_proper b f (x ∷ xs) z p =
    let s = steps b f x.host z.0 x.action z.1 x.outcome p.0 in
    both_proper (lines_of x.host x.action x.outcome) (record_of xs) s.lines
    (all_proper (book_after b x.host x.action x.outcome) s.filed xs z.2 p.2)

-- ---- the lists of demand 3
pub sized : (w : World) (cs : List Call) → Allowed w cs → AllCueBytes cs → AllSized (seen w cs)
unfolding seen
sized w [] a c = tt
sized w (x ∷ cs) a c = (a.0, (a.1, c.0), sized (world_after w x.host (result_of w x)) cs a.3 c.1)

pub none-filed : Filed empty_book
none-filed s n c p = let z : ◌≡◌ {A = ℕ} 0 1 = cc in absurd (omega arith)

module _ (w : World) (fresh : Fresh w) (cs : List Call) (allowed : Allowed w cs) (bytes : AllCueBytes cs) where
  abbrev lines : List Line
  lines = record_of (seen w cs)

  read : lines_from [] (record_text lines) ≡ lines
  read = record_read lines (all_proper empty_book none-filed (seen w cs) (sized w cs allowed bytes) (service w fresh cs allowed))

  allowed-lines : length lines ≤ most_lines → judgement_of (lines_from [] (record_text lines)) ≡ judged.Allowed
  allowed-lines h = ap judgement_of read ∙ judged_only_so lines judged.Allowed (h, lists_permitted w fresh cs allowed)

  never-broken : (k : ℕ) → judgement_of (lines_from [] (record_text lines)) ≡ judged.BrokenAt k → ⊥
  never-broken k e =
      by_order most_lines (length lines)
      (λ h. let o = ap judgement_of read ∙ over lines h in let z : ◌≡◌ {A = ℕ} 0 1 = cc in omega arith)
      (λ h. let o = allowed-lines h in let z : ◌≡◌ {A = ℕ} 0 1 = cc in omega arith)

pub never_accused : NeverAccused
unfolding record_prints
never_accused w fresh cs allowed bytes h = ap printed (allowed-lines w fresh cs allowed bytes h)

pub rejected_is_none : RejectedIsNone
rejected_is_none input k e w fresh cs allowed bytes same =
    never-broken w fresh cs allowed bytes k (ap (λ (s : List ℕ). judgement_of (lines_from [] s)) (sym same) ∙ e)
