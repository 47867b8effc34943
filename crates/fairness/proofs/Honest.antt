-- The book permits the record of every run of the service.
use mathlib.Core.Path.{◌≡◌, refl, sym, ap, ◌∙◌}
use mathlib.Core.Bool.{Bool, true, false, not, ◌&&◌, ◌||◌, or-true}
use mathlib.Core.List.{List, [], ◌∷◌, ◌++◌}
use mathlib.Core.Option.{Option, none, some}
use Prim.Native.Nat.{ℕ}
use lib.Dec.{eqb}
use lib.ListN.{length, get_or, get_elem?}
use borrow.Author.Tests.{eq-eqb}
use Rattle.message.specs.declared.Name.{Name}
use Rattle.message.specs.Message.{Meaning}
use Rattle.end.specs.declared.Move.{Move}
use Rattle.end.specs.State.{is_member}
use Rattle.end.specs.Answer.{Effect, Out, Got, Done, Ignored, Nothing, Clash, Late, Exhausted, Outcome, Refused, Did}
use Rattle.end.specs.Arrival.{message_name}
use Rattle.end.specs.Event.{Other, Action, Moves, Send, Arrival, Else, moves}
use Rattle.end.specs.Book.{Book, empty_book, Entry, RunFrom, Answered, Meets, Original, read_as, source, number, is_got, is_original, is_repair, is_some, first_of, not_below, kept, among, limits, gets, hears, due_message, due, hand, after_message, after, book_after}
use Rattle.end.specs.Run.{seen}
use Rattle.end.proofs.Tools.{by_test, by_cond, clash, and_left, and_right}
use Rattle.end.proofs.Clashes.{same_cue_is_same_bytes}
use Rattle.end.proofs.Service.Ends.{service}
use Rattle.record.specs.declared.Line.{Line}
use Rattle.record.specs.Line.{moved, sent, handed_out}
use Rattle.ledger.specs.Judgement.{anywhere, permits_said, permits, written_said, written, permits_run}
use Rattle.ledger.proofs.ViewLaws.{as_out_lem}
use Rattle.record.specs.Kept.{lines_for, lines_of}
use Rattle.fairness.specs.Honest.{record_of, RunsPermitted, ListsPermitted}
use Rattle.fairness.proofs.Follows.{Follows, follows_itself, moves_follow, file_follows, hand_follows, bring_follows}

-- ---- the lines of one call, and then others: from the judge's book j to one that follows the service's next
abbrev pub Continues : Book → Book → List Line → Type 0
Continues j next ls = (rest : List Line) → ((k : Book) → Follows k next → permits_run k rest ≡ true) → permits_run j (ls ++ rest) ≡ true

pub no_lines : {j next : Book} → Follows j next → Continues j next []
no_lines {j} f rest k = k j f

pub one_line : (j : Book) {next : Book} (l : Line) → permits j l ≡ true → Follows (written j l) next → Continues j next (l ∷ [])
unfolding permits_run
one_line j l p f rest k = rw p (k (written j l) f)

-- ---- a move
module _ {j b : Book} (f : Follows j b) (h : ℕ) (m : Move) where
  moved_permitted : moves m (b.status h) ≡ true → permits j (moved m h) ≡ true
  unfolding permits_said
  moved_permitted t = ap (λ (u : Bool). anywhere m || u) (ap (moves m) (f.status h) ∙ t) ∙ or-true (anywhere m)

  moved_follows : moves m (b.status h) ≡ true → Follows (written j (moved m h)) (after b h (Moves m))
  unfolding written_said
  moved_follows t = moves_follow f h m t

  unmoved_follows : moves m (b.status h) ≡ false → Follows j (after b h (Moves m))
  unfolding after
  unmoved_follows t = rw t f

  moved_lines : (a : Effect) → Meets (due b h (Moves m)) a → Continues j (after b h (Moves m)) (lines_for h (Moves m) a)
  unfolding due lines_for
  moved_lines a p =
      by_test (moves m (b.status h))
      (λ t. let e : a ≡ Done = rw t at p in rw e (one_line j (moved m h) (moved_permitted t) (moved_follows t)))
      (λ t. let e : a ≡ Ignored = rw t at p in rw e (no_lines (unmoved_follows t)))

-- ---- a send
module _ {j b : Book} (f : Follows j b) (h : ℕ) (cue : List ℕ) where
  sent_permitted : (n : ℕ) → is_member (b.status h) ≡ true → n ≡ length (b.filed h) → permits j (sent h n cue) ≡ true
  unfolding permits_said due
  sent_permitted n t e =
      as_out_lem (is_member (j.status h)) h n (length (j.filed h)) cue
      ∙ (λ i. (ap is_member (f.status h) ∙ t) i && eq-eqb n (length (j.filed h)) (e ∙ ap length (sym (f.filed h))) i)

  sent_follows : (n : ℕ) → is_member (b.status h) ≡ true → Follows (written j (sent h n cue)) (after b h (Send cue))
  unfolding written_said after
  sent_follows n t = rw t (file_follows f h cue)

  unsent_follows : is_member (b.status h) ≡ false → Follows j (after b h (Send cue))
  unfolding after
  unsent_follows t = rw t f

  sent-lines : (a : Effect) → Meets (due b h (Send cue)) a → Continues j (after b h (Send cue)) (lines_for h (Send cue) a)
  unfolding due lines_for
  sent-lines a p =
      by_test (is_member (b.status h))
      (λ t.
      let q : Meets (Original h (length (b.filed h)) cue) a = rw t at p in
      let o = q.2 in
      let n : number o.message ≡ length (b.filed h) = ap (λ (x : Name). x.number.0) o.name in
      rw (q.1, o.reads) (one_line j (sent h (number o.message) cue) (sent_permitted (number o.message) t n) (sent_follows (number o.message) t)))
      (λ t. let e : a ≡ Ignored = rw t at p in rw e (no_lines (unsent_follows t)))

-- ---- an arrival
module _ {j b : Book} (f : Follows j b) (h s n : ℕ) where
  limits_follow : limits b h s n ≡ true → limits j h s n ≡ true
  unfolding limits
  limits_follow p =
      let p1 = and_right (is_member (b.status h)) _ p in
      let p2 = and_right (not (eqb h s)) _ p1 in
      let p3 = and_right (is_some (get_elem? (b.filed s) n)) _ p2 in
      let p4 = and_right (not_below (first_of (b.handed h s)) n) _ p3 in
      let member = ap is_member (f.status h) ∙ and_left (is_member (b.status h)) _ p in
      let other = and_left (not (eqb h s)) _ p1 in
      let filed = ap (λ (l : List (List ℕ)). is_some (get_elem? l n)) (f.filed s) ∙ and_left (is_some (get_elem? (b.filed s) n)) _ p2 in
      let first = ap (λ (l : List ℕ). not_below (first_of l) n) (f.handed h s) ∙ and_left (not_below (first_of (b.handed h s)) n) _ p3 in
      let keeps = f.keeps h s n (and_left (kept (b.highest h s) n) _ p4) in
      let once = ap (λ (l : List ℕ). not (among n l)) (f.handed h s) ∙ and_right (kept (b.highest h s) n) _ p4 in
      λ i. member i && (other i && (filed i && (first i && (keeps i && once i))))

  got_permitted : limits b h s n ≡ true → permits j (handed_out h s n (get_or (b.filed s) n [])) ≡ true
  unfolding permits_said
  got_permitted p =
      let same = (same_cue_is_same_bytes (get_or (j.filed s) n []) (get_or (b.filed s) n [])).1 (ap (λ (l : List (List ℕ)). get_or l n []) (f.filed s)) in
      λ i. limits_follow p i && same i

  got_follows : (cue : List ℕ) → Follows (written j (handed_out h s n cue)) (hand b h s n)
  unfolding written_said
  got_follows cue = hand_follows f h s n

pub within-limits : (b : Book) (h : ℕ) (m : Meaning) → gets b h m ≡ true → limits b h (source m) (number m) ≡ true
unfolding gets
within-limits b h m t = and_right (not (eqb m.sender.0 h)) _ (and_right (is_original m || (is_repair m && is_some (first_of (b.handed h (source m))))) _ t)

-- what is not handed out leaves no line
pub quiet-lines : (h : ℕ) (x : List ℕ) (a : Effect) → is_got a ≡ false → lines_for h (Arrival x) a ≡ []
unfolding lines_for is_got
quiet-lines h x (Out bytes) q = refl
quiet-lines h x (Got name cue) q = clash q
quiet-lines h x Done q = refl
quiet-lines h x Ignored q = refl
quiet-lines h x Nothing q = refl
quiet-lines h x (Clash name) q = refl
quiet-lines h x (Late name cue) q = refl
quiet-lines h x Exhausted q = refl

pub else_lines : (h : ℕ) (o : Other) (a : Effect) → is_got a ≡ false → lines_for h (Else o) a ≡ []
unfolding lines_for is_got
else_lines h o (Out bytes) q = refl
else_lines h o (Got name cue) q = clash q
else_lines h o Done q = refl
else_lines h o Ignored q = refl
else_lines h o Nothing q = refl
else_lines h o (Clash name) q = refl
else_lines h o (Late name cue) q = refl
else_lines h o Exhausted q = refl

pub got-line : (h : ℕ) (x : List ℕ) (m : Meaning) (cue : List ℕ) → lines_for h (Arrival x) (Got (message_name m) cue) ≡ handed_out h (source m) (number m) cue ∷ []
unfolding lines_for
got-line h x m cue = refl

module _ {j b : Book} (f : Follows j b) (h : ℕ) (x : List ℕ) where
  taken_follows : (m : Meaning) → gets b h m ≡ true → (cue : List ℕ) → Follows (written j (handed_out h (source m) (number m) cue)) (after_message b h (some m))
  unfolding after_message
  taken_follows m t cue = rw t (got_follows f h (source m) (number m) cue)

  passed_follows : (m : Meaning) → gets b h m ≡ false → Follows j (after_message b h (some m))
  unfolding after_message
  passed_follows m t = rw t (by_cond (λ (c : Book). Follows j c) (hears b h m) (λ e. bring_follows h m f) (λ e. f))

  message-lines : (o : Option Meaning) (a : Effect) → Meets (due_message b h o) a → Continues j (after_message b h o) (lines_for h (Arrival x) a)
  unfolding due_message after_message
  message-lines none a p = rw (quiet-lines h x a p) (no_lines f)
  message-lines (some m) a p =
      by_test (gets b h m)
      (λ t.
      let e : a ≡ Got (message_name m) (get_or (b.filed (source m)) (number m) []) = rw t at p in
      let l = handed_out h (source m) (number m) (get_or (b.filed (source m)) (number m) []) in
      let lines : lines_for h (Arrival x) a ≡ l ∷ [] = ap (lines_for h (Arrival x)) e ∙ got-line h x m (get_or (b.filed (source m)) (number m) []) in
      rw lines (one_line j l (got_permitted f h (source m) (number m) (within-limits b h m t)) (taken_follows m t (get_or (b.filed (source m)) (number m) []))))
      (λ t. let q : is_got a ≡ false = rw t at p in rw (quiet-lines h x a q) (no_lines (passed_follows m t)))

-- ---- any call, and all
pub noted : {j b : Book} → Follows j b → (h : ℕ) (ev : Action) (o : Outcome) → Answered b h ev o → Continues j (book_after b h ev o) (lines_of h ev o)
unfolding book_after due after
noted f h ev (Refused k) p = no_lines f
noted f h (Moves m) (Did a) p = moved_lines f h m a p
noted f h (Send cue) (Did a) p = sent-lines f h cue a p
noted f h (Arrival x) (Did a) p = message-lines f h x (read_as x) a p
noted f h (Else o) (Did a) p = rw (else_lines h o a p) (no_lines f)

runs : (xs : List Entry) (j b : Book) → Follows j b → RunFrom b xs → permits_run j (record_of xs) ≡ true
unfolding record_of permits_run
runs [] j b f p = refl
runs (x ∷ xs) j b f p =
    noted f x.host x.action x.outcome p.0 (record_of xs)
    (λ k g. runs xs k (book_after b x.host x.action x.outcome) g p.2)

pub runs_permitted : RunsPermitted
runs_permitted xs p = runs xs empty_book empty_book (follows_itself empty_book) p

pub lists_permitted : ListsPermitted
lists_permitted w fresh cs allowed = runs_permitted (seen w cs) (service w fresh cs allowed)
