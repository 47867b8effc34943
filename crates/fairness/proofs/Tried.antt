-- The book permits the record of every run of the service also with the lines of moves that did not move.
use mathlib.Core.Path.{◌≡◌, refl, sym, ap, ◌∙◌, subst}
use mathlib.Core.Bool.{Bool, true, false, ◌&&◌}
use mathlib.Core.List.{List, [], ◌∷◌, ◌++◌, append_assoc}
use Prim.Native.Nat.{ℕ, suc, ◌<◌}
use Rattle.end.specs.declared.Move.{Move}
use Rattle.end.specs.Answer.{Effect, Out, Got, Done, Ignored, Nothing, Clash, Late, Exhausted, Outcome, Refused, Did}
use Rattle.end.specs.Event.{Action, Moves, Send, Arrival, Else, moves}
use Rattle.end.specs.Book.{Book, empty_book, Entry, RunFrom, Answered, due, after, book_after}
use Rattle.end.specs.Run.{seen}
use Rattle.end.proofs.Tools.{by_test, by_cond, clash, and_right}
use Rattle.end.proofs.Service.Ends.{service}
use Rattle.record.specs.declared.Line.{Line}
use Rattle.record.specs.Line.{moved}
use Rattle.record.specs.Kept.{lines_of}
use Rattle.ledger.specs.declared.Judgement.TheVariants as judged
use Rattle.ledger.specs.Judgement.{anywhere, permits_said, permits, written_said, written, permits_run, judgement_of}
use Rattle.judgement.specs.Record.{printed, record_prints}
use Rattle.fairness.specs.Honest.{tried_line, tried_for, tried_by, record_with, TriedPermitted, TriedNeverAccused}
use Rattle.fairness.proofs.Follows.{Follows, follows_itself}
use Rattle.fairness.proofs.Judged.{judged_only_so}
use Rattle.fairness.proofs.Honest.{Continues, noted, one_line, no_lines}
use Rattle.fairness.proofs.Written.{AllProper, AllSized, Filed, steps, both_proper, record_read, sized, none-filed}

-- ---- a move that does not move is permitted anywhere, and changes nothing
module _ (b : Book) {k : Book} (h : ℕ) (m : Move) (still : moves m (b.status h) ≡ false) (f : Follows k (after b h (Moves m))) where
  book_stays : after b h (Moves m) ≡ b
  unfolding after
  book_stays = rw still

  also_still : moves m (k.status h) ≡ false
  also_still = ap (moves m) (f.status h) ∙ ap (λ (c : Book). moves m (c.status h)) book_stays ∙ still

  stays : written k (moved m h) ≡ k
  unfolding written_said after
  stays = rw also_still

  may_stand : anywhere m ≡ true → permits k (moved m h) ≡ true
  unfolding permits_said
  may_stand a = rw a

  tried_goes_on : (t : Bool) → Continues k (after b h (Moves m)) (tried_line t h (Moves m))
  tried_goes_on t =
      by_cond (λ (ls : List Line). Continues k (after b h (Moves m)) ls) (t && anywhere m)
      (λ a. one_line k (moved m h) (may_stand (and_right t (anywhere m) a)) (subst (λ (c : Book). Follows c (after b h (Moves m))) (sym stays) f))
      (λ a. no_lines f)

abbrev is_done : Effect → Bool
is_done (Out bytes) = false
is_done (Got name cue) = false
is_done Done = true
is_done Ignored = false
is_done Nothing = false
is_done (Clash name) = false
is_done (Late name cue) = false
is_done Exhausted = false

-- after the lines of a call
tried-on : (b : Book) {k : Book} (t : Bool) (h : ℕ) (ev : Action) (o : Outcome) → Answered b h ev o → Follows k (book_after b h ev o)
    → Continues k (book_after b h ev o) (tried_by t h ev o)
unfolding book_after tried_for due
tried-on b t h ev (Refused n) p f = no_lines f
tried-on b t h ev (Did (Out bytes)) p f = no_lines f
tried-on b t h ev (Did (Got name cue)) p f = no_lines f
tried-on b t h ev (Did Done) p f = no_lines f
tried-on b t h (Moves m) (Did Ignored) p f =
    by_test (moves m (b.status h))
    (λ moved. let e : Ignored ≡ Done = rw moved at p in clash (sym (ap is_done e)))
    (λ still. tried_goes_on b h m still f t)
tried-on b t h (Send cue) (Did Ignored) p f = no_lines f
tried-on b t h (Arrival bytes) (Did Ignored) p f = no_lines f
tried-on b t h (Else o) (Did Ignored) p f = no_lines f
tried-on b t h ev (Did Nothing) p f = no_lines f
tried-on b t h ev (Did (Clash name)) p f = no_lines f
tried-on b t h ev (Did (Late name cue)) p f = no_lines f
tried-on b t h ev (Did Exhausted) p f = no_lines f

runs_with : (t : ℕ → Bool) (xs : List Entry) (j b : Book) → Follows j b → RunFrom b xs → permits_run j (record_with t xs) ≡ true
unfolding record_with permits_run
runs_with t [] j b f p = refl
runs_with t (x ∷ xs) j b f p =
    let rest = record_with (λ n. t (suc n)) xs in
    let tried = tried_by (t 0) x.host x.action x.outcome in
    ap (permits_run j) (append_assoc (lines_of x.host x.action x.outcome) tried rest)
    ∙ noted f x.host x.action x.outcome p.0 (tried ++ rest)
    (λ k g. tried-on b (t 0) x.host x.action x.outcome p.0 g rest
    (λ i e. runs_with (λ n. t (suc n)) xs i (book_after b x.host x.action x.outcome) e p.2))

pub tried_permitted : TriedPermitted
tried_permitted t xs p = runs_with t xs empty_book empty_book (follows_itself empty_book) p

-- ---- every line of such a record is in range, so that it is read as it is written
tried_proper : (t : Bool) (h : ℕ) (ev : Action) (o : Outcome) → h < 8 → AllProper (tried_by t h ev o)
unfolding tried_for
tried_proper t h ev (Refused n) s = tt
tried_proper t h ev (Did (Out bytes)) s = tt
tried_proper t h ev (Did (Got name cue)) s = tt
tried_proper t h ev (Did Done) s = tt
tried_proper t h (Moves m) (Did Ignored) s = by_cond AllProper (t && anywhere m) (λ e. ((s, refl), tt)) (λ e. tt)
tried_proper t h (Send cue) (Did Ignored) s = tt
tried_proper t h (Arrival bytes) (Did Ignored) s = tt
tried_proper t h (Else o) (Did Ignored) s = tt
tried_proper t h ev (Did Nothing) s = tt
tried_proper t h ev (Did (Clash name)) s = tt
tried_proper t h ev (Did (Late name cue)) s = tt
tried_proper t h ev (Did Exhausted) s = tt

all_proper : (t : ℕ → Bool) (b : Book) → Filed b → (xs : List Entry) → AllSized xs → RunFrom b xs → AllProper (record_with t xs)
unfolding record_with
all_proper t b f [] z p = tt
all_proper t b f (x ∷ xs) z p =
    let s = steps b f x.host z.0 x.action z.1 x.outcome p.0 in
    let lines = lines_of x.host x.action x.outcome in
    let tried = tried_by (t 0) x.host x.action x.outcome in
    both_proper (lines ++ tried) (record_with (λ n. t (suc n)) xs)
    (both_proper lines tried s.lines (tried_proper (t 0) x.host x.action x.outcome z.0))
    (all_proper (λ n. t (suc n)) (book_after b x.host x.action x.outcome) s.filed xs z.2 p.2)

pub tried_never_accused : TriedNeverAccused
unfolding record_prints
tried_never_accused t w fresh cs allowed bytes h =
    let lines = record_with t (seen w cs) in
    let run = service w fresh cs allowed in
    let read = record_read lines (all_proper t empty_book none-filed (seen w cs) (sized w cs allowed bytes) run) in
    ap printed (ap judgement_of read ∙ judged_only_so lines judged.Allowed (h, tried_permitted t (seen w cs) run))
