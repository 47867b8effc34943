-- The kept pair is what the history says: each event by what it does to the pair of a source, then a call, then a list of calls.
use mathlib.Core.Path.{◌≡◌, refl, sym, ap, ◌∙◌, subst}
use mathlib.Core.Bool.{true, false, not, ◌&&◌}
use mathlib.Core.List.{List, [], ◌∷◌}
use mathlib.Core.Option.{Option, none, some}
use Prim.Native.Nat.{ℕ, zero, suc, ◌<◌}
use native.Mathlib.Omega.{arith}
use lib.ListN.{length, get_or, replicate, get_or-replicate}
use lib.Dec.{eqb}
use borrow.Author.Tests.{eqb-true, eq-eqb, ne_eqb}
use Rattle.message.specs.declared.Host.{Host}
use Rattle.message.specs.declared.Report.{Report}
use Rattle.message.specs.Message.{DATA, RQST, REPL, XPRS, FTCH, LATE, ANNC, Meaning, meaning_from}
use Rattle.message.specs.Question.{same_host, read_refusal}
use Rattle.end.specs.declared.Params.{Params}
use Rattle.end.specs.Parts.{Pair, NoPair, No, Due, Span, Closed, Open, Earliest, NoWait, First}
use Rattle.end.specs.declared.Move.{Move}
use Rattle.end.specs.declared.Slot.{Slot}
use Rattle.end.specs.declared.Slot.TheVariants.{Empty, Held, Waiting}
use Rattle.end.specs.declared.Record.{Record}
use Rattle.end.specs.declared.Source.{Source}
use Rattle.end.specs.declared.End.{End}
use Rattle.end.specs.declared.Moment.{Moment}
use Rattle.end.specs.declared.Says.{Says}
use Rattle.end.specs.declared.Says.TheVariants.{Data, Rqst, Repl, Xprs}
use Rattle.end.specs.declared.Word.{Word}
use Rattle.end.specs.declared.Decision.{Decision}
use Rattle.end.specs.declared.Decision.TheVariants.{Ignores, Opens, Takes, Repairs, Hushes, Replies, Learns, BacksOff, Clashes, Expresses}
use Rattle.end.specs.State.{no_source, unheard, unheard_sources, source_at, is_member, moment_of, on_source, with_clock, with_source}
use Rattle.end.specs.Records.{is_above, record_at}
use Rattle.end.specs.Names.{latest, rise_with}
use Rattle.end.specs.Answer.{Effect, Ignored, Step, Result}
use Rattle.end.specs.Decide.{known, apply, effect_of, decide, step_at}
use Rattle.end.specs.Session.{reported_source, all_reported, heard_from, session_of}
use Rattle.end.specs.Arrival.{message_name, message_host, requester_in, word_of, word_step, message_step, arrival_of}
use Rattle.end.specs.Fire.{express_rank, earliest, fire_at, fired}
use Rattle.end.specs.Event.{Action, Moves, Send, Arrival, Else, Other, Fire, Report as Reporting, Announce, Fetch, moves, clears, moved_end, move_of, extended, other_of, act_of}
use Rattle.end.specs.Opening.{open_refusal, end_for, opening_of}
use Rattle.end.specs.Book.{source, is_repair, read_as}
use Rattle.end.proofs.Grounds.{is_request, Grounds, grounds}
use Rattle.end.proofs.Readings.{reads}
use Rattle.end.proofs.Tools.{by_cond, by_test, clash', and_no, set_elim, eqb_flip}
use Rattle.invariants.proofs.Facts.{facts}
use Rattle.invariants.proofs.Questions.{Passed}
use Rattle.guarantees.specs.Calls.{OneCall, after, after_all}
use Rattle.guarantees.specs.History.{told}
use Rattle.guarantees.specs.Express.{is_got_or_done, pair_message, pair_read, pair_action, pair_after, PairsMayBecome, pair_from, PairOverHistory}
use Rattle.guarantees.proofs.Calls.{call-cases, changed-at}
use Rattle.guarantees.proofs.Names.{source_of}
use Rattle.guarantees.proofs.Fetches.{announce-cases, fetch-cases, fetched-cases, late-cases}
use Rattle.guarantees.proofs.Messages.{kind_of}

-- ---- what leaves the pair
rise-pair : (new : ℕ → Record) (n : ℕ) (s : Source) (x : Span) → (rise_with new n s x).pair ≡ s.pair
unfolding rise_with
rise-pair new n s Closed = refl
rise-pair new n s (Open first last) = refl

extended-pair : (t : Moment) (us : List ℕ) (n : ℕ) (s : Source) (x : Span) → (extended t us n s x).pair ≡ s.pair
extended-pair t us n s Closed = refl
extended-pair t us n s (Open first last) = rise-pair _ n s (Open first last)

reported-pair : (t : Moment) (us : List ℕ) (r : Report) (s : Source) → (reported_source t us r s).pair ≡ s.pair
reported-pair t us r s = by_cond (λ (x : Source). x.pair ≡ s.pair) (not (same_host r.source t.me) && is_above s.span r.last.0)
    (λ _. rise-pair _ r.last.0 s s.span) (λ _. refl)

-- one source is another with the same pair
stored_pair : (e : End) (k : Host) (x : Source) → x.pair ≡ (source_at e k).pair → (s : ℕ) → (source_of (with_source e k x) s).pair ≡ (source_of e s).pair
stored_pair e k x same s = set_elim (λ (y : Source). y.pair ≡ (source_of e s).pair) e.sources k.0 s x no_source
    (λ i. same ∙ ap (λ (j : ℕ). (source_of e j).pair) (sym i)) refl

reports-pair : (t : Moment) (us : List ℕ) (rs : List Report) (e : End) (s : ℕ) → (source_of (all_reported t us rs e) s).pair ≡ (source_of e s).pair
unfolding all_reported
reports-pair t us [] e s = refl
reports-pair t us (r ∷ rs) e s =
    reports-pair t us rs (on_source e r.source (reported_source t us r)) s
    ∙ stored_pair e r.source _ (reported-pair t us r (source_at e r.source)) s

session-pair : (t : Moment) (us : List ℕ) (m : Meaning) (e : End) (s : ℕ) → (source_of (session_of t us m e).left s).pair ≡ (source_of e s).pair
unfolding session_of
session-pair t us m e s = let now = all_reported t us m.reports e in
    stored_pair now m.sender (heard_from t m (source_at now m.sender)) refl s ∙ reports-pair t us m.reports e s

fire-pair : (us : List ℕ) (e : End) (x : Earliest) (s : ℕ) → (source_of (fired us e x).left s).pair ≡ (source_of e s).pair
unfolding fired fire_at
fire-pair us e NoWait s = refl
fire-pair us e (First w) s = go (record_at (source_at e w.name.source) w.name.number.0).slot
  where
    go : (x : Slot) → (source_of (fire_at us w.rank w.name e x).left s).pair ≡ (source_of e s).pair
    go Empty = refl
    go (Waiting q x) = by_cond (λ (r : Step). (source_of r.left s).pair ≡ (source_of e s).pair) (eqb w.rank express_rank)
        (λ _. stored_pair e w.name.source _ refl s) (λ _. stored_pair e w.name.source _ refl s)
    go (Held No) = refl
    go (Held (Due due k)) = stored_pair e w.name.source _ refl s

other-pair : (us : List ℕ) (o : Other) (e : End) (s : ℕ) → (source_of (other_of us o e).left s).pair ≡ (source_of e s).pair
other-pair us Fire e s = fire-pair us e (earliest e 8) s
other-pair us Reporting e s = refl
other-pair us Announce e s = announce-cases (λ (r : Step). (source_of r.left s).pair ≡ (source_of e s).pair) e refl (λ bytes. refl)
other-pair us (Fetch name) e s = fetch-cases (λ (r : Step). (source_of r.left s).pair ≡ (source_of e s).pair) name e refl refl
    (λ bytes l. stored_pair e name.source _ refl s)

unheard-pair : (me s : ℕ) → s < 8 → (get_or (unheard_sources me) s no_source).pair ≡ NoPair
unheard-pair me s hs = set_elim (λ (y : Source). y.pair ≡ NoPair) (replicate 8 (unheard 40)) me s (unheard 0) no_source (λ i. refl)
    (rw (get_or-replicate 8 s (unheard 40) no_source hs) refl)

-- ---- what a message makes of a pair

-- nothing, unless it is a REPL of this source, answered Got or Done
module _ (s : ℕ) (p : Pair) (m : Meaning) (a : Effect) where
  other-kind : is_repair m ≡ false → pair_message s p m a ≡ p
  unfolding pair_message
  other-kind k = rw k

  other-source : eqb (source m) s ≡ false → pair_message s p m a ≡ p
  unfolding pair_message
  other-source k = rw (k, and_no (is_repair m))

  other-answer : is_got_or_done a ≡ false → pair_message s p m a ≡ p
  unfolding pair_message
  other-answer k = rw (k, and_no (eqb (source m) s), and_no (is_repair m))

  is-kept : is_repair m ≡ true → eqb (source m) s ≡ true → is_got_or_done a ≡ true
      → pair_message s p m a ≡ latest p (message_host m) m.sender (message_name m).number
  unfolding pair_message
  is-kept k it good = rw (k, it, good)

module _ (us : List ℕ) (m : Meaning) (e : End) (says : Says) (kind : eqb m.kind (kind_of says) ≡ true) where
  abbrev t₀ : Moment
  t₀ = moment_of e

  abbrev w₀ : Word
  w₀ = word_of says m e

  abbrev s₀ : Source
  s₀ = source_at e (message_name m).source

  no_repair : (says ≡ Repl → ⊥) → is_repair m ≡ false
  no_repair d = ne_eqb m.kind REPL (λ r. d (go says (sym (eqb-true m.kind (kind_of says) kind) ∙ r)))
    where
      go : (x : Says) → kind_of x ≡ REPL → x ≡ Repl
      go Data k = absurd (omega (arith, k))
      go Rqst k = absurd (omega (arith, k))
      go Repl k = refl
      go Xprs k = absurd (omega (arith, k))

  is-repair : says ≡ Repl → is_repair m ≡ true
  is-repair p = ap (λ (z : Says). eqb m.kind (kind_of z)) (sym p) ∙ kind

  abbrev Next : Decision → Pair
  Next d = pair_message (source m) s₀.pair m (effect_of t₀ w₀ (known w₀ s₀) d)

  -- a DATA is no REPL, and neither is a message that asks
  original-is : says ≡ Data → says ≡ Repl → ⊥
  original-is p q = let z : Data ≡ Repl = sym p ∙ q in let y : ◌≡◌ {A = ℕ} 0 1 = cc in omega arith

  asking-is : is_request says ≡ true → says ≡ Repl → ⊥
  asking-is p q = clash' (sym (ap is_request q) ∙ p)

  -- by what was decided
  decided : (d : Decision) → Grounds t₀ w₀ (known w₀ s₀) s₀.span d → (apply t₀ us w₀ d s₀).pair ≡ Next d
  unfolding Grounds apply effect_of
  decided (Ignores why) g = sym (other-answer (source m) s₀.pair m _ refl)
  decided Opens g = sym (other-kind (source m) s₀.pair m _ (no_repair (original-is g.0)))
  decided Takes g = rise-pair _ _ s₀ s₀.span ∙ sym (other-kind (source m) s₀.pair m _ (no_repair (original-is g.0)))
  decided Repairs g =
      ap (λ (z : Pair). latest z (requester_in says m) m.sender (message_name m).number) (rise-pair _ _ s₀ s₀.span)
      ∙ ap (λ (z : Says). latest s₀.pair (requester_in z m) m.sender (message_name m).number) g.0
      ∙ sym (is-kept (source m) s₀.pair m _ (is-repair g.0) (eq-eqb (source m) (source m) refl) refl)
  decided Hushes g =
      ap (λ (z : Says). latest s₀.pair (requester_in z m) m.sender (message_name m).number) g.0
      ∙ sym (is-kept (source m) s₀.pair m _ (is-repair g.0) (eq-eqb (source m) (source m) refl) refl)
  decided Replies g = sym (other-kind (source m) s₀.pair m _ (no_repair (asking-is g.0)))
  decided Learns g = rise-pair _ _ s₀ s₀.span ∙ sym (other-kind (source m) s₀.pair m _ (no_repair (asking-is g.0)))
  decided (BacksOff k) g = sym (other-kind (source m) s₀.pair m _ (no_repair (asking-is g.0)))
  decided Clashes g = sym (other-answer (source m) s₀.pair m _ refl)
  decided Expresses g = sym (other-answer (source m) s₀.pair m _ refl)

  pub word_pair : length e.sources ≡ 8 → (s : ℕ) → s < 8
      → (source_of (word_step us says m e).left s).pair ≡ pair_message s (source_of e s).pair m (word_step us says m e).effect
  unfolding step_at
  word_pair long s hs =
      let d = decide t₀ w₀ s₀ in
      let a = effect_of t₀ w₀ (known w₀ s₀) d in
      changed-at (λ (y : Source). y.pair ≡ pair_message s (source_of e s).pair m a) e.sources (source m) (apply t₀ us w₀ d s₀) s (omega arith)
      (λ it. subst (λ (k : ℕ). (apply t₀ us w₀ d s₀).pair ≡ pair_message k (source_of e k).pair m a) (sym it)
      (decided d (grounds t₀ w₀ (known w₀ s₀) s₀.span)))
      (λ off. sym (other-source s (source_of e s).pair m a (eqb_flip s (source m) off)))

-- ---- any message to a member
module _ (us : List ℕ) (m : Meaning) (e : End) (long : length e.sources ≡ 8) (s : ℕ) (hs : s < 8) where
  abbrev Kept : Step → Type 0
  Kept r = (source_of r.left s).pair ≡ pair_message s (source_of e s).pair m r.effect

  message-pair : Kept (message_step us m e)
  unfolding message_step
  message-pair =
      by_cond Kept (eqb m.kind DATA) (λ k. word_pair us m e Data k long s hs)
      (λ _. by_cond Kept (eqb m.kind RQST) (λ k. word_pair us m e Rqst k long s hs)
      (λ _. by_cond Kept (eqb m.kind REPL) (λ k. word_pair us m e Repl k long s hs)
      (λ r. by_cond Kept (eqb m.kind XPRS) (λ k. word_pair us m e Xprs k long s hs)
      (λ _. by_cond Kept (eqb m.kind FTCH)
      (λ _. fetched-cases Kept m e (sym (other-kind s (source_of e s).pair m _ r)) (λ bytes. sym (other-kind s (source_of e s).pair m _ r)))
      (λ _. by_cond Kept (eqb m.kind LATE)
      (λ _. late-cases Kept m e (sym (other-kind s (source_of e s).pair m _ r))
      (λ l. stored_pair e (message_name m).source _ refl s ∙ sym (other-kind s (source_of e s).pair m _ r)))
      (λ _. by_cond Kept (eqb m.kind ANNC) (λ _. sym (other-kind s (source_of e s).pair m _ r))
      (λ _. session-pair (moment_of e) us m e s ∙ sym (other-kind s (source_of e s).pair m _ r))))))))

  arrival-pair : Kept (arrival_of us m e)
  unfolding arrival_of
  arrival-pair = by_cond Kept (same_host m.sender e.host) (λ _. sym (other-answer s (source_of e s).pair m Ignored refl)) (λ _. message-pair)

-- ---- a call

-- what is Ignored leaves the pair
ignored-pair : (s : ℕ) (p : Pair) (a : Action) → pair_action s p a Ignored ≡ p
unfolding pair_action pair_read
ignored-pair s p (Moves m) = refl
ignored-pair s p (Send cue) = refl
ignored-pair s p (Arrival bytes) = go (read_as bytes)
  where
    go : (o : Option Meaning) → pair_read s p o Ignored ≡ p
    go none = refl
    go (some m) = other-answer s p m Ignored refl
ignored-pair s p (Else o) = refl

probe_unread : read_as [] ≡ none
unfolding read_as read_refusal
probe_unread = refl

module _ (us : List ℕ) (e : End) (s : ℕ) (hs : s < 8) where
  abbrev Goes : Action → Step → Type 0
  Goes a r = (source_of r.left s).pair ≡ pair_action s (source_of e s).pair a r.effect

  move-pair : (m : Move) (clock : ℕ) → Goes (Moves m) (move_of m (with_clock e clock))
  unfolding move_of moved_end pair_action
  move-pair m clock = by_cond (Goes (Moves m)) (moves m e.status)
      (λ _. by_test (clears m) (λ k. rw k (unheard-pair e.host.0 s hs)) (λ k. rw k))
      (λ _. refl)

  act_pair : (a : Action) (clock : ℕ) → Passed e a clock → Goes a (act_of us a (with_clock e clock))
  unfolding act_of pair_action pair_read
  act_pair (Moves m) clock z = move-pair m clock
  act_pair (Send cue) clock z = by_cond (Goes (Send cue)) (is_member e.status)
      (λ _. stored_pair e e.host _ (extended-pair (moment_of (with_clock e clock)) us e.next (source_at e e.host) (source_at e e.host).span) s)
      (λ _. refl)
  act_pair (Arrival []) clock z = by_cond (Goes (Arrival [])) (is_member e.status) (λ _. rw probe_unread) (λ _. rw probe_unread)
  act_pair (Arrival (b ∷ bytes)) clock z =
      let m = meaning_from (b ∷ bytes) in
      let f = facts e z.sound in
      by_cond (Goes (Arrival (b ∷ bytes))) (is_member e.status)
      (λ _. rw (reads (b ∷ bytes) z.own) (arrival-pair us m (with_clock e clock) f.sources s hs))
      (λ _. sym (ignored-pair s (source_of e s).pair (Arrival (b ∷ bytes))))
  act_pair (Else o) clock z = by_cond (Goes (Else o)) (is_member e.status) (λ _. other-pair us o (with_clock e clock) s) (λ _. refl)

pub pairs_may_become : PairsMayBecome
unfolding pair_after
pairs_may_become e a clock room draws s hs =
    call-cases (λ (r : Result). (source_of r.left s).pair ≡ pair_after s (source_of e s).pair a r.outcome) e a clock room draws
    (λ k. refl) (λ z c. sym (ignored-pair s (source_of e s).pair a)) (λ z c. act_pair draws e s hs a clock z)

-- ---- a list of calls
through : (cs : List OneCall) (e : End) (s : ℕ) → s < 8 → (source_of (after_all e cs) s).pair ≡ pair_from s (source_of e s).pair (told e cs)
unfolding told pair_from
through [] e s hs = refl
through (c ∷ cs) e s hs =
    through cs (after e c) s hs
    ∙ ap (λ (p : Pair). pair_from s p (told (after e c) cs)) (pairs_may_become e c.action c.clock c.room c.draws s hs)

opened-none : (h : Host) (p : Params) (s : ℕ) → s < 8 → (source_of (opening_of h p).end s).pair ≡ NoPair
unfolding opening_of
opened-none h p s hs = go (open_refusal h p)
  where
    go : (k : ℕ) → (source_of (end_for k h p) s).pair ≡ NoPair
    go zero = unheard-pair h.0 s hs
    go (suc k) = unheard-pair 0 s hs

pub pair_over_history : PairOverHistory
pair_over_history h p cs s hs =
    let e = (opening_of h p).end in
    through cs e s hs ∙ ap (λ (x : Pair). pair_from s x (told e cs)) (opened-none h p s hs)
