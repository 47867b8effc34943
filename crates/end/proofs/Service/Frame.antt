-- From one call to the list: if every event is by the book on a sound end, every allowed list of calls is a run of the service.
use mathlib.Core.Path.{◌≡◌, refl, sym, ap, ◌∙◌}
use mathlib.Core.Bool.{true, false, ◌||◌}
use mathlib.Core.List.Memᴰ
use mathlib.Core.List.{List, [], ◌∷◌, Memᴰ}
use mathlib.Core.Logic.{⊎_elim}
use mathlib.Core.Option.{none, some}
use Prim.Native.Nat.{ℕ, zero, suc, ◌<◌}
use native.Mathlib.Omega.{arith}
use lib.ListN.{length, get_or}
use lib.Dec.{eqb, leb}
use borrow.Author.Tests.{eqb-true, ltb-true}
use Rattle.message.specs.Entry.{as_host}
use Rattle.message.specs.Message.{DATA, RQST, REPL, LATE, Meaning}
use Rattle.message.specs.Question.{ask, first_no, ticks_in, verdict_for}
use Rattle.message.specs.declared.Verdict.TheVariants as verdict
use Rattle.message.proofs.QuestionLaws.{all-passed}
use Rattle.end.specs.declared.Params.{Params}
use Rattle.end.specs.declared.Status.TheVariants.{Idle}
use Rattle.end.specs.declared.End.{End}
use Rattle.end.specs.declared.Opened.{Opened}
use Rattle.end.specs.State.{no_source, unheard_sources, fresh_end}
use Rattle.end.specs.Sound.{sound_of}
use Rattle.end.specs.Answer.{Effect, Class, PutsOut, HandsOut, HandsLate, Untouched, class_in, Refused, Did, Result, done}
use Rattle.end.specs.Round.{draw_count}
use Rattle.end.specs.Event.{Action, Moves, Send, Arrival, Else, step_of, own_questions, question_of, event_of}
use Rattle.end.specs.Opening.{open_refusal, end_for, opening_of}
use Rattle.end.specs.Book.{Book, empty_book, read_as, Answered, RunFrom, book_after, after, first_of, is_some, among}
use Rattle.end.specs.Run.{World, Call, result_of, sent_by, sent_after, world_after, seen, CueArray, AnyRequest, Brought, Allowed, Fresh, Service}
use Rattle.end.proofs.Tools.{by_cond, clash, put_all}
use Rattle.end.proofs.Facts.{unheard-at}
use Rattle.end.proofs.Readings.{none_read}
use Rattle.end.proofs.Service.Sources.{outside_none}
use Rattle.end.proofs.Service.View.{carries, holds, first_in, last_in, windowed, first_at, last_at, Rel, Filed, Grows, Right, grows_refl}

-- the ends against the book; all that was put out carries the filed cues
pub record Inv (w : World) (b : Book) : Type 0 where
  pub rel : (h : ℕ) → h < 8 → Rel b h (w.ends h)
  pub sent : (x : List ℕ) → Memᴰ x w.sent → Filed b x

-- what a call that was not refused has passed: questions 3 and 4, and the event's own
pub record Passed (e : End) (ev : Action) (clock : ℕ) : Type 0 where
  pub sound : sound_of e ≡ true
  pub ticks : clock < 281474976710656
  pub own : first_no (own_questions ev e) ≡ 0

pub passes : (e : End) (ev : Action) (clock room draws : ℕ) → question_of e ev clock room draws ≡ 0 → Passed e ev clock
unfolding question_of
passes e ev clock room draws h =
    let own = own_questions ev e in
    let q5 = ask (leb e.clock clock) 5 ∷ own in
    let q4 = ask (ticks_in clock) 4 ∷ q5 in
    let q3 = ask (sound_of e) 3 ∷ q4 in
    let q2 = ask (eqb draws draw_count) 2 ∷ q3 in
    let a1 = (all-passed (leb 128 room) 1 q2 (omega arith) h).1 in
    let a2 = (all-passed (eqb draws draw_count) 2 q3 (omega arith) a1).1 in
    let a3 = all-passed (sound_of e) 3 q4 (omega arith) a2 in
    let a4 = all-passed (ticks_in clock) 4 q5 (omega arith) a3.1 in
    let a5 = all-passed (leb e.clock clock) 5 own (omega arith) a4.1 in
    record { sound = a3.0; ticks = ltb-true clock 281474976710656 a4.0; own = a5.1 }

-- the other ends
rel_grows : {b b' : Book} {h k : ℕ} {e : End} → Grows h b b' → eqb k h ≡ false → Rel b k e → Rel b' k e
rel_grows {b} {b'} {h} {k} {e} g d r = record {
  host = r.host;
  status = r.status ∙ sym (g.status k d);
  next = r.next ∙ sym (g.count k d);
  filed = λ s n c hs q. g.filed s n c (r.filed s n c hs q);
  handed = λ m s n hs q. rw (g.handed k s d) (r.handed m s n hs q);
  firsts = λ m s hs q. rw (g.handed k s d, g.highest k s d) (r.firsts m s hs q);
  lasts = λ m s hs q. rw (g.highest k s d) (r.lasts m s hs q);
}

-- what was put out before, and what this call put out
pub sent-by : (P : List ℕ → Type 0) (o : Class) (l : List (List ℕ)) → ((x : List ℕ) → Memᴰ x l → P x) → ((x : List ℕ) → o ≡ PutsOut x → P x)
    → (x : List ℕ) → Memᴰ x (sent_by o l) → P x
sent-by P (PutsOut y) l old new x m = ⊎_elim (λ e. new x (ap PutsOut (sym e))) (old x) (Memᴰ.cases_cons m)
sent-by P (HandsOut name c) l old new x m = old x m
sent-by P (HandsLate name c) l old new x m = old x m
sent-by P Untouched l old new x m = old x m

inv_after : (w : World) (b b' : Book) (h : ℕ) (r : Result) → Inv w b → Grows h b b' → Rel b' h r.left → ((x : List ℕ) → class_in r.outcome ≡ PutsOut x → Filed b' x) → Inv (world_after w h r) b'
unfolding world_after sent_after
inv_after w b b' h r inv g q f = record {
  rel = λ k hk. put_all (Rel b') w.ends h r.left q k (λ d. rel_grows g d (inv.rel k hk));
  sent = sent-by (Filed b') (class_in r.outcome) w.sent (λ x m y p k. g.filed _ _ _ (inv.sent x m y p k)) f;
}

-- one call: by the book, and the invariant is kept
pub record Stepped (w : World) (b : Book) (h : ℕ) (ev : Action) (r : Result) : Type 0 where
  pub answered : Answered b h ev r.outcome
  pub status : r.left.status ≡ (book_after b h ev r.outcome).status h
  pub inv : Inv (world_after w h r) (book_after b h ev r.outcome)

-- what is to be shown of the events: on an end that passed the questions and agrees with the book, each is by the book
abbrev pub EventsRight : Type 0
EventsRight = (b : Book) (e : End) (h clock : ℕ) (draws : List ℕ) (ev : Action) → h < 8 → CueArray ev → Passed e ev clock → Rel b h e
    → ((x : List ℕ) → ev ≡ Arrival x → Filed b x) → Right b h ev (step_of clock draws ev e)

-- a RQST carries no cue
asked-filed : (b : Book) (x : List ℕ) → AnyRequest x → Filed b x
asked-filed b x a m r c =
    let same : a.0 ≡ m = cc in
    let kind : m.kind ≡ RQST = ap (λ (i : Meaning). i.kind) (sym same) ∙ a.2 in
    let none : carries m ≡ false = ap (λ (k : ℕ). (eqb k DATA || eqb k REPL) || eqb k LATE) kind in
    clash (sym c ∙ none)

-- what an Arrival brings carries the filed cue: a probe carries none, and may come from anywhere, as a display's RQST may
pub brought_filed : (w : World) (b : Book) (ev : Action) (a : Effect) → Inv w b → Brought w.sent ev (Did a) → (x : List ℕ) → ev ≡ Arrival x → Filed b x
brought_filed w b (Moves m) a inv p x e = let z : ◌≡◌ {A = ℕ} 0 1 = cc in absurd (omega arith)
brought_filed w b (Send c) a inv p x e = let z : ◌≡◌ {A = ℕ} 0 1 = cc in absurd (omega arith)
brought_filed w b (Arrival []) a inv p x e = let q : [] ≡ x = cc in λ m r. absurd (none_read m (ap read_as q ∙ r))
brought_filed w b (Arrival (y ∷ s)) a inv p x e = let q : y ∷ s ≡ x = cc in
    let filed : Filed b (y ∷ s) = ⊎_elim (inv.sent (y ∷ s)) (asked-filed b (y ∷ s)) p in
    rw q at filed
brought_filed w b (Else o) a inv p x e = let z : ◌≡◌ {A = ℕ} 0 1 = cc in absurd (omega arith)

module _ (events : EventsRight) where
  pub stepped : (w : World) (b : Book) (c : Call) → Inv w b → c.host < 8 → CueArray c.action → Brought w.sent c.action (result_of w c).outcome
      → Stepped w b c.host c.action (result_of w c)
  unfolding result_of event_of book_after
  stepped w b c inv hh array =
      let h = c.host in
      let ev = c.action in
      let e = w.ends h in
      let step = step_of c.clock c.draws ev e in
      by_cond (λ r. Brought w.sent ev r.outcome → Stepped w b h ev r) (eqb (question_of e ev c.clock (length c.output) (length c.draws)) 0)
      (λ t br.
      let z : Passed e ev c.clock = passes e ev c.clock (length c.output) (length c.draws) (eqb-true _ _ t) in
      let r : Right b h ev step = events b e h c.clock c.draws ev hh array z (inv.rel h hh) (brought_filed w b ev step.effect inv br) in
      record {
        answered = r.answered;
        status = r.rel.status;
        inv = inv_after w b (after b h ev) h (done step) inv r.grows r.rel r.filed;
      })
      (λ t br. record {
        answered = tt;
        status = (inv.rel h hh).status;
        inv = inv_after w b b h (record { outcome = Refused (question_of e ev c.clock (length c.output) (length c.draws)); left = e }) inv (grows_refl h b) (inv.rel h hh)
            (λ x p. let z : ◌≡◌ {A = ℕ} 0 1 = cc in absurd (omega arith));
      })

  runs : (cs : List Call) (w : World) (b : Book) → Inv w b → Allowed w cs → RunFrom b (seen w cs)
  unfolding seen
  runs [] w b inv a = tt
  runs (c ∷ cs) w b inv a =
      let s : Stepped w b c.host c.action (result_of w c) = stepped w b c inv a.0 a.1 a.2 in (
        s.answered,
        s.status,
        runs cs (world_after w c.host (result_of w c)) (book_after b c.host c.action (result_of w c).outcome) s.inv a.3,
      )

-- ---- the start

pub none-held : (e : End) → e.sources ≡ unheard_sources e.host.0 → (s n : ℕ) → s < 8 → holds e s n ≡ none
unfolding holds
none-held e p s n hs = outside_none (get_or e.sources s no_source) n (rw (p, (unheard-at e.host.0 s hs).0))

pub none_first : (e : End) → e.sources ≡ unheard_sources e.host.0 → (s : ℕ) → s < 8 → first_at e s ≡ none
unfolding first_at first_in
none_first e p s hs = rw (p, (unheard-at e.host.0 s hs).0)

pub none_last : (e : End) → e.sources ≡ unheard_sources e.host.0 → (s : ℕ) → s < 8 → last_at e s ≡ none
unfolding last_at last_in
none_last e p s hs = rw (p, (unheard-at e.host.0 s hs).0)

fresh_rel : (h : ℕ) (p : Params) → Rel empty_book h (fresh_end (as_host h) p Idle)
unfolding first_of is_some among windowed
fresh_rel h p = record {
  host = refl;
  status = refl;
  next = refl;
  filed = λ s n c hs q. sym (none-held (fresh_end (as_host h) p Idle) refl s n hs) ∙ q;
  handed = λ m s n hs d. rw (none-held (fresh_end (as_host h) p Idle) refl s n hs);
  firsts = λ m s hs d. none_first (fresh_end (as_host h) p Idle) refl s hs;
  lasts = λ m s hs d. none_last (fresh_end (as_host h) p Idle) refl s hs;
}

-- an opening that is not refused gives a fresh idle end
opened-is : (h : ℕ) (p : Params) (e : End) → opening_of (as_host h) p ≡ record { verdict = verdict.Accepted; end = e } → fresh_end (as_host h) p Idle ≡ e
unfolding opening_of
opened-is h p e = go (open_refusal (as_host h) p)
  where
    go : (k : ℕ) → ◌≡◌ {A = Opened} (record { verdict = verdict_for k; end = end_for k (as_host h) p }) (record { verdict = verdict.Accepted; end = e }) → fresh_end (as_host h) p Idle ≡ e
    go zero q = ap (λ (x : Opened). x.end) q
    go (suc k) q = let z : verdict.Refused (suc k) ≡ verdict.Accepted = ap (λ (x : Opened). x.verdict) q in cc

pub fresh : (w : World) → Fresh w → Inv w empty_book
fresh w f = record {
  rel = λ h hh. let o = f.ends h hh in rw (← (opened-is h o.0 (w.ends h) o.1)) (fresh_rel h o.0);
  sent = λ x m. absurd (Memᴰ.not-nil (rw f.sent at m));
}

pub service-from : EventsRight → Service
service-from events w f cs a = runs events cs w empty_book (fresh w f) a
