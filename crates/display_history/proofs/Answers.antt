-- What a display answers, by its history: the statements of specs/Answers.antt.
use mathlib.Core.Path.{◌≡◌, refl, sym, ap, ◌∙◌, subst}
use mathlib.Core.Bool.{Bool, true, false, cond, not, ◌&&◌, ◌||◌}
use mathlib.Core.List.{List, [], ◌∷◌}
use mathlib.Core.Logic.{⊎_elim}
use Rattle.std.specs.Prelude as rust
use Rattle.std.specs.Prelude.{Some, None}
use mathlib.Core.Option.{Option, none, some}
use Prim.Native.Nat.{ℕ, ◌+◌, ◌-◌, ◌≤◌, ◌<◌, max}
use native.Mathlib.Omega.{arith}
use lib.Dec.{leb, eqb}
use borrow.Author.Tests.{eqb-true, eq-eqb, ltb-true, le-leb, leb-true, not-true}
use Rattle.numbers.specs.Bits.{bit}
use Rattle.numbers.proofs.Cases.{by_flag, by_order}
use Rattle.numbers.proofs.BitLaws.{bit-above}
use Rattle.message.specs.Limit.{number_limit, ticks_limit}
use Rattle.message.specs.declared.Host.{Host}
use Rattle.message.specs.declared.HostRule.TheVariants.{SourceAndSender}
use Rattle.message.specs.declared.CueNumber.{CueNumber}
use Rattle.message.specs.Kind.{row_at}
use Rattle.message.specs.declared.Name.{Name}
use Rattle.message.specs.declared.Verdict.TheVariants.{Accepted}
use Rattle.message.specs.Section.{all, rises}
use Rattle.message.specs.Message.{DATA, REPL, ANNC, Datagram, Probe, Saying, Meaning, meaning_from, bytes_of, datagram_from}
use Rattle.message.specs.Question.{first_no, message_questions, host_in, ticks_in, same_host, in_range, window_fits, hosts_fit, read_refusal, verdict_for, read_of}
use Rattle.message.proofs.QuestionLaws.{and_both}
use Rattle.message.proofs.SectionLaws as sections
use Rattle.end.specs.Answer.{Out, Got, Done, Ignored, Nothing, Clash, Late, Exhausted, PutsOut, HandsOut, Untouched, class_of, class_in, Outcome, Refused, Did}
use Rattle.end.specs.Messages.{message_name, message_cue}
use Rattle.end.specs.Book.{read_as}
use Rattle.end.proofs.Tools.{by_cond, by_test, clash, clash'}
use Rattle.end.proofs.Readings.{read_is, reads, own-source, written-reads}
use Rattle.display_window.specs.Parts.{Seen, Unstarted, Started, started}
use Rattle.display_window.specs.declared.Lost.{Lost}
use Rattle.display_window.specs.Window.{window_sound, raised, received, is_new, start_at, taken, none_lost, lost_by, lowest_missing}
use Rattle.display_window.proofs.WindowLaws.{SoundWindow, sound-window}
use Rattle.display.specs.declared.Display.{Display}
use Rattle.display.specs.Display.{hosts_apart, opening_of, with_clock, with_window}
use Rattle.display.specs.Hear.{is_original, is_repair, is_announced, lead_in, Hearing, hearing, passed_over, cue_of, announced_of, heard_in, hear_of}
use Rattle.display.specs.Request.{request_for, request_if, step_of}
use Rattle.display.specs.Call.{Event, Hear, Step, question_of, act_of, event_of}
use Rattle.display_history.specs.History.{Call, after, after_all, told, handed_out, is_missing, none_missing}
use Rattle.display_history.specs.Answers.{is_of, brings_cue, got_if, answered, answered_to, AnswersHeard, edges_of, edges_by, edges_to, EdgesHeard, SetsClock, RefusedStays, OutIsRequest}
use Rattle.display.proofs.CallLaws.{apart, sound_in, hear-asks, step-asks, Passed, passed}
use Rattle.display_history.proofs.Moves.{Went, Stays, Starts, Takes, Announces, went}
use Rattle.display_history.proofs.History.{is_from, opened, new_by_history}
use Rattle.display_history.proofs.Asks.{step_asks_lowest}

-- ---- what is heard

and_when : (a x y : Bool) → (a ≡ true → x ≡ y) → (a && x) ≡ (a && y)
and_when true x y h = h refl
and_when false x y h = refl

absorbs : (r y : Bool) → (y || (r && y)) ≡ y
absorbs r true = refl
absorbs true false = refl
absorbs false false = refl

either_when : (a r x y : Bool) → (a ≡ true → x ≡ y) → ((a && x) || (r && y)) ≡ ((a || r) && y)
either_when true r x y h = rw (h refl) (absorbs r y)
either_when false r x y h = refl

effect_of : (b : Bool) (x y : Hearing) → (cond b x y).effect ≡ cond b x.effect y.effect
effect_of true x y = refl
effect_of false x y = refl

edges_of_lem : (b : Bool) (x y : Hearing) → edges_of (cond b x y).left.window ≡ cond b (edges_of x.left.window) (edges_of y.left.window)
edges_of_lem true x y = refl
edges_of_lem false x y = refl

-- a cue that is not new is no higher than lead
old_below : (trail lead : CueNumber) (set n : ℕ) → SoundWindow trail.0 lead.0 set → is_new (started trail lead set) n ≡ false → n ≤ lead.0
unfolding is_new
old_below trail lead set n w old =
    by_order lead.0 n
    (λ a.
    let above = bit-above set (n - trail.0) (lead.0 + 1 - trail.0) w.within (omega (arith, w.ordered)) in
    let new : true ≡ false = rw (le-leb trail.0 n (omega (arith, w.ordered)), above) at old in
    clash new)
    (λ a. a)

-- a message whose DATA or kind 24 names the host that sent it
module _ (d : Display) (m : Meaning)
    (original : eqb m.kind DATA ≡ true → same_host m.sender d.sender ≡ is_of d.sender m)
    (announced : eqb m.kind ANNC ≡ true → same_host m.sender d.sender ≡ is_of d.sender m) where
  abbrev n : ℕ
  n = (message_name m).number.0

  cue_test : (is_original d m || is_repair d m) ≡ (brings_cue m && is_of d.sender m)
  cue_test = either_when (eqb m.kind DATA) (eqb m.kind REPL) (same_host m.sender d.sender) (is_of d.sender m) original

  tells_test : is_announced d m ≡ (eqb m.kind ANNC && is_of d.sender m)
  tells_test = and_when (eqb m.kind ANNC) (same_host m.sender d.sender) (is_of d.sender m) announced

  -- a new cue, as it is heard
  abbrev got : Hearing
  got = hearing (Got (message_name m) (message_cue m)) (lost_by (n - 63) d.window) (with_window d (taken n d.window))

  original_test : is_original d m ≡ (eqb m.kind DATA && is_of d.sender m)
  original_test = and_when (eqb m.kind DATA) (same_host m.sender d.sender) (is_of d.sender m) original

  cue-effect : (cue_of m n d).effect ≡ got_if (is_new d.window n) m
  cue-effect = effect_of (is_new d.window n) got (passed_over d)

  tells-effect : (cond (is_announced d m) (announced_of m d) (passed_over d)).effect ≡ cond (is_announced d m) Done Ignored
  tells-effect = effect_of (is_announced d m) (announced_of m d) (passed_over d)

  pub heard-answer : (times : ℕ) (w : Seen) → is_new d.window n ≡ (is_from w n && eqb times 0) → (heard_in w m d).effect ≡ answered w d.sender m times
  unfolding heard_in answered
  heard-answer times Unstarted new = effect_of (is_original d m) _ _ ∙ ap (λ (b : Bool). got_if b m) original_test
  heard-answer times (Started w) new =
      effect_of (is_original d m || is_repair d m) (cue_of m n d) (cond (is_announced d m) (announced_of m d) (passed_over d))
      ∙ (λ i. cond (is_original d m || is_repair d m) (cue-effect i) (tells-effect i))
      ∙ (λ i. cond (cue_test i) (got_if (new i) m) (cond (tells_test i) Done Ignored))

  -- trail and lead
  abbrev begun : Hearing
  begun = hearing (Got (message_name m) (message_cue m)) none_lost (with_window d (start_at n))

  -- a cue that is passed over moves neither
  passed-edges : (trail lead : CueNumber) (set : ℕ) → SoundWindow trail.0 lead.0 set → is_new (started trail lead set) n ≡ false
      → edges_of (started trail lead set) ≡ some (max trail.0 (n - 63), max lead.0 n)
  passed-edges trail lead set w old =
      let high = old_below trail lead set n w old in
      let same : trail.0 ≡ max trail.0 (n - 63) = omega (arith, high, w.near) in
      let top : lead.0 ≡ max lead.0 n = omega (arith, high) in
      λ i. some (same i, top i)

  cue-edges : (trail lead : CueNumber) (set : ℕ) → d.window ≡ started trail lead set → SoundWindow trail.0 lead.0 set
      → edges_of (cue_of m n d).left.window ≡ some (max trail.0 (n - 63), max lead.0 n)
  unfolding raised received
  cue-edges trail lead set p w =
      by_flag (is_new d.window n)
      (λ new. rw new (ap (λ (v : Seen). edges_of (taken n v)) p))
      (λ old. rw old (ap edges_of p ∙ passed-edges trail lead set w (sym (ap (λ (v : Seen). is_new v n) p) ∙ old)))

  pub heard-edges : (w : Seen) → d.window ≡ w → window_sound w ≡ true → edges_of (heard_in w m d).left.window ≡ edges_by w d.sender m
  unfolding heard_in edges_by raised
  heard-edges Unstarted p h = edges_of_lem (is_original d m) begun (passed_over d) ∙ (λ i. cond (original_test i) (some (n, n)) (edges_of (p i)))
  heard-edges (Started w) p h =
      edges_of_lem (is_original d m || is_repair d m) (cue_of m n d) (cond (is_announced d m) (announced_of m d) (passed_over d))
      ∙ (λ i.
      cond (is_original d m || is_repair d m)
      (cue-edges w.trail w.lead w.set p (sound-window w.trail w.lead w.set h) i)
      (edges_of_lem (is_announced d m) (announced_of m d) (passed_over d) i))
      ∙ (λ i. cond (cue_test i) (some (max w.trail.0 (n - 63), max w.lead.0 n)) (cond (tells_test i) (edges_of (raised n (lead_in m) (p i))) (edges_of (p i))))

-- what the questions leave: a DATA and a kind 24 name the host that sent them
names-own : (b : ℕ) (s : List ℕ) (sender : Host) (k : ℕ) → (row_at k).host ≡ SourceAndSender → 0 < (row_at k).names → first_no (message_questions (b ∷ s)) ≡ 0
    → let m = meaning_from (b ∷ s) in
    eqb m.kind k ≡ true → same_host m.sender sender ≡ is_of sender m
names-own b s sender k rule some-name h e =
    ap (λ (i : ℕ). eqb i sender.0) (own-source (b ∷ s) (meaning_from (b ∷ s)) (reads (b ∷ s) h) k rule some-name e)

left_of_lem : (d : Display) (bytes : List ℕ) (clock room : ℕ) → question_of d (Hear bytes) clock room ≡ 0
    → (event_of d (Hear bytes) clock room).left ≡ (hear_of (datagram_from bytes) (with_clock d clock)).left
unfolding event_of
left_of_lem d bytes clock room q = rw q

outcome_of : (d : Display) (bytes : List ℕ) (clock room : ℕ) → question_of d (Hear bytes) clock room ≡ 0
    → (event_of d (Hear bytes) clock room).outcome ≡ Did (hear_of (datagram_from bytes) (with_clock d clock)).effect
unfolding event_of
outcome_of d bytes clock room q = rw q

module _ (d : Display) (clock room : ℕ) where
  all-passed : (bytes : List ℕ) → question_of d (Hear bytes) clock room ≡ 0 → Passed d clock room (read_refusal bytes)
  all-passed bytes q = passed d clock room (read_refusal bytes) (sym (hear-asks d clock room bytes) ∙ q)

pub answers-heard : AnswersHeard
unfolding read_refusal
answers-heard own sender cs bytes clock room q =
    let d = after_all (opening_of own sender).display cs in
    outcome_of d bytes clock room q ∙ ap Did (go bytes (all-passed d clock room bytes q).rest)
  where
    d : Display
    d = after_all (opening_of own sender).display cs

    go : (bytes : List ℕ) → read_refusal bytes ≡ 0
        → (hear_of (datagram_from bytes) (with_clock d clock)).effect ≡ answered_to (datagram_from bytes) d (handed_out (told (opening_of own sender).display cs))
    go [] h = refl
    go (b ∷ s) h =
        let m = meaning_from (b ∷ s) in
        let n = (message_name m).number.0 in
        heard-answer (with_clock d clock) m
        (names-own b s d.sender DATA refl (omega arith) h)
        (names-own b s d.sender ANNC refl (omega arith) h)
        (handed_out (told (opening_of own sender).display cs) n)
        d.window
        (new_by_history own sender cs n)

pub edges-heard : EdgesHeard
unfolding read_refusal
edges-heard d bytes clock room q =
    let p = all-passed d clock room bytes q in
    ap (λ (x : Display). edges_of x.window) (left_of_lem d bytes clock room q) ∙ go bytes p.rest (sound_in d p.sound)
  where
    go : (bytes : List ℕ) → read_refusal bytes ≡ 0 → window_sound d.window ≡ true
        → edges_of (hear_of (datagram_from bytes) (with_clock d clock)).left.window ≡ edges_to (datagram_from bytes) d
    go [] h w = refl
    go (b ∷ s) h w =
        heard-edges (with_clock d clock) (meaning_from (b ∷ s))
        (names-own b s d.sender DATA refl (omega arith) h)
        (names-own b s d.sender ANNC refl (omega arith) h)
        d.window refl w

-- ---- the clock and the hosts

abbrev Keeps : Display → Hearing → Type 0
Keeps d h = (h.left.clock ≡ d.clock) × (h.left.own ≡ d.own) × (h.left.sender ≡ d.sender)

heard-keeps : (m : Meaning) (d : Display) (w : Seen) → Keeps d (heard_in w m d)
unfolding heard_in
heard-keeps m d Unstarted = by_cond (Keeps d) (is_original d m) (λ _. (refl, refl, refl)) (λ _. (refl, refl, refl))
heard-keeps m d (Started w) =
    by_cond (Keeps d) (is_original d m || is_repair d m)
    (λ _. by_cond (Keeps d) (is_new d.window (message_name m).number.0) (λ _. (refl, refl, refl)) (λ _. (refl, refl, refl)))
    (λ _. by_cond (Keeps d) (is_announced d m) (λ _. (refl, refl, refl)) (λ _. (refl, refl, refl)))

acts_keep : (ev : Event) (d : Display) → Keeps d (act_of ev d)
unfolding step_of
acts_keep (Hear bytes) d = go (datagram_from bytes)
  where
    go : (m : Datagram Meaning) → Keeps d (hear_of m d)
    go Probe = (refl, refl, refl)
    go (Saying m) = heard-keeps m d d.window
acts_keep Step d = go (lowest_missing d.window)
  where
    go : (o : rust.Option ℕ) → Keeps d (request_if o d)
    go None = (refl, refl, refl)
    go (Some n) = (refl, refl, refl)

pub sets-clock : SetsClock
unfolding event_of
sets-clock d c q = rw (q, after) (acts_keep c.event (with_clock d c.clock))

pub refused-stays : RefusedStays
unfolding event_of
refused-stays d c k h =
    let q = question_of d c.event c.clock c.room in
    by_test (eqb q 0)
    (λ t.
    let e : Did (act_of c.event (with_clock d c.clock)).effect ≡ Refused k = rw t at h in
    let z : ◌≡◌ {A = ℕ} 0 1 = cc in
    absurd (omega arith))
    (λ f. rw f (refl, refl))

-- ---- lead is a cue number

abbrev pub Below : Seen → Type 0
Below Unstarted = Unit {0}
Below (Started w) = w.lead.0 < number_limit

raised_below : (t l : ℕ) (w : Seen) → l < number_limit → Below w → Below (raised t l w)
unfolding raised
raised_below t l Unstarted h b = tt
raised_below t l (Started w) h b = omega (arith, h, b)

received-below : (n : ℕ) (w : Seen) → Below w → Below (received n w)
unfolding received
received-below n Unstarted b = tt
received-below n (Started w) b = b

below_went : (w : Seen) (h : Option ℕ) (l : Lost) (v : Seen) → Went w h l v → Below w → Below v
below_went w h l v (Stays a c e) b = rw e b
below_went w h l v (Starts n s a c d e) b = rw e s
below_went w h l v (Takes n s a c d e) b = rw e (received-below n (raised (n - 63) n w) (raised_below (n - 63) n w s b))
below_went w h l v (Announces t k x y s a c e) b = rw e (raised_below t k w s b)

pub below_next : (d : Display) (c : Call) → Below d.window → Below (after d c).window
below_next d c b = below_went d.window _ _ (after d c).window (went d c.event c.clock c.room) b

below_all : (d : Display) (cs : List Call) → Below d.window → Below (after_all d cs).window
unfolding after_all
below_all d [] b = b
below_all d (c ∷ cs) b = below_all (after d c) cs (below_next d c b)

missing-below : (w : Seen) (n : ℕ) → Below w → is_missing w n ≡ true → n < number_limit
missing-below Unstarted n b h = clash' h
missing-below (Started w) n b h =
    let between = (and_both (leb w.trail.0 n && leb n w.lead.0) (not (bit w.set (n - w.trail.0))) h).0 in
    omega (arith, b, leb-true n w.lead.0 (and_both (leb w.trail.0 n) (leb n w.lead.0) between).1)

-- ---- what is put out

-- its RQST is read as itself
request-reads : (d : Display) → hosts_apart d.own d.sender ≡ true → ticks_in d.clock ≡ true → (n : ℕ) → n < number_limit
    → read_as (bytes_of (request_for d n)) ≡ some (request_for d n)
unfolding in_range hosts_fit window_fits all rises
request-reads d h t n l =
    let own = and_both (host_in d.own) _ h in
    let sender = and_both (host_in d.sender) _ own.1 in
    let differ : same_host d.own d.sender ≡ false = not-true (same_host d.own d.sender) sender.1 in
    written-reads (request_for d n)
    (record {
      stamp = ltb-true d.clock ticks_limit t;
      names = sections.some l sections.none;
      cues = sections.none;
      reports = sections.none;
      echoes = sections.none;
    })
    refl
    (rw (own.0, t, sender.0, le-leb n 65535 (omega arith), eq-eqb d.own.0 d.own.0 refl, differ))

pub put_out_is : (o : Outcome) (x : List ℕ) → class_in o ≡ PutsOut x → o ≡ Did (Out x)
put_out_is (Refused k) x e = let z : ◌≡◌ {A = ℕ} 0 1 = cc in absurd (omega arith)
put_out_is (Did (Out y)) x e = let p : y ≡ x = cc in ap (λ (b : List ℕ). Did (Out b)) p
put_out_is (Did (Got name cue)) x e = let z : ◌≡◌ {A = ℕ} 0 1 = cc in absurd (omega arith)
put_out_is (Did Done) x e = let z : ◌≡◌ {A = ℕ} 0 1 = cc in absurd (omega arith)
put_out_is (Did Ignored) x e = let z : ◌≡◌ {A = ℕ} 0 1 = cc in absurd (omega arith)
put_out_is (Did Nothing) x e = let z : ◌≡◌ {A = ℕ} 0 1 = cc in absurd (omega arith)
put_out_is (Did (Clash name)) x e = let z : ◌≡◌ {A = ℕ} 0 1 = cc in absurd (omega arith)
put_out_is (Did (Late name cue)) x e = let z : ◌≡◌ {A = ℕ} 0 1 = cc in absurd (omega arith)
put_out_is (Did Exhausted) x e = let z : ◌≡◌ {A = ℕ} 0 1 = cc in absurd (omega arith)

-- a display that hears puts nothing out: it hands a cue out, or does neither
abbrev Silent : Hearing → Type 0
Silent h = (x : List ℕ) → class_of h.effect ≡ PutsOut x → ⊥

none_out : (x : List ℕ) → Untouched ≡ PutsOut x → ⊥
none_out x e = let z : ◌≡◌ {A = ℕ} 0 1 = cc in omega arith

handed_out_lem : (name : Name) (cue x : List ℕ) → HandsOut name cue ≡ PutsOut x → ⊥
handed_out_lem name cue x e = let z : ◌≡◌ {A = ℕ} 0 1 = cc in omega arith

heard_silent : (m : Meaning) (d : Display) (w : Seen) → Silent (heard_in w m d)
unfolding heard_in
heard_silent m d Unstarted = by_cond Silent (is_original d m) (λ _. handed_out_lem (message_name m) (message_cue m)) (λ _. none_out)
heard_silent m d (Started w) =
    by_cond Silent (is_original d m || is_repair d m)
    (λ _. by_cond Silent (is_new d.window (message_name m).number.0) (λ _. handed_out_lem (message_name m) (message_cue m)) (λ _. none_out))
    (λ _. by_cond Silent (is_announced d m) (λ _. none_out) (λ _. none_out))

hear_silent : (m : Datagram Meaning) (d : Display) → Silent (hear_of m d)
hear_silent Probe d = none_out
hear_silent (Saying m) d = heard_silent m d d.window

-- so an Out is a step's
pub record Puts (d : Display) (c : Call) (bytes : List ℕ) : Type 0 where
  pub step : c.event ≡ Step
  pub number : ℕ
  pub missing : is_missing d.window number ≡ true
  pub lowest : none_missing d.window number
  pub is : bytes ≡ bytes_of (request_for (with_clock d c.clock) number)
  pub reads : read_as bytes ≡ some (request_for (with_clock d c.clock) number)

module _ (d : Display) (clock room : ℕ) (bytes : List ℕ) (below : Below d.window) where
  abbrev call : Event → Call
  call ev = record { event = ev; clock = clock; room = room }

  steps : question_of d Step clock room ≡ 0 → (event_of d Step clock room).outcome ≡ Did (Out bytes) → Puts d (call Step) bytes
  steps q h =
      let p = passed d clock room 0 (sym (step-asks d clock room) ∙ q) in
      let after = with_clock d clock in
      ⊎_elim
      (λ a.
      let same : Did (Out (bytes_of (request_for after a.0))) ≡ Did (Out bytes) = sym (ap (λ r. r.outcome) a.1) ∙ h in
      let is : bytes_of (request_for after a.0) ≡ bytes = cc in
      record {
        step = refl;
        number = a.0;
        missing = a.2;
        lowest = a.3;
        is = sym is;
        reads = ap read_as (sym is) ∙ request-reads after (apart d p.sound) p.ticks a.0 (missing-below d.window a.0 below a.2);
      })
      (λ a.
      let same : Did Nothing ≡ Did (Out bytes) = sym (ap (λ r. r.outcome) a.0) ∙ h in
      let z : ◌≡◌ {A = ℕ} 0 1 = cc in
      absurd (omega arith))
      (step_asks_lowest d clock room q)

  unrefused : (ev : Event) → question_of d ev clock room ≡ 0 → (event_of d ev clock room).outcome ≡ Did (Out bytes) → Puts d (call ev) bytes
  unrefused (Hear heard) q h =
      absurd (hear_silent (datagram_from heard) (with_clock d clock) bytes (ap class_in (sym (outcome_of d heard clock room q) ∙ h)))
  unrefused Step q h = steps q h

  refused : (ev : Event) → eqb (question_of d ev clock room) 0 ≡ false → (event_of d ev clock room).outcome ≡ Did (Out bytes) → ⊥
  unfolding event_of
  refused ev q h =
      let e : Refused (question_of d ev clock room) ≡ Did (Out bytes) = rw q at h in
      let z : ◌≡◌ {A = ℕ} 0 1 = cc in
      omega arith

pub puts : (d : Display) (c : Call) (bytes : List ℕ) → Below d.window → (event_of d c.event c.clock c.room).outcome ≡ Did (Out bytes) → Puts d c bytes
puts d c bytes b h =
    let q = question_of d c.event c.clock c.room in
    by_test (eqb q 0)
    (λ t. unrefused d c.clock c.room bytes b c.event (eqb-true q 0 t) h)
    (λ f. absurd (refused d c.clock c.room bytes b c.event f h))

accepted : (x : List ℕ) → first_no (message_questions x) ≡ 0 → (read_of x).verdict ≡ Accepted
unfolding read_of read_refusal
accepted [] h = absurd (omega arith)
accepted (b ∷ s) h = ap verdict_for h

pub out_is_request : OutIsRequest
out_is_request own sender cs c bytes h =
    let o = (opening_of own sender).display in
    let d = after_all o cs in
    let p = puts d c bytes (below_all o cs (subst Below (sym (opened own sender)) tt)) h in
    let r = read_is bytes (request_for (with_clock d c.clock) p.number) p.reads in
    record { step = p.step; number = p.number; missing = p.missing; lowest = p.lowest; is = p.is; accepted = accepted bytes r.0; means = r.1 }
