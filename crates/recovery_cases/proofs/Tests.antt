-- A test for each thing that is supposed of a call, on the entry that the log has of it: where it computes to true, the thing holds.
use Prim.Native.Nat.{ℕ, ◌+◌, ◌-◌, ◌*◌, ◌<◌}
use native.Mathlib.Omega.{arith}
use mathlib.Core.Path.{◌≡◌, refl, sym, ap, ◌∙◌}
use mathlib.Core.Bool.{Bool, true, false, not, ◌&&◌, ◌||◌}
use mathlib.Core.List.{List}
use mathlib.Core.Logic.{inr}
use mathlib.Core.Option.{Option, none, some as just}
use lib.Dec.{eqb, leb, ltb}
use borrow.Author.Tests.{not-true, eq-eqb, leb-true, ltb-true, le-leb, lt-leb}
use Rattle.message.specs.Entry.{as_host}
use Rattle.message.specs.Message.{RQST, REPL, Meaning, meaning_from}
use Rattle.message.specs.Question.{same_host}
use Rattle.message.proofs.QuestionLaws.{and_both}
use Rattle.end.specs.declared.Request.{Request}
use Rattle.end.specs.Parts.{Reply, No, Due}
use Rattle.end.specs.declared.End.{End}
use Rattle.end.specs.State.{source_at, distance_to}
use Rattle.end.specs.Records.{is_below, reply_in}
use Rattle.end.specs.Sound.{all_below}
use Rattle.end.specs.Answer.{Effect, Out, Got, Done, Ignored, Nothing, Clash, Late, Exhausted, Outcome, Refused, Did}
use Rattle.end.specs.Event.{Action, Moves, Send, Arrival, Else}
use Rattle.end.proofs.SoundLaws.{all-at}
use Rattle.end.proofs.Tools.{clash', or_alone}
use Rattle.guarantees.specs.Calls.{OneCall}
use Rattle.guarantees.specs.Records.{record_of, slot_of, request_of, clearing}
use Rattle.guarantees.specs.Arrivals.{is_about, asks}
use Rattle.guarantees.specs.Turn.{Claim, Taken, NeitherLeavesNorCrashes}
use Rattle.cases.proofs.Allowed.{same_bytes_lem, same_bytes}
use Rattle.recovery.specs.Recovery.{Side, opened, time_of, answer_of, Recovery, holder_params, UpTo, LaterThan, GotBy}
use Rattle.recovery.specs.Supposed.{AsksInTime, RepliesInTime, Keeps, Reaches, Settled}
use Rattle.recovery.specs.Whole.{TakesBy, TakesAbout, HearsAbout, Clear, FromOther, RequestsReach, RequestsShared, RepairsReach, RepairsShared}
use Rattle.recovery.specs.Losses.{Between}
use Rattle.recovery_cases.proofs.Log.{gives, Entry, entry, Test, some, Fit, did, taken, Logs, logs, sometime_all}

-- a test shows a claim
abbrev pub Shows : Test → Claim → Type 0
Shows b P = (e : End) (c : OneCall) → b (entry e c (gives e c)) ≡ true → P e c

-- if a then b
pub holds_if : (a b : Bool) → not a || b ≡ true → a ≡ true → b ≡ true
holds_if a b h t = or_alone (not a) b h (ap not t)

-- ---- what arrives, and what goes out

-- the message that arrives; true where none does
abbrev pub arrives : (List ℕ → Bool) → Action → Bool
arrives f (Moves m) = true
arrives f (Send cue) = true
arrives f (Arrival b) = f b
arrives f (Else o) = true

-- these bytes arrive
abbrev pub brings : List ℕ → Action → Bool
brings bytes (Moves m) = false
brings bytes (Send cue) = false
brings bytes (Arrival b) = same_bytes_lem b bytes
brings bytes (Else o) = false

pub brings-is : (bytes : List ℕ) (a : Action) → brings bytes a ≡ true → a ≡ Arrival bytes
brings-is bytes (Moves m) h = clash' h
brings-is bytes (Send cue) h = clash' h
brings-is bytes (Arrival b) h = ap Arrival (same_bytes b bytes h)
brings-is bytes (Else o) h = clash' h

-- the message that goes out; true where none does
abbrev puts_out : (List ℕ → Bool) → Effect → Bool
puts_out f (Out bytes) = f bytes
puts_out f (Got name cue) = true
puts_out f Done = true
puts_out f Ignored = true
puts_out f Nothing = true
puts_out f (Clash name) = true
puts_out f (Late name cue) = true
puts_out f Exhausted = true

abbrev pub outs : (List ℕ → Bool) → Outcome → Bool
outs f (Refused k) = true
outs f (Did a) = puts_out f a

-- number n is handed out
abbrev hands : ℕ → Effect → Bool
hands n (Out bytes) = false
hands n (Got name cue) = eqb name.number.0 n
hands n Done = false
hands n Ignored = false
hands n Nothing = false
hands n (Clash name) = false
hands n (Late name cue) = false
hands n Exhausted = false

abbrev gets : ℕ → Outcome → Bool
gets n (Refused k) = false
gets n (Did a) = hands n a

-- ---- hearing
abbrev pub takes_by : Side → List ℕ → ℕ → Test
takes_by y bytes t x = did x.result.outcome && (brings bytes x.call.action && leb (time_of y x.call) t)

pub takes-by : (y : Side) (bytes : List ℕ) (t : ℕ) → Shows (takes_by y bytes t) (TakesBy y bytes t)
takes-by y bytes t e c h =
    let a = and_both (did (gives e c).outcome) _ h in
    let b = and_both (brings bytes c.action) _ a.1 in
    (taken e c a.0, brings-is bytes c.action b.0, leb-true (time_of y c) t b.1)

abbrev takes_about : Recovery → Side → List ℕ → ℕ → Test
takes_about m y bytes t x = takes_by y bytes (t + m.delay) x && leb t (time_of y x.call + m.delay)

takes-about : (m : Recovery) (y : Side) (bytes : List ℕ) (t : ℕ) → Shows (takes_about m y bytes t) (TakesAbout m y bytes t)
takes-about m y bytes t e c h =
    let a = and_both (takes_by y bytes (t + m.delay) (entry e c (gives e c))) _ h in
    let b = takes-by y bytes (t + m.delay) e c a.0 in
    (b.0, b.1, leb-true t (time_of y c + m.delay) a.1, b.2)

abbrev pub hears : Recovery → Side → Logs → List ℕ → ℕ → Bool
hears m y l bytes t = some (takes_about m y bytes t) l.before || some (takes_about m y bytes t) l.behind

pub hears-about : (m : Recovery) (y : Side) → Fit y.earlier → Fit y.later → (bytes : List ℕ) (t : ℕ)
    → hears m y (logs y) bytes t ≡ true → HearsAbout m y bytes t
hears-about m y f g bytes t = sometime_all y f g (TakesAbout m y bytes t) (takes_about m y bytes t) (takes-about m y bytes t)

-- ---- of the ends
abbrev pub by_due : ℕ → ℕ → Option Request → Bool
by_due late clock none = true
by_due late clock (just q) = leb clock (q.due + late)

abbrev pub by_reply : ℕ → ℕ → Reply → Bool
by_reply late clock No = true
by_reply late clock (Due due k) = leb clock (due + late)

abbrev reply_within : ℕ → Reply → Bool
reply_within t No = true
reply_within t (Due due k) = leb due t

abbrev pub stays : Test
stays x = not (clearing x.call.action)

pub stays-shows : Shows stays NeitherLeavesNorCrashes
stays-shows e c p tk = not-true _ p

abbrev pub up_to : Side → ℕ → Test
up_to y t x = leb (time_of y x.call) t

pub up_to_shows : (y : Side) (t : ℕ) → Shows (up_to y t) (UpTo y t)
up_to_shows y t e c p tk = leb-true (time_of y c) t p

abbrev pub later_than : Side → ℕ → Test
later_than y t x = ltb t (time_of y x.call)

pub later_than_shows : (y : Side) (t : ℕ) → Shows (later_than y t) (LaterThan y t)
later_than_shows y t e c p tk = ltb-true t (time_of y c) p

abbrev pub passes : Side → ℕ → Test
passes y t x = did x.result.outcome && ltb t (time_of y x.call)

pub passes-shows : (y : Side) (t : ℕ) → Shows (passes y t) (λ e c. Taken e c × (t < time_of y c))
passes-shows y t e c p = let a = and_both (did (gives e c).outcome) _ p in (taken e c a.0, ltb-true t (time_of y c) a.1)

module _ (m : Recovery) where
  abbrev pub keeps : Test
  keeps x = not (is_below (source_at x.result.left (as_host m.source)).span m.number)

  pub keeps-shows : Shows keeps (Keeps m)
  keeps-shows e c p = not-true _ p

  abbrev pub asks_in_time : Test
  asks_in_time x = by_due m.late x.call.clock (request_of x.state m.source m.number)

  pub asks_in_time_shows : Shows asks_in_time (AsksInTime m)
  asks_in_time_shows e c p tk q is = leb-true c.clock (q.due + m.late) (sym (ap (by_due m.late c.clock) is) ∙ p)

  abbrev pub replies_in_time : Test
  replies_in_time x = by_reply m.late x.call.clock (reply_in (slot_of x.state m.source m.number))

  pub replies_in_time_shows : Shows replies_in_time (RepliesInTime m)
  replies_in_time_shows e c p tk due k is = leb-true c.clock (due + m.late) (sym (ap (by_reply m.late c.clock) is) ∙ p)

  -- of all eight distances
  abbrev pub reaches : Test
  reaches x = all_below (λ i. leb (distance_to x.state (as_host i)) m.reach) 8

  pub reaches-shows : Shows reaches (Reaches m)
  reaches-shows e c p tk k hk who = leb-true (distance_to e k) m.reach (all-at (λ i. leb (distance_to e (as_host i)) m.reach) 8 k.0 p hk)

  abbrev pub between_test : ℕ → ℕ → Test
  between_test near far x = leb near (distance_to x.state (as_host m.source)) && leb (distance_to x.state (as_host m.source)) far

  pub between-shows : (near far : ℕ) → Shows (between_test near far) (Between m near far)
  between-shows near far e c p tk =
      let both = and_both (leb near (distance_to e (as_host m.source))) _ p in
      (leb-true near _ both.0, leb-true _ far both.1)

  abbrev pub settled : End → Bool
  settled e = reply_within (e.clock + ((holder_params m).d1 + (holder_params m).d2) * m.reach) (reply_in (slot_of e m.source m.number))
      && leb (record_of e m.source m.number).hush (e.clock + (holder_params m).d3 * m.reach)

  pub settled-shows : (e : End) → settled e ≡ true → Settled m e
  settled-shows e h =
      let t = e.clock + ((holder_params m).d1 + (holder_params m).d2) * m.reach in
      let both = and_both (reply_within t (reply_in (slot_of e m.source m.number))) _ h in
      (λ due k is. leb-true due t (sym (ap (reply_within t) is) ∙ both.0), leb-true _ _ both.1)

  -- the cue is handed out by t
  abbrev pub got_by : ℕ → Test
  got_by t x = gets m.number x.result.outcome && leb (time_of m.asker x.call) t

  pub shows_got_by : (t : ℕ) (e : End) (c : OneCall) → GotBy m t e c → got_by t (entry e c (gives e c)) ≡ true
  shows_got_by t e c g = rw (ap (gets m.number) g.0.1 ∙ eq-eqb m.number m.number refl, le-leb (time_of m.asker c) t g.1) refl

-- ---- of the network, by a test of the times at which nothing is lost

-- no request waits, or it is quiet
abbrev quiet_then_lem : ℕ → Option Request → Bool
quiet_then_lem clock none = true
quiet_then_lem clock (just q) = leb clock q.quiet

module _ (m : Recovery) (when : ℕ → Bool) where
  abbrev pub is_asking : Meaning → Bool
  is_asking y = asks y m.source m.number

  abbrev pub is_mending : Meaning → Bool
  is_mending y = is_about REPL y m.source m.number

  -- what this side puts out of a kind, the other takes
  abbrev reach : ℕ → Side → Side → Logs → Test
  reach kind x y l z = outs (λ b. not (is_about kind (meaning_from b) m.source m.number)
      || (not (when (time_of x z.call)) || hears m y l b (time_of x z.call))) z.result.outcome

  abbrev pub requests_reach : Logs → Test
  requests_reach l = reach RQST m.asker m.holder l

  abbrev pub repairs_reach : Logs → Test
  repairs_reach l = reach REPL m.holder m.asker l

  -- nothing is lost from Δ before a time up to it: tested at both
  abbrev clear : ℕ → Bool
  clear t = when t && when (t - m.delay)

  -- what this side takes of messages that `which` tells, the other takes too, and takes it for another's
  abbrev shared_by : (Meaning → Bool) → Side → Side → Logs → Entry → List ℕ → Bool
  shared_by which x y l z b = not (which (meaning_from b)) || (not (clear (time_of x z.call))
      || (not (same_host (meaning_from b).sender (opened y).host) && hears m y l b (time_of x z.call)))

  abbrev pub requests_shared : Logs → Test
  requests_shared l z = quiet_then_lem z.call.clock (request_of z.state m.source m.number)
      || arrives (shared_by is_asking m.asker m.holder l z) z.call.action

  abbrev pub repairs_shared : Logs → Test
  repairs_shared l z = arrives (shared_by is_mending m.holder m.asker l z) z.call.action

  -- where the test tells the times that a predicate names
  module _ (on : ℕ → Type 0) (says : (t : ℕ) → on t → when t ≡ true) where
    clear-says : (t : ℕ) → Clear m on t → clear t ≡ true
    clear-says t c = rw (says t (c t (omega arith) (omega arith)), says (t - m.delay) (c (t - m.delay) (omega arith) (omega arith))) refl

    reach-heard : (kind : ℕ) (x y : Side) → Fit y.earlier → Fit y.later → (e : End) (c : OneCall)
        → reach kind x y (logs y) (entry e c (gives e c)) ≡ true → (bytes : List ℕ) → answer_of e c ≡ Did (Out bytes)
        → is_about kind (meaning_from bytes) m.source m.number ≡ true → on (time_of x c) → HearsAbout m y bytes (time_of x c)
    reach-heard kind x y f g e c p bytes out about now = hears-about m y f g bytes (time_of x c)
        (holds_if _ _ (holds_if _ _ (sym (ap (outs _) out) ∙ p) about) (says (time_of x c) now))

    pub requests_reach_shows : Fit m.holder.earlier → Fit m.holder.later → Shows (requests_reach (logs m.holder)) (RequestsReach m on)
    requests_reach_shows f g = reach-heard RQST m.asker m.holder f g

    pub repairs_reach_shows : Fit m.asker.earlier → Fit m.asker.later → Shows (repairs_reach (logs m.asker)) (RepairsReach m on)
    repairs_reach_shows f g e c p bytes out about now = inr (reach-heard REPL m.holder m.asker f g e c p bytes out about now)

    shared_heard : (which : Meaning → Bool) (x y : Side) → Fit y.earlier → Fit y.later → (e : End) (c : OneCall) (bytes : List ℕ)
        → arrives (shared_by which x y (logs y) (entry e c (gives e c))) c.action ≡ true → c.action ≡ Arrival bytes
        → which (meaning_from bytes) ≡ true → Clear m on (time_of x c) → FromOther bytes (opened y) × HearsAbout m y bytes (time_of x c)
    shared_heard which x y f g e c bytes p is tells free =
        let both = and_both (not (same_host (meaning_from bytes).sender (opened y).host)) _
        (holds_if _ _ (holds_if _ _ (sym (ap (arrives _) is) ∙ p) tells) (clear-says (time_of x c) free)) in
        (not-true _ both.0, hears-about m y f g bytes (time_of x c) both.1)

    pub requests_shared_shows : Fit m.holder.earlier → Fit m.holder.later → Shows (requests_shared (logs m.holder)) (RequestsShared m on)
    requests_shared_shows f g e c p tk q found over bytes is tells another free =
        let loud : quiet_then_lem c.clock (request_of e m.source m.number) ≡ false = ap (quiet_then_lem c.clock) found ∙ lt-leb c.clock q.quiet over in
        shared_heard is_asking m.asker m.holder f g e c bytes (or_alone _ _ p loud) is tells free

    pub repairs_shared_shows : Fit m.asker.earlier → Fit m.asker.later → Shows (repairs_shared (logs m.asker)) (RepairsShared m on)
    repairs_shared_shows f g e c p tk bytes is tells another free = inr (shared_heard is_mending m.holder m.asker f g e c bytes p is tells free)
