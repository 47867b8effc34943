-- Lists with restarts: the statements of specs/Restarts.antt. A Leave and a Left at the restart's clock are not refused, since the end is sound,
-- and leave the reopened end (Reopening.antt), whose bytes are those that cuelink_reopen leaves.
use mathlib.Core.Path.{◌≡◌, refl, sym, ap, ◌∙◌, subst}
use mathlib.Core.Bool.{Bool, true, false, cond, ◌&&◌}
use mathlib.Core.List.{List, [], ◌∷◌, map}
use Prim.Native.Nat.{ℕ, zero, suc, ◌≤◌, ◌<◌}
use native.Mathlib.Omega.{arith}
use lib.ListN.{length, get_or, replicate}
use lib.Dec.{eqb}
use borrow.Author.Tests.{eqb-true, eq-eqb, le-leb, lt-ltb}
use Rattle.message.specs.declared.Host.{Host}
use Rattle.message.specs.declared.Verdict.TheVariants.{Accepted}
use Rattle.message.specs.Question.{ask, host_in, verdict_for}
use Rattle.message.proofs.QuestionLaws.{all-passed}
use Rattle.end.specs.declared.Params.{Params}
use Rattle.end.specs.declared.Answer.TheVariants as answer
use Rattle.end.specs.declared.Move.{Move}
use Rattle.end.specs.declared.Move.TheVariants.{Leave, Left}
use Rattle.end.specs.declared.End.{End}
use Rattle.end.specs.declared.Opened.{Opened}
use Rattle.end.specs.State.{is_crashed, with_clock, with_status}
use Rattle.end.specs.Round.{Drawn}
use Rattle.end.specs.Sound.{all_of, params_tests, delay_in, sound_of}
use Rattle.end.specs.Answer.{Step, done, Outcome, Did, Result, answer_of, buffer_of}
use Rattle.end.specs.Event.{Moves, moves, moves_to, clears, cleared, moved_end, move_of, act_of, step_of, question_of, event_of, gives, leaves}
use Rattle.end.specs.Opening.{constrained_tests, open_refusal}
use Rattle.end.specs.Book.{put, RunFrom, empty_book}
use Rattle.end.specs.Lates.{LatesAsFiled}
use Rattle.end.specs.Run.{Call, World, result_of, sent_after, world_after}
use Rattle.end.proofs.Tools.{by_cond, by_test, put_same, put_other}
use Rattle.invariants.proofs.Clocks.{act_clock}
use Rattle.invariants.proofs.Facts.{facts}
use Rattle.invariants.proofs.Stays.{stays-sound}
use Rattle.end_reopen.specs.Reopening.{reopen_refusal, reopened_for, reopening_of}
use Rattle.lent_answer.specs.Number.{number_of}
use Rattle.lent_end.specs.State.{state_width, status_number, end_from, end_bytes}
use Rattle.lent_calls.specs.Open.{opened_number, opened_state, reopen_of}
use Rattle.lent_runs.specs.Reopening.{again}
use Rattle.lent_runs.specs.Lists.{Lent, OpenedLent, state_on, lent_after, lent_through, given_on, given, held_by, played_on, outcome_on, LentAllowed, onlooked}
use Rattle.lent_runs.specs.Restarts.{Turn, Calls, Restarts, restarted, turn_after, turns_through, counted, turns_given, move_call, as_calls, MayRestart}
use Rattle.lent_runs.specs.Restarts.{numbers_of, MayAlwaysRestart, ReopenAnswers0}
use Rattle.lent_runs.specs.Restarts.{TurnsDeclared, AsWithout, RestartsAreLeaving, TurnsAllowed, RestartService, RestartLatesAsFiled}
use Rattle.lent_runs.specs.Restarts as spec
use Rattle.lent_runs.proofs.Reopening.{left_reopens}
use Rattle.lent_runs.proofs.Kept.{Kept}
use Rattle.lent_runs.proofs.Lists.{host_of_lem, KeptAll, opened-kept, turned, given_as, outcome-same, lent-service, lent_lates_as_filed}

abbrev Blanks : List ℕ
Blanks = replicate 64 0

zeros : (n i : ℕ) → ◌≡◌ {A = ℕ} (get_or (replicate n 0) i 0) 0
zeros zero i = refl
zeros (suc n) zero = refl
zeros (suc n) (suc i) = zeros n i

blanks_drawn : Drawn Blanks
blanks_drawn i = omega (arith, zeros 64 i)

-- ---- a move on a sound end that is not crashed, at a clock that it may have
record Ready (e : End) (clock : ℕ) : Type 0 where
  sound : sound_of e ≡ true
  running : is_crashed e.status ≡ false
  later : e.clock ≤ clock
  ticks : clock < 281474976710656

module _ (m : Move) (e : End) (clock : ℕ) (r : Ready e clock) where
  asked : question_of e (Moves m) clock 128 64 ≡ 0
  unfolding question_of
  asked = rw (r.sound, lt-ltb clock 281474976710656 r.ticks, le-leb e.clock clock r.later)

  -- it is not refused
  moved : event_of e (Moves m) clock 128 Blanks ≡ done (step_of clock [] (Moves m) e)
  unfolding event_of step_of act_of
  moved = rw asked

  steps : step_of clock [] (Moves m) e ≡ move_of m (with_clock e clock)
  unfolding step_of act_of
  steps = rw r.running

  call-moved : event_of e (Moves m) clock 128 Blanks ≡ done (move_of m (with_clock e clock))
  call-moved = moved ∙ ap done steps

  -- the clock is then the call's
  clock-then : (step_of clock [] (Moves m) e).left.clock ≡ clock
  unfolding act_of
  clock-then = ap (λ (s : Step). s.left.clock) steps ∙ act_clock [] (with_clock e clock) (Moves m)

  -- what a host sees of it: Done or Ignored by the status, an output as it was, and the status that follows
  answered : answer_of (Did (move_of m (with_clock e clock)).effect) ≡ cond (moves m e.status) answer.Done answer.Ignored
  unfolding move_of answer_of
  answered = by_test (moves m e.status) (λ t. rw t) (λ t. rw t)

  untouched : (out : List ℕ) → buffer_of (Did (move_of m (with_clock e clock)).effect) out ≡ out
  unfolding move_of buffer_of
  untouched out = by_cond (λ (s : Step). buffer_of (Did s.effect) out ≡ out) (moves m e.status) (λ _. refl) (λ _. refl)

  follows : (move_of m (with_clock e clock)).left.status ≡ spec.after m e.status
  unfolding move_of moved_end
  follows = by_test (moves m e.status) (λ t. rw t (kept (clears m))) (λ t. rw t)
    where
      kept : (t : Bool) → (cond t (cleared (with_clock e clock) (moves_to m)) (with_status (with_clock e clock) (moves_to m))).status ≡ moves_to m
      kept true = refl
      kept false = refl

  unsent : (l : List (List ℕ)) → sent_after (event_of e (Moves m) clock 128 Blanks).outcome l ≡ l
  unfolding move_of sent_after
  unsent l = ap (λ (x : Result). sent_after x.outcome l) call-moved
      ∙ by_cond (λ (s : Step). sent_after (Did s.effect) l ≡ l) (moves m e.status) (λ _. refl) (λ _. refl)

-- a Leave leaves an end that a Left may move
left-ready : (e : End) (clock : ℕ) → Ready e clock → Ready (event_of e (Moves Leave) clock 128 Blanks).left clock
unfolding move_of moved_end
left-ready e clock r =
    let left = (event_of e (Moves Leave) clock 128 Blanks).left in
    let then : left.clock ≡ clock = ap (λ (x : Result). x.left.clock) (moved Leave e clock r) ∙ clock-then Leave e clock r in
    let running : is_crashed (move_of Leave (with_clock e clock)).left.status ≡ false =
    by_cond (λ (s : Step). is_crashed s.left.status ≡ false) (moves Leave e.status) (λ _. refl) (λ _. r.running) in
    record {
      sound = stays-sound e (Moves Leave) clock 128 Blanks blanks_drawn tt r.sound;
      running = ap (λ (x : Result). is_crashed x.left.status) (call-moved Leave e clock r) ∙ running;
      later = omega (arith, then);
      ticks = r.ticks;
    }

-- both leave the reopened end
leaving_reopens : (h : ℕ) (s : List ℕ) (e : End) (clock : ℕ) → Kept h s e → Ready e clock
    → (event_of (event_of e (Moves Leave) clock 128 Blanks).left (Moves Left) clock 128 Blanks).left ≡ again e clock
leaving_reopens h s e clock k r =
    let first = (event_of e (Moves Leave) clock 128 Blanks).left in
    ap (λ (x : Result). x.left) (moved Left first clock (left-ready e clock r))
    ∙ ap (λ (x : Result). (step_of clock [] (Moves Left) x.left).left) (moved Leave e clock r)
    ∙ left_reopens e k.aside r.running clock

-- ---- what cuelink_reopen leaves
reopens : (me : Host) (p : Params) (clock next : ℕ) → open_refusal me p ≡ 0 → clock < 281474976710656 → next ≤ 65536 → reopen_refusal me p clock next ≡ 0
unfolding open_refusal reopen_refusal
reopens me p clock next q ticks n =
    let delay = ask (delay_in p) 14 ∷ [] in
    let twelve = all-passed (host_in me) 12 (ask (all_of (params_tests p) && all_of (constrained_tests p)) 13 ∷ delay) (omega arith) q in
    let thirteen = all-passed (all_of (params_tests p) && all_of (constrained_tests p)) 13 delay (omega arith) twelve.1 in
    let fourteen = (all-passed (delay_in p) 14 [] (omega arith) thirteen.1).0 in
    rw (twelve.0, thirteen.0, fourteen, lt-ltb clock 281474976710656 ticks, le-leb next 65536 n)

reopen_as : (h : ℕ) (s : List ℕ) (e : End) (clock : ℕ) → h < 8 → Kept h s e → Ready e clock
    → reopen_of h (numbers_of (end_from s).params) clock (end_from s).next ≡ record { verdict = Accepted; end = again e clock }
unfolding reopening_of
reopen_as h s e clock hh k r =
    let passed = reopens e.host e.params clock e.next k.opens r.ticks (facts e k.sound).next in
    (λ i. reopening_of (host_of_lem h hh i) (k.holds.reads i).params clock (k.holds.reads i).next)
    ∙ ap (λ (x : Host). reopening_of x e.params clock e.next) (sym k.host)
    ∙ ap (λ (j : ℕ). record { verdict = verdict_for j; end = reopened_for j e.host e.params clock e.next }) passed

module _ (h : ℕ) (s : List ℕ) (e : End) (clock : ℕ) (buffer : List ℕ) (hh : h < 8) (long : length buffer ≡ state_width) (k : Kept h s e)
    (r : Ready e clock) where
  restarted_as : restarted h s clock buffer ≡ end_bytes (again e clock)
  unfolding opened_state opened_number
  restarted_as = ap (λ (o : Opened). opened_state o buffer) (reopen_as h s e clock hh k r) ∙ rw (eq-eqb (length buffer) state_width long)

  answers_0 : opened_number (reopen_of h (numbers_of (end_from s).params) clock (end_from s).next) buffer ≡ 0
  unfolding opened_number
  answers_0 = ap (λ (o : Opened). opened_number o buffer) (reopen_as h s e clock hh k r) ∙ rw (eq-eqb (length buffer) state_width long)

-- ---- a restart is the two calls

-- the ends after them
abbrev left_world : World → ℕ → ℕ → World
left_world w h clock =
    let one = world_after w h (result_of w (move_call h Leave clock)) in
    world_after one h (result_of one (move_call h Left clock))

module _ (l : Lent) (w : World) (k : KeptAll l w) (h : ℕ) (clock : ℕ) (buffer : List ℕ) (may : MayRestart h (l h) clock buffer) where
  abbrev E : End
  E = w.ends h

  abbrev c1 : Call
  c1 = move_call h Leave clock

  abbrev c2 : Call
  c2 = move_call h Left clock

  abbrev l1 : Lent
  l1 = lent_after l c1

  abbrev w1 : World
  w1 = world_after w h (result_of w c1)

  abbrev l2 : Lent
  l2 = lent_after l1 c2

  abbrev w2 : World
  w2 = left_world w h clock

  k1 : KeptAll l1 w1
  k1 = turned l w c1 blanks_drawn tt may.host k

  k2 : KeptAll l2 w2
  k2 = turned l1 w1 c2 blanks_drawn tt may.host k1

  was : end_from (l h) ≡ E
  was = (k h may.host).holds.reads

  ready : Ready E clock
  ready = record {
    sound = (k h may.host).sound;
    running = subst (λ (x : End). is_crashed x.status ≡ false) was may.running;
    later = subst (λ (x : End). x.clock ≤ clock) was may.later;
    ticks = may.ticks;
  }

  first : w1.ends h ≡ (event_of E (Moves Leave) clock 128 Blanks).left
  unfolding world_after result_of
  first = put_same w.ends h (result_of w c1).left

  ready1 : Ready (w1.ends h) clock
  ready1 = subst (λ (x : End). Ready x clock) (sym first) (left-ready E clock ready)

  second : w2.ends h ≡ again E clock
  unfolding world_after result_of
  second = put_same w1.ends h (result_of w1 c2).left ∙ ap (λ (x : End). (event_of x (Moves Left) clock 128 Blanks).left) first
      ∙ leaving_reopens h (l h) E clock (k h may.host) ready

  -- the same bytes, of this host and of the others
  same-lent : turn_after l (Restarts h clock buffer) ≡ l2
  unfolding turn_after lent_after
  same-lent = λ i j. at j i
    where
      at : (j : ℕ) → put l h (restarted h (l h) clock buffer) j ≡ l2 j
      at j = by_test (eqb j h)
          (λ t. subst (λ (x : ℕ). put l h (restarted h (l h) clock buffer) x ≡ l2 x) (sym (eqb-true j h t))
          (put_same l h (restarted h (l h) clock buffer)
          ∙ restarted_as h (l h) E clock buffer may.host may.long (k h may.host) ready
          ∙ ap end_bytes (sym second)
          ∙ sym (k2 h may.host).holds.bytes))
          (λ t. put_other l h (restarted h (l h) clock buffer) j t ∙ sym (put_other l1 h (state_on l1 c2) j t ∙ put_other l h (state_on l c1) j t))

  kept_then : KeptAll (turn_after l (Restarts h clock buffer)) w2
  kept_then = subst (λ (x : Lent). KeptAll x w2) (sym same-lent) k2

  -- the same answers
  counted_as : (m : Move) (x : Lent) (v : World) → KeptAll x v → Ready (v.ends h) clock → counted h m (v.ends h).status ≡ given_on x (move_call h m clock)
  counted_as m x v kx r =
      let e = v.ends h in
      let moves-as = call-moved m e clock r in
      let number : number_of (gives e (Moves m) clock Blanks (replicate 128 0)).answer ≡ number_of (cond (moves m e.status) answer.Done answer.Ignored) =
      ap (λ (y : Result). number_of (answer_of y.outcome)) moves-as ∙ ap number_of (answered m e clock r) in
      let output : leaves e (Moves m) clock Blanks (replicate 128 0) ≡ replicate 128 0 =
      ap (λ (y : Result). buffer_of y.outcome (replicate 128 0)) moves-as ∙ untouched m e clock r (replicate 128 0) in
      let status : status_number (event_of e (Moves m) clock 128 Blanks).left.status ≡ status_number (spec.after m e.status) =
      ap (λ (y : Result). status_number y.left.status) moves-as ∙ ap status_number (follows m e clock r) in
      let is : played_on v (move_call h m clock) ≡ counted h m e.status =
      λ i. record { host = h; action = Moves m; number = number i; output = output i; status = status i } in
      sym (given_as x v (move_call h m clock) blanks_drawn tt may.host kx ∙ is)

  first-given : counted h Leave (end_from (l h)).status ≡ given_on l c1
  first-given = ap (λ (x : End). counted h Leave x.status) was ∙ counted_as Leave l w k ready

  second-given : counted h Left (spec.after Leave (end_from (l h)).status) ≡ given_on l1 c2
  second-given =
      let then : (w1.ends h).status ≡ spec.after Leave E.status =
      ap (λ (x : End). x.status) first ∙ ap (λ (y : Result). y.left.status) (call-moved Leave E clock ready) ∙ follows Leave E clock ready in
      ap (λ (x : End). counted h Left (spec.after Leave x.status)) was ∙ ap (counted h Left) (sym then) ∙ counted_as Left l1 w1 k1 ready1

  -- and nothing is put out
  nothing-sent : (sent : List (List ℕ)) → sent_after (outcome_on l1 c2) (sent_after (outcome_on l c1) sent) ≡ sent
  unfolding result_of
  nothing-sent sent =
      let one = ap (λ (o : Outcome). sent_after o sent) (outcome-same l w c1 tt may.host k) ∙ unsent Leave E clock ready sent in
      ap (sent_after (outcome_on l1 c2)) one
      ∙ ap (λ (o : Outcome). sent_after o sent) (outcome-same l1 w1 c2 tt may.host k1)
      ∙ unsent Left (w1.ends h) clock ready1 sent

-- ---- lists
without : (ts : List Turn) (l : Lent) (w : World) → KeptAll l w → TurnsDeclared l ts → AsWithout l ts
unfolding turns_through turn_after turns_given as_calls lent_through given
without [] l w k d = record { states = refl; gives = refl }
without (Calls c ∷ ts) l w k d =
    let rest = without ts (lent_after l c) (world_after w c.host (result_of w c)) (turned l w c d.1 d.2 d.0 k) d.3 in
    record { states = rest.states; gives = λ i. given_on l c ∷ rest.gives i }
without (Restarts h clock buffer ∷ ts) l w k d =
    let same = same-lent l w k h clock buffer d.0 in
    let one = first-given l w k h clock buffer d.0 in
    let two = second-given l w k h clock buffer d.0 in
    let rest = without ts (turn_after l (Restarts h clock buffer)) (left_world w h clock) (kept_then l w k h clock buffer d.0) d.1 in
    let tail = rest.gives ∙ ap (λ (x : Lent). given x (as_calls ts)) same in
    record { states = rest.states ∙ ap (λ (x : Lent). lent_through x (as_calls ts)) same; gives = λ i. one i ∷ two i ∷ tail i }

-- the bytes hold sound ends after every such list
turns-kept : (ts : List Turn) (l : Lent) (w : World) → KeptAll l w → TurnsDeclared l ts → (v : World) × KeptAll (turns_through l ts) v
unfolding turns_through turn_after
turns-kept [] l w k d = (w, k)
turns-kept (Calls c ∷ ts) l w k d =
    turns-kept ts (lent_after l c) (world_after w c.host (result_of w c)) (turned l w c d.1 d.2 d.0 k) d.3
turns-kept (Restarts h clock buffer ∷ ts) l w k d =
    turns-kept ts (turn_after l (Restarts h clock buffer)) (left_world w h clock) (kept_then l w k h clock buffer d.0) d.1

pub may_always_restart : MayAlwaysRestart
may_always_restart l o ts d h hh buffer long running =
    let kept = turns-kept ts l (held_by l) (opened-kept l o) d in
    let k = kept.1 h hh in
    let clock : (end_from (turns_through l ts h)).clock < 281474976710656 =
    subst (λ (x : End). x.clock < 281474976710656) (sym k.holds.reads) (facts _ k.sound).clock in
    record { host = hh; running = running; later = omega arith; ticks = clock; long = long }

pub reopen_answers_0 : ReopenAnswers0
reopen_answers_0 l o ts d h clock buffer may =
    let kept = turns-kept ts l (held_by l) (opened-kept l o) d in
    let l2 = turns_through l ts in
    answers_0 h (l2 h) (kept.0.ends h) clock buffer may.host may.long (kept.1 h may.host) (ready l2 kept.0 kept.1 h clock buffer may)

pub restarts_are_leaving : RestartsAreLeaving
restarts_are_leaving l o ts d = without ts l (held_by l) (opened-kept l o) d

declared : (ts : List Turn) (l : Lent) (sent : List (List ℕ)) → TurnsAllowed l sent ts → TurnsDeclared l ts
declared [] l sent a = tt
declared (Calls c ∷ ts) l sent a = (a.0, a.1, a.2, declared ts (lent_after l c) (sent_after (outcome_on l c) sent) a.4)
declared (Restarts h clock buffer ∷ ts) l sent a = (a.0, declared ts (turn_after l (Restarts h clock buffer)) sent a.1)

allowed : (ts : List Turn) (l : Lent) (w : World) (sent : List (List ℕ)) → KeptAll l w → TurnsAllowed l sent ts → LentAllowed l sent (as_calls ts)
unfolding as_calls
allowed [] l w sent k a = tt
allowed (Calls c ∷ ts) l w sent k a = (
  a.0,
  a.1,
  a.2,
  a.3,
  allowed ts (lent_after l c) (world_after w c.host (result_of w c)) (sent_after (outcome_on l c) sent) (turned l w c a.1 a.2 a.0 k) a.4,
)
allowed (Restarts h clock buffer ∷ ts) l w sent k a =
    let same = same-lent l w k h clock buffer a.0 in
    let c1 = move_call h Leave clock in
    let c2 = move_call h Left clock in
    let l2 = lent_after (lent_after l c1) c2 in
    let rest = allowed ts (turn_after l (Restarts h clock buffer)) (left_world w h clock) sent (kept_then l w k h clock buffer a.0) a.1 in
    let there : LentAllowed l2 sent (as_calls ts) = subst (λ (x : Lent). LentAllowed x sent (as_calls ts)) same rest in
    let again : LentAllowed l2 (sent_after (outcome_on (lent_after l c1) c2) (sent_after (outcome_on l c1) sent)) (as_calls ts) =
    subst (λ (x : List (List ℕ)). LentAllowed l2 x (as_calls ts)) (sym (nothing-sent l w k h clock buffer a.0 sent)) there in
    (a.0.host, blanks_drawn, tt, tt, (a.0.host, blanks_drawn, tt, tt, again))

-- ---- demand 3
given_alike : (l : Lent) → OpenedLent l → (ts : List Turn) → TurnsAllowed l [] ts → map onlooked (turns_given l ts) ≡ map onlooked (given l (as_calls ts))
given_alike l o ts a = ap (map onlooked) (restarts_are_leaving l o ts (declared ts l [] a)).gives

pub restart_service : RestartService
restart_service l o ts a =
    subst (RunFrom empty_book) (sym (given_alike l o ts a)) (lent-service l o (as_calls ts) (allowed ts l (held_by l) [] (opened-kept l o) a))

pub restart_lates_as_filed : RestartLatesAsFiled
restart_lates_as_filed l o ts a =
    subst (LatesAsFiled empty_book) (sym (given_alike l o ts a)) (lent_lates_as_filed l o (as_calls ts) (allowed ts l (held_by l) [] (opened-kept l o) a))
