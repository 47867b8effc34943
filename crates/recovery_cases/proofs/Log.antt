-- Calls on an end, computed once: a log of what each call finds and gives. Question 3, whether the state is sound, is by far the dearest part of a call;
-- an end that was opened is always sound (the crate invariants), so the log does not ask it.
use Prim.Native.Nat.{ℕ, zero, suc}
use native.Mathlib.Omega.{arith}
use mathlib.Core.Path.{◌≡◌, refl, sym, ap, ◌∙◌, subst}
use mathlib.Core.Bool.{Bool, true, false, cond, not, ◌&&◌, ◌||◌}
use mathlib.Core.List.{List, [], ◌∷◌, ◌++◌}
use mathlib.Core.Logic.{inl, inr, ⊎_elim}
use lib.ListN.{length}
use lib.Dec.{eqb, leb}
use borrow.Author.Tests.{not-true, eqb-true, leb-true}
use Rattle.message.specs.Limit.{room_needed}
use Rattle.message.specs.Question.{ask, first_no, ticks_in}
use Rattle.message.proofs.QuestionLaws.{and_both, or_either}
use Rattle.end.specs.declared.End.{End}
use Rattle.end.specs.Sound.{sound_of}
use Rattle.end.specs.Round.{Drawn, draw_count, most_draw}
use Rattle.end.specs.Answer.{Outcome, Refused, Did, Result, done}
use Rattle.end.specs.Event.{own_questions, question_of, step_of, event_of}
use Rattle.end.proofs.Tools.{by_cond, clash, clash'}
use Rattle.invariants.proofs.Stays.{opens-sound, stays-sound}
use Rattle.guarantees.specs.Calls.{OneCall, after, after_all}
use Rattle.guarantees.specs.BackOff.{DrawsFit, CuesAreArrays}
use Rattle.guarantees.specs.Turn.{Claim, Always, Sometime, Taken}
use Rattle.cases.proofs.Allowed.{is_array, is_array_lem}
use Rattle.recovery.specs.Recovery.{Side, opened, begun, all}
use Rattle.recovery.proofs.Lists.{sometime_later}

abbrev pub gives : End → OneCall → Result
gives e c = event_of e c.action c.clock c.room c.draws

-- ---- what a call gives on a sound end
abbrev questions : End → OneCall → ℕ
questions e c = first_no (ask (leb room_needed c.room) 1 ∷ ask (eqb (length c.draws) draw_count) 2 ∷ ask (ticks_in c.clock) 4
    ∷ ask (leb e.clock c.clock) 5 ∷ own_questions c.action e)

abbrev given_by : End → OneCall → ℕ → Result
given_by e c k = cond (eqb k 0) (done (step_of c.clock c.draws c.action e)) (record { outcome = Refused k; left = e })

abbrev pub given : End → OneCall → Result
given e c = given_by e c (questions e c)

pub given_is : (e : End) (c : OneCall) → sound_of e ≡ true → given e c ≡ gives e c
unfolding event_of question_of
given_is e c sound = rw sound

-- ---- the log
pub record Entry : Type 0 where
  pub state : End
  pub call : OneCall
  pub result : Result

abbrev pub entry : End → OneCall → Result → Entry
entry e c r = record { state = e; call = c; result = r }

abbrev next : End → OneCall → Result → (End → List Entry) → List Entry
next e c r more = entry e c r ∷ more r.left

abbrev pub log : End → List OneCall → List Entry
log e [] = []
log e (c ∷ cs) = next e c (given e c) (λ (x : End). log x cs)

-- the end that it leaves
abbrev pub left : End → List Entry → End
left e [] = e
left e (x ∷ xs) = left x.result.left xs

-- a test of its entries
abbrev pub Test : Type 0
Test = Entry → Bool

abbrev pub every : Test → List Entry → Bool
every b [] = true
every b (x ∷ xs) = b x && every b xs

abbrev pub some : Test → List Entry → Bool
some b [] = false
some b (x ∷ xs) = b x || some b xs

-- ---- arguments of their declared types
abbrev few : List ℕ → Bool
few [] = true
few (u ∷ us) = leb u most_draw && few us

abbrev pub fit : List OneCall → Bool
fit [] = true
fit (c ∷ cs) = few c.draws && (is_array c.action && fit cs)

fews : (us : List ℕ) → few us ≡ true → Drawn us
fews [] h i = omega arith
fews (u ∷ us) h zero = leb-true u most_draw (and_both (leb u most_draw) (few us) h).0
fews (u ∷ us) h (suc i) = fews us (and_both (leb u most_draw) (few us) h).1 i

abbrev pub Fit : List OneCall → Type 0
Fit cs = DrawsFit cs × CuesAreArrays cs

pub fits : (cs : List OneCall) → fit cs ≡ true → Fit cs
fits [] h = (tt, tt)
fits (c ∷ cs) h =
    let a = and_both (few c.draws) _ h in
    let b = and_both (is_array c.action) _ a.1 in
    let rest = fits cs b.1 in
    ((fews c.draws a.0, rest.0), (is_array_lem c.action b.0, rest.1))

-- ---- what a log tells of the calls
pub sound-after : (e : End) (c : OneCall) (cs : List OneCall) → sound_of e ≡ true → Fit (c ∷ cs) → sound_of (after e c) ≡ true
sound-after e c cs sound f = stays-sound e c.action c.clock c.room c.draws f.0.0 f.1.0 sound

pub left_is : (cs : List OneCall) (e : End) → sound_of e ≡ true → Fit cs → after_all e cs ≡ left e (log e cs)
left_is [] e sound f = refl
left_is (c ∷ cs) e sound f = left_is cs (after e c) (sound-after e c cs sound f) (f.0.1, f.1.1)
    ∙ ap (λ (r : Result). left r.left (log r.left cs)) (sym (given_is e c sound))

pub sound-left : (cs : List OneCall) (e : End) → sound_of e ≡ true → Fit cs → sound_of (after_all e cs) ≡ true
sound-left [] e sound f = sound
sound-left (c ∷ cs) e sound f = sound-left cs (after e c) (sound-after e c cs sound f) (f.0.1, f.1.1)

-- a test that shows a claim, of every call
pub always : (P : Claim) (b : Test) → ((e : End) (c : OneCall) → b (entry e c (gives e c)) ≡ true → P e c)
    → (cs : List OneCall) (e : End) → sound_of e ≡ true → Fit cs → every b (log e cs) ≡ true → Always P e cs
always P b means [] e sound f h = tt
always P b means (c ∷ cs) e sound f h =
    let both = and_both (b (entry e c (gives e c))) _
    (subst (λ (r : Result). b (entry e c r) && every b (log r.left cs) ≡ true) (given_is e c sound) h) in
    (means e c both.0, always P b means cs (after e c) (sound-after e c cs sound f) (f.0.1, f.1.1) both.1)

-- of one of them
pub sometime : (P : Claim) (b : Test) → ((e : End) (c : OneCall) → b (entry e c (gives e c)) ≡ true → P e c)
    → (cs : List OneCall) (e : End) → sound_of e ≡ true → Fit cs → some b (log e cs) ≡ true → Sometime P e cs
sometime P b means [] e sound f h = clash' h
sometime P b means (c ∷ cs) e sound f h =
    ⊎_elim (λ now. inl (means e c now)) (λ on. inr (sometime P b means cs (after e c) (sound-after e c cs sound f) (f.0.1, f.1.1) on))
    (or_either (b (entry e c (gives e c))) _
    (subst (λ (r : Result). b (entry e c r) || some b (log r.left cs) ≡ true) (given_is e c sound) h))

-- where a test that the claim shows fails of every call, it is of none
pub never : (P : Claim) (b : Test) → ((e : End) (c : OneCall) → P e c → b (entry e c (gives e c)) ≡ true)
    → (cs : List OneCall) (e : End) → sound_of e ≡ true → Fit cs → every (λ x. not (b x)) (log e cs) ≡ true → Sometime P e cs → ⊥
never P b means [] e sound f h once = once
never P b means (c ∷ cs) e sound f h once =
    let both = and_both (not (b (entry e c (gives e c)))) _
    (subst (λ (r : Result). not (b (entry e c r)) && every (λ x. not (b x)) (log r.left cs) ≡ true) (given_is e c sound) h) in
    ⊎_elim (λ here. clash (sym (means e c here) ∙ not-true _ both.0))
    (λ on. never P b means cs (after e c) (sound-after e c cs sound f) (f.0.1, f.1.1) both.1 on) once

-- the call was not refused
abbrev pub did : Outcome → Bool
did (Refused k) = false
did (Did a) = true

pub taken : (e : End) (c : OneCall) → did (gives e c).outcome ≡ true → Taken e c
unfolding event_of
taken e c = by_cond (λ (r : Result). did r.outcome ≡ true → Taken e c) (eqb (question_of e c.action c.clock c.room (length c.draws)) 0)
    (λ t _. eqb-true _ 0 t) (λ _ h. clash' h)

-- ---- the logs of a side's earlier and later calls
pub record Logs : Type 0 where
  pub start : End
  pub before : List Entry
  pub behind : List Entry

abbrev logs_from : Side → End → List Entry → Logs
logs_from x e before = record { start = left e before; before = before; behind = log (left e before) x.later }

abbrev pub logs : Side → Logs
logs x = logs_from x (opened x) (log (opened x) x.earlier)

-- the end after some of its later calls
abbrev pub at_place : Side → List OneCall → End
at_place x mid = left (logs x).start (log (logs x).start mid)

module _ (x : Side) (f : Fit x.earlier) (g : Fit x.later) where
  opened-sound : sound_of (opened x) ≡ true
  opened-sound = opens-sound x.me x.params

  pub start_is : begun x ≡ (logs x).start
  start_is = left_is x.earlier (opened x) opened-sound f

  pub start-sound : sound_of (begun x) ≡ true
  start-sound = sound-left x.earlier (opened x) opened-sound f

  pub behind-is : (logs x).behind ≡ log (begun x) x.later
  behind-is = ap (λ (e : End). log e x.later) (sym start_is)

  -- what is tested of the state between
  pub at-start : (P : End → Type 0) → P (logs x).start → P (begun x)
  at-start P h = subst P (sym start_is) h

  module _ (P : Claim) (b : Test) where
    pub always_before : ((e : End) (c : OneCall) → b (entry e c (gives e c)) ≡ true → P e c)
        → every b (logs x).before ≡ true → Always P (opened x) x.earlier
    always_before means h = always P b means x.earlier (opened x) opened-sound f h

    pub always_behind : ((e : End) (c : OneCall) → b (entry e c (gives e c)) ≡ true → P e c)
        → every b (logs x).behind ≡ true → Always P (begun x) x.later
    always_behind means h = always P b means x.later (begun x) start-sound g (subst (λ (l : List Entry). every b l ≡ true) behind-is h)

    pub sometime_behind : ((e : End) (c : OneCall) → b (entry e c (gives e c)) ≡ true → P e c)
        → some b (logs x).behind ≡ true → Sometime P (begun x) x.later
    sometime_behind means h = sometime P b means x.later (begun x) start-sound g (subst (λ (l : List Entry). some b l ≡ true) behind-is h)

    pub never-behind : ((e : End) (c : OneCall) → P e c → b (entry e c (gives e c)) ≡ true)
        → every (λ y. not (b y)) (logs x).behind ≡ true → Sometime P (begun x) x.later → ⊥
    never-behind means h = never P b means x.later (begun x) start-sound g (subst (λ (l : List Entry). every (λ y. not (b y)) l ≡ true) behind-is h)

    -- of one of all of its calls
    pub sometime_all : ((e : End) (c : OneCall) → b (entry e c (gives e c)) ≡ true → P e c)
        → some b (logs x).before || some b (logs x).behind ≡ true → Sometime P (opened x) (all x)
    sometime_all means h = ⊎_elim (λ a. first x.earlier (opened x) (sometime P b means x.earlier (opened x) opened-sound f a))
        (λ a. sometime_later P x.earlier x.later (opened x) (sometime_behind means a)) (or_either (some b (logs x).before) (some b (logs x).behind) h)
      where
        first : (xs : List OneCall) (e : End) → Sometime P e xs → Sometime P e (xs ++ x.later)
        first [] e h = absurd h
        first (c ∷ xs) e (inl h) = inl h
        first (c ∷ xs) e (inr h) = inr (first xs (after e c) h)

  -- ---- a place among its later calls
  module _ (mid : List OneCall) (fm : Fit mid) where
    pub place_is : after_all (begun x) mid ≡ at_place x mid
    place_is = left_is mid (begun x) start-sound fm ∙ ap (λ (e : End). left e (log e mid)) start_is

    place-sound : sound_of (after_all (begun x) mid) ≡ true
    place-sound = sound-left mid (begun x) start-sound fm

    pub at-place : (P : End → Type 0) → P (at_place x mid) → P (after_all (begun x) mid)
    at-place P h = subst P (sym place_is) h

    -- what a call from there on leaves
    pub after-place : (c : OneCall) (P : End → Type 0) → P (given (at_place x mid) c).left → P (after (after_all (begun x) mid) c)
    after-place c P h = subst (λ (r : Result). P r.left) (given_is (after_all (begun x) mid) c place-sound)
        (subst (λ (e : End). P (given e c).left) (sym place_is) h)

    module _ (P : Claim) (b : Test) (rest : List OneCall) (fr : Fit rest) where
      pub always_rest : ((e : End) (c : OneCall) → b (entry e c (gives e c)) ≡ true → P e c) → every b (log (at_place x mid) rest) ≡ true
          → Always P (after_all (begun x) mid) rest
      always_rest means h = always P b means rest (after_all (begun x) mid) place-sound fr
          (subst (λ (e : End). every b (log e rest) ≡ true) (sym place_is) h)

      pub sometime_rest : ((e : End) (c : OneCall) → b (entry e c (gives e c)) ≡ true → P e c) → some b (log (at_place x mid) rest) ≡ true
          → Sometime P (after_all (begun x) mid) rest
      sometime_rest means h = sometime P b means rest (after_all (begun x) mid) place-sound fr
          (subst (λ (e : End). some b (log e rest) ≡ true) (sym place_is) h)
