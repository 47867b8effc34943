-- A call's outcome is read off its number and its output. A refusal's number is at most 11, a message has at most 127 bytes, and a name and a cue
-- that are told are those of a message that was read.
use mathlib.Core.Path.{◌≡◌, refl, sym, ap, ◌∙◌, subst}
use mathlib.Core.List.{List, [], ◌∷◌, ◌++◌}
use Prim.Native.Nat.{ℕ, ◌+◌, ◌*◌, ◌/◌, ◌%◌, min, ◌≤◌, ◌<◌}
use native.Mathlib.Omega.{arith}
use lib.ListN.{length, drop}
use lib.Seq.{take_at}
use lib.Dec.{eqb}
use borrow.Author.Tests.{eqb-true}
use Rattle.message.specs.declared.Name.{Name}
use Rattle.message.specs.declared.Verdict.TheVariants.{Accepted}
use Rattle.message.specs.Entry.{as_host, as_number}
use Rattle.message.specs.Kind.{kind_of}
use Rattle.message.specs.Message.{DATA, RQST, REPL, XPRS, FTCH, LATE, ANNC, Meaning, kind_byte, meaning_from, counts_of}
use Rattle.message.specs.Question.{Question, first_no, refusal_of, read_refusal, read_of, same_host}
use Rattle.message.proofs.QuestionLaws.{number_of_verdict, counts_fit}
use Rattle.roundtrip.proofs.RoundTrip.{accepted}
use Rattle.end.specs.declared.Answer.{Answer}
use Rattle.end.specs.declared.Answer.TheVariants as answer
use Rattle.end.specs.declared.Slot.{Slot}
use Rattle.end.specs.declared.Slot.TheVariants.{Empty, Held, Waiting}
use Rattle.end.specs.Parts.{No, Due, Span, Closed, Open, Earliest, NoWait, First, Nearest, Nobody, Found}
use Rattle.end.specs.declared.Record.{Record}
use Rattle.end.specs.declared.End.{End}
use Rattle.end.specs.declared.Moment.{Moment}
use Rattle.end.specs.declared.Decision.{Decision}
use Rattle.end.specs.declared.Decision.TheVariants.{Ignores, Opens, Takes, Repairs, Hushes, Replies, Learns, BacksOff, Clashes, Expresses}
use Rattle.end.specs.declared.Says.{Says}
use Rattle.end.specs.declared.Says.TheVariants.{Data, Rqst, Repl, Xprs}
use Rattle.end.specs.State.{source_at, is_member, is_crashed, moment_of, with_clock}
use Rattle.end.specs.Records.{record_at}
use Rattle.end.specs.Answer.{Effect, Out, Got, Done, Ignored, Nothing, Clash, Late, Exhausted, Step, Outcome, Refused, Did, Result, answer_of, buffer_of, read_off}
use Rattle.end.specs.Decide.{effect_of, step_at}
use Rattle.end.specs.Session.{session_of}
use Rattle.end.specs.Arrival.{message_name, message_cue, word_of, message_step, arrival_of}
use Rattle.end.specs.Fire.{express_rank, earliest, fire_at, fired}
use Rattle.end.specs.Fetch.{may_fetch, nearest, try_of, fetch_of, may_answer, fetched_of, may_hand, late_of}
use Rattle.end.specs.Event.{Action, Moves, Send, Arrival, Else, Other, Fire, Report, Announce, Fetch, moves, move_of, announced, other_of, act_of, step_of}
use Rattle.end.specs.Event.{any_questions, own_questions, question_of, event_of}
use Rattle.end.specs.Run.{CueArray}
use Rattle.end.proofs.Tools.{by_cond}
use Rattle.invariants.proofs.Questions.{passes}
use Rattle.invariants.proofs.Readings.{message_in_lem}
use Rattle.invariants.proofs.Outputs.{goes_out_right}
use Rattle.lent_answer.specs.Number.{kind_unit, of_kind, named, number_of}
use Rattle.lent_runs.specs.Numbers.{kind_in, low_in, name_in, answer_as, answer_in, outcome_in, OutcomeReadsBack}

-- ---- a number that is made and taken apart
kind-is : (kind rest : ℕ) → rest < kind_unit → kind_in (of_kind kind rest) ≡ kind
kind-is kind rest l = omega arith

-- a name that fits
pub record NameIn (name : Name) : Type 0 where
  pub source : name.source.0 < 8
  pub number : name.number.0 < 65536

name_back : (kind : ℕ) (name : Name) → NameIn name → name_in (named kind name) ≡ name
name_back kind name v =
    let n = named kind name in
    let s : n / 65536 % 65536 ≡ name.source.0 = omega (arith, v.source, v.number) in
    let k : n % 65536 ≡ name.number.0 = omega (arith, v.source, v.number) in
    λ i. record { source = as_host (s i); number = as_number (k i) }

-- an answer of which each part fits
abbrev Fits : Answer → Type 0
Fits (answer.Refused k) = k < 65536
Fits (answer.Out n) = n < 65536
Fits (answer.Got name) = NameIn name
Fits answer.Done = Unit {0}
Fits answer.Ignored = Unit {0}
Fits answer.Nothing = Unit {0}
Fits (answer.Clash name) = NameIn name
Fits (answer.Late name) = NameIn name
Fits answer.Exhausted = Unit {0}

-- the answer of a number of this kind
told : (n kind : ℕ) → kind_in n ≡ kind → answer_in n ≡ answer_as kind n
unfolding answer_in
told n kind k = ap (λ (j : ℕ). answer_as j n) k

named-kind : (kind : ℕ) (name : Name) → NameIn name → kind_in (named kind name) ≡ kind
named-kind kind name v = kind-is kind (name.source.0 * 65536 + name.number.0) (omega (arith, v.source, v.number))

pub answer_back : (a : Answer) → Fits a → answer_in (number_of a) ≡ a
answer_back (answer.Refused k) h = told k 0 (omega arith)
answer_back (answer.Out n) h =
    let len : low_in (of_kind 1 (min n 65535)) ≡ n = omega arith in
    told (of_kind 1 (min n 65535)) 1 (kind-is 1 (min n 65535) (omega arith)) ∙ ap answer.Out len
answer_back (answer.Got name) h = told (named 2 name) 2 (named-kind 2 name h) ∙ ap answer.Got (name_back 2 name h)
answer_back answer.Done h = told (of_kind 3 0) 3 refl
answer_back answer.Ignored h = told (of_kind 4 0) 4 refl
answer_back answer.Nothing h = told (of_kind 5 0) 5 refl
answer_back (answer.Clash name) h = told (named 6 name) 6 (named-kind 6 name h) ∙ ap answer.Clash (name_back 6 name h)
answer_back (answer.Late name) h = told (named 7 name) 7 (named-kind 7 name h) ∙ ap answer.Late (name_back 7 name h)
answer_back answer.Exhausted h = told (of_kind 8 0) 8 refl

-- ---- what an event tells beside messages: the name and the cue of a message that was read, or neither
abbrev TellsOf : Meaning → Effect → Type 0
TellsOf m (Out bytes) = Unit {0}
TellsOf m (Got name cue) = (name ≡ message_name m) × (cue ≡ message_cue m)
TellsOf m Done = Unit {0}
TellsOf m Ignored = Unit {0}
TellsOf m Nothing = Unit {0}
TellsOf m (Clash name) = name ≡ message_name m
TellsOf m (Late name cue) = (name ≡ message_name m) × (cue ≡ message_cue m)
TellsOf m Exhausted = Unit {0}

decided_tells : (t : Moment) (says : Says) (m : Meaning) (e : End) (r : Record) (d : Decision) → TellsOf m (effect_of t (word_of says m e) r d)
unfolding effect_of
decided_tells t says m e r (Ignores why) = tt
decided_tells t says m e r Opens = (refl, refl)
decided_tells t says m e r Takes = (refl, refl)
decided_tells t says m e r Repairs = (refl, refl)
decided_tells t says m e r Hushes = tt
decided_tells t says m e r Replies = tt
decided_tells t says m e r Learns = tt
decided_tells t says m e r (BacksOff k) = tt
decided_tells t says m e r Clashes = refl
decided_tells t says m e r Expresses = tt

arrival-tells : (us : List ℕ) (m : Meaning) (e : End) → TellsOf m (arrival_of us m e).effect
unfolding arrival_of message_step step_at fetched_of late_of session_of
arrival-tells us m e =
    let P : Step → Type 0 = λ s. TellsOf m s.effect in
    by_cond P (same_host m.sender e.host) (λ _. tt)
    (λ _. by_cond P (eqb m.kind DATA) (λ _. decided_tells _ Data m e _ _)
    (λ _. by_cond P (eqb m.kind RQST) (λ _. decided_tells _ Rqst m e _ _)
    (λ _. by_cond P (eqb m.kind REPL) (λ _. decided_tells _ Repl m e _ _)
    (λ _. by_cond P (eqb m.kind XPRS) (λ _. decided_tells _ Xprs m e _ _)
    (λ _. by_cond P (eqb m.kind FTCH) (λ _. by_cond P (may_answer e m) (λ _. tt) (λ _. tt))
    (λ _. by_cond P (eqb m.kind LATE) (λ _. by_cond P (may_hand e m) (λ _. (refl, refl)) (λ _. tt))
    (λ _. by_cond P (eqb m.kind ANNC) (λ _. tt) (λ _. tt))))))))

-- ---- so what an outcome tells fits its number; of a message that is put out nothing is said here
abbrev pub Told : Outcome → Type 0
Told (Refused k) = k ≤ 11
Told (Did (Out bytes)) = Unit {0}
Told (Did (Got name cue)) = NameIn name × (length cue ≡ 24)
Told (Did Done) = Unit {0}
Told (Did Ignored) = Unit {0}
Told (Did Nothing) = Unit {0}
Told (Did (Clash name)) = NameIn name
Told (Did (Late name cue)) = NameIn name × (length cue ≡ 24)
Told (Did Exhausted) = Unit {0}

abbrev Plain : Step → Type 0
Plain s = Told (Did s.effect)

read_told : (m : Meaning) → NameIn (message_name m) → length (message_cue m) ≡ 24 → (x : Effect) → TellsOf m x → Told (Did x)
read_told m v long (Out bytes) h = tt
read_told m v long (Got name cue) h = (subst NameIn (sym h.0) v, ap length h.1 ∙ long)
read_told m v long Done h = tt
read_told m v long Ignored h = tt
read_told m v long Nothing h = tt
read_told m v long (Clash name) h = subst NameIn (sym h) v
read_told m v long (Late name cue) h = (subst NameIn (sym h.0) v, ap length h.1 ∙ long)
read_told m v long Exhausted h = tt

fire-plain : (us : List ℕ) (e : End) (rank : ℕ) (name : Name) (x : Slot) → Plain (fire_at us rank name e x)
unfolding fire_at
fire-plain us e rank name Empty = tt
fire-plain us e rank name (Waiting q x) = by_cond Plain (eqb rank express_rank) (λ _. tt) (λ _. tt)
fire-plain us e rank name (Held No) = tt
fire-plain us e rank name (Held (Due due k)) = tt

fired-plain : (us : List ℕ) (e : End) (x : Earliest) → Plain (fired us e x)
unfolding fired
fired-plain us e NoWait = tt
fired-plain us e (First w) = fire-plain us e w.rank w.name (record_at (source_at e w.name.source) w.name.number.0).slot

announced-plain : (t : Moment) (x : Span) (e : End) → Plain (announced t x e)
announced-plain t Closed e = tt
announced-plain t (Open first last) e = tt

tried-plain : (name : Name) (e : End) (x : Nearest) → Plain (try_of name e x)
unfolding try_of
tried-plain name e Nobody = tt
tried-plain name e (Found h d) = tt

other-plain : (us : List ℕ) (o : Other) (e : End) → Plain (other_of us o e)
unfolding fetch_of
other-plain us Fire e = fired-plain us e (earliest e 8)
other-plain us Report e = tt
other-plain us Announce e = announced-plain (moment_of e) (source_at e e.host).span e
other-plain us (Fetch name) e = by_cond Plain (may_fetch e name) (λ _. tried-plain name e (nearest e name 8)) (λ _. tt)

act_plain : (us : List ℕ) (a : Action) (e : End) (t : ℕ) → first_no (own_questions a e) ≡ 0 → Plain (act_of us a (with_clock e t))
unfolding act_of move_of
act_plain us (Moves m) e t own = by_cond Plain (moves m e.status) (λ _. tt) (λ _. tt)
act_plain us (Send cue) e t own = by_cond Plain (is_member e.status) (λ _. tt) (λ _. tt)
act_plain us (Arrival []) e t own = by_cond Plain (is_member e.status) (λ _. tt) (λ _. tt)
act_plain us (Arrival (b ∷ s)) e t own =
    let m = meaning_from (b ∷ s) in
    let v = message_in_lem (b ∷ s) own in
    by_cond Plain (is_member e.status)
    (λ _. read_told m (record { source = v.source; number = v.number }) v.long (arrival_of us m (with_clock e t)).effect
    (arrival-tells us m (with_clock e t)))
    (λ _. tt)
act_plain us (Else o) e t own = by_cond Plain (is_member e.status) (λ _. other-plain us o (with_clock e t)) (λ _. tt)

-- the questions' numbers are at most 11
abbrev pub Most : List Question → Type 0
Most [] = Unit {0}
Most (q ∷ qs) = (q.number ≤ 11) × Most qs

pub first-most : (qs : List Question) → Most qs → first_no qs ≤ 11
first-most [] h = omega arith
first-most (q ∷ qs) h = by_cond (λ (k : ℕ). k ≤ 11) q.passed (λ _. first-most qs h.1) (λ _. h.0)

own-most : (a : Action) (e : End) → Most (own_questions a e)
own-most (Moves m) e = tt
own-most (Send cue) e = (omega arith, (omega arith, tt))
own-most (Arrival []) e = tt
own-most (Arrival (b ∷ s)) e = (omega arith, (omega arith, (omega arith, (omega arith, tt))))
own-most (Else o) e = tt

question_most : (e : End) (a : Action) (clock room draws : ℕ) → question_of e a clock room draws ≤ 11
unfolding question_of
question_most e a clock room draws = first-most (any_questions e clock room draws ++ own_questions a e)
    (omega arith, (omega arith, (omega arith, (omega arith, (omega arith, own-most a e)))))

call-told : (e : End) (a : Action) (clock room : ℕ) (draws : List ℕ) → Told (event_of e a clock room draws).outcome
unfolding event_of step_of
call-told e a clock room draws =
    let q = question_of e a clock room (length draws) in
    by_cond (λ (r : Result). Told r.outcome) (eqb q 0)
    (λ t. by_cond Plain (is_crashed e.status) (λ _. tt) (λ _. act_plain draws a e clock (passes e a clock room (length draws) (eqb-true q 0 t)).own))
    (λ _. question_most e a clock room (length draws))

-- ---- a message that is put out has at most 127 bytes: the reader accepts it
pub short : (bytes : List ℕ) → (read_of bytes).verdict ≡ Accepted → length bytes ≤ 127
unfolding read_of read_refusal
short [] h = omega arith
short (b ∷ s) h =
    let passed : read_refusal (b ∷ s) ≡ 0 = sym (number_of_verdict (read_refusal (b ∷ s))) ∙ ap refusal_of h in
    let a = accepted (b ∷ s) passed in
    let size = (counts_fit (kind_byte (b ∷ s)) (kind_of (kind_byte (b ∷ s))) (counts_of (meaning_from (b ∷ s))) a.counts).size in
    omega (arith, size, a.size)

pub out_short : (e : End) (a : Action) (clock room : ℕ) (draws bytes : List ℕ) → CueArray a → (event_of e a clock room draws).outcome ≡ Did (Out bytes)
    → length bytes ≤ 127
out_short e a clock room draws bytes array p = short bytes (goes_out_right e a clock room draws bytes array p).accepted

-- ---- the outcome is read back
pub outcome_back : (o : Outcome) (out : List ℕ) → Told o → ((bytes : List ℕ) → o ≡ Did (Out bytes) → length bytes ≤ 127)
    → outcome_in (number_of (answer_of o)) (buffer_of o out) ≡ o
unfolding answer_of buffer_of read_off
outcome_back (Refused k) out h s = ap (λ (a : Answer). read_off a out) (answer_back (answer.Refused k) (omega arith))
outcome_back (Did (Out bytes)) out h s =
    let long : length bytes ≤ 127 = s bytes refl in
    ap (λ (a : Answer). read_off a (bytes ++ drop (length bytes) out)) (answer_back (answer.Out (length bytes)) (omega arith))
    ∙ ap (λ (l : List ℕ). Did (Out l)) (take_at bytes (drop (length bytes) out) (length bytes) refl)
outcome_back (Did (Got name cue)) out h s =
    ap (λ (a : Answer). read_off a (cue ++ drop (length cue) out)) (answer_back (answer.Got name) h.0)
    ∙ ap (λ (l : List ℕ). Did (Got name l)) (take_at cue (drop (length cue) out) 24 h.1)
outcome_back (Did Done) out h s = ap (λ (a : Answer). read_off a out) (answer_back answer.Done tt)
outcome_back (Did Ignored) out h s = ap (λ (a : Answer). read_off a out) (answer_back answer.Ignored tt)
outcome_back (Did Nothing) out h s = ap (λ (a : Answer). read_off a out) (answer_back answer.Nothing tt)
outcome_back (Did (Clash name)) out h s = ap (λ (a : Answer). read_off a out) (answer_back (answer.Clash name) h)
outcome_back (Did (Late name cue)) out h s =
    ap (λ (a : Answer). read_off a (cue ++ drop (length cue) out)) (answer_back (answer.Late name) h.0)
    ∙ ap (λ (l : List ℕ). Did (Late name l)) (take_at cue (drop (length cue) out) 24 h.1)
outcome_back (Did Exhausted) out h s = ap (λ (a : Answer). read_off a out) (answer_back answer.Exhausted tt)

pub outcome_reads_back : OutcomeReadsBack
outcome_reads_back e a clock draws output array =
    outcome_back (event_of e a clock (length output) draws).outcome output (call-told e a clock (length output) draws)
    (λ bytes p. out_short e a clock (length output) draws bytes array p)
