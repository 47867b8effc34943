-- Before the next due time Fire answers Nothing, and from it on it has a wait to send.
use mathlib.Core.Path.{◌≡◌, refl, sym, ap, ◌∙◌, subst}
use Prim.Native.Nat.{ℕ, zero, suc, ◌+◌, ◌≤◌, ◌<◌}
use native.Mathlib.Omega.{arith}
use mathlib.Core.Bool.{Bool, true, false, cond}
use mathlib.Core.List.{List}
use lib.ListN.{get_or, length}
use lib.Dec.{T, ltb, leb}
use borrow.Author.Tests.{ltb-true, ltb-false, leb-true, leb-false, le-leb, lt-leb, eq-eqb}
use Rattle.message.specs.declared.Host.{Host}
use Rattle.message.specs.declared.Name.{Name}
use Rattle.message.specs.Entry.{as_host, as_number}
use Rattle.end.specs.declared.Slot.{Slot}
use Rattle.end.specs.declared.Slot.TheVariants.{Empty, Held, Waiting}
use Rattle.end.specs.Parts.{Express, Unset, Soon, No, Due, Earliest, NoWait, First}
use Rattle.end.specs.declared.Status.{Status}
use Rattle.end.specs.declared.Status.TheVariants.{Member}
use Rattle.end.specs.declared.Source.{Source}
use Rattle.end.specs.declared.End.{End}
use Rattle.end.specs.declared.Wait.{Wait}
use Rattle.end.specs.State.{no_source, with_clock, is_member, is_crashed}
use Rattle.end.specs.Records.{start, width, record_at}
use Rattle.end.specs.Answer.{Nothing, Ignored, give, done}
use Rattle.end.specs.Fire.{fold_up, before, earlier, due_at, express_at, offered, earliest_name, earliest, fired, fire_of, request_rank, express_rank, reply_rank}
use Rattle.end.specs.Event.{Else, Fire, act_of, step_of, question_of, event_of}
use Rattle.end_due.specs.Due.{never, least, express_due, slot_due, names_due, sources_due, next_due}

-- ---- the lesser of two times, against a clock
low : (a b clock : ℕ) (t : Bool) → ltb a b ≡ t → a ≤ clock → leb (cond t a b) clock ≡ true
low a b clock true e h = le-leb a clock h
low a b clock false e h = le-leb b clock (omega (arith, ltb-false a b e))

high : (a b clock : ℕ) (t : Bool) → ltb a b ≡ t → clock < a → leb (cond t a b) clock ≡ leb b clock
high a b clock true e h = lt-leb a clock h ∙ sym (lt-leb b clock (omega (arith, ltb-true a b e)))
high a b clock false e h = refl

-- ---- whether a wait was found
abbrev is_first : Earliest → Bool
is_first NoWait = false
is_first (First w) = true

either : (t : Bool) (w v : Wait) → is_first (cond t (First w) (First v)) ≡ true
either true w v = refl
either false w v = refl

found : (y : Earliest) (w : Wait) → is_first (earlier y w) ≡ true
found NoWait w = refl
found (First v) w = either (before w v) w v

due-case : (name : Name) (clock rank due m : ℕ) (y : Earliest) (t : Bool) → leb due clock ≡ t → is_first y ≡ leb m clock
    → is_first (cond t (earlier y (record { due = due; rank = rank; name = name })) y) ≡ leb (least due m) clock
due-case name clock rank due m y true e h =
    found y (record { due = due; rank = rank; name = name }) ∙ sym (low due m clock (ltb due m) refl (leb-true due clock e))
due-case name clock rank due m y false e h = h ∙ sym (high due m clock (ltb due m) refl (leb-false due clock e))

due-step : (name : Name) (clock rank due m : ℕ) (y : Earliest) → is_first y ≡ leb m clock → is_first (due_at name clock rank due y) ≡ leb (least due m) clock
due-step name clock rank due m y h = due-case name clock rank due m y (leb due clock) refl h

express-step : (name : Name) (clock m : ℕ) (x : Express) (y : Earliest) → is_first y ≡ leb m clock
    → is_first (express_at name clock x y) ≡ leb (express_due x m) clock
express-step name clock m Unset y h = h
express-step name clock m (Soon due) y h = due-step name clock express_rank due m y h

slot_step : (name : Name) (clock m : ℕ) (s : Slot) (y : Earliest) → is_first y ≡ leb m clock → is_first (offered name clock s y) ≡ leb (slot_due s m) clock
slot_step name clock m Empty y h = h
slot_step name clock m (Waiting q x) y h =
    due-step name clock request_rank q.due (express_due x m) (express_at name clock x y) (express-step name clock m x y h)
slot_step name clock m (Held No) y h = h
slot_step name clock m (Held (Due due requester)) y h = due-step name clock reply_rank due m y h

names-step : (h : Host) (clock : ℕ) (s : Source) (m : ℕ) (y : Earliest) (k : ℕ) → is_first y ≡ leb m clock
    → is_first (earliest_name h clock s y k) ≡ leb (names_due s m k) clock
unfolding fold_up
names-step h clock s m y zero p = p
names-step h clock s m y (suc k) p =
    slot_step (record { source = h; number = as_number (start s.span + k) }) clock (names_due s m k)
    (record_at s (start s.span + k)).slot (earliest_name h clock s y k) (names-step h clock s m y k p)

sources-step : (e : End) (k : ℕ) → e.clock < never → is_first (earliest e k) ≡ leb (sources_due e.sources k) e.clock
unfolding fold_up earliest
sources-step e zero p = sym (lt-leb never e.clock p)
sources-step e (suc k) p =
    let s : Source = get_or e.sources k no_source in
    names-step (as_host k) e.clock s (sources_due e.sources k) (earliest e k) (width s.span) (sources-step e k p)

-- a wait is found exactly from the next due time on
pub due-found : (e : End) → e.clock < never → is_first (earliest e 8) ≡ leb (next_due e) e.clock
unfolding next_due
due-found e p = sources-step e 8 p

-- the clock does not count
pub due-same : (e : End) (clock : ℕ) → next_due (with_clock e clock) ≡ next_due e
unfolding next_due
due-same e clock = refl

none_found : (y : Earliest) → is_first y ≡ false → y ≡ NoWait
none_found NoWait h = refl
none_found (First w) h = absurd (subst T h tt)

one_found : (y : Earliest) → is_first y ≡ true → (w : Wait) × (y ≡ First w)
one_found NoWait h = absurd (subst T (sym h) tt)
one_found (First w) h = (w, refl)

-- before it: Nothing, and only the clock is set
pub before-due : (us : List ℕ) (e : End) (clock : ℕ) → e.status ≡ Member → clock < never → clock < next_due e
    → step_of clock us (Else Fire) e ≡ give Nothing (with_clock e clock)
unfolding step_of act_of fired
before-due us e clock m p h =
    let late : End = with_clock e clock in
    let no : is_first (earliest late 8) ≡ false = due-found late p ∙ lt-leb (next_due late) clock (rw (due-same e clock) h) in
    ap (λ (st : Status). cond (is_crashed st) (give Ignored e) (cond (is_member st) (fire_of us late) (give Ignored late))) m
    ∙ ap (fired us late) (none_found (earliest late 8) no)

-- so a Fire that no question refuses answers Nothing
pub before_due_event : (us : List ℕ) (e : End) (clock room : ℕ) → question_of e (Else Fire) clock room (length us) ≡ 0
    → e.status ≡ Member → clock < never → clock < next_due e
    → event_of e (Else Fire) clock room us ≡ done (give Nothing (with_clock e clock))
unfolding event_of
before_due_event us e clock room q m p h = rw (eq-eqb (question_of e (Else Fire) clock room (length us)) 0 q) (ap done (before-due us e clock m p h))

-- from it on: a wait is chosen, which goes out (guarantees: due-means-out)
pub from-due : (e : End) (clock : ℕ) → clock < never → next_due e ≤ clock → (w : Wait) × (earliest (with_clock e clock) 8 ≡ First w)
from-due e clock p h =
    let late : End = with_clock e clock in
    one_found (earliest late 8) (due-found late p ∙ le-leb (next_due late) clock (rw (due-same e clock) h))
