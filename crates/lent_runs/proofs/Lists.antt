-- Lists of calls over lent bytes: the statements of specs/Lists.antt, by induction over the list. At every call the bytes hold the end of the
-- World (Kept.antt), and what the host reads off the number and the output is the outcome (Numbers.antt).
use mathlib.Core.Path.{◌≡◌, refl, sym, ap, ◌∙◌, subst}
use mathlib.Core.Bool.{Bool, true, false, cond}
use mathlib.Core.List.{List, [], ◌∷◌, map}
use Prim.Native.Nat.{ℕ, min, ◌<◌}
use native.Mathlib.Omega.{arith}
use lib.ListN.{length}
use lib.Dec.{eqb}
use borrow.Author.Tests.{eqb-true, eq-eqb, le-leb, lt-ltb}
use Rattle.message.specs.declared.Host.{Host}
use Rattle.message.specs.declared.Verdict.TheVariants.{Accepted}
use Rattle.message.specs.Entry.{as_host}
use Rattle.message.specs.Question.{refusal_of, verdict_for}
use Rattle.message.proofs.QuestionLaws.{number_of_verdict}
use Rattle.end.specs.declared.Params.{Params}
use Rattle.end.specs.declared.Status.{Status}
use Rattle.end.specs.declared.Status.TheVariants.{Idle, Joining, Member, Leaving, Crashed}
use Rattle.end.specs.declared.Opened.{Opened}
use Rattle.end.specs.declared.End.{End}
use Rattle.end.specs.State.{fresh_end}
use Rattle.end.specs.Round.{Drawn}
use Rattle.end.specs.Sound.{sound_of}
use Rattle.end.specs.Answer.{Outcome}
use Rattle.end.specs.Opening.{open_refusal, end_for, opening_of}
use Rattle.end.specs.Book.{put, RunFrom, empty_book}
use Rattle.end.specs.Lates.{LatesAsFiled}
use Rattle.end.specs.Run.{Call, World, result_of, sent_after, world_after, seen, Brought, CueArray, Allowed, Fresh}
use Rattle.end.proofs.Tools.{by_cond}
use Rattle.end.proofs.Service.Ends.{service}
use Rattle.end.proofs.Service.Lates.{late_has_the_sources_bytes}
use Rattle.invariants.specs.Lists.{through, Declared}
use Rattle.invariants.proofs.Stays.{opens-sound}
use Rattle.lent_end.specs.State.{state_width, status_of, status_number, end_from, end_bytes, Holds}
use Rattle.lent_answer.specs.Number.{host_of}
use Rattle.lent_calls.specs.Arguments.{params_of}
use Rattle.lent_calls.specs.Call.{call_number, call_state, call_out}
use Rattle.lent_calls.specs.Open.{opened_number, opened_state, open_of}
use Rattle.lent_looks.specs.Looks.{look, status_in}
use Rattle.lent_runs.specs.Numbers.{outcome_in}
use Rattle.lent_runs.specs.Lists.{Lent, OpenedLent, state_on, lent_after, lent_through, Given, given_on, given, held_by, played_on, played}
use Rattle.lent_runs.specs.Lists.{LentIsPlayed, CuesFit, NoStateIsRefused}
use Rattle.lent_runs.specs.Lists.{outcome_on, LentAllowed, onlooked, LentIsSeen, AllowedIsLent, house, HouseOpens, LentService, LentLatesAsFiled}
use Rattle.lent_runs.proofs.Typed.{blank_typed}
use Rattle.lent_runs.proofs.Fits.{sound-holds}
use Rattle.lent_runs.proofs.Numbers.{outcome_reads_back}
use Rattle.lent_runs.proofs.Kept.{call-number, call-output, Kept, call_kept}

-- ---- what cuelink_open leaves where it answers 0: the fresh end of its host
pub host_of_lem : (h : ℕ) → h < 8 → host_of h ≡ as_host h
host_of_lem h l =
    let small : min h 255 ≡ h = omega arith in
    ap as_host small

pub opened-zero : (o : Opened) (s : List ℕ) → opened_number o s ≡ 0 → (refusal_of o.verdict ≡ 0) × (opened_state o s ≡ end_bytes o.end)
unfolding opened_number opened_state
opened-zero o s z = (go (eqb (length s) state_width) refl, ap (λ (k : ℕ). cond (eqb k 0) (end_bytes o.end) s) z)
  where
    go : (t : Bool) → eqb (length s) state_width ≡ t → refusal_of o.verdict ≡ 0
    go true p = sym (ap (λ (t : Bool). cond t (refusal_of o.verdict) 3) p) ∙ z
    go false p = absurd (omega (arith, sym (ap (λ (t : Bool). cond t (refusal_of o.verdict) 3) p) ∙ z))

record Fresh1 (h : ℕ) (s : List ℕ) : Type 0 where
  params : Params
  passed : open_refusal (as_host h) params ≡ 0
  bytes : s ≡ end_bytes (fresh_end (as_host h) params Idle)

module _ (h : ℕ) (p : Params) (passed : open_refusal (as_host h) p ≡ 0) where
  opens_as : opening_of (as_host h) p ≡ record { verdict = Accepted; end = fresh_end (as_host h) p Idle }
  unfolding opening_of
  opens_as = ap (λ (k : ℕ). record { verdict = verdict_for k; end = end_for k (as_host h) p }) passed

  fresh-sound : sound_of (fresh_end (as_host h) p Idle) ≡ true
  fresh-sound = sym (ap (λ (o : Opened). sound_of o.end) opens_as) ∙ opens-sound (as_host h) p

opened-fresh : (h : ℕ) → h < 8 → (params s : List ℕ) → opened_number (open_of h params) s ≡ 0 → Fresh1 h (opened_state (open_of h params) s)
unfolding opening_of
opened-fresh h l params s z =
    let p = params_of params in
    let both = opened-zero (open_of h params) s z in
    let same : open_of h params ≡ opening_of (as_host h) p = ap (λ (x : Host). opening_of x p) (host_of_lem h l) in
    let passed : open_refusal (as_host h) p ≡ 0 =
    sym (number_of_verdict (open_refusal (as_host h) p)) ∙ sym (ap (λ (o : Opened). refusal_of o.verdict) same) ∙ both.0 in
    record { params = p; passed = passed; bytes = both.1 ∙ ap (λ (o : Opened). end_bytes o.end) (same ∙ opens_as h p passed) }

fresh_kept : (h : ℕ) (s : List ℕ) → Fresh1 h s → Kept h s (end_from s)
fresh_kept h s f =
    let e = fresh_end (as_host h) f.params Idle in
    let sound = fresh-sound h f.params f.passed in
    let typed = blank_typed e refl in
    let holds : Holds s e = subst (λ (l : List ℕ). Holds l e) (sym f.bytes) (sound-holds e sound typed) in
    subst (Kept h s) (sym holds.reads) (record {
      holds = holds;
      sound = sound;
      typed = typed;
      aside = λ _. refl;
      host = refl;
      opens = f.passed;
    })

fresh-end : (h : ℕ) (s : List ℕ) → Fresh1 h s → (p : Params) × (opening_of (as_host h) p ≡ record { verdict = Accepted; end = end_from s })
fresh-end h s f =
    let e = fresh_end (as_host h) f.params Idle in
    let holds = subst (λ (l : List ℕ). Holds l e) (sym f.bytes) (sound-holds e (fresh-sound h f.params f.passed) (blank_typed e refl)) in
    (f.params, opens_as h f.params f.passed ∙ ap (λ (x : End). record { verdict = Accepted; end = x }) (sym holds.reads))

-- ---- the eight states and the eight ends
abbrev pub KeptAll : Lent → World → Type 0
KeptAll l w = (h : ℕ) → h < 8 → Kept h (l h) (w.ends h)

pub opened-kept : (l : Lent) → OpenedLent l → KeptAll l (held_by l)
opened-kept l o h hh =
    let x = o h hh in
    subst (λ (s : List ℕ). Kept h s (end_from s)) (sym x.3) (fresh_kept h _ (opened-fresh h hh x.0 x.1 x.2))

held-fresh : (l : Lent) → OpenedLent l → Fresh (held_by l)
held-fresh l o = record {
  ends = λ h hh.
      let x = o h hh in
      subst (λ (s : List ℕ). (p : Params) × (opening_of (as_host h) p ≡ record { verdict = Accepted; end = end_from s })) (sym x.3)
      (fresh-end h _ (opened-fresh h hh x.0 x.1 x.2));
  sent = refl;
}

-- two functions with one value changed, both at the same place
put_both : {A B : Type 0} (P : ℕ → A → B → Type 0) (f : ℕ → A) (g : ℕ → B) (h : ℕ) (x : A) (y : B) → P h x y → (k : ℕ) → P k (f k) (g k)
    → P k (put f h x k) (put g h y k)
unfolding put
put_both P f g h x y p k q = go (eqb k h) refl
  where
    go : (t : Bool) → eqb k h ≡ t → P k (cond t x (f k)) (cond t y (g k))
    go true e = subst (λ (j : ℕ). P j x y) (sym (eqb-true k h e)) p
    go false e = q

pub turned : (l : Lent) (w : World) (c : Call) → Drawn c.draws → CueArray c.action → c.host < 8 → KeptAll l w
    → KeptAll (lent_after l c) (world_after w c.host (result_of w c))
unfolding lent_after world_after result_of
turned l w c drawn array hh k j hj = put_both Kept l w.ends c.host (state_on l c) (result_of w c).left
    (call_kept c.host (l c.host) (w.ends c.host) c.action c.clock c.draws c.output drawn array (k c.host hh)) j (k j hj)

-- ---- what a call gives
pub look-held : (f : End → ℕ) (s : List ℕ) (e : End) → Holds s e → look f s ≡ f e
unfolding look
look-held f s e h = rw h.tested (ap f h.reads)

pub given_as : (l : Lent) (w : World) (c : Call) → Drawn c.draws → CueArray c.action → c.host < 8 → KeptAll l w
    → given_on l c ≡ played_on w c
given_as l w c drawn array hh k =
    let e = w.ends c.host in
    let was = k c.host hh in
    let now = call_kept c.host (l c.host) e c.action c.clock c.draws c.output drawn array was in
    let number = call-number c.action c.clock c.draws c.output (l c.host) e was.holds in
    let output = call-output c.action c.clock c.draws c.output (l c.host) e was.holds in
    let status = look-held status_in (state_on l c) _ now.holds in
    λ i. record { host = c.host; action = c.action; number = number i; output = output i; status = status i }

given-played : (cs : List Call) (l : Lent) (w : World) → Declared cs → KeptAll l w → given l cs ≡ played w cs
unfolding given played
given-played [] l w d k = refl
given-played (c ∷ cs) l w d k =
    let head = given_as l w c d.1 d.2 d.0 k in
    let tail = given-played cs (lent_after l c) (world_after w c.host (result_of w c)) d.3 (turned l w c d.1 d.2 d.0 k) in
    λ i. head i ∷ tail i

pub through-kept : (cs : List Call) (l : Lent) (w : World) → Declared cs → KeptAll l w → KeptAll (lent_through l cs) (through w cs)
unfolding lent_through through
through-kept [] l w d k = k
through-kept (c ∷ cs) l w d k = through-kept cs (lent_after l c) (world_after w c.host (result_of w c)) d.3 (turned l w c d.1 d.2 d.0 k)

pub lent_is_played : LentIsPlayed
lent_is_played l o =
    let k = opened-kept l o in
    record {
      fresh = held-fresh l o;
      holds = λ cs d h hh. (through-kept cs l (held_by l) d k h hh).holds;
      gives = λ cs d. given-played cs l (held_by l) d k;
    }

-- ---- arguments
pub cues_fit : CuesFit
cues_fit cue = by_cond (λ (l : List ℕ). length l ≡ 24) (eqb (length cue) 24) (λ t. eqb-true (length cue) 24 t) (λ _. refl)

pub no_state_is_refused : NoStateIsRefused
unfolding call_number call_state call_out
no_state_is_refused a clock draws output s room drawn none =
    let r = le-leb 128 (length output) room in
    let d = eq-eqb (length draws) 64 drawn in
    (rw (r, d, none), rw (r, d, none), rw (r, d, none))

-- ---- demand 3
status_back : (x : Status) → status_of (status_number x) ≡ x
status_back Idle = refl
status_back Joining = refl
status_back Member = refl
status_back Leaving = refl
status_back Crashed = refl

pub outcome-same : (l : Lent) (w : World) (c : Call) → CueArray c.action → c.host < 8 → KeptAll l w → outcome_on l c ≡ (result_of w c).outcome
unfolding result_of
outcome-same l w c array hh k =
    let e = w.ends c.host in
    let was = (k c.host hh).holds in
    let number = call-number c.action c.clock c.draws c.output (l c.host) e was in
    let output = call-output c.action c.clock c.draws c.output (l c.host) e was in
    (λ i. outcome_in (number i) (output i)) ∙ outcome_reads_back e c.action c.clock c.draws c.output array

lent-allowed : (cs : List Call) (l : Lent) (w : World) → KeptAll l w → LentAllowed l w.sent cs → Allowed w cs
unfolding world_after
lent-allowed [] l w k a = tt
lent-allowed (c ∷ cs) l w k a =
    let same = outcome-same l w c a.2 a.0 k in
    let next = world_after w c.host (result_of w c) in (
      a.0,
      a.2,
      subst (Brought w.sent c.action) same a.3,
      lent-allowed cs (lent_after l c) next (turned l w c a.1 a.2 a.0 k)
          (subst (λ (o : Outcome). LentAllowed (lent_after l c) (sent_after o w.sent) cs) same a.4),
    )

allowed-lent : (cs : List Call) (l : Lent) (w : World) → KeptAll l w → Declared cs → Allowed w cs → LentAllowed l w.sent cs
unfolding world_after
allowed-lent [] l w k d a = tt
allowed-lent (c ∷ cs) l w k d a =
    let same = outcome-same l w c d.2 d.0 k in
    let next = world_after w c.host (result_of w c) in
    let rest = allowed-lent cs (lent_after l c) next (turned l w c d.1 d.2 d.0 k) d.3 a.3 in (
      d.0,
      d.1,
      d.2,
      subst (Brought w.sent c.action) (sym same) a.2,
      subst (λ (o : Outcome). LentAllowed (lent_after l c) (sent_after o w.sent) cs) (sym same) rest,
    )

seen_same : (cs : List Call) (l : Lent) (w : World) → KeptAll l w → LentAllowed l w.sent cs → map onlooked (given l cs) ≡ seen w cs
unfolding given seen onlooked world_after result_of
seen_same [] l w k a = refl
seen_same (c ∷ cs) l w k a =
    let outcome = outcome-same l w c a.2 a.0 k in
    let next = world_after w c.host (result_of w c) in
    let more = turned l w c a.1 a.2 a.0 k in
    let left = (result_of w c).left in
    let status = ap (λ (g : Given). status_of g.status) (given_as l w c a.1 a.2 a.0 k) ∙ status_back left.status in
    let tail = seen_same cs (lent_after l c) next more (subst (λ (o : Outcome). LentAllowed (lent_after l c) (sent_after o w.sent) cs) outcome a.4) in
    λ i. record { host = c.host; action = c.action; outcome = outcome i; status = status i } ∷ tail i

pub lent_is_seen : LentIsSeen
lent_is_seen l o cs a =
    let k = opened-kept l o in
    record { fresh = held-fresh l o; allowed = lent-allowed cs l (held_by l) k a; same = seen_same cs l (held_by l) k a }

pub allowed_is_lent : AllowedIsLent
allowed_is_lent l o cs d a = allowed-lent cs l (held_by l) (opened-kept l o) d a

house-passes : (h : ℕ) → h < 8 → refusal_of (open_of h house).verdict ≡ 0
unfolding opening_of open_refusal
house-passes h hh =
    let fits : refusal_of (opening_of (as_host h) (params_of house)).verdict ≡ 0 = rw (lt-ltb h 8 hh) in
    ap (λ (x : Host). refusal_of (opening_of x (params_of house)).verdict) (host_of_lem h hh) ∙ fits

pub house-opens : HouseOpens
unfolding opened_number
house-opens s long h hh = (house, s, rw (eq-eqb (length s) state_width long) (house-passes h hh), refl)

pub lent-service : LentService
lent-service l o cs a =
    let s = lent_is_seen l o cs a in
    subst (RunFrom empty_book) (sym s.same) (service (held_by l) s.fresh cs s.allowed)

pub lent_lates_as_filed : LentLatesAsFiled
lent_lates_as_filed l o cs a =
    let s = lent_is_seen l o cs a in
    subst (LatesAsFiled empty_book) (sym s.same) (late_has_the_sources_bytes (held_by l) s.fresh cs s.allowed)
