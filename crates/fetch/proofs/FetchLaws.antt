-- The steps of specs/Steps.antt, each stored in the place of its source, are the rules of the crate end, specs/Fetch.antt.
use mathlib.Core.Path.{◌≡◌, refl, sym, ap, ◌∙◌}
use Prim.Native.Nat.{ℕ, zero, suc, ◌≤◌, ◌<◌}
use native.Mathlib.Omega.{arith}
use mathlib.Core.Bool.{Bool, true, false, cond, not, ◌&&◌}
use mathlib.Core.List.{List}
use lib.ListN.{get_or}
use lib.Seq.{set-get_or}
use lib.Dec.{ltb, eqb}
use borrow.Author.Tests.{ltb-true}
use Rattle.numbers.specs.Bits.{bit}
use Rattle.message.specs.declared.Host.{Host}
use Rattle.message.specs.declared.Name.{Name}
use Rattle.message.specs.declared.NameEntry.{NameEntry}
use Rattle.message.specs.Entry.{as_host, blank_name}
use Rattle.message.specs.Message.{Meaning, bytes_of}
use Rattle.message.specs.Question.{host_in}
use Rattle.end.specs.Parts.{Nearest, Nobody, Found}
use Rattle.end.specs.declared.Attempt.{Attempt}
use Rattle.end.specs.declared.Source.{Source}
use Rattle.end.specs.declared.End.{End}
use Rattle.end.specs.State.{no_source, source_at, moment_of, with_sources, with_source, on_source}
use Rattle.end.specs.Records.{attempt_at}
use Rattle.end.specs.Messages.{message_name, message_cue, fetch_message}
use Rattle.end.specs.Answer.{Effect, Out, Exhausted, Ignored, Late, give}
use Rattle.end.specs.Fire.{fold_up}
use Rattle.end.specs.Fetch.{tries, hands_late, may_fetch, reported_by, nearer, untried, nearest, try_of, fetch_of, may_answer, fetched_of, may_hand, late_of}
use Rattle.end.proofs.Tools.{by_cond, and_left}
use Rattle.candidates.specs.Candidates.{nearest_of, answers, hands}
use Rattle.fetch.specs.Steps.{answered_effect, late_effect, late_source}

-- a source stored as it was
pub unchanged : (e : End) (h : Host) → with_source e h (source_at e h) ≡ e
unchanged e h = ap (with_sources e) (set-get_or e.sources h.0 no_source)

-- ---- who is found is a host
abbrev pub Hosted : Nearest → Type 0
Hosted Nobody = Unit {0}
Hosted (Found h d) = h.0 < 8

nearer_hosted : (best : Nearest) (h : Host) (d : ℕ) → h.0 < 8 → Hosted best → Hosted (nearer best h d)
nearer_hosted Nobody h d l b = l
nearer_hosted (Found k least) h d l b = by_cond Hosted (ltb d least) (λ t. l) (λ t. b)

pub nearest_hosted : (me : Host) (sources : List Source) (source : Host) (tried k : ℕ) → k ≤ 8 → Hosted (nearest_of me sources source tried k)
unfolding nearest_of fold_up
nearest_hosted me sources source tried zero l = tt
nearest_hosted me sources source tried (suc k) l =
    let s = get_or sources k no_source in
    let before = nearest_hosted me sources source tried k (omega arith) in
    by_cond Hosted ((not (eqb k me.0) && reported_by s.heard source) && not (bit tried k))
    (λ t. nearer_hosted (nearest_of me sources source tried k) (as_host k) s.distance (omega arith) before)
    (λ t. before)

-- ---- the event
-- the nearest host by the sources alone is the end's
pub nearest-is : (e : End) (name : Name) → nearest_of e.host e.sources name.source (attempt_at (source_at e name.source) name.number.0).tried 8 ≡ nearest e name 8
unfolding nearest untried nearest_of
nearest-is e name = refl

-- what Fetch does with a name that may be fetched
module _ (e : End) (name : Name) (may : may_fetch e name ≡ true) (was : Attempt) (best : Nearest)
    (done_so : was ≡ attempt_at (source_at e name.source) name.number.0) (chosen : best ≡ nearest_of e.host e.sources name.source was.tried 8) where
  tried-is : fetch_of name e ≡ try_of name e best
  unfolding fetch_of
  tried-is =
      rw may (ap (try_of name e) (sym (chosen ∙ ap (λ (a : Attempt). nearest_of e.host e.sources name.source a.tried 8) done_so ∙ nearest-is e name)))

  pub none-tried : best ≡ Nobody → fetch_of name e ≡ give Exhausted e
  unfolding try_of
  none-tried p = tried-is ∙ ap (try_of name e) p

  pub one-tried : (h : Host) (d : ℕ) → best ≡ Found h d
      → fetch_of name e ≡ give (Out (bytes_of (fetch_message (moment_of e) name h))) (on_source e name.source (tries name.number.0 h))
  unfolding try_of
  one-tried h d p = tried-is ∙ ap (try_of name e) p

-- a name that may be fetched is of a host's source
pub fetched-host : (e : End) (name : Name) → may_fetch e name ≡ true → name.source.0 < 8
unfolding may_fetch
fetched-host e name h = ltb-true name.source.0 8 (and_left (host_in name.source) _ h)

-- ---- the kinds 22 and 23
module _ (m : Meaning) (e : End) where
  abbrev Entry : NameEntry
  Entry = get_or m.names 0 blank_name

  abbrev Named : Source
  Named = source_at e (message_name m).source

  -- a choice of steps is the step of a choice
  either : (test : Bool) (x y : Effect) (f : Source → Source) (h : Host)
      → cond test (give x (on_source e h f)) (give y e) ≡ give (cond test x y) (on_source e h (λ s. cond test (f s) s))
  either true x y f h = refl
  either false x y f h = ap (give y) (sym (unchanged e h))

  choice : (test : Bool) (x y : Effect) (h : Host) → cond test (give x e) (give y e) ≡ give (cond test x y) (on_source e h (λ s. s))
  choice true x y h = ap (give x) (sym (unchanged e h))
  choice false x y h = ap (give y) (sym (unchanged e h))

  pub fetched-is : fetched_of m e ≡ give (answered_effect (moment_of e) Entry m.sender Named) (on_source e (message_name m).source (λ s. s))
  unfolding fetched_of may_answer
  fetched-is = choice (answers e.host Entry Named) _ Ignored (message_name m).source

  pub late_is : late_of m e
      ≡ give (late_effect e.host Entry m.sender (message_cue m) Named) (on_source e (message_name m).source (late_source e.host Entry m.sender))
  unfolding late_of may_hand
  late_is =
      either (hands e.host Entry m.sender Named) (Late (message_name m) (message_cue m)) Ignored (hands_late (message_name m).number.0)
      (message_name m).source
