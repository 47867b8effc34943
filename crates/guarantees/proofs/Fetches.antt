-- The events Fetch and Announce and the messages of kinds 22 and 23 by their cases: each leaves the end as it was, or with other marks of the numbers below a
-- source's first original. So the proofs that speak of anything else have one clause for them.
use mathlib.Core.Path.{subst}
use mathlib.Core.List.{List}
use Prim.Native.Nat.{ℕ}
use Rattle.message.specs.declared.Host.{Host}
use Rattle.message.specs.declared.Name.{Name}
use Rattle.message.specs.Message.{Meaning}
use Rattle.end.specs.declared.Attempt.{Attempt}
use Rattle.end.specs.declared.Moment.{Moment}
use Rattle.end.specs.Parts.{Span, Closed, Open, Nearest, Nobody, Found}
use Rattle.end.specs.declared.Source.{Source}
use Rattle.end.specs.declared.End.{End}
use Rattle.end.specs.State.{no_source, source_at, moment_of, with_attempts, with_source}
use Rattle.end.specs.Messages.{message_name, message_cue}
use Rattle.end.specs.Answer.{Out, Ignored, Nothing, Late, Exhausted, Step, give}
use Rattle.end.specs.Fetch.{may_fetch, nearest, try_of, fetch_of, may_answer, fetched_of, may_hand, late_of}
use Rattle.end.specs.Event.{announced, announce_of}
use Rattle.end.proofs.Tools.{by_cond, set_elim}
use Rattle.guarantees.proofs.Names.{source_of}

-- the end with other marks under one source
abbrev pub marked : End → Host → List Attempt → End
marked e h l = with_source e h (with_attempts (source_at e h) l)

pub fetch-cases : (P : Step → Type 0) (name : Name) (e : End) → P (give Ignored e) → P (give Exhausted e)
    → ((bytes : List ℕ) (l : List Attempt) → P (give (Out bytes) (marked e name.source l))) → P (fetch_of name e)
unfolding fetch_of try_of
fetch-cases P name e ignored exhausted tried = by_cond P (may_fetch e name) (λ _. go (nearest e name 8)) (λ _. ignored)
  where
    go : (x : Nearest) → P (try_of name e x)
    go Nobody = exhausted
    go (Found h d) = tried _ _

pub announce-cases : (P : Step → Type 0) (e : End) → P (give Nothing e) → ((bytes : List ℕ) → P (give (Out bytes) e)) → P (announce_of e)
announce-cases P e nothing out = go (moment_of e) (source_at e e.host).span
  where
    go : (t : Moment) (x : Span) → P (announced t x e)
    go t Closed = nothing
    go t (Open first last) = out _

pub fetched-cases : (P : Step → Type 0) (m : Meaning) (e : End) → P (give Ignored e) → ((bytes : List ℕ) → P (give (Out bytes) e)) → P (fetched_of m e)
unfolding fetched_of
fetched-cases P m e ignored answered = by_cond P (may_answer e m) (λ _. answered _) (λ _. ignored)

pub late-cases : (P : Step → Type 0) (m : Meaning) (e : End) → P (give Ignored e)
    → ((l : List Attempt) → P (give (Late (message_name m) (message_cue m)) (marked e (message_name m).source l))) → P (late_of m e)
unfolding late_of
late-cases P m e ignored handed = by_cond P (may_hand e m) (λ _. handed _) (λ _. ignored)

-- what holds of a source with any marks holds of each source then
pub marked_at : (P : Source → Type 0) (e : End) (h : Host) (l : List Attempt) (s : ℕ) → P (source_of e s) → P (with_attempts (source_of e s) l)
    → P (source_of (marked e h l) s)
marked_at P e h l s was now =
    set_elim P e.sources h.0 s (with_attempts (source_at e h) l) no_source (λ i. subst (λ (k : ℕ). P (with_attempts (source_of e k) l)) i now) was
