-- Fetching what came before (document 02, P9): what is known of a name that may be fetched and of the host that a Fetch tries, and that Fetch
-- and the kinds 22 and 23 leave a sound state.
use mathlib.Core.Path.{◌≡◌, refl, sym, ap, ◌∙◌}
use Prim.Native.Nat.{ℕ, zero, suc, ◌≤◌, ◌<◌}
use native.Mathlib.Omega.{arith}
use mathlib.Core.Bool.{Bool, true, false, not, ◌&&◌}
use lib.Dec.{eqb, leb, ltb}
use borrow.Author.Tests.{ltb-true, ltb-false, leb-true, not-true}
use Rattle.numbers.specs.Bits.{bit}
use Rattle.numbers.proofs.Cases.{by_order}
use Rattle.message.specs.declared.Host.{Host}
use Rattle.message.specs.declared.Name.{Name}
use Rattle.message.specs.Entry.{as_host}
use Rattle.message.specs.Message.{Meaning}
use Rattle.message.specs.Question.{host_in, same_host}
use Rattle.message.proofs.QuestionLaws.{and_both}
use Rattle.end.specs.Parts.{Span, Closed, Open, Origin, NoOrigin, From, Nearest, Nobody, Found}
use Rattle.end.specs.declared.End.{End}
use Rattle.end.specs.State.{source_at, distance_to, is_member}
use Rattle.end.specs.Records.{fetchable}
use Rattle.end.specs.Sound.{origin_sound}
use Rattle.end.specs.Messages.{message_name, message_host}
use Rattle.end.specs.Answer.{Step}
use Rattle.end.specs.Ready.{SpanIn}
use Rattle.end.specs.Fire.{fold_up}
use Rattle.end.specs.Fetch.{attempt_on, may_fetch, reported_by, candidate, untried, nearer, nearest, try_of, fetch_of, may_answer, fetched_of, may_hand, late_of}
use Rattle.end.proofs.Tools.{by_cond, clash, clash'}
use Rattle.end.proofs.AttemptLaws.{below}
use Rattle.invariants.specs.Outputs.{MayTry}
use Rattle.invariants.proofs.Facts.{SoundState, span_in}
use Rattle.invariants.proofs.Attempts.{tried-kept, late-kept}
use Rattle.invariants.proofs.Ends.{source-kept}

-- ---- a name that may be fetched
pub record Fetchable (e : End) (name : Name) : Type 0 where
  pub source : name.source.0 < 8
  pub number : name.number.0 < 65536
  pub other : same_host name.source e.host ≡ false
  pub below : fetchable (source_at e name.source).origin name.number.0 ≡ true
  pub lacking : (attempt_on e name).late ≡ false

-- a first original is another's, and at most first
origin_of_lem : (own : Bool) (x : Span) (o : Origin) (n : ℕ) → origin_sound own x o ≡ true → SpanIn x → fetchable o n ≡ true → (own ≡ false) × (n < 65536)
origin_of_lem own x NoOrigin n h k v = clash' v
origin_of_lem own Closed (From m) n h k v = clash' h
origin_of_lem own (Open first last) (From m) n h k v =
    let both = and_both (not own) (leb m.0 first.0) h in
    (not-true own both.0, omega (arith, (below m.0 n v).under, leb-true m.0 first.0 both.1, k.0, k.1))

-- so a number that may be fetched is another's
module _ (e : End) (f : SoundState e) (name : Name) (hs : name.source.0 < 8)
    (may : fetchable (source_at e name.source).origin name.number.0 ≡ true) where
  origin_in_lem : (same_host name.source e.host ≡ false) × (name.number.0 < 65536)
  origin_in_lem =
      let s = source_at e name.source in
      let q = f.each name.source.0 hs in
      origin_of_lem (same_host name.source e.host) s.span s.origin name.number.0 q.origin
      (span_in e.host e.next e.clock (is_member e.status) name.source s q) may

  pub other-source : same_host name.source e.host ≡ false
  other-source = origin_in_lem.0

pub fetchable_in : (e : End) → SoundState e → (name : Name) → may_fetch e name ≡ true → Fetchable e name
unfolding may_fetch
fetchable_in e f name h =
    let a = and_both (host_in name.source) _ h in
    let b = and_both (fetchable (source_at e name.source).origin name.number.0) (not (attempt_on e name).late) a.1 in
    let hs = ltb-true name.source.0 8 a.0 in
    let o = origin_in_lem e f name hs b.0 in
    record { source = hs; number = o.1; other = o.0; below = b.0; lacking = not-true (attempt_on e name).late b.1 }

-- ---- the host that is tried
module _ (e : End) (name : Name) where
  pub may_try : (h : Host) → untried e name h.0 ≡ true → MayTry e name h
  unfolding untried
  may_try h t =
      let a = and_both (candidate e name h.0) (not (bit (attempt_on e name).tried h.0)) t in
      let b = and_both (not (eqb h.0 e.host.0)) (reported_by (source_at e h).heard name.source) a.0 in
      record { other = not-true (eqb h.0 e.host.0) b.0; reports = b.1; untried = not-true (bit (attempt_on e name).tried h.0) a.1 }

  pub try_may : (h : Host) → MayTry e name h → untried e name h.0 ≡ true
  unfolding untried
  try_may h m = λ i. (not (m.other i) && m.reports i) && not (m.untried i)

  -- the nearest of the untried candidates below k, the lowest of those that are as near
  pub record NearestOf (k : ℕ) (h : Host) (d : ℕ) : Type 0 where
    pub host : h.0 < k
    pub may : untried e name h.0 ≡ true
    pub distance : d ≡ distance_to e h
    pub least : (j : ℕ) → j < k → untried e name j ≡ true → d ≤ distance_to e (as_host j)
    pub lower : (j : ℕ) → j < h.0 → untried e name j ≡ true → d < distance_to e (as_host j)

  -- there is nobody exactly where none is left
  abbrev pub NearestIs : ℕ → Nearest → Type 0
  NearestIs k Nobody = (j : ℕ) → j < k → untried e name j ≡ false
  NearestIs k (Found h d) = NearestOf k h d

  -- a host that is no untried candidate is passed over
  passed : (k : ℕ) → untried e name k ≡ false → (x : Nearest) → NearestIs k x → NearestIs (suc k) x
  passed k lost Nobody q = λ j l. by_order j k (q j) (λ g. let same : j ≡ k = omega arith in ap (untried e name) same ∙ lost)
  passed k lost (Found h d) q = record {
    host = omega (arith, q.host);
    may = q.may;
    distance = q.distance;
    least = λ j l t. by_order j k (λ g. q.least j g t) (λ g. let same : j ≡ k = omega arith in clash (sym t ∙ ap (untried e name) same ∙ lost));
    lower = q.lower;
  }

  -- one that is nearer than all before it, and one that is not
  module _ (k : ℕ) (may : untried e name k ≡ true) where
    abbrev far : ℕ
    far = distance_to e (as_host k)

    taken : ((j : ℕ) → j < k → untried e name j ≡ true → far < distance_to e (as_host j)) → NearestOf (suc k) (as_host k) far
    taken nearer = record {
      host = omega arith;
      may = may;
      distance = refl;
      least = λ j l t. by_order j k (λ g. omega (arith, nearer j g t)) (λ g. let same : j ≡ k = omega arith in rw same (omega arith));
      lower = nearer;
    }

    met : (x : Nearest) → NearestIs k x → NearestIs (suc k) (nearer x (as_host k) far)
    met Nobody q = taken (λ j l t. clash (sym t ∙ q j l))
    met (Found h d) q =
        by_cond (NearestIs (suc k)) (ltb far d)
        (λ t. let near = ltb-true far d t in taken (λ j l u. omega (arith, near, q.least j l u)))
        (λ t.
        let near = ltb-false far d t in
        record {
          host = omega (arith, q.host);
          may = q.may;
          distance = q.distance;
          least = λ j l u. by_order j k (λ g. q.least j g u) (λ g. let same : j ≡ k = omega arith in rw same near);
          lower = q.lower;
        })

  pub nearest-is : (k : ℕ) → NearestIs k (nearest e name k)
  unfolding nearest fold_up
  nearest-is zero = λ j l. absurd (omega arith)
  nearest-is (suc k) =
      let best = nearest e name k in
      by_cond (NearestIs (suc k)) (untried e name k) (λ t. met k t best (nearest-is k)) (λ t. passed k t best (nearest-is k))

-- ---- sound stays sound
module _ (e : End) (f : SoundState e) where
  -- Fetch
  try_kept : (name : Name) → Fetchable e name → (x : Nearest) → NearestIs e name 8 x → SoundState (try_of name e x).left
  unfolding try_of
  try_kept name v Nobody q = f
  try_kept name v (Found h d) q =
      source-kept e name.source _ f
      (tried-kept (source_at e name.source) (f.each name.source.0 v.source) name.number.0 h v.below (may_try e name h q.may).other)

  pub fetch-kept : (name : Name) → SoundState (fetch_of name e).left
  unfolding fetch_of
  fetch-kept name =
      by_cond (λ (r : Step). SoundState r.left) (may_fetch e name)
      (λ t. try_kept name (fetchable_in e f name t) (nearest e name 8) (nearest-is e name 8)) (λ _. f)

  -- kind 22
  pub fetched-kept : (m : Meaning) → SoundState (fetched_of m e).left
  unfolding fetched_of
  fetched-kept m = by_cond (λ (r : Step). SoundState r.left) (may_answer e m) (λ _. f) (λ _. f)

  -- kind 23: of what is handed out it is known that the sender was tried
  pub handed_in_lem : (m : Meaning) → may_hand e m ≡ true → (same_host (message_host m) e.host ≡ true)
      × (bit (attempt_on e (message_name m)).tried m.sender.0 ≡ true) × ((attempt_on e (message_name m)).late ≡ false)
  unfolding may_hand
  handed_in_lem m t =
      let a = and_both (same_host (message_host m) e.host) _ t in
      let was = attempt_on e (message_name m) in
      let b = and_both (bit was.tried m.sender.0) (not was.late) a.1 in
      (a.0, b.0, not-true was.late b.1)

  pub handed-kept : (m : Meaning) → (message_name m).source.0 < 8 → SoundState (late_of m e).left
  unfolding late_of
  handed-kept m hs =
      let name = message_name m in
      by_cond (λ (r : Step). SoundState r.left) (may_hand e m)
      (λ t. source-kept e name.source _ f
      (late-kept (source_at e name.source) (f.each name.source.0 hs) name.number.0 m.sender.0 (handed_in_lem m t).1))
      (λ _. f)
