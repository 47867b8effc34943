-- What a DATA, RQST, REPL or XPRS does to every record of an end that passed its questions, by what is decided, a line each.
use mathlib.Core.Path.{◌≡◌, refl, sym, ap, ◌∙◌, subst}
use mathlib.Core.Bool.{Bool, true, false, cond, ◌&&◌}
use mathlib.Core.List.{List}
use Prim.Native.Nat.{ℕ, ◌+◌, ◌≤◌, ◌<◌}
use native.Mathlib.Omega.{arith}
use lib.ListN.{length, get_or}
use lib.Dec.{eqb}
use borrow.Author.Tests.{eqb-true, eqb-false, eq-eqb, ne_eqb, lt-ltb}
use Rattle.message.specs.declared.Host.{Host}
use Rattle.message.specs.Message.{DATA, RQST, REPL, XPRS, Meaning}
use Rattle.end.specs.Parts.{Express, Unset, Soon, Pair, Span, Closed, Open}
use Rattle.end.specs.declared.Slot.{Slot}
use Rattle.end.specs.declared.Slot.TheVariants.{Empty, Held, Waiting}
use Rattle.end.specs.declared.Record.{Record}
use Rattle.end.specs.declared.Source.{Source}
use Rattle.end.specs.declared.End.{End}
use Rattle.end.specs.declared.Moment.{Moment}
use Rattle.end.specs.declared.Says.{Says}
use Rattle.end.specs.declared.Says.TheVariants.{Data, Rqst, Repl, Xprs}
use Rattle.end.specs.declared.Word.{Word}
use Rattle.end.specs.declared.Decision.{Decision}
use Rattle.end.specs.declared.Decision.TheVariants.{Ignores, Opens, Takes, Repairs, Hushes, Replies, Learns, BacksOff, Clashes, Expresses}
use Rattle.end.specs.State.{no_record, no_source, source_at, distance_to, moment_of, with_span}
use Rattle.end.specs.Records.{within, is_above, start, place, raw_at, record_at, with_record, is_held, express_in}
use Rattle.end.specs.Round.{request_at}
use Rattle.end.specs.Names.{holding, hold, expressed, quiet_reply, is_requester, asked, rise_with}
use Rattle.end.specs.Sound.{outside_sound}
use Rattle.end.specs.Decide.{decide, paired, opened, apply, step_at}
use Rattle.end.specs.Arrival.{message_name, message_cue, requester_in, word_of, word_step}
use Rattle.end.proofs.Facts.{narrow}
use Rattle.end.proofs.Grounds.{Missing, is_data, is_request, Grounds, grounds}
use Rattle.end.proofs.RecordLaws.{Narrow, place_in, at-inside, at_outside, read_same, read_other, store_elim, stored_length, within_in}
use Rattle.end.proofs.RiseLaws.{rise-distance, rise-heard, rise-length, rise_elim, rise_narrow, rise-reaches}
use Rattle.end.proofs.Tools.{by_test, set_elim, clash, clash', eqb_flip}
use Rattle.invariants.proofs.Facts.{SoundState, span_in}
use Rattle.guarantees.specs.Records.{request_in, SpanMayBecome, retires}
use Rattle.guarantees.specs.Arrivals.{SameEnd, is_about, asks, repairs, express_by, has_name, touches, SpanAs, is_data_of, is_session_of}
use Rattle.guarantees.proofs.Names.{waits-inside, held-inside, above-blank, source_of, one-within}
use Rattle.guarantees.proofs.Retired.{stays_or_rises, rise-moves, moves-on, none-retired, outside_before, inside_unretired, risen-above, rise-retires}
use Rattle.guarantees.proofs.Heard.{or_first, or_second, carried_by, Heard, in_gap, heard-none, heard-asked, heard-next, heard-cue, heard-quieted, heard-express, heard_reply, is-about, repairs-missing, repairs-same, expresses_it, not-kind, not-number, not-asked, asked-rqst, asked_xprs, touches_it, touches-risen}

-- ---- first and last
pub span_as_stays : (opens : Bool) (x : Span) → SpanAs opens x x
span_as_stays opens Closed = tt
span_as_stays opens (Open first last) = stays_or_rises first last

-- what is left of a rise
pub span-rise : (new : ℕ → Record) (n : ℕ) (s : Source) (opens : Bool) (x y : Span) → Narrow y → SpanAs opens x y
    → SpanAs opens x (rise_with new n (with_span s y) y).span
unfolding rise_with
span-rise new n s opens Closed Closed o h = tt
span-rise new n s opens Closed (Open first last) o h = h
span-rise new n s opens (Open f l) Closed o h = h
span-rise new n s opens (Open f l) (Open first last) o h = moves-on f l first last _ _ h (rise-moves n first last o)

pub span-may : (emptied opens : Bool) (x y : Span) → SpanAs opens x y → SpanMayBecome emptied x y
span-may emptied opens Closed y h = tt
span-may emptied opens (Open first last) Closed h = absurd h
span-may emptied opens (Open first last) (Open first' last') h = h

-- what a message makes of first, last, distance and heard stamp of source h
abbrev pub HeardRest : Meaning → ℕ → Source → Source → Type 0
HeardRest m h s p = SpanAs (is_data_of m h) s.span p.span × (is_session_of m h ≡ false → (p.distance ≡ s.distance) × (p.heard ≡ s.heard))

-- and of the whole source; `to` has the distances before
pub record HeardSource (t : Moment) (us : List ℕ) (m : Meaning) (to : Host → ℕ) (h : ℕ) (s p : Source) : Type 0 where
  pub rest : HeardRest m h s p
  pub gone : (j : ℕ) → retires s.span p.span j ≡ true → touches m h s.span j ≡ true
  pub each : (j : ℕ) → retires s.span p.span j ≡ false
      → Heard t us m to s.distance (express_by t m h s.pair) h j (touches m h s.span j) (in_gap m s.span j) (record_at s j) (record_at p j)

-- what a message makes of an end
pub record HeardEnd (t : Moment) (us : List ℕ) (m : Meaning) (e p : End) : Type 0 where
  pub same : SameEnd e p
  pub sources : (h : ℕ) → h < 8 → HeardSource t us m (distance_to e) h (source_of e h) (source_of p h)

pub same_end : (e : End) → SameEnd e e
same_end e = record { host = refl; params = refl; status = refl; next = refl }

pub source-none : (t : Moment) (us : List ℕ) (m : Meaning) (to : Host → ℕ) (h : ℕ) (s : Source) → HeardSource t us m to h s s
source-none t us m to h s = record {
  rest = (span_as_stays (is_data_of m h) s.span, λ _. (refl, refl));
  gone = λ j r. clash (sym r ∙ none-retired s.span j);
  each = λ j _. heard-none t us m to s.distance _ h j _ _ (record_at s j);
}

pub heard-ignored : (t : Moment) (us : List ℕ) (m : Meaning) (e : End) → HeardEnd t us m e e
heard-ignored t us m e = record { same = same_end e; sources = λ h hh. source-none t us m (distance_to e) h (source_of e h) }

-- ---- the kind of a message
abbrev pub kind_of : Says → ℕ
kind_of Data = DATA
kind_of Rqst = RQST
kind_of Repl = REPL
kind_of Xprs = XPRS

module _ (m : Meaning) where
  pub has_name_lem : (says : Says) → eqb m.kind (kind_of says) ≡ true → has_name m ≡ true
  has_name_lem Data k = or_first (eqb m.kind DATA) _ k
  has_name_lem Rqst k = or_second (eqb m.kind DATA) _ (or_first (eqb m.kind RQST) _ k)
  has_name_lem Repl k = or_second (eqb m.kind DATA) _ (or_second (eqb m.kind RQST) _ (or_first (eqb m.kind REPL) _ k))
  has_name_lem Xprs k = or_second (eqb m.kind DATA) _ (or_second (eqb m.kind RQST) _ (or_second (eqb m.kind REPL) _ k))

  another : (says : Says) (kind : ℕ) → eqb m.kind (kind_of says) ≡ true → (kind_of says ≡ kind → ⊥) → eqb m.kind kind ≡ false
  another says kind k d = ne_eqb m.kind kind (λ r. d (sym (eqb-true m.kind (kind_of says) k) ∙ r))

  -- no request is heard by a message of another kind
  unasked : (says : Says) → is_request says ≡ false → eqb m.kind (kind_of says) ≡ true → (h j : ℕ) → asks m h j ≡ false
  unasked Data u k h j =
      not-asked m h j (not-kind RQST m h j (another Data RQST k (λ d. omega arith))) (not-kind XPRS m h j (another Data XPRS k (λ d. omega arith)))
  unasked Rqst u k h j = clash u
  unasked Repl u k h j =
      not-asked m h j (not-kind RQST m h j (another Repl RQST k (λ d. omega arith))) (not-kind XPRS m h j (another Repl XPRS k (λ d. omega arith)))
  unasked Xprs u k h j = clash u

  -- and one is by either of the two, whose sender is the requester
  asked_it : (says : Says) → is_request says ≡ true → eqb m.kind (kind_of says) ≡ true → asks m (message_name m).source.0 (message_name m).number.0 ≡ true
  asked_it Data u k = clash' u
  asked_it Rqst u k = asked-rqst m _ _ (is-about RQST m k)
  asked_it Repl u k = clash' u
  asked_it Xprs u k = asked_xprs m _ _ (is-about XPRS m k)

  asker : (says : Says) → is_request says ≡ true → requester_in says m ≡ m.sender
  asker Data u = clash' u
  asker Rqst u = refl
  asker Repl u = clash' u
  asker Xprs u = refl

  -- a message of another kind than DATA sets no express wait
  no_data : (says : Says) → is_data says ≡ false → eqb m.kind (kind_of says) ≡ true → eqb m.kind DATA ≡ false
  no_data Data u k = clash u
  no_data Rqst u k = another Rqst DATA k (λ d. omega arith)
  no_data Repl u k = another Repl DATA k (λ d. omega arith)
  no_data Xprs u k = another Xprs DATA k (λ d. omega arith)

  pub no_express : (t : Moment) (h : ℕ) (pair : Pair) → eqb m.kind DATA ≡ false → express_by t m h pair ≡ Unset
  unfolding express_by is_data_of
  no_express t h pair k = rw k

asks_no_data : (says : Says) → is_request says ≡ true → is_data says ≡ false
asks_no_data Data u = clash' u
asks_no_data Rqst u = refl
asks_no_data Repl u = refl
asks_no_data Xprs u = refl

-- what stands outside first..last has reply-quiet 0
outside_hush : (r : Record) (x : Slot) → outside_sound r x ≡ true → r.hush ≡ 0
outside_hush r Empty h = eqb-true r.hush 0 h
outside_hush r (Held reply) h = clash' h
outside_hush r (Waiting q x) h = clash' h

-- ---- DATA, RQST, REPL and XPRS: one source
module _ (us : List ℕ) (m : Meaning) (e : End) (f : SoundState e) (says : Says) (kind : eqb m.kind (kind_of says) ≡ true)
    (hs : (message_name m).source.0 < 8) where
  abbrev h₀ : ℕ
  h₀ = (message_name m).source.0

  abbrev n₀ : ℕ
  n₀ = (message_name m).number.0

  abbrev s₀ : Source
  s₀ = source_at e (message_name m).source

  abbrev t₀ : Moment
  t₀ = moment_of e

  abbrev w₀ : Word
  w₀ = word_of says m e

  -- the express wait beside a new request
  abbrev x₀ : Express
  x₀ = express_by t₀ m h₀ s₀.pair

  -- what becomes of record j, and of the source
  abbrev Becomes : ℕ → Record → Type 0
  Becomes j p = Heard t₀ us m (distance_to e) s₀.distance x₀ h₀ j (touches m h₀ s₀.span j) (in_gap m s₀.span j) (record_at s₀ j) p

  abbrev Hears : Source → Type 0
  Hears = HeardSource t₀ us m (distance_to e) h₀ s₀

  named : has_name m ≡ true
  named = has_name_lem m says kind

  it : touches m h₀ s₀.span n₀ ≡ true
  it = touches_it m named s₀

  kind-is : (k : Says) → says ≡ k → eqb m.kind (kind_of k) ≡ true
  kind-is k p = ap (λ (z : Says). eqb m.kind (kind_of z)) (sym p) ∙ kind

  about : (k : Says) → says ≡ k → is_about (kind_of k) m h₀ n₀ ≡ true
  about k p = is-about (kind_of k) m (kind-is k p)

  carried_data : says ≡ Data → carried_by m h₀ n₀ ≡ true
  carried_data p = or_first (is_about DATA m h₀ n₀) _ (about Data p)

  long : length s₀.names ≡ 64
  long = (f.each h₀ hs).names

  thin : Narrow s₀.span
  thin = narrow s₀.span (span_in _ _ _ _ _ s₀ (f.each h₀ hs))

  unchanged : Hears s₀
  unchanged = source-none t₀ us m (distance_to e) h₀ s₀

  -- a source of 64 records in which the named number lies inside
  record Open-at (x : Source) : Type 0 where
    sized : length x.names ≡ 64
    thin : Narrow x.span
    inside : within x.span n₀ ≡ true

  -- another record in the named one's place
  stored : (x : Source) (r : Record) → Open-at x → Hears x → Becomes n₀ r → Hears (with_record x n₀ r)
  stored x r o q p = record {
    rest = q.rest;
    gone = q.gone;
    each = λ j kept. store_elim (Becomes j) x n₀ r j o.thin o.inside o.sized (λ i. subst (λ k. Becomes k r) (sym i) p) (q.each j kept);
  }

  -- the same where the others alone are known
  placed : (x : Source) (r : Record) → Open-at x → Becomes n₀ r → (j : ℕ) → (eqb j n₀ ≡ false → Becomes j (record_at x j))
      → Becomes j (record_at (with_record x n₀ r) j)
  placed x r o p j q = by_test (eqb j n₀)
      (λ b. subst (λ k. Becomes k (record_at (with_record x n₀ r) k)) (sym (eqb-true j n₀ b))
      (subst (Becomes n₀) (sym (read_same x n₀ r o.inside o.sized)) p))
      (λ b. subst (Becomes j) (sym (read_other x n₀ r j o.thin o.inside b)) (q b))

  now-inside : (x : Source) → Open-at x → retires s₀.span x.span n₀ ≡ false
  now-inside x o = inside_unretired s₀.span x.span n₀ o.inside

  -- its reply goes
  quiet_then : (x : Source) → Open-at x → Hears x → says ≡ Repl → repairs m h₀ n₀ (record_at s₀ n₀) ≡ true → Hears (quiet_reply t₀ n₀ w₀.distance x)
  quiet_then x o q p heals =
      stored x _ o q (heard-quieted t₀ us m (distance_to e) s₀.distance x₀ h₀ n₀ _ _ it (record_at s₀ n₀) (record_at x n₀) (q.each n₀ (now-inside x o))
      heals (requester_in says m) (ap (λ (z : Says). requester_in z m) p))

  -- its pair is kept, which is no record's matter
  paired-then : (x : Source) → Hears x → Hears (paired w₀ x)
  unfolding record_at
  paired-then x q = record { rest = q.rest; gone = q.gone; each = q.each }

  -- the source as it was, where the named number lies inside
  as_it_was : within s₀.span n₀ ≡ true → Open-at s₀
  as_it_was w = record { sized = long; thin = thin; inside = w }

  held_open : is_held (record_at s₀ n₀).slot ≡ true → Open-at s₀
  held_open h = as_it_was (held-inside s₀ n₀ h)

  here : Becomes n₀ (record_at s₀ n₀)
  here = unchanged.each n₀ (none-retired s₀.span n₀)

  -- ---- last rises to the named number, and x is what new requests have beside them
  module _ (x : Express) where
    abbrev fresh : ℕ → Record
    fresh n = expressed x (asked t₀ us s₀.distance n)

    abbrev risen₀ : Source
    risen₀ = rise_with fresh n₀ s₀ s₀.span

    risen-rest : HeardRest m h₀ s₀ risen₀
    risen-rest = (
      span-rise fresh n₀ s₀ (is_data_of m h₀) s₀.span s₀.span thin (span_as_stays (is_data_of m h₀) s₀.span),
      λ _. (rise-distance fresh n₀ s₀ s₀.span, rise-heard fresh n₀ s₀ s₀.span),
    )

    risen_open : Missing w₀ (record_at s₀ n₀) s₀.span → Open-at risen₀
    risen_open k = record {
      sized = rise-length fresh n₀ s₀ s₀.span ∙ long;
      thin = rise_narrow fresh n₀ s₀ s₀.span refl thin;
      inside = subst (λ (x : Span). within (rise_with fresh n₀ s₀ x).span n₀ ≡ true) (sym k.span)
          (rise-reaches fresh n₀ s₀ k.first k.last (subst Narrow k.span thin) k.least);
    }

    -- what it retires lies more than 63 below the named number
    risen_gone : (j : ℕ) → retires s₀.span risen₀.span j ≡ true → touches m h₀ s₀.span j ≡ true
    risen_gone j r = touches-risen m named s₀ j (rise-retires fresh n₀ s₀ s₀.span j r)

    -- every number but the named one
    risen-each : x ≡ x₀ → (j : ℕ) → eqb j n₀ ≡ false → asks m h₀ j ≡ false → retires s₀.span risen₀.span j ≡ false → Becomes j (record_at risen₀ j)
    risen-each beside j b u kept = rise_elim (Becomes j) fresh n₀ s₀ s₀.span refl long j
        (λ above most. heard-asked t₀ us m (distance_to e) s₀.distance x₀ h₀ j _ _ (touches-risen m named s₀ j (risen-above s₀.span n₀ j above most))
        (record_at s₀ j) (above-blank s₀ j above) _ 0 refl _ (ap (λ (a : Bool). request_at t₀ us s₀.distance j (cond a 2 1)) (sym u))
        x beside (λ due set. λ i. above i && lt-ltb j n₀ (less j b most) i))
        (λ _. unchanged.each j (none-retired s₀.span j))
        (λ out.
        let before = outside_before s₀.span risen₀.span j (span-may false (is_data_of m h₀) s₀.span risen₀.span risen-rest.0) thin kept out in
        subst (Becomes j) (at_outside s₀ j before) (unchanged.each j (none-retired s₀.span j)))
      where
        less : (j : ℕ) → eqb j n₀ ≡ false → j ≤ n₀ → j < n₀
        less j b l = let apart : j ≡ n₀ → ⊥ = eqb-false j n₀ b in omega (arith, apart)

    -- the reply-quiet time of the named number stays
    risen_hush : Missing w₀ (record_at s₀ n₀) s₀.span → (record_at risen₀ n₀).hush ≡ (record_at s₀ n₀).hush
    risen_hush k = rise_elim (λ (y : Record). y.hush ≡ (record_at s₀ n₀).hush) fresh n₀ s₀ s₀.span refl long n₀
        (λ above _. sym (ap (λ (r : Record). r.hush) (above-blank s₀ n₀ above)))
        (λ _. refl)
        (λ out. clash (sym (risen_open k).inside ∙ out))

    -- then the named one's cue is held
    taken : x ≡ x₀ → is_request says ≡ false → Missing w₀ (record_at s₀ n₀) s₀.span → carried_by m h₀ n₀ ≡ true → Hears (hold n₀ (message_cue m) risen₀)
    taken beside other k carried = record {
      rest = risen-rest;
      gone = risen_gone;
      each = λ j kept. placed risen₀ _ (risen_open k)
          (heard-cue t₀ us m (distance_to e) s₀.distance x₀ h₀ n₀ _ _ it (record_at s₀ n₀) (record_at risen₀ n₀) (risen_hush k) k.lacks carried) j
          (λ b. risen-each beside j b (unasked m says other kind h₀ j) kept);
    }

  -- ---- by what was decided
  opens : says ≡ Data → s₀.span ≡ Closed → Hears (apply t₀ us w₀ Opens s₀)
  unfolding apply is_data_of
  opens p closed =
      let x = opened w₀ s₀ in
      let o : Open-at x = record { sized = long; thin = (omega arith, omega arith); inside = within_in n₀ n₀ n₀ (omega arith) (omega arith) } in
      let hush : (record_at x n₀).hush ≡ 0 = ap (λ (r : Record). r.hush) (at-inside x n₀ o.inside) ∙ closed_hush n₀ closed in
      let out : (j : ℕ) → within s₀.span j ≡ false = λ j. ap (λ (y : Span). within y j) closed in
      let was = at_outside s₀ n₀ (out n₀) in
      let held = heard-cue t₀ us m (distance_to e) s₀.distance x₀ h₀ n₀ _ _ it (record_at s₀ n₀) (record_at x n₀)
      (hush ∙ sym (ap (λ (r : Record). r.hush) was)) (ap (λ (r : Record). is_held r.slot) was) (carried_data p) in
      record {
        rest = (subst (λ (y : Span). SpanAs (is_data_of m h₀) y x.span) (sym closed) (λ i. kind-is Data p i && eq-eqb h₀ h₀ refl i), λ _. (refl, refl));
        gone = λ j r. clash' (sym (ap (λ (y : Span). retires y x.span j) closed) ∙ r);
        each = λ j _. placed x (holding (record_at x n₀) (message_cue m)) o held j
            (λ b. subst (Becomes j) (at_outside s₀ j (out j) ∙ sym (at_outside x j (one-within n₀ j b))) (unchanged.each j (none-retired s₀.span j)));
      }
    where
      -- the places of a source with no first have reply-quiet 0: each is that of one of the numbers 0 to 63
      closed_hush : (n : ℕ) → s₀.span ≡ Closed → (raw_at s₀.names n).hush ≡ 0
      closed_hush n closed =
          let k = place n in
          let low : start s₀.span ≡ 0 = ap start closed in
          let same : raw_at s₀.names n ≡ raw_at s₀.names k = ap (λ (i : ℕ). get_or s₀.names i no_record) (omega arith) in
          let raw = raw_at s₀.names k in
          ap (λ (r : Record). r.hush) same
          ∙ outside_hush raw raw.slot ((f.each h₀ hs).outside k (omega arith) (omega (arith, place_in n)) (ap (λ (y : Span). within y k) closed))

  -- the named number in round 2, those between in round 1
  learned : is_request says ≡ true → Missing w₀ (record_at s₀ n₀) s₀.span → is_above s₀.span n₀ ≡ true → Hears (apply t₀ us w₀ Learns s₀)
  unfolding apply
  learned p k above =
      let none_beside : x₀ ≡ Unset = no_express m t₀ h₀ s₀.pair (no_data m says (asks_no_data says p) kind) in
      let was = above-blank s₀ n₀ above in
      let now = record_at (risen₀ Unset) n₀ in
      let hush = risen_hush Unset k ∙ ap (λ (r : Record). r.hush) was in
      let beside = rise_elim (λ (y : Record). express_in y.slot ≡ Unset) (fresh Unset) n₀ s₀ s₀.span refl long n₀ (λ _ _. refl)
      (λ _. ap (λ (r : Record). express_in r.slot) was) (λ _. refl) in
      let round : request_at t₀ us (risen₀ Unset).distance n₀ 2 ≡ request_at t₀ us s₀.distance n₀ (cond (asks m h₀ n₀) 2 1) =
      λ i. request_at t₀ us (rise-distance (fresh Unset) n₀ s₀ s₀.span i) n₀ (cond (sym (asked_it m says p kind) i) 2 1) in
      record {
        rest = risen-rest Unset;
        gone = risen_gone Unset;
        each = λ j kept. placed (risen₀ Unset) _ (risen_open Unset k)
            (heard-asked t₀ us m (distance_to e) s₀.distance x₀ h₀ n₀ _ _ it (record_at s₀ n₀) was now.cue now.hush hush _ round
            (express_in now.slot) (beside ∙ sym none_beside) (λ due set. absurd (soon_unset due (sym beside ∙ set)))) j
            (λ b. risen-each Unset (sym none_beside) j b (another-number j (eqb_flip j n₀ b)) kept);
      }
    where
      soon_unset : (due : ℕ) → Unset ≡ Soon due → ⊥
      soon_unset due z = let w : ◌≡◌ {A = ℕ} 0 1 = cc in omega arith

      another-number : (j : ℕ) → eqb n₀ j ≡ false → asks m h₀ j ≡ false
      another-number j b = not-asked m h₀ j (not-number RQST m h₀ j b) (not-number XPRS m h₀ j b)

  -- before a DATA an express wait stands beside each new request, if this end is the kept requester
  data_express : says ≡ Data → cond (is_requester t₀.me s₀.pair) (Soon (t₀.clock + t₀.params.express)) Unset ≡ x₀
  unfolding express_by is_data_of
  data_express p = λ i. cond ((sym (kind-is Data p) i && sym (eq-eqb h₀ h₀ refl) i) && is_requester t₀.me s₀.pair)
      (Soon (t₀.clock + t₀.params.express)) Unset

  applied : (d : Decision) → Grounds t₀ w₀ (record_at s₀ n₀) s₀.span d → Hears (apply t₀ us w₀ d s₀)
  unfolding Grounds apply
  applied (Ignores why) g = unchanged
  applied Opens g = opens g.0 g.1
  applied Takes g = taken _ (data_express g.0) (ap is_request g.0) g.1 (carried_data g.0)
  applied Repairs g =
      let k = g.1.missing in
      let o = risen_open Unset k in
      let none_beside : x₀ ≡ Unset = no_express m t₀ h₀ s₀.pair (no_data m says (ap is_data g.0) kind) in
      let carried = or_second (is_about DATA m h₀ n₀) _ (about Repl g.0) in
      paired-then _ (quiet_then _ (record { sized = stored_length (risen₀ Unset) n₀ _ ∙ o.sized; thin = o.thin; inside = o.inside })
      (taken Unset (sym none_beside) (ap is_request g.0) k carried) g.0
      (repairs-missing m h₀ n₀ (record_at s₀ n₀) (about Repl g.0) k.lacks))
  applied Hushes g =
      paired-then _ (quiet_then s₀ (held_open g.1) unchanged g.0 (repairs-same m h₀ n₀ (record_at s₀ n₀) (about Repl g.0) g.2))
  applied Replies g =
      stored s₀ _ (held_open g.1.held) unchanged
      (heard_reply t₀ us m (distance_to e) s₀.distance x₀ h₀ n₀ _ _ it (record_at s₀ n₀) (requester_in says m) (asker m says g.0) g.1
      (asked_it m says g.0 kind))
  applied Learns g = learned g.0 g.1.missing g.2
  applied (BacksOff k) g = stored s₀ _ (as_it_was (waits-inside s₀ n₀ g.1.request (ap request_in g.1.waits))) unchanged
      (heard-next t₀ us m (distance_to e) s₀.distance x₀ h₀ n₀ _ _ it (record_at s₀ n₀) k g.1 (asked_it m says g.0 kind))
  applied Clashes g = unchanged
  applied Expresses g =
      stored s₀ _ (held_open g.1) unchanged
      (heard-express t₀ us m (distance_to e) s₀.distance x₀ h₀ n₀ _ _ it (record_at s₀ n₀) (record_at s₀ n₀) here
      (expresses_it t₀ m h₀ n₀ (record_at s₀ n₀) (about Xprs g.0) g.3 g.1 g.2) (requester_in says m) (asker m says (ap is_request g.0)))

  -- the named source stepped
  pub word_heard : HeardEnd t₀ us m e (word_step us says m e).left
  unfolding step_at
  word_heard =
      let d = decide t₀ w₀ s₀ in
      let now = applied d (grounds t₀ w₀ (record_at s₀ n₀) s₀.span) in
      record {
        same = record { host = refl; params = refl; status = refl; next = refl };
        sources = λ h hh. set_elim (HeardSource t₀ us m (distance_to e) h (source_of e h)) e.sources h₀ h (apply t₀ us w₀ d s₀) no_source
            (λ i. subst (λ k. HeardSource t₀ us m (distance_to e) k (source_of e k) (apply t₀ us w₀ d s₀)) (sym i) now) (source-none t₀ us m (distance_to e) h (source_of e h));
      }
