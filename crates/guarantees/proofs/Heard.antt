-- What a message does to one record, change by change.
use mathlib.Core.Path.{◌≡◌, refl, sym, ap, ◌∙◌, subst}
use mathlib.Core.Bool.{Bool, true, false, cond, not, ◌&&◌, ◌||◌}
use mathlib.Core.List.{List}
use mathlib.Core.Logic.{◌⊎◌, inl, inr}
use Prim.Native.Nat.{ℕ, ◌≤◌}
use native.Mathlib.Omega.{arith}
use lib.Dec.{ltb, eqb}
use borrow.Author.Tests.{eq-eqb, le-leb}
use Rattle.message.specs.declared.Host.{Host}
use Rattle.message.specs.Message.{DATA, RQST, REPL, XPRS, Meaning}
use Rattle.message.specs.Question.{same_host}
use Rattle.end.specs.declared.Request.{Request}
use Rattle.end.specs.Parts.{Express, Unset, Soon, Reply, No, Due, Span}
use Rattle.end.specs.declared.Slot.{Slot}
use Rattle.end.specs.declared.Slot.TheVariants.{Empty, Held, Waiting}
use Rattle.end.specs.declared.Record.{Record}
use Rattle.end.specs.declared.Source.{Source}
use Rattle.end.specs.declared.Moment.{Moment}
use Rattle.end.specs.State.{blank_record}
use Rattle.end.specs.Records.{is_above, is_held, is_no, reply_in, with_reply, express_in}
use Rattle.end.specs.Round.{request_at, next_round, reply_due, quiet_after_reply}
use Rattle.end.specs.Names.{asking, holding, replying, quieted}
use Rattle.end.specs.Decide.{same_cue}
use Rattle.end.specs.Arrival.{message_name, message_host, message_cue}
use Rattle.end.proofs.Grounds.{Free, Late}
use Rattle.end.proofs.Tools.{clash, clash'}
use Rattle.guarantees.specs.Records.{HeardAs, ReplyAs}
use Rattle.guarantees.specs.Arrivals.{is_about, asks, repairs, expresses, risen, has_name, touches}

pub or_first : (a b : Bool) → a ≡ true → a || b ≡ true
or_first a b h = ap (λ (t : Bool). t || b) h

pub or_second : (a b : Bool) → b ≡ true → a || b ≡ true
or_second true b h = refl
or_second false b h = h

-- the message is a DATA or a REPL of this name
abbrev pub carried_by : Meaning → ℕ → ℕ → Bool
carried_by m h j = is_about DATA m h j || is_about REPL m h j

-- what a message makes of a record r under source h and number j: `to` has the distances before, of which d is the source's, `new` is the
-- express wait that it sets beside a new request, `touched` is whether it may change the record, and `gap` whether the number lies in the gap
-- before its own
pub record Heard (t : Moment) (us : List ℕ) (m : Meaning) (to : Host → ℕ) (d : ℕ) (new : Express) (h j : ℕ) (touched gap : Bool) (r p : Record) : Type 0 where
  pub same : touched ≡ false → p ≡ r
  pub held : is_held r.slot ≡ true → (is_held p.slot ≡ true) × (p.cue ≡ r.cue)
  pub slots : HeardAs t us d j (carried_by m h j) (asks m h j) new r.slot p.slot
  pub express : (due : ℕ) → express_in r.slot ≡ Unset → express_in p.slot ≡ Soon due → gap ≡ true
  pub carries : is_held r.slot ≡ false → is_held p.slot ≡ true → p.cue ≡ message_cue m
  pub reply : ReplyAs t us (to m.sender) m.sender j (asks m h j) (repairs m h j r || expresses t m h j r) r.slot r.hush
      (reply_in r.slot) (reply_in p.slot)
  pub quiet : (p.hush ≡ r.hush) ⊎ ((repairs m h j r ≡ true) × (p.hush ≡ quiet_after_reply t (to (message_host m))))
      ⊎ ((expresses t m h j r ≡ true) × (p.hush ≡ quiet_after_reply t (to m.sender)))

-- a number of the gap before the one that a message names: above last, and below that number
abbrev pub in_gap : Meaning → Span → ℕ → Bool
in_gap m span j = is_above span j && ltb j (message_name m).number.0

-- a held cue with another reply is a held cue
pub replied-held : (reply : Reply) (x : Slot) → is_held (with_reply reply x) ≡ is_held x
replied-held reply Empty = refl
replied-held reply (Held was) = refl
replied-held reply (Waiting q x) = refl

-- and no express wait stands beside it
replied-express : (reply : Reply) (x : Slot) → express_in (with_reply reply x) ≡ express_in x
replied-express reply Empty = refl
replied-express reply (Held was) = refl
replied-express reply (Waiting q x) = refl

-- a wait is set or not
unset_soon : {P : Type 0} (x : Express) (due : ℕ) → x ≡ Unset → x ≡ Soon due → P
unset_soon x due p h = let z : Unset ≡ Soon due = sym p ∙ h in absurd (let w : ◌≡◌ {A = ℕ} 0 1 = cc in omega arith)

module _ (t : Moment) (us : List ℕ) (m : Meaning) (to : Host → ℕ) (d : ℕ) (new : Express) (h j : ℕ) where
  -- ---- slots
  stays : (a b : Bool) (x : Slot) → HeardAs t us d j a b new x x
  stays a b Empty = tt
  stays a b (Held reply) = tt
  stays a b (Waiting q y) = (inl refl, refl)

  replied : (a b : Bool) (reply : Reply) (x : Slot) → HeardAs t us d j a b new x (with_reply reply x)
  replied a b reply Empty = tt
  replied a b reply (Held was) = tt
  replied a b reply (Waiting q y) = (inl refl, refl)

  takes : (a b : Bool) (x : Slot) → is_held x ≡ false → a ≡ true → HeardAs t us d j a b new x (Held No)
  takes a b Empty free c = (c, refl)
  takes a b (Held reply) free c = tt
  takes a b (Waiting q y) free c = (c, refl)

  -- then its reply goes
  quiets : (a b : Bool) (x y : Slot) → HeardAs t us d j a b new x y → HeardAs t us d j a b new x (with_reply No y)
  quiets a b x Empty h = h
  quiets a b Empty (Held reply) h = (h.0, refl)
  quiets a b (Held was) (Held reply) h = tt
  quiets a b (Waiting q y) (Held reply) h = (h.0, refl)
  quiets a b x (Waiting q y) h = h

  -- ---- replies
  abbrev Replies : Bool → Slot → ℕ → Reply → Reply → Type 0
  Replies b = ReplyAs t us (to m.sender) m.sender j (asks m h j) b

  reply_stays_lem : (b : Bool) (x : Slot) (u : ℕ) (reply : Reply) → Replies b x u reply reply
  reply_stays_lem b x u No = tt
  reply_stays_lem b x u (Due due k) = (refl, refl)

  reply_none : (b : Bool) (x : Slot) (u : ℕ) → is_held x ≡ false → Replies b x u (reply_in x) No
  reply_none b Empty u free = tt
  reply_none b (Held reply) u free = clash free
  reply_none b (Waiting q y) u free = tt

  reply_goes : (b : Bool) (x : Slot) (u : ℕ) (reply : Reply) → b ≡ true → (y : Slot) → Replies b x u reply (reply_in (with_reply No y))
  reply_goes b x u No about Empty = tt
  reply_goes b x u No about (Held reply) = tt
  reply_goes b x u No about (Waiting q y) = tt
  reply_goes b x u (Due due k) about Empty = about
  reply_goes b x u (Due due k) about (Held reply) = about
  reply_goes b x u (Due due k) about (Waiting q y) = about

  reply_begins : (b : Bool) (x : Slot) (u : ℕ) (k : Host) → k ≡ m.sender → is_held x ≡ true → is_no (reply_in x) ≡ true → u ≤ t.clock → asks m h j ≡ true
      → Replies b x u (reply_in x) (reply_in (with_reply (Due (reply_due t us (to k) j) k) x))
  reply_begins b Empty u k who held free over about = clash' held
  reply_begins b (Held No) u k who held free over about = (about, refl, over, ap (λ (i : Host). reply_due t us (to i) j) who, who)
  reply_begins b (Held (Due due i)) u k who held free over about = clash' free
  reply_begins b (Waiting q y) u k who held free over about = clash' held

  -- ---- records
  pub heard-none : (touched gap : Bool) (r : Record) → Heard t us m to d new h j touched gap r r
  heard-none touched gap r = record {
    same = λ _. refl;
    held = λ p. (p, refl);
    slots = stays _ _ r.slot;
    express = λ due a b. unset_soon (express_in r.slot) due a b;
    carries = λ f p. clash (sym p ∙ f);
    reply = reply_stays_lem _ r.slot r.hush (reply_in r.slot);
    quiet = inl refl;
  }

  module _ (touched gap : Bool) (it : touched ≡ true) where
    abbrev Becomes : Record → Record → Type 0
    Becomes = Heard t us m to d new h j touched gap

    changed : {P : Type 0} → touched ≡ false → P
    changed f = clash (sym it ∙ f)

    -- a new request, in round 2 if it was heard for the name and in round 1 otherwise, and beside it the express wait x
    pub heard-asked : (r : Record) → r ≡ blank_record → (cue : List ℕ) (u : ℕ) → u ≡ 0 → (q : Request) → q ≡ request_at t us d j (cond (asks m h j) 2 1)
        → (x : Express) → x ≡ new → ((due : ℕ) → x ≡ Soon due → gap ≡ true) → Becomes r (record { slot = Waiting q x; cue = cue; hush = u })
    heard-asked r was cue u hush q is x beside set = subst (λ (z : Record). Becomes z (record { slot = Waiting q x; cue = cue; hush = u })) (sym was)
        (record {
          same = changed;
          held = λ k. clash' k;
          slots = (is, beside);
          express = λ due _ b. set due b;
          carries = λ _ k. clash' k;
          reply = tt;
          quiet = inl hush;
        })

    -- the next round; its express wait stays
    pub heard-next : (r : Record) (k : ℕ) → Late t r k → asks m h j ≡ true → Becomes r (asking r (request_at t us d j (next_round k)))
    heard-next r k late about =
        let x = late.waits in
        let next = request_at t us d j (next_round k) in
        record {
          same = changed;
          held = λ p. clash' (ap is_held (sym x) ∙ p);
          slots = subst (λ (z : Slot). HeardAs t us d j (carried_by m h j) (asks m h j) new z (Waiting next (express_in z))) (sym x)
              (inr (about, late.over, ap (λ (i : ℕ). request_at t us d j (next_round i)) late.round), refl);
          express = λ due a b. unset_soon (express_in r.slot) due a b;
          carries = λ _ p. clash' p;
          reply = reply_none _ r.slot r.hush (ap is_held x);
          quiet = inl refl;
        }

    -- its cue, where it was not held, in a record with the same reply-quiet time
    pub heard-cue : (r p : Record) → p.hush ≡ r.hush → is_held r.slot ≡ false → carried_by m h j ≡ true → Becomes r (holding p (message_cue m))
    heard-cue r p hush free carried = record {
      same = changed;
      held = λ k. clash (sym k ∙ free);
      slots = takes _ _ r.slot free carried;
      express = λ due _ b. unset_soon Unset due refl b;
      carries = λ _ _. refl;
      reply = reply_none _ r.slot r.hush free;
      quiet = inl hush;
    }

    -- its reply goes by a repair, or by an XPRS that is answered, whatever else was heard before
    gone_quiet : (r p : Record) (u : ℕ) → Becomes r p → repairs m h j r || expresses t m h j r ≡ true
        → (u ≡ r.hush) ⊎ ((repairs m h j r ≡ true) × (u ≡ quiet_after_reply t (to (message_host m))))
        ⊎ ((expresses t m h j r ≡ true) × (u ≡ quiet_after_reply t (to m.sender)))
        → Becomes r (quieted p u)
    gone_quiet r p u q about quiet = record {
      same = changed;
      held = λ l. (replied-held No p.slot ∙ (q.held l).0, (q.held l).1);
      slots = quiets _ _ r.slot p.slot q.slots;
      express = λ due a b. q.express due a (sym (replied-express No p.slot) ∙ b);
      carries = λ f l. q.carries f (sym (replied-held No p.slot) ∙ l);
      reply = reply_goes _ r.slot r.hush (reply_in r.slot) about p.slot;
      quiet = quiet;
    }

    pub heard-quieted : (r p : Record) → Becomes r p → repairs m h j r ≡ true → (k : Host) → k ≡ message_host m
        → Becomes r (quieted p (quiet_after_reply t (to k)))
    heard-quieted r p q about k who =
        gone_quiet r p _ q (or_first (repairs m h j r) _ about) (inr (inl (about, ap (λ (i : Host). quiet_after_reply t (to i)) who)))

    pub heard-express : (r p : Record) → Becomes r p → expresses t m h j r ≡ true → (k : Host) → k ≡ m.sender
        → Becomes r (quieted p (quiet_after_reply t (to k)))
    heard-express r p q about k who =
        gone_quiet r p _ q (or_second (repairs m h j r) _ about) (inr (inr (about, ap (λ (i : Host). quiet_after_reply t (to i)) who)))

    -- a reply begins to wait
    pub heard_reply : (r : Record) (k : Host) → k ≡ m.sender → Free t r → asks m h j ≡ true → Becomes r (replying r (reply_due t us (to k) j) k)
    heard_reply r k who free about =
        let now = Due (reply_due t us (to k) j) k in record {
          same = changed;
          held = λ p. (replied-held now r.slot ∙ p, refl);
          slots = replied _ _ now r.slot;
          express = λ due a b. unset_soon (express_in r.slot) due a (sym (replied-express now r.slot) ∙ b);
          carries = λ f p. clash (sym p ∙ replied-held now r.slot ∙ f);
          reply = reply_begins _ r.slot r.hush k who free.held free.none free.over about;
          quiet = inl refl;
        }

-- ---- the tests

pub is-about : (kind : ℕ) (m : Meaning) → eqb m.kind kind ≡ true → is_about kind m (message_name m).source.0 (message_name m).number.0 ≡ true
unfolding is_about
is-about kind m t = λ i. t i && (eq-eqb (message_name m).source.0 (message_name m).source.0 refl i && eq-eqb (message_name m).number.0 (message_name m).number.0 refl i)

-- a REPL of the name where no cue is held, and one with the held cue
pub repairs-missing : (m : Meaning) (h j : ℕ) (r : Record) → is_about REPL m h j ≡ true → is_held r.slot ≡ false → repairs m h j r ≡ true
unfolding repairs
repairs-missing m h j r about free = λ i. about i && (not (free i) || same_cue (message_cue m) r.cue)

pub repairs-same : (m : Meaning) (h j : ℕ) (r : Record) → is_about REPL m h j ≡ true → same_cue (message_cue m) r.cue ≡ true → repairs m h j r ≡ true
unfolding repairs
repairs-same m h j r about same = (λ i. about i && (not (is_held r.slot) || same i)) ∙ or_second (not (is_held r.slot)) true refl

-- an XPRS of the name that names this end, where the cue is held and the reply-quiet time is over
pub expresses_it : (t : Moment) (m : Meaning) (h j : ℕ) (r : Record) → is_about XPRS m h j ≡ true → same_host (message_host m) t.me ≡ true
    → is_held r.slot ≡ true → r.hush ≤ t.clock → expresses t m h j r ≡ true
unfolding expresses
expresses_it t m h j r about named held over = λ i. about i && (named i && (held i && le-leb r.hush t.clock over i))

-- a message of another kind, or about another number
pub not-kind : (kind : ℕ) (m : Meaning) (h j : ℕ) → eqb m.kind kind ≡ false → is_about kind m h j ≡ false
unfolding is_about
not-kind kind m h j t = ap (λ (a : Bool). a && (eqb (message_name m).source.0 h && eqb (message_name m).number.0 j)) t

pub not-number : (kind : ℕ) (m : Meaning) (h j : ℕ) → eqb (message_name m).number.0 j ≡ false → is_about kind m h j ≡ false
unfolding is_about
not-number kind m h j t = ap (λ (a : Bool). eqb m.kind kind && (eqb (message_name m).source.0 h && a)) t ∙ no_and (eqb m.kind kind) (eqb (message_name m).source.0 h)
  where
    no_and : (a b : Bool) → a && (b && false) ≡ false
    no_and true true = refl
    no_and true false = refl
    no_and false b = refl

-- so of the two kinds that ask
pub not-asked : (m : Meaning) (h j : ℕ) → is_about RQST m h j ≡ false → is_about XPRS m h j ≡ false → asks m h j ≡ false
unfolding asks
not-asked m h j a b = λ i. a i || b i

pub asked-rqst : (m : Meaning) (h j : ℕ) → is_about RQST m h j ≡ true → asks m h j ≡ true
unfolding asks
asked-rqst m h j a = or_first (is_about RQST m h j) _ a

pub asked_xprs : (m : Meaning) (h j : ℕ) → is_about XPRS m h j ≡ true → asks m h j ≡ true
unfolding asks
asked_xprs m h j a = or_second (is_about RQST m h j) _ a

module _ (m : Meaning) (named : has_name m ≡ true) (s : Source) where
  -- the named number, and those up to it
  pub touches_it : touches m (message_name m).source.0 s.span (message_name m).number.0 ≡ true
  unfolding touches
  touches_it = rw (named, eq-eqb (message_name m).source.0 (message_name m).source.0 refl, eq-eqb (message_name m).number.0 (message_name m).number.0 refl)

  pub touches-risen : (j : ℕ) → risen s.span (message_name m).number.0 j ≡ true → touches m (message_name m).source.0 s.span j ≡ true
  unfolding touches
  touches-risen j t = rw (named, eq-eqb (message_name m).source.0 (message_name m).source.0 refl) (or_second (eqb (message_name m).number.0 j) _ t)
