-- The earliest wait is of a host's source, and what Fire does with it.
use mathlib.Core.Path.{◌≡◌, ap, subst, ◌∙◌}
use mathlib.Core.Bool.{false}
use borrow.Author.Tests.{ne_eqb}
use mathlib.Core.List.{List}
use Prim.Native.Nat.{ℕ, zero, suc, ◌+◌, ◌<◌}
use native.Mathlib.Omega.{arith}
use lib.Dec.{leb}
use Rattle.message.specs.declared.Host.{Host}
use Rattle.message.specs.declared.Name.{Name}
use Rattle.message.specs.Message.{bytes_of}
use Rattle.message.specs.Entry.{as_host, as_number}
use Rattle.end.specs.Parts.{No, Due, Express, Unset, Soon, Earliest, NoWait, First}
use Rattle.end.specs.declared.Record.{Record}
use Rattle.end.specs.declared.Request.{Request}
use Rattle.end.specs.declared.Slot.{Slot}
use Rattle.end.specs.declared.Slot.TheVariants.{Empty, Held, Waiting}
use Rattle.end.specs.declared.Wait.{Wait}
use Rattle.end.specs.declared.End.{End}
use Rattle.end.specs.State.{source_at, distance_to, moment_of, on_source}
use Rattle.end.specs.Records.{start, width, record_at, reply_in}
use Rattle.end.specs.Round.{next_round}
use Rattle.end.specs.Names.{set_round, quiet_reply, drop_express}
use Rattle.end.specs.Messages.{request_message, repair_message, express_message}
use Rattle.end.specs.Answer.{Out, Nothing, give}
use Rattle.end.specs.Fire.{fold_up, express_rank, request_rank, reply_rank, before, earlier, due_at, express_at, offered, earliest, kept_sender, fire_at, fired}
use Rattle.end.proofs.Tools.{by_cond}
use Rattle.state.specs.Settled.{Asked, Settled}

abbrev pub Hosted : Earliest → Type 0
Hosted NoWait = Unit {0}
Hosted (First w) = w.name.source.0 < 8

fold_keeps : {A : Type 0} (P : A → Type 0) (f : ℕ → A → A) (a : A) (k : ℕ) → P a → ((i : ℕ) (x : A) → i < k → P x → P (f i x)) → P (fold_up f a k)
unfolding fold_up
fold_keeps P f a zero p h = p
fold_keeps P f a (suc k) p h = h k (fold_up f a k) (omega arith) (fold_keeps P f a k p (λ i x l q. h i x (omega arith) q))

earlier-hosted : (best : Earliest) (w : Wait) → Hosted best → w.name.source.0 < 8 → Hosted (earlier best w)
earlier-hosted NoWait w b h = h
earlier-hosted (First v) w b h = by_cond Hosted (before w v) (λ t. h) (λ t. b)

due-hosted : (name : Name) (clock rank due : ℕ) (best : Earliest) → name.source.0 < 8 → Hosted best → Hosted (due_at name clock rank due best)
due-hosted name clock rank due best h b = by_cond Hosted (leb due clock) (λ t. earlier-hosted best _ b h) (λ t. b)

express-hosted : (name : Name) (clock : ℕ) (x : Express) (best : Earliest) → name.source.0 < 8 → Hosted best → Hosted (express_at name clock x best)
express-hosted name clock Unset best h b = b
express-hosted name clock (Soon due) best h b = due-hosted name clock express_rank due best h b

offered-hosted : (name : Name) (clock : ℕ) (x : Slot) (best : Earliest) → name.source.0 < 8 → Hosted best → Hosted (offered name clock x best)
offered-hosted name clock Empty best h b = b
offered-hosted name clock (Waiting q x) best h b =
    due-hosted name clock request_rank q.due (express_at name clock x best) h (express-hosted name clock x best h b)
offered-hosted name clock (Held No) best h b = b
offered-hosted name clock (Held (Due due requester)) best h b = due-hosted name clock reply_rank due best h b

pub hosted : (e : End) → Hosted (earliest e 8)
unfolding earliest
hosted e =
    fold_keeps Hosted _ NoWait 8 tt
    (λ h x l p.
    let from = source_at e (as_host h) in
    fold_keeps Hosted _ x (width from.span) p
    (λ i y k q.
    let n = start from.span + i in
    offered-hosted (record { source = as_host h; number = as_number n }) e.clock (record_at from n).slot y l q))

-- ---- what Fire does with a wait, by the slot of its name
module _ (us : List ℕ) (e : End) (w : Wait) where
  abbrev pub Known : Record
  Known = record_at (source_at e w.name.source) w.name.number.0

  pub empty-fired : Known.slot ≡ Empty → fired us e (First w) ≡ give Nothing e
  unfolding fired fire_at
  empty-fired p = ap (fire_at us w.rank w.name e) p

  pub express-fired : (q : Request) (x : Express) → Known.slot ≡ Waiting q x → w.rank ≡ express_rank
      → fired us e (First w)
      ≡ give (Out (bytes_of (express_message (moment_of e) w.name (kept_sender (source_at e w.name.source).pair))))
      (on_source e w.name.source (drop_express w.name.number.0))
  unfolding fired fire_at
  express-fired q x p t = ap (fire_at us w.rank w.name e) p ∙ rw t

  pub request-fired : (q : Request) (x : Express) → Known.slot ≡ Waiting q x → (w.rank ≡ express_rank → ⊥)
      → fired us e (First w)
      ≡ give (Out (bytes_of (request_message (moment_of e) w.name)))
      (on_source e w.name.source (set_round (moment_of e) us w.name.number.0 (next_round q.round)))
  unfolding fired fire_at
  request-fired q x p t = ap (fire_at us w.rank w.name e) p ∙ rw (ne_eqb w.rank express_rank t)

  pub quiet-fired : Known.slot ≡ Held No → fired us e (First w) ≡ give Nothing e
  unfolding fired fire_at
  quiet-fired p = ap (fire_at us w.rank w.name e) p

  pub reply-fired : (due : ℕ) (requester : Host) → Known.slot ≡ Held (Due due requester)
      → fired us e (First w)
      ≡ give (Out (bytes_of (repair_message (moment_of e) w.name requester Known.cue)))
      (on_source e w.name.source (quiet_reply (moment_of e) w.name.number.0 (distance_to e requester)))
  unfolding fired fire_at
  reply-fired due requester p = ap (fire_at us w.rank w.name e) p

  -- who asked for a reply is a host
  pub requester_in : Settled e → w.name.source.0 < 8 → (due : ℕ) (requester : Host) → Known.slot ≡ Held (Due due requester) → requester.0 < 8
  requester_in s l due requester p = subst (λ (x : Slot). Asked (reply_in x)) p (s.asked w.name.source w.name.number.0 l)
