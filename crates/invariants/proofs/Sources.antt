-- What keeps a member's source sound under a name inside first..last: a round is set, a cue is held, a reply is set or goes, an express wait
-- goes; and a pair that is kept.
use mathlib.Core.Path.{◌≡◌, refl, sym, ap, ◌∙◌}
use mathlib.Core.Logic.{◌≢◌}
use Prim.Native.Nat.{ℕ, ◌+◌, ◌≤◌, ◌<◌}
use native.Mathlib.Omega.{arith}
use mathlib.Core.Bool.{Bool, true, false, not}
use mathlib.Core.List.{List, [], ◌∷◌}
use lib.ListN.{length}
use lib.Dec.{leb}
use borrow.Author.Tests.{lt-ltb}
use Rattle.message.specs.declared.Host.{Host}
use Rattle.message.specs.Cue.{cue_in}
use Rattle.message.specs.Question.{same_host}
use Rattle.message.specs.declared.CueNumber.{CueNumber}
use Rattle.end.specs.declared.Request.{Request}
use Rattle.end.specs.Parts.{Express, Unset, Pair, NoPair, Kept, No, Due}
use Rattle.end.specs.declared.Slot.TheVariants.{Empty, Waiting}
use Rattle.end.specs.declared.Record.{Record}
use Rattle.end.specs.declared.Source.{Source}
use Rattle.end.specs.declared.Moment.{Moment}
use Rattle.end.specs.Records.{within, start, place, record_at, with_record, is_held, express_in}
use Rattle.end.specs.Round.{Drawn, request_at, next_round, reply_due, quiet_after_reply}
use Rattle.end.specs.Names.{asking, expressed, holding, replying, quieted, set_round, hold, set_reply, quiet_reply, drop_express, latest, keep_pair}
use Rattle.end.specs.Sound.{all_of, time_limit, time_in, is_no_pair, express_sound, inside_sound, pair_tests}
use Rattle.end.specs.Ready.{Ranges}
use Rattle.end.proofs.Bounds.{round-next}
use Rattle.end.proofs.Tools.{by_cond, by_test, clash}
use Rattle.end.proofs.RecordLaws.{at_outside, raw-other, store_elim, stored_length}
use Rattle.end.proofs.Facts.{narrow, among_64}
use Rattle.invariants.proofs.Facts.{SoundSource, span_in}
use Rattle.invariants.proofs.Records.{round_in_lem, due_in_lem, quiet_in, hush_in, express_in_lem, waiting_in, asking-sound, holding-sound}
use Rattle.invariants.proofs.Records.{beside_sound, reply_sound, dropped-sound, paired-sound}

module _ {me : Host} {next clock : ℕ} {member : Bool} {h : Host} (s : Source) (q : SoundSource me next clock member h s) where
  -- what is there stands inside first..last
  pub stands : (n : ℕ) → ((record_at s n).slot ≡ Empty → ⊥) → within s.span n ≡ true
  stands n f = by_test (within s.span n) (λ w. w) (λ w. absurd (f (ap (λ (r : Record). r.slot) (at_outside s n w))))

  pub held-stands : (n : ℕ) → is_held (record_at s n).slot ≡ true → within s.span n ≡ true
  held-stands n held = stands n (λ o. clash (sym held ∙ ap is_held o))

  hushed : (n : ℕ) → time_in (record_at s n).hush ≡ true
  hushed n = by_test (within s.span n) (λ w. hush_in me h s.pair (record_at s n) (record_at s n).slot (q.inside n w)) (λ w. rw (at_outside s n w))

  expressed_in : (n : ℕ) → express_sound s.pair (express_in (record_at s n).slot) ≡ true
  expressed_in n = by_test (within s.span n) (λ w. express_in_lem me h s.pair (record_at s n) (record_at s n).slot (q.inside n w)) (λ w. rw (at_outside s n w))

  module _ (joined : member ≡ true) (n : ℕ) where
    -- a number outside, of the 64 from first on, has another place than one inside
    apart_outside : (j : ℕ) → within s.span n ≡ true → start s.span ≤ j → j < start s.span + 64 → within s.span j ≡ false → place j ≢ place n
    apart_outside j w a b v e =
        let i = among_64 s.span n (span_in me next clock member h s q) w in
        let same : j ≡ n = omega (arith, i.0, i.1) in
        clash (sym w ∙ ap (within s.span) (sym same) ∙ v)

    -- a record inside first..last is changed
    record_kept : (r : Record) → within s.span n ≡ true → inside_sound me h s.pair r r.slot ≡ true
        → SoundSource me next clock member h (with_record s n r)
    record_kept r w p = record {
      names = stored_length s n r ∙ q.names;
      span = q.span;
      distance = q.distance;
      heard = q.heard;
      aside = λ no. clash (sym joined ∙ no);
      pair = q.pair;
      inside = λ j v. store_elim (λ (y : Record). inside_sound me h s.pair y y.slot ≡ true) s n r j
          (narrow s.span (span_in me next clock member h s q)) w q.names (λ _. p) (q.inside j v);
      outside = λ j a b v. rw (raw-other s.names n j r (apart_outside j w a b v)) (q.outside j a b v);
      attempts = q.attempts;
      origin = q.origin;
      marks = q.marks;
    }

    -- a cue is held under a name inside first..last
    pub hold-kept : (cue : List ℕ) → length cue ≡ 24 → cue_in cue ≡ true → within s.span n ≡ true → SoundSource me next clock member h (hold n cue s)
    hold-kept cue long fits w = record_kept (holding (record_at s n) cue) w (holding-sound me h s.pair (record_at s n) cue (hushed n) long fits)

    -- an express wait goes
    pub dropped-kept : within s.span n ≡ true → SoundSource me next clock member h (drop_express n s)
    dropped-kept w = record_kept (expressed Unset (record_at s n)) w (dropped-sound me h s.pair (record_at s n) (record_at s n).slot (q.inside n w))

    module _ (t : Moment) (us : List ℕ) (drawn : Drawn us) where
      -- a round is set of a name inside first..last
      pub round-kept : (k : ℕ) → Ranges t s.distance → 1 ≤ k → k ≤ 16 → same_host h me ≡ false → within s.span n ≡ true → SoundSource me next clock member h (set_round t us n k s)
      round-kept k far a b other w =
          let ask = request_at t us s.distance n k in
          record_kept (asking (record_at s n) ask) w
          (asking-sound me h s.pair (asking (record_at s n) ask) ask (express_in (record_at s n).slot) other (hushed n)
          (round_in_lem t us drawn s.distance far n k a b) (expressed_in n))

      -- the next round of a name that waits
      pub next_round_kept : (x : Request) (y : Express) → Ranges t s.distance → (record_at s n).slot ≡ Waiting x y
          → SoundSource me next clock member h (set_round t us n (next_round x.round) s)
      next_round_kept x y far p =
          let w = stands n (λ o. let no : ◌≡◌ {A = ℕ} 0 1 = cc in omega arith) in
          let v = waiting_in me h s.pair (record_at s n) x y (ap (inside_sound me h s.pair (record_at s n)) (sym p) ∙ q.inside n w) in
          let k = round-next x.round v.least in
          round-kept (next_round x.round) far k.0 k.1 v.other w

      -- a reply is set to a held cue
      pub reply_kept : (d : ℕ) (k : Host) → Ranges t d → k.0 < 8 → same_host k me ≡ false → same_host k h ≡ false → is_held (record_at s n).slot ≡ true
          → SoundSource me next clock member h (set_reply t us n d k s)
      reply_kept d k far hk other apart held =
          let w = held-stands n held in
          let due = reply_due t us d n in
          record_kept (replying (record_at s n) due k) w
          (beside_sound me h s.pair (record_at s n) (record_at s n).slot (Due due k) (record_at s n).hush held (q.inside n w)
          (reply_sound me h due k (record { due = due_in_lem t us drawn d far n; host = hk; other = other; apart = apart })) (hushed n))

      -- the reply of a held cue goes
      pub quiet-kept : (d : ℕ) → Ranges t d → is_held (record_at s n).slot ≡ true → SoundSource me next clock member h (quiet_reply t n d s)
      quiet-kept d far held =
          let w = held-stands n held in
          let quiet = quiet_after_reply t d in
          record_kept (quieted (record_at s n) quiet) w
          (beside_sound me h s.pair (record_at s n) (record_at s n).slot No quiet held (q.inside n w) refl
          (lt-ltb quiet time_limit (quiet_in t us drawn d far n)))

-- ---- a pair is kept
latest-kept : (pair : Pair) (requester sender : Host) (n : CueNumber) → is_no_pair (latest pair requester sender n) ≡ false
latest-kept NoPair requester sender n = refl
latest-kept (Kept r s k) requester sender n = by_cond (λ (x : Pair). is_no_pair x ≡ false) (leb k.0 n.0) (λ _. refl) (λ _. refl)

module _ (me requester sender : Host) (n : CueNumber) (hr : requester.0 < 8) (hs : sender.0 < 8) (other : same_host sender me ≡ false)
    (hn : n.0 < 65536) where
  new_in : all_of (pair_tests me (Kept requester sender n)) ≡ true
  new_in =
      let r = lt-ltb requester.0 8 hr in
      let s = lt-ltb sender.0 8 hs in
      let m = lt-ltb n.0 65536 hn in
      λ i. all_of (r i ∷ s i ∷ not (other i) ∷ m i ∷ [])

  latest_in : (pair : Pair) → all_of (pair_tests me pair) ≡ true → all_of (pair_tests me (latest pair requester sender n)) ≡ true
  latest_in NoPair p = new_in
  latest_in (Kept r s k) p = by_cond (λ (x : Pair). all_of (pair_tests me x) ≡ true) (leb k.0 n.0) (λ _. new_in) (λ _. p)

  pub pair-kept : {next clock : ℕ} {member : Bool} {h : Host} (s : Source) → SoundSource me next clock member h s → member ≡ true
      → SoundSource me next clock member h (keep_pair requester sender n s)
  unfolding record_at
  pair-kept {next} {clock} {member} {h} s q joined = record {
    names = q.names;
    span = q.span;
    distance = q.distance;
    heard = q.heard;
    aside = λ no. clash (sym joined ∙ no);
    pair = latest_in s.pair q.pair;
    inside = λ j w.
        paired-sound me h s.pair (latest s.pair requester sender n) (record_at s j) (record_at s j).slot
        (latest-kept s.pair requester sender n) (q.inside j w);
    outside = q.outside;
    attempts = q.attempts;
    origin = q.origin;
    marks = q.marks;
  }
