-- What a sound record says, and when a record that a step has changed is sound.
use mathlib.Core.Path.{◌≡◌, refl, ap}
use Prim.Native.Nat.{ℕ, ◌≤◌, ◌<◌}
use mathlib.Core.Bool.{true, false, not, ◌&&◌}
use mathlib.Core.List.{List, [], ◌∷◌}
use lib.ListN.{length}
use borrow.Author.Tests.{eqb-true, leb-true, ltb-true, not-true, eq-eqb, lt-ltb, le-leb}
use Rattle.message.specs.declared.Host.{Host}
use Rattle.message.specs.Cue.{cue_in}
use Rattle.message.specs.Question.{same_host}
use Rattle.message.proofs.QuestionLaws.{and_both}
use Rattle.end.specs.declared.Request.{Request}
use Rattle.end.specs.Parts.{Express, Unset, Soon, Pair, NoPair, Kept, Reply, No, Due}
use Rattle.end.specs.declared.Slot.{Slot}
use Rattle.end.specs.declared.Slot.TheVariants.{Empty, Held, Waiting}
use Rattle.end.specs.declared.Record.{Record}
use Rattle.end.specs.declared.Moment.{Moment}
use Rattle.end.specs.Records.{place, is_held, reply_in, with_reply, express_in, with_express}
use Rattle.end.specs.Sound.{all_of, time_limit, time_in, request_tests, reply_tests, held_tests, is_no_pair, express_sound, inside_sound, outside_sound, pair_tests}
use Rattle.end.specs.Names.{expressed, holding, is_requester}
use Rattle.end.specs.Round.{Drawn, request_at, reply_due, quiet_after_reply}
use Rattle.end.specs.Fire.{kept_sender}
use Rattle.end.specs.Ready.{Ranges}
use Rattle.end.proofs.SoundLaws.{nth}
use Rattle.end.proofs.Tools.{clash, clash'}
use Rattle.end.proofs.Bounds.{request_in_lem, reply_in_lem}

pub held-is : (x : Slot) → is_held x ≡ true → x ≡ Held (reply_in x)
held-is Empty h = clash' h
held-is (Held reply) h = refl
held-is (Waiting q x) h = clash' h

-- a request whose numbers are in range
pub record RequestIn (q : Request) : Type 0 where
  pub least : 1 ≤ q.round
  pub most : q.round ≤ 16
  pub due : q.due < time_limit
  pub quiet : q.quiet < time_limit

-- a reply whose due time is in range, to a host that may have asked
pub record ReplyIn (me source : Host) (time : ℕ) (requester : Host) : Type 0 where
  pub due : time < time_limit
  pub host : requester.0 < 8
  pub other : same_host requester me ≡ false
  pub apart : same_host requester source ≡ false

-- what a held cue is with its reply
pub record HeldIn (me source : Host) (r : Record) (x : Reply) : Type 0 where
  pub long : length r.cue ≡ 24
  pub cue : cue_in r.cue ≡ true
  pub reply : all_of (reply_tests me source x) ≡ true

-- what a request is with its express wait; a name that waits is another's
pub record WaitingIn (me source : Host) (pair : Pair) (r : Record) (q : Request) (x : Express) : Type 0 where
  pub other : same_host source me ≡ false
  pub request : all_of (request_tests q) ≡ true
  pub least : 1 ≤ q.round
  pub hush : time_in r.hush ≡ true
  pub express : express_sound pair x ≡ true

module _ (me source : Host) where
  -- ---- from the test
  pub outside_hush : (r : Record) (x : Slot) → outside_sound r x ≡ true → time_in r.hush ≡ true
  outside_hush r Empty p = ap time_in (eqb-true r.hush 0 p)
  outside_hush r (Held reply) p = clash' p
  outside_hush r (Waiting q x) p = clash' p

  pub reply_from : (due : ℕ) (k : Host) → all_of (reply_tests me source (Due due k)) ≡ true → ReplyIn me source due k
  reply_from due k p =
      let tests = reply_tests me source (Due due k) in
      record {
        due = ltb-true due time_limit (nth tests 0 p);
        host = ltb-true k.0 8 (nth tests 1 p);
        other = not-true (same_host k me) (nth tests 2 p);
        apart = not-true (same_host k source) (nth tests 3 p);
      }

  -- ---- to the test
  pub reply_sound : (due : ℕ) (k : Host) → ReplyIn me source due k → all_of (reply_tests me source (Due due k)) ≡ true
  reply_sound due k v =
      let d = lt-ltb due time_limit v.due in
      let h = lt-ltb k.0 8 v.host in
      λ i. all_of (d i ∷ h i ∷ not (v.other i) ∷ not (v.apart i) ∷ [])

module _ (me source : Host) (pair : Pair) where
  -- ---- from the test
  pub waiting_in : (r : Record) (q : Request) (x : Express) → inside_sound me source pair r (Waiting q x) ≡ true → WaitingIn me source pair r q x
  waiting_in r q x p =
      let a = and_both (not (same_host source me)) _ p in
      let b = and_both (all_of (request_tests q)) _ a.1 in
      let c = and_both (time_in r.hush) (express_sound pair x) b.1 in
      record {
        other = not-true (same_host source me) a.0;
        request = b.0;
        least = leb-true 1 q.round (nth (request_tests q) 0 b.0);
        hush = c.0;
        express = c.1;
      }

  pub held_in : (r : Record) (reply : Reply) → inside_sound me source pair r (Held reply) ≡ true → HeldIn me source r reply
  held_in r reply p =
      let tests = held_tests me source r reply in
      record { long = eqb-true (length r.cue) 24 (nth tests 0 p); cue = nth tests 1 p; reply = nth tests 2 p }

  pub hush_in : (r : Record) (x : Slot) → inside_sound me source pair r x ≡ true → time_in r.hush ≡ true
  hush_in r Empty p = clash' p
  hush_in r (Held reply) p = nth (held_tests me source r reply) 3 p
  hush_in r (Waiting q x) p = (waiting_in r q x p).hush

  pub express_in_lem : (r : Record) (x : Slot) → inside_sound me source pair r x ≡ true → express_sound pair (express_in x) ≡ true
  express_in_lem r Empty p = refl
  express_in_lem r (Held reply) p = refl
  express_in_lem r (Waiting q x) p = (waiting_in r q x p).express

  -- ---- to the test
  pub asking-sound : (r : Record) (q : Request) (x : Express) → same_host source me ≡ false → time_in r.hush ≡ true → RequestIn q → express_sound pair x ≡ true
      → inside_sound me source pair r (Waiting q x) ≡ true
  asking-sound r q x d hush k express =
      let least = le-leb 1 q.round k.least in
      let most = le-leb q.round 16 k.most in
      let due = lt-ltb q.due time_limit k.due in
      let quiet = lt-ltb q.quiet time_limit k.quiet in
      λ i. not (d i) && (all_of (least i ∷ most i ∷ due i ∷ quiet i ∷ []) && (hush i && express i))

  pub holding-sound : (r : Record) (cue : List ℕ) → time_in r.hush ≡ true → length cue ≡ 24 → cue_in cue ≡ true
      → inside_sound me source pair (holding r cue) (Held No) ≡ true
  holding-sound r cue hush long fits = let l = eq-eqb (length cue) 24 long in λ i. all_of (l i ∷ fits i ∷ true ∷ hush i ∷ [])

  -- a reply beside the held cue, or none, and a reply-quiet time
  pub beside_sound : (r : Record) (x : Slot) (reply : Reply) (hush : ℕ) → is_held x ≡ true → inside_sound me source pair r x ≡ true
      → all_of (reply_tests me source reply) ≡ true → time_in hush ≡ true
      → inside_sound me source pair (record { slot = with_reply reply x; cue = r.cue; hush = hush }) (with_reply reply x) ≡ true
  beside_sound r Empty reply hush held p t u = clash' held
  beside_sound r (Held was) reply hush held p t u =
      let tests = held_tests me source r was in
      λ i. all_of (nth tests 0 p i ∷ nth tests 1 p i ∷ t i ∷ u i ∷ [])
  beside_sound r (Waiting q x) reply hush held p t u = clash' held

  -- a request whose express wait goes, or another pair is kept: with any pair an express wait may stand
  waits-again : (now : Pair) (r : Record) (q : Request) (was x : Express) → inside_sound me source pair r (Waiting q was) ≡ true → express_sound now x ≡ true
      → inside_sound me source now r (Waiting q x) ≡ true
  waits-again now r q was x p express = let v = waiting_in r q was p in λ i. not (v.other i) && (v.request i && (v.hush i && express i))

  pub dropped-sound : (r : Record) (x : Slot) → inside_sound me source pair r x ≡ true
      → inside_sound me source pair (expressed Unset r) (with_express Unset x) ≡ true
  dropped-sound r Empty p = p
  dropped-sound r (Held reply) p = p
  dropped-sound r (Waiting q x) p = waits-again pair r q x Unset p refl

  express-again : (now : Pair) (x : Express) → is_no_pair now ≡ false → express_sound pair x ≡ true → express_sound now x ≡ true
  express-again now Unset k p = refl
  express-again now (Soon due) k p = λ i. (and_both (time_in due) (not (is_no_pair pair)) p).0 i && not (k i)

  pub paired-sound : (now : Pair) (r : Record) (x : Slot) → is_no_pair now ≡ false → inside_sound me source pair r x ≡ true → inside_sound me source now r x ≡ true
  paired-sound now r Empty k p = p
  paired-sound now r (Held reply) k p = p
  paired-sound now r (Waiting q x) k p = waits-again now r q x x p (express-again now x k (waiting_in r q x p).express)

-- ---- the kept pair

-- the requester of a pair is one's own host only if there is a pair
pub requester-kept : (me : Host) (pair : Pair) → is_requester me pair ≡ true → is_no_pair pair ≡ false
requester-kept me NoPair h = clash' h
requester-kept me (Kept requester sender n) h = refl

-- the sender of a pair is another
pub sender_in : (me : Host) (pair : Pair) → all_of (pair_tests me pair) ≡ true → is_no_pair pair ≡ false
    → ((kept_sender pair).0 < 8) × (same_host (kept_sender pair) me ≡ false)
sender_in me NoPair p k = clash k
sender_in me (Kept requester sender n) p k =
    let tests = pair_tests me (Kept requester sender n) in
    (ltb-true sender.0 8 (nth tests 1 p), not-true (same_host sender me) (nth tests 2 p))

-- ---- times that are in range
module _ (t : Moment) (us : List ℕ) (drawn : Drawn us) (d : ℕ) (r : Ranges t d) (n : ℕ) where
  pub round_in_lem : (k : ℕ) → 1 ≤ k → k ≤ 16 → RequestIn (request_at t us d n k)
  round_in_lem k a b = let v = request_in_lem t us d r n (drawn (place n)) k b in record { least = a; most = b; due = v.0; quiet = v.1 }

  pub due_in_lem : reply_due t us d n < time_limit
  due_in_lem = (reply_in_lem t us d r n (drawn (place n))).0

  pub quiet_in : quiet_after_reply t d < time_limit
  quiet_in = (reply_in_lem t us d r n (drawn (place n))).1
