-- Every number once: the statements of specs/History.antt, by induction over the calls. A window that has started keeps its numbers accounted
-- for from call to call; one that has not, waits for its start.
use mathlib.Core.Path.{◌≡◌, refl, sym, ap, ◌∙◌, subst}
use mathlib.Core.Bool.{Bool, true, false, not, ◌&&◌}
use mathlib.Core.List.{List, [], ◌∷◌, ◌++◌}
use mathlib.Core.Option.{Option, none, some}
use Prim.Native.Nat.{ℕ, zero, suc, ◌+◌, ◌-◌, ◌≤◌, ◌<◌, min, max}
use native.Mathlib.Omega.{arith}
use lib.Dec.{leb, ltb, eqb}
use borrow.Author.Tests.{le-leb, lt-leb, lt-ltb, le-ltb, eq-eqb, ne_eqb, ltb-true, leb-true}
use Rattle.numbers.specs.Bits.{bit}
use Rattle.numbers.proofs.Cases.{by_flag, by_order}
use Rattle.numbers.proofs.BitLaws.{bit-above, bit-none}
use Rattle.message.specs.Entry.{as_number}
use Rattle.message.specs.declared.Host.{Host}
use Rattle.message.proofs.QuestionLaws.{and_both}
use Rattle.end.specs.Answer.{class_in}
use Rattle.end.proofs.Tools.{clash'}
use Rattle.display_window.specs.Parts.{Seen, Unstarted, Started, started}
use Rattle.display_window.specs.declared.Lost.{Lost}
use Rattle.display_window.specs.Window.{is_new, unreceived, none_lost, lost_by}
use Rattle.display_window.proofs.WindowLaws.{SoundWindow}
use Rattle.display_window.proofs.SetLaws.{turned_past}
use Rattle.display.specs.declared.Display.{Display}
use Rattle.display.specs.Display.{opening_of, display_for, open_questions}
use Rattle.message.specs.Question.{first_no}
use Rattle.display.specs.Call.{event_of}
use Rattle.display_history.specs.History.{Call, Told, after, after_all, told, one, handed_in, handed_out, reported_lost, is_missing, start_of, is_covered, is_between, is_received_in, passes, no_lower, EachNumberOnce, StaysSo, NeverLower, NoneForgotten, LostAsPassed, Stands, LossesStand, MissingIs, ReceivedNeverReported}
use Rattle.display_history.proofs.NumberLaws.{span_low}
use Rattle.display_history.proofs.Moves.{Went, Stays, Starts, Takes, Announces, went}
use Rattle.display_history.proofs.StepLaws.{lost_in, none-lost, Raised, started_went, Began, Waits, Begins, unstarted_went, start-sound}

-- the number that a call hands out, and what it loses
abbrev handed : Display → Call → Option ℕ
handed d c = handed_in (class_in (event_of d c.event c.clock c.room).outcome)

abbrev losses : Display → Call → Lost
losses d c = (event_of d c.event c.clock c.room).lost

call_went : (d : Display) (c : Call) (w : Seen) → d.window ≡ w → Went w (handed d c) (losses d c) (after d c).window
call_went d c w p = subst (λ (x : Seen). Went x (handed d c) (losses d c) (after d c).window) p (went d c.event c.clock c.room)

-- numbers above one lead and up to the next
spans : (l m k n : ℕ) → l ≤ m → m ≤ k → one (ltb l n && leb n m) + one (ltb m n && leb n k) ≡ one (ltb l n && leb n k)
spans l m k n a b =
    by_order l n
    (λ c.
    by_order m n
    (λ e. rw (lt-ltb l n c, lt-ltb m n e, lt-leb n m e) (omega arith))
    (λ e. rw (lt-ltb l n c, le-ltb m n e, le-leb n m e, le-leb n k (omega arith))))
    (λ c. rw (le-ltb l n c, le-ltb m n (omega arith)))

-- a window that is sound, in numbers
data WindowIs (d : Display) : Type 0 where
  Not : d.window ≡ Unstarted → WindowIs d
  Is : (t l s : ℕ) → d.window ≡ started (as_number t) (as_number l) s → SoundWindow t l s → WindowIs d

sound-next : (d : Display) (c : Call) → WindowIs d → WindowIs (after d c)
sound-next d c (Not p) = go (unstarted_went (handed d c) (losses d c) (after d c).window (call_went d c Unstarted p))
  where
    go : Began (handed d c) (losses d c) (after d c).window → WindowIs (after d c)
    go (Waits a b e) = Not e
    go (Begins k a b e) = Is k k 1 e (start-sound k)
sound-next d c (Is t l s p w) =
    let r = started_went (as_number t) (as_number l) s 0 (handed d c) (losses d c) (after d c).window w (call_went d c _ p) in
    Is r.trail r.lead r.set r.is r.sound

-- ---- once started
pub record Ran (t l s n : ℕ) (ts : List Told) (v : Seen) : Type 0 where
  pub trail : ℕ
  pub lead : ℕ
  pub set : ℕ
  pub is : v ≡ started (as_number trail) (as_number lead) set
  pub sound : SoundWindow trail lead set
  pub trails : t ≤ trail
  pub leads : l ≤ lead
  pub once : handed_out ts n + reported_lost ts n + one ((leb trail n && leb n lead) && not (bit set (n - trail)))
      ≡ one ((leb t n && leb n l) && not (bit s (n - t))) + one (ltb l n && leb n lead)
  pub held : trail ≤ n → one (bit set (n - trail)) ≡ one (bit s (n - t)) + handed_out ts n

ran_none : (t l s n : ℕ) → SoundWindow t l s → Ran t l s n [] (started (as_number t) (as_number l) s)
unfolding handed_out reported_lost
ran_none t l s n w =
    let more : one (ltb l n && leb n l) ≡ 0 = by_flag (ltb l n) (λ x. rw (x, lt-leb n l (ltb-true l n x))) (λ x. rw x) in
    record {
      trail = t;
      lead = l;
      set = s;
      is = refl;
      sound = w;
      trails = omega arith;
      leads = omega arith;
      once = omega (arith, more);
      held = λ _. omega arith;
    }

-- one call, and those after it
ran_more : (t l s n : ℕ) (o : Told) (ts : List Told) (v x : Seen)
    → (r : Raised t l s n (handed_in (class_in o.outcome)) o.lost x) → Ran r.trail r.lead r.set n ts v → Ran t l s n (o ∷ ts) v
unfolding handed_out reported_lost
ran_more t l s n o ts v x r q =
    let joined = spans l r.lead q.lead n r.leads q.leads in
    record {
      trail = q.trail;
      lead = q.lead;
      set = q.set;
      is = q.is;
      sound = q.sound;
      trails = omega (arith, r.trails, q.trails);
      leads = omega (arith, r.leads, q.leads);
      once = omega (arith, joined, r.once, q.once);
      held = λ a. omega (arith, q.held a, r.held (omega (arith, q.trails)));
    }

ran : (t l s n : ℕ) → SoundWindow t l s → (d : Display) → d.window ≡ started (as_number t) (as_number l) s → (cs : List Call)
    → Ran t l s n (told d cs) (after_all d cs).window
unfolding told after_all
ran t l s n w d p [] = rw p (ran_none t l s n w)
ran t l s n w d p (c ∷ cs) =
    let r = started_went (as_number t) (as_number l) s n (handed d c) (losses d c) (after d c).window w (call_went d c _ p) in
    ran_more t l s n _ (told (after d c) cs) _ (after d c).window r (ran r.trail r.lead r.set n r.sound (after d c) r.is cs)

-- ---- before

-- from trail on
abbrev pub is_from : Seen → ℕ → Bool
is_from Unstarted n = false
is_from (Started w) n = leb w.trail.0 n

pub record Story (n : ℕ) (ts : List Told) (v : Seen) : Type 0 where
  pub once : handed_out ts n + reported_lost ts n + one (is_missing v n) ≡ one (is_covered (start_of ts) v n)
  pub missing : is_missing v n ≡ (is_between v n && eqb (handed_out ts n) 0)
  pub new : is_new v n ≡ (is_from v n && eqb (handed_out ts n) 0)

story_none : (n : ℕ) → Story n [] Unstarted
unfolding handed_out reported_lost start_of is_new
story_none n = record { once = refl; missing = refl; new = refl }

-- a call that hands out and loses nothing
story_waits : (n : ℕ) (o : Told) (ts : List Told) (v : Seen) → handed_in (class_in o.outcome) ≡ none → o.lost ≡ none_lost → Story n ts v → Story n (o ∷ ts) v
unfolding handed_out reported_lost start_of
story_waits n o ts v p q w =
    let no-loss : lost_in o.lost n ≡ 0 = ap (λ (l : Lost). lost_in l n) q ∙ none-lost n in
    let out : handed_out (o ∷ ts) n ≡ handed_out ts n = rw p (omega arith) in
    record {
      once = rw p (omega (arith, w.once, no-loss));
      missing = w.missing ∙ ap (λ (k : ℕ). is_between v n && eqb k 0) (sym out);
      new = w.new ∙ ap (λ (k : ℕ). is_from v n && eqb k 0) (sym out);
    }

-- the start
covered : (k l n : ℕ) → k ≤ l → one (eqb k n) + one (ltb k n && leb n l) ≡ one (leb k n && leb n l)
covered k l n a =
    by_order k n
    (λ c. rw (lt-ltb k n c, le-leb k n (omega arith), ne_eqb k n (λ e. omega arith)) (omega arith))
    (λ c.
    by_order n k
    (λ e. rw (le-ltb k n c, lt-leb k n e, ne_eqb k n (λ f. omega arith)))
    (λ e. rw (le-ltb k n c, le-leb k n e, eq-eqb k n (omega arith), le-leb n l (omega arith))))

none_yet : (k n : ℕ) → one ((leb k n && leb n k) && not (bit 1 (n - k))) ≡ 0
unfolding bit
none_yet k n =
    by_order k n
    (λ c. rw (le-leb k n (omega arith), lt-leb n k c))
    (λ c.
    by_order n k
    (λ e. rw (lt-leb k n e))
    (λ e. let z : n - k ≡ 0 = omega arith in rw (le-leb k n e, le-leb n k c, z)))

-- only the start itself was received
start-held : (k n : ℕ) → k ≤ n → one (bit 1 (n - k)) ≡ one (eqb k n)
unfolding bit
start-held k n a =
    by_order k n
    (λ c. rw (ne_eqb k n (λ e. omega arith)) (ap one (bit_past (n - k) (omega arith))))
    (λ c. let z : n - k ≡ 0 = omega arith in rw (eq-eqb k n (omega arith), z))
  where
    bit_past : (i : ℕ) → 0 < i → bit 1 i ≡ false
    bit_past i l = bit-above 1 i 1 (omega arith) l

missing-by : (a b : Bool) (k : ℕ) → one b ≡ k → (a && not b) ≡ (a && eqb k 0)
missing-by a true k e = rw (← e)
missing-by a false k e = rw (← e)

-- from trail on the set has what was handed out
begun-held : (k n : ℕ) (ts : List Told) (v : Seen) (r : Ran k k 1 n ts v) → r.trail ≤ n
    → one (bit r.set (n - r.trail)) ≡ one (eqb k n) + handed_out ts n
begun-held k n ts v r a = omega (arith, r.held a, start-held k n (omega (arith, r.trails)))

begun-missing : (k n : ℕ) (ts : List Told) (v : Seen) → Ran k k 1 n ts v → is_missing v n ≡ (is_between v n && eqb (one (eqb k n) + handed_out ts n) 0)
begun-missing k n ts v r =
    rw r.is
    (by_order n r.trail
    (λ a. rw (lt-leb r.trail n a))
    (λ a. missing-by (leb r.trail n && leb n r.lead) (bit r.set (n - r.trail)) (one (eqb k n) + handed_out ts n) (begun-held k n ts v r a)))

begun_new : (k n : ℕ) (ts : List Told) (v : Seen) → Ran k k 1 n ts v → is_new v n ≡ (is_from v n && eqb (one (eqb k n) + handed_out ts n) 0)
unfolding is_new
begun_new k n ts v r =
    rw r.is
    (by_order n r.trail
    (λ a. rw (lt-leb r.trail n a))
    (λ a. missing-by (leb r.trail n) (bit r.set (n - r.trail)) (one (eqb k n) + handed_out ts n) (begun-held k n ts v r a)))

story_begins : (k n : ℕ) (o : Told) (ts : List Told) (v : Seen) → handed_in (class_in o.outcome) ≡ some k → o.lost ≡ none_lost
    → Ran k k 1 n ts v → Story n (o ∷ ts) v
unfolding handed_out reported_lost start_of
story_begins k n o ts v p q r =
    let no-loss : lost_in o.lost n ≡ 0 = ap (λ (l : Lost). lost_in l n) q ∙ none-lost n in
    let all = covered k r.lead n r.leads in
    let none = none_yet k n in
    let out : handed_out (o ∷ ts) n ≡ one (eqb k n) + handed_out ts n = rw p in
    record {
      once = rw (p, r.is) (omega (arith, r.once, no-loss, all, none));
      missing = begun-missing k n ts v r ∙ ap (λ (x : ℕ). is_between v n && eqb x 0) (sym out);
      new = begun_new k n ts v r ∙ ap (λ (x : ℕ). is_from v n && eqb x 0) (sym out);
    }

story : (n : ℕ) (d : Display) → d.window ≡ Unstarted → (cs : List Call) → Story n (told d cs) (after_all d cs).window
unfolding told after_all
story n d p [] = rw p (story_none n)
story n d p (c ∷ cs) = go (unstarted_went (handed d c) (losses d c) (after d c).window (call_went d c Unstarted p)) (λ q. story n (after d c) q cs)
  where
    go : Began (handed d c) (losses d c) (after d c).window
        → ((after d c).window ≡ Unstarted → Story n (told (after d c) cs) (after_all (after d c) cs).window)
        → Story n (told d (c ∷ cs)) (after_all (after d c) cs).window
    go (Waits a b e) rest = story_waits n _ (told (after d c) cs) _ a b (rest e)
    go (Begins k a b e) rest = story_begins k n _ (told (after d c) cs) _ a b (ran k k 1 n (start-sound k) (after d c) e cs)

-- ---- one call of a history
sound-now : (d : Display) → WindowIs d → (cs : List Call) → WindowIs (after_all d cs)
unfolding after_all
sound-now d w [] = w
sound-now d w (c ∷ cs) = sound-now (after d c) (sound-next d c w) cs

-- ---- the statements
pub opened : (own sender : Host) → (opening_of own sender).display.window ≡ Unstarted
unfolding opening_of
opened own sender = go (first_no (open_questions own sender))
  where
    go : (k : ℕ) → (display_for k own sender).window ≡ Unstarted
    go zero = refl
    go (suc k) = refl

pub each_number_once : EachNumberOnce
each_number_once own sender cs n = (story n (opening_of own sender).display (opened own sender) cs).once

pub missing-is : MissingIs
missing-is own sender cs n = (story n (opening_of own sender).display (opened own sender) cs).missing

-- a cue is new where its number was not handed out
pub new_by_history : (own sender : Host) (cs : List Call) (n : ℕ) → let d = (opening_of own sender).display in
    let w = (after_all d cs).window in
    is_new w n ≡ (is_from w n && eqb (handed_out (told d cs) n) 0)
new_by_history own sender cs n = (story n (opening_of own sender).display (opened own sender) cs).new

-- calls after calls
after_more : (d : Display) (cs more : List Call) → after_all d (cs ++ more) ≡ after_all (after_all d cs) more
unfolding after_all
after_more d [] more = refl
after_more d (c ∷ cs) more = after_more (after d c) cs more

told_more : (d : Display) (cs more : List Call) → told d (cs ++ more) ≡ told d cs ++ told (after_all d cs) more
unfolding told after_all
told_more d [] more = refl
told_more d (c ∷ cs) more =
    ap (λ (ts : List Told). record { outcome = (event_of d c.event c.clock c.room).outcome; lost = losses d c } ∷ ts) (told_more (after d c) cs more)

handed-more : (d : Display) (cs more : List Call) (n : ℕ)
    → handed_out (told d (cs ++ more)) n ≡ handed_out (told d cs) n + handed_out (told (after_all d cs) more) n
unfolding told after_all handed_out
handed-more d [] more n = omega arith
handed-more d (c ∷ cs) more n = omega (arith, handed-more (after d c) cs more n)

lost-more : (d : Display) (cs more : List Call) (n : ℕ)
    → reported_lost (told d (cs ++ more)) n ≡ reported_lost (told d cs) n + reported_lost (told (after_all d cs) more) n
unfolding told after_all reported_lost
lost-more d [] more n = omega arith
lost-more d (c ∷ cs) more n = omega (arith, lost-more (after d c) cs more n)

one-most : (b : Bool) → one b ≤ 1
one-most true = omega arith
one-most false = omega arith

pub stays_so : StaysSo
stays_so own sender cs more n =
    let d = (opening_of own sender).display in
    let all = each_number_once own sender (cs ++ more) n in
    let most = one-most (is_covered (start_of (told d (cs ++ more))) (after_all d (cs ++ more)).window n) in
    (λ h. omega (arith, all, most, handed-more d cs more n), λ h. omega (arith, all, most, lost-more d cs more n))

pub received_never_reported : ReceivedNeverReported
received_never_reported own sender cs more n h =
    let d = (opening_of own sender).display in
    let all = each_number_once own sender (cs ++ more) n in
    let most = one-most (is_covered (start_of (told d (cs ++ more))) (after_all d (cs ++ more)).window n) in
    omega (arith, all, most, handed-more d cs more n)

-- neither trail nor lead falls
no_lower_lem : (t l s n : ℕ) (ts : List Told) (w v : Seen) → w ≡ started (as_number t) (as_number l) s → Ran t l s n ts v → no_lower w v ≡ true
no_lower_lem t l s n ts w v p r = rw (p, r.is, le-leb t r.trail r.trails, le-leb l r.lead r.leads)

not_yet : (w v : Seen) → w ≡ Unstarted → no_lower w v ≡ true
not_yet w v p = rw p

lower-none : (d : Display) → WindowIs d → (more : List Call) → no_lower d.window (after_all d more).window ≡ true
lower-none d (Not p) more = not_yet d.window (after_all d more).window p
lower-none d (Is t l s p w) more = no_lower_lem t l s 0 (told d more) d.window (after_all d more).window p (ran t l s 0 w d p more)

pub never-lower : NeverLower
never-lower own sender cs more =
    let d = (opening_of own sender).display in
    rw (after_more d cs more) (lower-none (after_all d cs) (sound-now d (Not (opened own sender)) cs) more)

-- and the start stays
start-keeps : (ts us : List Told) (k : ℕ) → start_of ts ≡ some k → start_of (ts ++ us) ≡ some k
unfolding start_of
start-keeps [] us k h = let z : ◌≡◌ {A = ℕ} 0 1 = cc in absurd (omega arith)
start-keeps (c ∷ ts) us k h = go (handed_in (class_in c.outcome)) refl (start-keeps ts us k)
  where
    go : (o : Option ℕ) → handed_in (class_in c.outcome) ≡ o → (start_of ts ≡ some k → start_of (ts ++ us) ≡ some k) → start_of (c ∷ (ts ++ us)) ≡ some k
    go none p rest = let e : start_of ts ≡ some k = rw p at h in rw p (rest e)
    go (some j) p rest = let e : some j ≡ some k = rw p at h in rw p e

covered_keeps : (o q : Option ℕ) (w v : Seen) (n : ℕ) → ((k : ℕ) → o ≡ some k → q ≡ some k) → no_lower w v ≡ true
    → is_covered o w n ≡ true → is_covered q v n ≡ true
covered_keeps none q w v n f g h = clash' h
covered_keeps (some k) q Unstarted v n f g h = clash' h
covered_keeps (some k) q (Started w) Unstarted n f g h = clash' g
covered_keeps (some k) q (Started w) (Started v) n f g h =
    let both = and_both (leb k n) (leb n w.lead.0) h in
    let up = leb-true w.lead.0 v.lead.0 (and_both (leb w.trail.0 v.trail.0) (leb w.lead.0 v.lead.0) g).1 in
    rw (f k refl, both.0, le-leb n v.lead.0 (omega (arith, up, leb-true n w.lead.0 both.1)))

pub none_forgotten : NoneForgotten
none_forgotten own sender cs more n h =
    let d = (opening_of own sender).display in
    covered_keeps (start_of (told d cs)) (start_of (told d (cs ++ more))) (after_all d cs).window (after_all d (cs ++ more)).window n
    (λ k e. ap start_of (told_more d cs more) ∙ start-keeps (told d cs) (told (after_all d cs) more) k e)
    (never-lower own sender cs more)
    h

-- the losses of a call, by its window before and after
passes_none : (w v : Seen) (n : ℕ) → w ≡ Unstarted → one (passes w v n && not (is_received_in w n)) ≡ 0
passes_none w v n p = rw p

passes-is : (w v : Seen) (t l s trail lead set n : ℕ) → w ≡ started (as_number t) (as_number l) s → v ≡ started (as_number trail) (as_number lead) set
    → one (passes w v n && not (is_received_in w n)) ≡ one ((leb t n && not (leb trail n)) && not (leb t n && bit s (n - t)))
passes-is w v t l s trail lead set n p q = rw (p, q)

lost_as_passed_in : (d : Display) (c : Call) (n : ℕ) → WindowIs d
    → lost_in (losses d c) n ≡ one (passes d.window (after d c).window n && not (is_received_in d.window n))
lost_as_passed_in d c n (Not p) = go (unstarted_went (handed d c) (losses d c) (after d c).window (call_went d c Unstarted p))
  where
    go : Began (handed d c) (losses d c) (after d c).window
        → lost_in (losses d c) n ≡ one (passes d.window (after d c).window n && not (is_received_in d.window n))
    go (Waits a b e) = ap (λ (l : Lost). lost_in l n) b ∙ none-lost n ∙ sym (passes_none d.window (after d c).window n p)
    go (Begins k a b e) = ap (λ (l : Lost). lost_in l n) b ∙ none-lost n ∙ sym (passes_none d.window (after d c).window n p)
lost_as_passed_in d c n (Is t l s p w) =
    let r = started_went (as_number t) (as_number l) s n (handed d c) (losses d c) (after d c).window w (call_went d c _ p) in
    r.passed ∙ sym (passes-is d.window (after d c).window t l s r.trail r.lead r.set n p r.is)

pub lost_as_passed : LostAsPassed
lost_as_passed own sender cs c n =
    let d = (opening_of own sender).display in
    lost_as_passed_in (after_all d cs) c n (sound-now d (Not (opened own sender)) cs)

-- ---- how losses stand
stands-none : (w : Seen) (n : ℕ) → Stands w none_lost n
stands-none w n = record {
  in_set_lem = λ h. clash' (sym (bit-none (n - 0)) ∙ (and_both (leb 0 n) (bit 0 (n - 0)) h).1);
  in_span_lem = λ h. clash' h;
}

stands_by : (t : ℕ) (w : Seen) (n : ℕ) → Stands w (lost_by t w) n
unfolding lost_by
stands_by t Unstarted n = stands-none Unstarted n
stands_by t (Started w) n = record {
  in_set_lem = λ h.
      let k = min (max w.trail.0 t) (w.lead.0 + 1) - w.trail.0 in
      let both = and_both (leb w.trail.0 n) (bit (unreceived k w.set) (n - w.trail.0)) h in
      by_order w.lead.0 n
      (λ a. clash' (sym (turned_past k w.set (n - w.trail.0) (omega (arith, leb-true w.trail.0 n both.0))) ∙ both.1))
      (λ a. (rw (both.0, le-leb n w.lead.0 a), eq-eqb w.trail.0 w.trail.0 refl));
  in_span_lem = λ h.
      by_order w.lead.0 n (λ a. lt-ltb w.lead.0 n a) (λ a. clash' (sym (span_low w.lead.0 (max w.trail.0 t) n a) ∙ h));
}

stands : (w : Seen) (h : Option ℕ) (l : Lost) (v : Seen) (n : ℕ) → Went w h l v → Stands w l n
stands w h l v n (Stays a b c) = rw b (stands-none w n)
stands w h l v n (Starts k s a b c d) = rw c (stands-none w n)
stands w h l v n (Takes k s a b c d) = rw c (stands_by (k - 63) w n)
stands w h l v n (Announces t k x y s a b c) = rw b (stands_by t w n)

pub losses_stand : LossesStand
losses_stand d c n = stands d.window _ _ _ n (went d c.event c.clock c.room)
