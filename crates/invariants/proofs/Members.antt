-- What a member does leaves a sound state: with a message about a name, a line for each decision; with a SESS; and Fire.
use mathlib.Core.Path.{◌≡◌, refl, ap, sym, ◌∙◌}
use Prim.Native.Nat.{ℕ, ◌+◌, ◌≤◌, ◌<◌, ◌-◌}
use native.Mathlib.Omega.{arith}
use mathlib.Core.Bool.{Bool, true, false, not, ◌&&◌}
use mathlib.Core.List.{List, [], ◌∷◌}
use lib.ListN.{length}
use lib.Dec.{eqb, leb}
use borrow.Author.Tests.{ltb-true, leb-true, le-leb, not-true}
use Rattle.message.specs.declared.Host.{Host}
use Rattle.message.specs.declared.Report.{Report}
use Rattle.message.specs.declared.Echo.{Echo}
use Rattle.message.specs.declared.Name.{Name}
use Rattle.message.specs.Cue.{cue_in}
use Rattle.message.specs.Question.{same_host, host_in, number_in, report_in, ticks_in}
use Rattle.message.specs.Message.{Meaning}
use Rattle.message.specs.Section.{all}
use Rattle.message.proofs.QuestionLaws.{and_both}
use Rattle.end.specs.declared.Record.{Record}
use Rattle.end.specs.declared.Source.{Source}
use Rattle.end.specs.declared.End.{End}
use Rattle.end.specs.declared.Moment.{Moment}
use Rattle.end.specs.declared.Says.TheVariants.{Data}
use Rattle.end.specs.declared.Word.{Word}
use Rattle.end.specs.declared.Decision.{Decision}
use Rattle.end.specs.declared.Decision.TheVariants.{Ignores, Opens, Takes, Repairs, Hushes, Replies, Learns, BacksOff, Clashes, Expresses}
use Rattle.end.specs.declared.Slot.{Slot}
use Rattle.end.specs.declared.Slot.TheVariants.{Empty, Held, Waiting}
use Rattle.end.specs.Parts.{No, Due, Earliest, NoWait, First}
use Rattle.end.specs.State.{source_at, is_member, moment_of, on_source, distance_to}
use Rattle.end.specs.Records.{within, record_at, is_held, is_above}
use Rattle.end.specs.Round.{Drawn}
use Rattle.end.specs.Names.{asked, asked_by_data, rise_with, holding, hold, quiet_reply}
use Rattle.end.specs.Decide.{number, known, decide, risen, risen_by_data, paired, apply, step_at}
use Rattle.end.specs.Sound.{all_of, distance_sound}
use Rattle.end.specs.Ready.{Ranges}
use Rattle.end.specs.Session.{reported_source, all_reported, measured, heard_from, session_of}
use Rattle.end.specs.Fire.{express_rank, fire_at, fired}
use Rattle.end.specs.Answer.{Step}
use Rattle.end.proofs.RecordLaws.{read_same}
use Rattle.end.proofs.RiseLaws.{rise-distance}
use Rattle.end.proofs.Grounds.{Missing, Wanted, is_request, Grounds, grounds, wanted_other}
use Rattle.end.proofs.Bounds.{half_trip_in}
use Rattle.end.proofs.Tools.{by_cond, clash}
use Rattle.invariants.specs.Outputs.{kept_under, pair_of}
use Rattle.invariants.proofs.Facts.{SoundSource, SoundState, ranges_of}
use Rattle.invariants.proofs.Records.{held_in, reply_from}
use Rattle.invariants.proofs.Rises.{original-kept, rise-kept, rise_by_data_kept, risen-within}
use Rattle.invariants.proofs.Sources.{stands, hold-kept, round-kept, next_round_kept, reply_kept, quiet-kept, dropped-kept, pair-kept}
use Rattle.invariants.proofs.Ends.{stands_as, there, source-kept}

-- ---- DATA, RQST, REPL, XPRS

-- what the reader's questions give of a word
pub record WordIn (t : Moment) (w : Word) : Type 0 where
  pub source : w.name.source.0 < 8
  pub number : number w < 65536
  pub distance : Ranges t w.distance
  pub long : length w.cue ≡ 24
  pub cue : cue_in w.cue ≡ true
  pub original : w.says ≡ Data → same_host w.name.source t.me ≡ false
  pub sender : w.sender.0 < 8
  pub other : same_host w.sender t.me ≡ false
  pub requester : w.requester.0 < 8
  pub asker : is_request w.says ≡ true → (same_host w.requester t.me ≡ false) × (same_host w.requester w.name.source ≡ false)

module _ (t : Moment) (us : List ℕ) (drawn : Drawn us) (w : Word) (v : WordIn t w) (next : ℕ) (member : Bool) (joined : member ≡ true)
    (s : Source) (far : Ranges t s.distance) (q : SoundSource t.me next t.clock member w.name.source s) where
  Sounds : Source → Type 0
  Sounds x = SoundSource t.me next t.clock member w.name.source x

  -- a wanted cue is another's
  wanted : Wanted t w (known w s) s.span → same_host w.name.source t.me ≡ false
  wanted g = wanted_other t w s.pair (known w s) s.span (λ i. rw i (q.inside (number w) i)) g

  -- a REPL is kept as the pair: its sender is another
  paired-kept : (x : Source) → Sounds x → Sounds (paired w x)
  unfolding Sounds
  paired-kept x p = pair-kept t.me w.requester w.sender w.name.number v.requester v.sender v.other v.number x p joined

  -- a cue that is missing, of another: last has risen to it
  module _ (other : same_host w.name.source t.me ≡ false) (k : Missing w (known w s) s.span) where
    up : Sounds (risen t us w s)
    unfolding Sounds
    up = rise-kept joined other t us drawn s (number w) v.number far q

    up_by_data : Sounds (risen_by_data t us w s)
    unfolding Sounds
    up_by_data = rise_by_data_kept joined other t us drawn s (number w) v.number far q

    within-now : (new : ℕ → Record) → within (rise_with new (number w) s s.span).span (number w) ≡ true
    within-now new = risen-within joined other t us drawn s (number w) v.number far q new k.first k.last k.span k.least

    inside : within (risen t us w s).span (number w) ≡ true
    inside = within-now (asked t us s.distance)

    takes : Sounds (apply t us w Takes s)
    unfolding Sounds apply
    takes = hold-kept (risen_by_data t us w s) up_by_data joined (number w) w.cue v.long v.cue (within-now (asked_by_data t us s))

    repairs : Sounds (apply t us w Repairs s)
    unfolding Sounds apply
    repairs =
        let x = risen t us w s in
        let n = number w in
        let held : is_held (record_at (hold n w.cue x) n).slot ≡ true =
        ap (λ (r : Record). is_held r.slot) (read_same x n (holding (record_at x n) w.cue) inside up.names) in
        paired-kept (quiet_reply t n w.distance (hold n w.cue x))
        (quiet-kept (hold n w.cue x) (hold-kept x up joined n w.cue v.long v.cue inside) joined n t us drawn w.distance v.distance held)

    learns : Sounds (apply t us w Learns s)
    unfolding Sounds apply
    learns =
        let near = rise-distance (asked t us s.distance) (number w) s s.span in
        round-kept (risen t us w s) up joined (number w) t us drawn 2 (rw near far) (omega arith) (omega arith) other inside

  kept : (d : Decision) → Grounds t w (known w s) s.span d → SoundSource t.me next t.clock member w.name.source (apply t us w d s)
  unfolding Grounds apply Sounds
  kept (Ignores why) g = q
  kept Opens g = original-kept s q g.1 w.name.number w.cue v.long v.cue joined v.number (v.original g.0)
  kept Takes g = takes (v.original g.0) g.1
  kept Repairs g = repairs (wanted g.1) g.1.missing
  kept Hushes g = paired-kept (quiet_reply t (number w) w.distance s) (quiet-kept s q joined (number w) t us drawn w.distance v.distance g.1)
  kept Replies g =
      let a = v.asker g.0 in
      reply_kept s q joined (number w) t us drawn w.distance w.requester v.distance v.requester a.0 a.1 g.1.held
  kept Learns g = learns (wanted g.1) g.1.missing
  kept (BacksOff k) g = let a = g.1 in rw a.round (next_round_kept s q joined (number w) t us drawn a.request a.express far a.waits)
  kept Clashes g = q
  kept Expresses g = quiet-kept s q joined (number w) t us drawn w.distance v.distance g.1

-- and so the end
pub step_kept : (e : End) (us : List ℕ) (w : Word) → Drawn us → WordIn (moment_of e) w → SoundState e → is_member e.status ≡ true
    → SoundState (step_at (moment_of e) us w e).left
unfolding step_at
step_kept e us w drawn v f joined =
    let t = moment_of e in
    let s = source_at e w.name.source in
    source-kept e w.name.source (apply t us w (decide t w s) s) f
    (kept t us drawn w v e.next (is_member e.status) joined s (ranges_of e f w.name.source v.source) (f.each w.name.source.0 v.source) (decide t w s) (grounds t w (known w s) s.span))

-- ---- SESS

-- a distance stays in 1..1000
measured_in : (me : Host) (clock : ℕ) (xs : List Echo) (d : ℕ) → 1 ≤ d → d ≤ 1000 → (1 ≤ measured me clock xs d) × (measured me clock xs d ≤ 1000)
unfolding measured
measured_in me clock [] d a b = (a, b)
measured_in me clock (x ∷ xs) d a b =
    let now = by_cond (λ (y : ℕ). (1 ≤ y) × (y ≤ 1000)) (same_host x.host me && leb (x.stamp + x.held) clock)
    (λ _. half_trip_in (clock - (x.stamp + x.held))) (λ _. (a, b)) in
    measured_in me clock xs _ now.0 now.1

module _ (us : List ℕ) (drawn : Drawn us) (m : Meaning) (hs : m.sender.0 < 8) (stamp : ticks_in m.stamp ≡ true) where
  -- one report
  reported-kept : (r : Report) (e : End) → SoundState e → is_member e.status ≡ true → report_in 65535 r ≡ true
      → SoundState (on_source e r.source (reported_source (moment_of e) us r))
  reported-kept r e f joined h =
      let s = source_at e r.source in
      let own = same_host r.source e.host in
      let both = and_both (host_in r.source) (number_in 65535 r.last) h in
      let hr = ltb-true r.source.0 8 both.0 in
      let q = f.each r.source.0 hr in
      source-kept e r.source (reported_source (moment_of e) us r s) f
      (by_cond (SoundSource e.host e.next e.clock (is_member e.status) r.source) (not own && is_above s.span r.last.0)
      (λ t. rise-kept joined (not-true own (and_both (not own) (is_above s.span r.last.0) t).0) (moment_of e) us drawn s r.last.0
      (omega (arith, leb-true r.last.0 65535 both.1)) (ranges_of e f r.source hr) q)
      (λ _. q))

  -- the sender's source
  heard-kept : (e : End) → SoundState e → is_member e.status ≡ true → same_host m.sender e.host ≡ false → SoundState (on_source e m.sender (heard_from (moment_of e) m))
  unfolding record_at
  heard-kept e f joined other =
      let s = source_at e m.sender in
      let q = f.each m.sender.0 hs in
      let old = and_both (leb 1 s.distance) (leb s.distance 1000) (sym (ap (λ (t : Bool). distance_sound t s.distance) other) ∙ q.distance) in
      let d = measured e.host e.clock m.echoes s.distance in
      let now = measured_in e.host e.clock m.echoes s.distance (leb-true 1 s.distance old.0) (leb-true s.distance 1000 old.1) in
      let late = le-leb e.clock e.clock (omega arith) in
      source-kept e m.sender (heard_from (moment_of e) m s) f (record {
        names = q.names;
        span = q.span;
        distance = ap (λ (t : Bool). distance_sound t d) other ∙ (λ i. le-leb 1 d now.0 i && le-leb d 1000 now.1 i);
        heard = λ i. all_of (not (other i) ∷ stamp i ∷ late i ∷ []);
        aside = λ no. clash (sym joined ∙ no);
        pair = q.pair;
        inside = q.inside;
        outside = q.outside;
        attempts = q.attempts;
        origin = q.origin;
        marks = q.marks;
      })

  -- the reports one by one, and then the sender's source
  all-kept : (rs : List Report) (e : End) → SoundState e → is_member e.status ≡ true → same_host m.sender e.host ≡ false → all (report_in 65535) rs ≡ true
      → SoundState (on_source (all_reported (moment_of e) us rs e) m.sender (heard_from (moment_of e) m))
  unfolding all_reported all
  all-kept [] e f joined other h = heard-kept e f joined other
  all-kept (r ∷ rs) e f joined other h =
      let both = and_both (report_in 65535 r) (all (report_in 65535) rs) h in
      all-kept rs (on_source e r.source (reported_source (moment_of e) us r)) (reported-kept r e f joined both.0) joined other both.1

  pub session-kept : (e : End) → SoundState e → is_member e.status ≡ true → same_host m.sender e.host ≡ false → all (report_in 65535) m.reports ≡ true
      → SoundState (session_of (moment_of e) us m e).left
  unfolding session_of
  session-kept = all-kept m.reports

-- ---- Fire: whatever wait is chosen, what stands under its name goes out
module _ (e : End) (f : SoundState e) (member : is_member e.status ≡ true) (us : List ℕ) (drawn : Drawn us) where
  fire-kept : (rank : ℕ) (name : Name) (x : Slot) → (kept_under e name).slot ≡ x → SoundState (fire_at us rank name e x).left
  unfolding fire_at
  fire-kept rank name Empty p = f
  fire-kept rank name (Waiting q x) p =
      let s = source_at e name.source in
      let n = name.number.0 in
      let some : (kept_under e name).slot ≡ Empty → ⊥ = λ o. let no : ◌≡◌ {A = ℕ} 0 1 = cc in omega arith in
      let hs = (there e f name some).source in
      let sound = f.each name.source.0 hs in
      by_cond (λ (r : Step). SoundState r.left) (eqb rank express_rank)
      (λ _. source-kept e name.source _ f (dropped-kept s sound member n (stands s sound n some)))
      (λ _. source-kept e name.source _ f (next_round_kept s sound member n (moment_of e) us drawn q x (ranges_of e f name.source hs) p))
  fire-kept rank name (Held No) p = f
  fire-kept rank name (Held (Due due k)) p =
      let at = there e f name (λ o. let no : ◌≡◌ {A = ℕ} 0 1 = cc in omega arith) in
      let v = held_in e.host name.source (pair_of e name) (kept_under e name) (Due due k) (stands_as (Held (Due due k)) at p) in
      let hk = (reply_from e.host name.source due k v.reply).host in
      source-kept e name.source _ f
      (quiet-kept (source_at e name.source) (f.each name.source.0 at.source) member name.number.0 (moment_of e) us drawn (distance_to e k) (ranges_of e f k hk) (ap is_held p))

  pub fired-kept : (x : Earliest) → SoundState (fired us e x).left
  unfolding fired
  fired-kept NoWait = f
  fired-kept (First w) = fire-kept w.rank w.name _ refl
