-- The messages that a sound end puts out pass questions 9, 10 and 11.
use mathlib.Core.Path.{◌≡◌, refl, sym, ap, ◌∙◌}
use Prim.Native.Nat.{ℕ, zero, suc, ◌+◌, ◌-◌, ◌≤◌, ◌<◌}
use native.Mathlib.Omega.{arith}
use mathlib.Core.Bool.{Bool, true, false, not, ◌&&◌}
use mathlib.Core.List.{List, [], ◌∷◌}
use lib.ListN.{length, get_or, length-append}
use borrow.Author.Tests.{eq-eqb, lt-ltb, le-leb, ltb-true}
use Rattle.numbers.proofs.Cases.{by_order}
use Rattle.message.specs.declared.Host.{Host}
use Rattle.message.specs.declared.CueNumber.{CueNumber}
use Rattle.message.specs.declared.Name.{Name}
use Rattle.message.specs.declared.Echo.{Echo}
use Rattle.message.specs.Cue.{cue_in}
use Rattle.message.specs.Section.{all, rises}
use Rattle.message.specs.Entry.{as_host}
use Rattle.message.specs.declared.HostRule.TheVariants.{NeitherSenderNorSource, AnotherOfAnother}
use Rattle.message.specs.Kind.{row_at, most_number}
use Rattle.message.specs.Message.{DATA, RQST, SESS, ANNC, counts_of}
use Rattle.message.specs.Question.{first_no, meaning_questions, kind_has_counts, in_range, window_fits, hosts_fit, host_in, report_in, echo_in, not_from, report_source, echo_host, same_host, ticks_in}
use Rattle.message.proofs.QuestionLaws.{and_both}
use Rattle.end.specs.Parts.{Span, Closed, Open, Heard, Never, At}
use Rattle.end.specs.declared.End.{End}
use Rattle.end.specs.State.{no_source, moment_of}
use Rattle.end.specs.Sound.{all_of, span_tests, heard_tests}
use Rattle.end.specs.Messages.{about_name, data_message, request_message, announce_message, session_message, report_on, echo_on, reports_below, echoes_below}
use Rattle.end.specs.Event.{own_name}
use Rattle.end.proofs.SoundLaws.{nth}
use Rattle.end.proofs.Tools.{clash'}
use Rattle.invariants.proofs.Facts.{SoundState}
use Rattle.invariants.proofs.Gathered.{One, nothing, single, one-most, all_weaken, Gathered, gathered_none, gathered_more}

-- ---- the messages about a name
module _ (e : End) (f : SoundState e) where
  host_in_lem : host_in e.host ≡ true
  host_in_lem = lt-ltb e.host.0 8 f.host

  clock_in_lem : ticks_in e.clock ≡ true
  clock_in_lem = lt-ltb e.clock 281474976710656 f.clock

  pub data_passes : (cue : List ℕ) → e.next < 65536 → cue_in cue ≡ true → first_no (meaning_questions DATA (data_message (moment_of e) (own_name e) cue)) ≡ 0
  unfolding in_range hosts_fit window_fits all rises
  data_passes cue l fits = rw (host_in_lem, clock_in_lem, le-leb e.next 65535 (omega arith), fits, eq-eqb e.host.0 e.host.0 refl)

  pub request-passes : (name : Name) → name.source.0 < 8 → name.number.0 < 65536 → same_host e.host name.source ≡ false
      → first_no (meaning_questions RQST (request_message (moment_of e) name)) ≡ 0
  unfolding in_range hosts_fit window_fits all rises
  request-passes name hs hn other =
      rw (host_in_lem, clock_in_lem, lt-ltb name.source.0 8 hs, le-leb name.number.0 65535 (omega arith), eq-eqb e.host.0 e.host.0 refl, other)

  -- of a kind whose host is another than the sender, as is the source: XPRS and 22
  pub asking-passes : (kind : ℕ) → most_number kind ≡ 65535 → (row_at kind).host ≡ AnotherOfAnother → (name : Name) (k : Host) → name.source.0 < 8
      → name.number.0 < 65536 → k.0 < 8 → same_host k e.host ≡ false → same_host name.source e.host ≡ false
      → first_no (meaning_questions kind (about_name kind (moment_of e) name k [])) ≡ 0
  unfolding in_range hosts_fit window_fits all rises
  asking-passes kind most rule name k hs hn hk a b =
      rw (most, rule, host_in_lem, clock_in_lem, lt-ltb name.source.0 8 hs, le-leb name.number.0 65535 (omega arith), lt-ltb k.0 8 hk, a, b)

  -- of a kind that carries a cue, and whose host is neither the sender nor the source: REPL and 23
  pub carrying_passes : (kind : ℕ) → most_number kind ≡ 65535 → (row_at kind).host ≡ NeitherSenderNorSource → (name : Name) (k : Host) (cue : List ℕ)
      → name.source.0 < 8 → name.number.0 < 65536 → k.0 < 8 → cue_in cue ≡ true → same_host k e.host ≡ false → same_host k name.source ≡ false
      → first_no (meaning_questions kind (about_name kind (moment_of e) name k (cue ∷ []))) ≡ 0
  unfolding in_range hosts_fit window_fits all rises
  carrying_passes kind most rule name k cue hs hn hk fits a b =
      rw (most, rule, host_in_lem, clock_in_lem, lt-ltb name.source.0 8 hs, le-leb name.number.0 65535 (omega arith), lt-ltb k.0 8 hk, fits, a, b)

  -- ---- kind 24, whose last is from its first to 63 above it
  pub announce-passes : (first last : CueNumber) → first.0 ≤ last.0 → last.0 ≤ first.0 + 63 → last.0 < 65536
      → first_no (meaning_questions ANNC (announce_message (moment_of e) first last)) ≡ 0
  unfolding in_range hosts_fit window_fits all rises
  announce-passes first last low most below =
      let lowest = le-leb first.0 65535 (omega arith) in
      let highest = le-leb last.0 65535 (omega arith) in
      rw (host_in_lem, clock_in_lem, lowest, highest, eq-eqb e.host.0 e.host.0 refl, le-leb first.0 last.0 low, le-leb last.0 (first.0 + 63) most)

  -- ---- SESS: the reports
  report-one : (k : ℕ) → k < 8 → (own : Bool) (next missed : ℕ) (x : Span) → all_of (span_tests own next missed x) ≡ true
      → One (report_in 65535) report_source k (report_on (as_host k) x)
  report-one k hk own next missed Closed h = nothing
  report-one k hk own next missed (Open first last) h =
      let most = le-leb last.0 65535 (omega (arith, ltb-true last.0 65536 (nth (span_tests own next missed (Open first last)) 1 h))) in
      single refl (λ i. lt-ltb k 8 hk i && most i)

  reports : (k : ℕ) → k ≤ 8 → Gathered (report_in 65535) report_source k (reports_below e k)
  unfolding reports_below
  reports zero h = gathered_none (report_in 65535) report_source
  reports (suc k) h = gathered_more (report_in 65535) report_source k (reports_below e k) (reports k (omega arith))
      (let s = get_or e.sources k no_source in
      report-one k (omega arith) (same_host (as_host k) e.host) e.next s.missed s.span (f.each k (omega arith)).span)

  -- ---- the echoes: no stamp is heard from oneself
  heard_at : ℕ → Heard
  heard_at k = (get_or e.sources k no_source).heard

  is_echo : Echo → Bool
  is_echo x = echo_in x && not_from e.host x

  echo-one : (k : ℕ) → k < 8 → (x : Heard) → all_of (heard_tests (same_host (as_host k) e.host) e.clock x) ≡ true → One is_echo echo_host k (echo_on (as_host k) e.clock x)
  unfolding is_echo
  echo-one k hk Never h = nothing
  echo-one k hk (At stamp when reported) h =
      let tests = heard_tests (same_host (as_host k) e.host) e.clock (At stamp when reported) in
      let held = lt-ltb (e.clock - when) 281474976710656 (omega (arith, f.clock)) in
      single refl (λ i. (lt-ltb k 8 hk i && (nth tests 1 h i && held i)) && nth tests 0 h i)

  echo-at : (k : ℕ) → k < 8 → One is_echo echo_host k (echo_on (as_host k) e.clock (heard_at k))
  unfolding heard_at
  echo-at k hk = echo-one k hk (heard_at k) (f.each k hk).heard

  echoes : (k : ℕ) → k ≤ 8 → Gathered is_echo echo_host k (echoes_below e k)
  unfolding echoes_below heard_at
  echoes zero h = gathered_none is_echo echo_host
  echoes (suc k) h = gathered_more is_echo echo_host k (echoes_below e k) (echoes k (omega arith)) (echo-at k (omega arith))

  own-none : (x : Heard) → all_of (heard_tests (same_host e.host e.host) e.clock x) ≡ true → echo_on e.host e.clock x ≡ []
  own-none Never h = refl
  own-none (At stamp when reported) h =
      clash' (ap not (sym (eq-eqb e.host.0 e.host.0 refl)) ∙ nth (heard_tests (same_host e.host e.host) e.clock (At stamp when reported)) 0 h)

  -- so they are fewer
  echoes_less : (k : ℕ) → k ≤ 8 → e.host.0 < k → length (echoes_below e k) < k
  unfolding echoes_below heard_at
  echoes_less zero h l = absurd (omega arith)
  echoes_less (suc k) h l =
      let echo = echo_on (as_host k) e.clock (heard_at k) in
      let long = length-append (echoes_below e k) echo in
      by_order e.host.0 k
      (λ low. omega (arith, long, echoes_less k (omega arith) low, one-most (echo-at k (omega arith))))
      (λ high.
      let same : e.host.0 ≡ k = omega arith in
      let none = ap (λ (i : ℕ). length (echo_on (as_host i) e.clock (heard_at i))) (sym same) ∙ ap length (own-none (heard_at e.host.0) (f.each e.host.0 f.host).heard) in
      omega (arith, long, none, (echoes k (omega arith)).short))

  -- ---- so SESS has its counts, and passes
  pub session-counts : kind_has_counts (session_message e).kind (counts_of (session_message e)) ≡ true
  session-counts =
      let less : length (echoes_below e 8) ≤ 7 = omega (arith, echoes_less 8 (omega arith) f.host) in
      λ i. le-leb (length (reports_below e 8)) 8 (reports 8 (omega arith)).short i && le-leb (length (echoes_below e 8)) 7 less i

  pub session-passes : first_no (meaning_questions SESS (session_message e)) ≡ 0
  unfolding in_range hosts_fit window_fits all rises is_echo
  session-passes =
      let r = reports 8 (omega arith) in
      let x = echoes 8 (omega arith) in
      let in_range_lem = all_weaken is_echo echo_in (λ a h. (and_both (echo_in a) (not_from e.host a) h).0) (echoes_below e 8) x.each in
      let others = all_weaken is_echo (not_from e.host) (λ a h. (and_both (echo_in a) (not_from e.host a) h).1) (echoes_below e 8) x.each in
      rw (host_in_lem, clock_in_lem, r.each, in_range_lem, r.rise, x.rise, others)
