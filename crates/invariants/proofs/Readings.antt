-- What is known of a message that was read: its numbers are in range, its cue has 24 bytes, and its hosts fit its kind.
use mathlib.Core.Path.{◌≡◌, refl, sym, ap, ◌∙◌}
use Prim.Native.Nat.{ℕ, ◌<◌}
use native.Mathlib.Omega.{arith}
use mathlib.Core.Bool.{true, false, not, ◌&&◌}
use mathlib.Core.List.{List, [], ◌∷◌}
use lib.ListN.{length, get_or}
use lib.Dec.{eqb}
use borrow.Author.Tests.{eqb-true, ltb-true, not-true}
use Rattle.numbers.specs.Number.{value_after}
use Rattle.message.specs.declared.Host.{Host}
use Rattle.message.specs.declared.NameEntry.{NameEntry}
use Rattle.message.specs.declared.HostRule.{HostRule}
use Rattle.message.specs.declared.HostRule.TheVariants.{AnotherOfAnother}
use Rattle.message.specs.Cue.{cue_in}
use Rattle.message.specs.Section.{all}
use Rattle.message.specs.Entry.{blank_name, blank_cue}
use Rattle.message.specs.Kind.{row_at}
use Rattle.message.specs.Message.{DATA, RQST, XPRS, FTCH, most_number, Meaning, meaning_from, counts_of}
use Rattle.message.specs.Question.{ask, first_no, message_questions, kind_has_counts, in_range, hosts_fit, host_in, number_in, ticks_in, name_in, report_in}
use Rattle.message.specs.Question.{rule_holds, host_fits, same_host}
use Rattle.message.proofs.QuestionLaws.{and_both, all-passed, counted}
use Rattle.message.proofs.SectionLaws.{All, none, some}
use Rattle.message.proofs.EntryLaws.{CueFits}
use Rattle.roundtrip.proofs.RoundTrip.{accepted, counts_read, rest_read, range_read, cues_read}
use Rattle.end.specs.Arrival.{message_name, message_host, message_cue}
use Rattle.end.proofs.Readings.{reads, in_range_lem, reports_in_lem, original-source}
use Rattle.end.proofs.Tools.{eqb_flip}

-- numbers in range
pub record MessageIn (m : Meaning) : Type 0 where
  pub sender : m.sender.0 < 8
  pub stamp : ticks_in m.stamp ≡ true
  pub source : (message_name m).source.0 < 8
  pub number : (message_name m).number.0 < 65536
  pub host : (message_host m).0 < 8
  pub cue : cue_in (message_cue m) ≡ true
  pub long : length (message_cue m) ≡ 24
  pub reports : all (report_in 65535) m.reports ≡ true

-- the first of cues in range is in range, and so is the blank one
first_in_lem : (l : List (List ℕ)) → all cue_in l ≡ true → cue_in (get_or l 0 blank_cue) ≡ true
unfolding all cue_in value_after
first_in_lem [] h = refl
first_in_lem (a ∷ l) h = (and_both (cue_in a) (all cue_in l) h).0

first-host : (most : ℕ) (l : List NameEntry) → all (name_in most) l ≡ true → (get_or l 0 blank_name).host.0 < 8
unfolding all
first-host most [] h = omega arith
first-host most (a ∷ l) h =
    let name = (and_both (name_in most a) (all (name_in most) l) h).0 in
    ltb-true a.host.0 8 (and_both (number_in most a.name.number) _ (and_both (host_in a.name.source) _ name).1).1

-- the first of cues of 24 bytes has 24 bytes, and so has the blank one
first-cue : (l : List (List ℕ)) → All CueFits l → length (get_or l 0 blank_cue) ≡ 24
first-cue [] none = refl
first-cue (a ∷ l) (some p q) = p

-- a RQST has one name, whose host is its sender and not the source
asker : (sender : Host) (l : List NameEntry) → length l ≡ 1 → all (host_fits RQST sender) l ≡ true → same_host sender (get_or l 0 blank_name).name.source ≡ false
unfolding all
asker sender [] n h = absurd (omega arith)
asker sender (a ∷ l) n h =
    let both : same_host a.host sender && not (same_host a.host a.name.source) ≡ true = (and_both (host_fits RQST sender a) (all (host_fits RQST sender) l) h).0 in
    let parts = and_both (same_host a.host sender) (not (same_host a.host a.name.source)) both in
    ap (λ (k : ℕ). eqb k a.name.source.0) (sym (eqb-true a.host.0 sender.0 parts.0)) ∙ not-true (same_host a.host a.name.source) parts.1

-- an XPRS and a kind 22 have one name, whose source is not the sender
express-asker : (kind : ℕ) → (row_at kind).host ≡ AnotherOfAnother → (sender : Host) (l : List NameEntry) → length l ≡ 1
    → all (host_fits kind sender) l ≡ true → same_host sender (get_or l 0 blank_name).name.source ≡ false
unfolding all
express-asker kind rule sender [] n h = absurd (omega arith)
express-asker kind rule sender (a ∷ l) n h =
    let source = a.name.source in
    let both : not (same_host a.host sender) && not (same_host source sender) ≡ true =
    ap (λ (r : HostRule). rule_holds r (same_host a.host source) (same_host a.host sender) (same_host source sender)) (sym rule)
    ∙ (and_both (host_fits kind sender a) (all (host_fits kind sender) l) h).0 in
    eqb_flip source.0 sender.0 (not-true (same_host source sender) (and_both (not (same_host a.host sender)) (not (same_host source sender)) both).1)

module _ (x : List ℕ) (h : first_no (message_questions x) ≡ 0) where
  long : length (message_cue (meaning_from x)) ≡ 24
  long = first-cue (meaning_from x).cues (cues_read x (accepted x h))

  pub message_in_lem : MessageIn (meaning_from x)
  unfolding in_range
  message_in_lem =
      let m = meaning_from x in
      let v = in_range_lem x m (reads x h) in
      let b = and_both (host_in m.sender) _ (range_read x (accepted x h)) in
      let c = and_both (ticks_in m.stamp) _ b.1 in
      let d = and_both (all (name_in 65535) m.names) _ c.1 in
      record {
        sender = ltb-true m.sender.0 8 b.0;
        stamp = c.0;
        source = v.source;
        number = v.number;
        host = first-host 65535 m.names d.0;
        cue = first_in_lem m.cues (and_both (all cue_in m.cues) _ d.1).0;
        long = long;
        reports = reports_in_lem x m (reads x h);
      }

  -- the source of a DATA is its sender
  pub data_source : eqb (meaning_from x).kind DATA ≡ true → (meaning_from x).sender.0 ≡ (message_name (meaning_from x)).source.0
  data_source k = original-source x (meaning_from x) (reads x h) k

  -- the names of a message have their kind's count, and its rule of the host
  names_fit : (k : ℕ) → eqb (meaning_from x).kind k ≡ true
      → (length (meaning_from x).names ≡ (row_at k).names) × (all (host_fits k (meaning_from x).sender) (meaning_from x).names ≡ true)
  unfolding hosts_fit
  names_fit k same =
      let y = meaning_from x in
      let kind : y.kind ≡ k = eqb-true y.kind k same in
      let hosts = (all-passed (hosts_fit y) 11 [] (omega arith)
      (all-passed (in_range (most_number y.kind) y) 10 (ask (hosts_fit y) 11 ∷ []) (omega arith) (rest_read x (accepted x h))).1).0 in
      let fits = (and_both (all (host_fits y.kind y.sender) y.names) _ hosts).0 in
      let count = (counted k (counts_of y) (ap (λ (i : ℕ). kind_has_counts i (counts_of y)) (sym kind) ∙ counts_read x (accepted x h))).names in
      (count, ap (λ (i : ℕ). all (host_fits i y.sender) y.names) (sym kind) ∙ fits)

  -- the source of a RQST is not
  pub asked-source : eqb (meaning_from x).kind RQST ≡ true → same_host (meaning_from x).sender (message_name (meaning_from x)).source ≡ false
  asked-source k = let v = names_fit RQST k in asker (meaning_from x).sender (meaning_from x).names v.0 v.1

  -- nor is that of an XPRS or of a kind 22
  express-from : (k : ℕ) → (row_at k).host ≡ AnotherOfAnother → (row_at k).names ≡ 1 → eqb (meaning_from x).kind k ≡ true
      → same_host (meaning_from x).sender (message_name (meaning_from x)).source ≡ false
  express-from k rule one same = let v = names_fit k same in express-asker k rule (meaning_from x).sender (meaning_from x).names (v.0 ∙ one) v.1

  pub express-source : eqb (meaning_from x).kind XPRS ≡ true → same_host (meaning_from x).sender (message_name (meaning_from x)).source ≡ false
  express-source = express-from XPRS refl refl

  pub fetch-source : eqb (meaning_from x).kind FTCH ≡ true → same_host (meaning_from x).sender (message_name (meaning_from x)).source ≡ false
  fetch-source = express-from FTCH refl refl
