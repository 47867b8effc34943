-- What is known of a message that was read, and of bytes that an end puts out.
use mathlib.Core.Path.{◌≡◌, refl, sym, ap, ◌∙◌, subst}
use mathlib.Core.Bool.{Bool, true, false, ◌&&◌, ◌||◌}
use mathlib.Core.List.{List, [], ◌∷◌}
use mathlib.Core.Option.{some}
use Prim.Native.Nat.{ℕ, ◌≤◌, ◌<◌}
use native.Mathlib.Omega.{arith}
use lib.ListN.{length, get_or}
use lib.Dec.{eqb}
use borrow.Author.Tests.{eqb-true, eq-eqb, ltb-true, leb-true}
use Rattle.message.specs.Section.{all}
use Rattle.message.specs.Cue.{cue_in}
use Rattle.message.specs.Entry.{blank_name}
use Rattle.message.specs.Message.{DATA, RQST, REPL, SESS, XPRS, FTCH, LATE, ANNC, is_old, kind_of, number_width, most_number, Meaning, meaning_from, bytes_of, counts_of}
use Rattle.message.specs.Question.{ask, first_no, message_questions, meaning_questions, kind_has_counts, in_range, hosts_fit, host_in, number_in, ticks_in, name_in, report_in, rule_holds, host_fits, same_host, read_refusal}
use Rattle.message.specs.declared.NameEntry.{NameEntry}
use Rattle.message.specs.Kind.{row_at}
use Rattle.message.specs.declared.HostRule.{HostRule}
use Rattle.message.specs.declared.HostRule.TheVariants.{SourceAndSender}
use Rattle.message.specs.declared.Host.{Host}
use Rattle.message.proofs.QuestionLaws.{and_both, all-passed, kind-again, counts_new, counted as counted-row}
use Rattle.roundtrip.proofs.ThereAndBack.{Fits}
use Rattle.roundtrip.proofs.RoundTrip.{Accepted, accepted, accepts, first_byte, read_back, meaning_accepted, kind-from, counts_read, rest_read, range_read}
use Rattle.end.specs.Book.{read_as, source, number}
use Rattle.end.proofs.Tools.{by_cond, by_test, clash'}

-- no bytes are no message
pub none_read : (m : Meaning) → read_as [] ≡ some m → ⊥
unfolding read_as read_refusal
none_read m p = let z : ◌≡◌ {A = ℕ} 0 1 = cc in omega arith

-- bytes that are read as a message pass its questions, and the message is their meaning
pub read_is : (x : List ℕ) (m : Meaning) → read_as x ≡ some m → (first_no (message_questions x) ≡ 0) × (meaning_from x ≡ m)
unfolding read_as read_refusal
read_is [] m p = absurd (none_read m p)
read_is (b ∷ s) m p =
    let q : ℕ = first_no (message_questions (b ∷ s)) in
    by_cond (λ o. o ≡ some m → (q ≡ 0) × (meaning_from (b ∷ s) ≡ m)) (eqb q 0)
    (λ t p. (eqb-true q 0 t, cc))
    (λ t p. let z : ◌≡◌ {A = ℕ} 0 1 = cc in absurd (omega arith))
    p

pub reads : (x : List ℕ) → first_no (message_questions x) ≡ 0 → read_as x ≡ some (meaning_from x)
unfolding read_as read_refusal
reads [] h = absurd (omega arith)
reads (b ∷ s) h = rw (eq-eqb (first_no (message_questions (b ∷ s))) 0 h)

-- the bytes of a message whose kind is no old one have its kind
pub written-kind : (y m : Meaning) → is_old y.kind ≡ false → read_as (bytes_of y) ≡ some m → m.kind ≡ y.kind
written-kind y m e p =
    ap (λ (z : Meaning). z.kind) (sym (read_is (bytes_of y) m p).1) ∙ kind-from (bytes_of y) ∙ ap kind_of (first_byte y.kind y) ∙ kind-again y.kind e

-- those of one that fits are read as that message
pub written_back : (y m : Meaning) → is_old y.kind ≡ false → Fits (number_width y.kind) y → read_as (bytes_of y) ≡ some m → y ≡ m
written_back y m e f p = sym (read_back y e f) ∙ (read_is (bytes_of y) m p).1

-- and they are read, if it has its kind's counts and passes questions 10 and 11
pub written-reads : (y : Meaning) → Fits (number_width y.kind) y → kind_has_counts y.kind (counts_of y) ≡ true → first_no (meaning_questions y.kind y) ≡ 0
    → read_as (bytes_of y) ≡ some y
written-reads y f k q =
    reads (bytes_of y) (accepts (bytes_of y) (meaning_accepted y f k q)) ∙ ap some (read_back y (counts_new y.kind (counts_of y) k) f)

-- ---- what questions 9, 10 and 11 say of its name

-- the name in a message that was read is in range
pub record InRange (m : Meaning) : Type 0 where
  pub source : source m < 8
  pub number : number m < 65536

-- the first of a list that passes a test, or what passes it beside
all_first : {A : Type 0} (p : A → Bool) (l : List A) (d : A) → all p l ≡ true → p d ≡ true → p (get_or l 0 d) ≡ true
unfolding all
all_first p [] d h k = k
all_first p (a ∷ l) d h k = (and_both (p a) (all p l) h).0

-- a DATA and an ANNC have a name, whose host is its source and its sender
sender-source : (kind : ℕ) → (row_at kind).host ≡ SourceAndSender → (sender : Host) (l : List NameEntry) → 0 < length l
    → all (host_fits kind sender) l ≡ true → sender.0 ≡ (get_or l 0 blank_name).name.source.0
unfolding all
sender-source kind rule sender [] n h = absurd (omega arith)
sender-source kind rule sender (a ∷ l) n h =
    let source = a.name.source in
    let both : same_host a.host source && same_host a.host sender ≡ true =
    ap (λ (r : HostRule). rule_holds r (same_host a.host source) (same_host a.host sender) (same_host source sender)) (sym rule)
    ∙ (and_both (host_fits kind sender a) (all (host_fits kind sender) l) h).0 in
    let parts = and_both (same_host a.host source) (same_host a.host sender) both in
    sym (eqb-true a.host.0 sender.0 parts.1) ∙ eqb-true a.host.0 source.0 parts.0

module _ (x : List ℕ) (m : Meaning) (p : read_as x ≡ some m) where
  taken : Accepted x
  taken = accepted x (read_is x m p).0

  questions : first_no (meaning_questions m.kind m) ≡ 0
  questions = subst (λ (y : Meaning). first_no (meaning_questions y.kind y) ≡ 0) (read_is x m p).1 (rest_read x taken)

  counted : kind_has_counts m.kind (counts_of m) ≡ true
  counted = subst (λ (y : Meaning). kind_has_counts y.kind (counts_of y) ≡ true) (read_is x m p).1 (counts_read x taken)

  -- whatever byte said its kind, its numbers are below the limit
  range : in_range 65535 m ≡ true
  range = ap (in_range 65535) (sym (read_is x m p).1) ∙ range_read x taken

  pub in_range_lem : InRange m
  unfolding in_range
  in_range_lem =
      let b = (and_both (ticks_in m.stamp) _ (and_both (host_in m.sender) _ range).1).1 in
      let name = all_first (name_in 65535) m.names blank_name (and_both (all (name_in 65535) m.names) _ b).0 refl in
      let n = get_or m.names 0 blank_name in
      let rest = and_both (host_in n.name.source) _ name in
      let most : number m ≤ 65535 = leb-true (number m) 65535 (and_both (number_in 65535 n.name.number) _ rest.1).0 in
      record { source = ltb-true (source m) 8 rest.0; number = omega arith }

  pub reports_in_lem : all (report_in 65535) m.reports ≡ true
  unfolding in_range
  reports_in_lem =
      let b = (and_both (ticks_in m.stamp) _ (and_both (host_in m.sender) _ range).1).1 in
      let c = (and_both (all cue_in m.cues) _ (and_both (all (name_in 65535) m.names) _ b).1).1 in
      (and_both (all (report_in 65535) m.reports) _ c).0

  -- the source that such a message names first is its sender
  pub own-source : (k : ℕ) → (row_at k).host ≡ SourceAndSender → 0 < (row_at k).names → eqb m.kind k ≡ true → m.sender.0 ≡ source m
  unfolding hosts_fit
  own-source k rule some-name same =
      let kind : m.kind ≡ k = eqb-true m.kind k same in
      let count = (counted-row k (counts_of m) (ap (λ (i : ℕ). kind_has_counts i (counts_of m)) (sym kind) ∙ counted)).names in
      let h = (all-passed (hosts_fit m) 11 [] (omega arith)
      (all-passed (in_range (most_number m.kind) m) 10 (ask (hosts_fit m) 11 ∷ []) (omega arith) questions).1).0 in
      let fits = (and_both (all (host_fits m.kind m.sender) m.names) _ h).0 in
      sender-source k rule m.sender m.names (omega (arith, count))
      (ap (λ (i : ℕ). all (host_fits i m.sender) m.names) (sym kind) ∙ fits)

  -- and so of an original
  pub original-source : eqb m.kind DATA ≡ true → m.sender.0 ≡ source m
  original-source k = own-source DATA refl (omega arith) k

  -- a message that is about no name is a SESS
  pub session-kind : eqb m.kind DATA ≡ false → eqb m.kind RQST ≡ false → eqb m.kind REPL ≡ false → eqb m.kind XPRS ≡ false
      → eqb m.kind FTCH ≡ false → eqb m.kind LATE ≡ false → eqb m.kind ANNC ≡ false → eqb m.kind SESS ≡ true
  session-kind a b c d f l n = by_test (eqb m.kind SESS) (λ s. s) (λ s. clash' (sym (rw (a, b, c, d, f, l, n, s)) ∙ counted))
