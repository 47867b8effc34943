-- The theorems of specs/Theorems.antt, from the layout's two directions (ThereAndBack.antt) and what the questions say.
use mathlib.Core.Path.{◌≡◌, refl, sym, ap, subst, ◌∙◌}
use Prim.Native.Nat.{ℕ, zero, suc, ◌*◌, ◌-◌, ◌^◌, ◌≤◌, ◌<◌}
use native.Mathlib.Omega.{arith}
use mathlib.Core.Bool.{true, false, ◌&&◌}
use mathlib.Core.List.{List, [], ◌∷◌}
use mathlib.Core.Option.{Option, none, some}
use lib.ListN.{length, take, drop, get_or, length-drop}
use lib.Seq.{length-take-le, take-append_seam}
use lib.Dec.{leb, eqb}
use borrow.Author.Tests.{ltb-true, eqb-true, eq-eqb, le-leb, leb-true}
use Rattle.numbers.specs.Number.{Bytes}
use Rattle.message.specs.Section.{all, entries, section_from}
use Rattle.message.specs.Cue.{cue_in}
use Rattle.message.specs.Limit.{number_limit, old_number_limit, ticks_limit, room_needed}
use Rattle.message.specs.Kind.{is_old, kind_of, kind_shift, most_number}
use Rattle.message.specs.Entry.{cue_width, cue_of}
use Rattle.message.specs.Message.{number_width, Small, Meaning, Datagram, Probe, Saying, kind_byte, meaning_of, meaning_from, held_as, bytes_as, bytes_of, old_bytes_of, bytes_with, counts_of, meaning_with, size_with, size_from, from_cues, said_by, datagram_bytes}
use Rattle.message.specs.Question.{ask, first_no, verdict_for, message_questions, meaning_questions, kind_has_counts, in_range, hosts_fit, host_in, number_in, ticks_in, name_in, report_in, echo_in, message_for, read_refusal, read_of, datagram_by, datagram_in, write_refusal, length_for, written_of, output_for, output_of}
use Rattle.message.specs.declared.Message.{Message}
use Rattle.message.specs.declared.Reading.{Reading}
use Rattle.message.specs.declared.Verdict.TheVariants as verdict
use Rattle.message.specs.declared.NameEntry.{NameEntry}
use Rattle.message.specs.declared.Report.{Report}
use Rattle.message.specs.declared.Echo.{Echo}
use Rattle.message.proofs.SectionLaws as sections
use Rattle.message.proofs.EntryLaws.{CueFits, EchoFits}
use Rattle.message.proofs.LayoutLaws.{at_cues, cues-at, cues-count, held_back}
use Rattle.message.proofs.QuestionLaws.{and_both, all_true, all-passed, kind-again, old_kind, old_back, most-below, most-fits, most-rises, counts_new, counts_fit, counts-small, range-rises}
use Rattle.roundtrip.specs.Theorems.{Arrays, Sized, wire_of, saying_of, said_in, ReadsBack, VeryBytes, OldBytes, OldNumbers, StillRead, MeansTheSame, Rewritten, AtMost127, ProbeIsEmpty, OnlyProbeIsEmpty}
use Rattle.roundtrip.proofs.ThereAndBack.{Fits, sized, meaning_back, bytes_back}

-- ---- what the answered questions say

-- what was read passed questions 8, 9, 10 and 11
pub record Accepted (s : List ℕ) : Type 0 where
  pub size : size_from s ≡ length s
  pub counts : kind_has_counts (kind_of (kind_byte s)) (counts_of (meaning_from s)) ≡ true
  pub rest : first_no (meaning_questions (kind_byte s) (meaning_from s)) ≡ 0

pub accepted : (s : List ℕ) → first_no (message_questions s) ≡ 0 → Accepted s
accepted s h =
    let last = meaning_questions (kind_byte s) (meaning_from s) in
    let rest = ask (kind_has_counts (kind_of (kind_byte s)) (counts_of (meaning_from s))) 9 ∷ last in
    let a = all-passed (leb 12 (length s) && eqb (size_from s) (length s)) 8 rest (omega arith) h in
    let b = all-passed (kind_has_counts (kind_of (kind_byte s)) (counts_of (meaning_from s))) 9 last (omega arith) a.1 in
    record {
      size = eqb-true (size_from s) (length s) (and_both (leb 12 (length s)) _ a.0).1;
      counts = b.0;
      rest = b.1;
    }

-- and the other way round
pub accepts : (s : List ℕ) → Accepted s → first_no (message_questions s) ≡ 0
accepts s h =
    let long : leb 12 (length s) ≡ true = le-leb 12 (length s) (omega (arith, h.size)) in
    rw (long, eq-eqb (size_from s) (length s) h.size, h.counts) h.rest

-- what is written passed questions 1, 9, 10 and 11
pub record Writable (m : Message) (out : List ℕ) : Type 0 where
  pub room : room_needed ≤ length out
  pub counts : kind_has_counts m.kind m.counts ≡ true
  pub rest : first_no (meaning_questions m.kind (meaning_of m)) ≡ 0

pub writable : (m : Message) (out : List ℕ) → write_refusal (Saying m) out ≡ 0 → Writable m out
unfolding write_refusal
writable m out h =
    let last = meaning_questions m.kind (meaning_of m) in
    let rest = ask (kind_has_counts m.kind m.counts) 9 ∷ last in
    let a = all-passed (leb room_needed (length out)) 1 rest (omega arith) h in
    let b = all-passed (kind_has_counts m.kind m.counts) 9 last (omega arith) a.1 in
    record { room = leb-true room_needed (length out) a.0; counts = b.0; rest = b.1 }

pub writes : (m : Message) (out : List ℕ) → Writable m out → write_refusal (Saying m) out ≡ 0
unfolding write_refusal
writes m out h = rw (le-leb room_needed (length out) h.room, h.counts) h.rest

-- ---- ranges: question 10 makes each part fit its bytes
module _ (most limit : ℕ) (below : most < limit) where
  name_below : (n : NameEntry) → name_in most n ≡ true → n.name.number.0 < limit
  name_below n h =
      let a = (and_both (host_in n.name.source) _ h).1 in
      let b : n.name.number.0 ≤ most = leb-true n.name.number.0 most (and_both (number_in most n.name.number) _ a).0 in
      omega arith

  report-below : (r : Report) → report_in most r ≡ true → r.last.0 < limit
  report-below r h =
      let b : r.last.0 ≤ most = leb-true r.last.0 most (and_both (host_in r.source) _ h).1 in
      omega arith

  -- every cue number of a meaning in range
  numbers-below : (M : Meaning) → in_range most M ≡ true
      → sections.All (λ (n : NameEntry). n.name.number.0 < limit) M.names × sections.All (λ (r : Report). r.last.0 < limit) M.reports
  unfolding in_range
  numbers-below M h =
      let b = and_both (ticks_in M.stamp) _ (and_both (host_in M.sender) _ h).1 in
      let d = and_both (all (name_in most) M.names) _ b.1 in
      let g = and_both (all (report_in most) M.reports) _ (and_both (all cue_in M.cues) _ d.1).1 in
      (all_true (name_in most) name_below M.names d.0, all_true (report_in most) report-below M.reports g.0)

echo-fits : (e : Echo) → echo_in e ≡ true → EchoFits e
echo-fits e h =
    let a = and_both (ticks_in e.stamp) _ (and_both (host_in e.host) _ h).1 in
    (ltb-true e.stamp ticks_limit a.0, ltb-true e.held ticks_limit a.1)

in_range_lem : (byte : ℕ) (M : Meaning) → first_no (meaning_questions byte M) ≡ 0 → in_range (most_number byte) M ≡ true
in_range_lem byte M h = (all-passed (in_range (most_number byte) M) 10 (ask (hosts_fit M) 11 ∷ []) (omega arith) h).0

pub fits_of_lem : (byte : ℕ) (M : Meaning) → first_no (meaning_questions byte M) ≡ 0 → sections.All CueFits M.cues → Fits (number_width byte) M
unfolding in_range
fits_of_lem byte M h c =
    let most : ℕ = most_number byte in
    let a = in_range_lem byte M h in
    let b = and_both (ticks_in M.stamp) _ (and_both (host_in M.sender) _ a).1 in
    let d = and_both (all (name_in most) M.names) _ b.1 in
    let e = (and_both (all cue_in M.cues) _ d.1).1 in
    let g = and_both (all (report_in most) M.reports) _ e in
    let numbers = numbers-below most (256 ^ number_width byte) (most-fits byte) M a in
    record {
      stamp = ltb-true M.stamp ticks_limit b.0;
      names = numbers.0;
      cues = c;
      reports = numbers.1;
      echoes = all_true echo_in echo-fits M.echoes g.1;
    }

-- ---- a message struct and its meaning
take_short : {A : Type 0} (n : ℕ) (x : A) → n ≤ 1 → length (take n (x ∷ [])) ≡ n
take_short zero x h = refl
take_short (suc zero) x h = refl
take_short (suc (suc n)) x h = absurd (omega arith)

cue-fits : (n : ℕ) (c : List ℕ) → length c ≡ 24 → sections.All CueFits (take n (c ∷ []))
cue-fits zero c h = sections.none
cue-fits (suc zero) c h = sections.some h sections.none
cue-fits (suc (suc n)) c h = sections.some h sections.none

-- the counts of a writable message are those of its meaning
counted : (m : Message) {w : ℕ} → Arrays m → Small w m.counts → counts_of (meaning_of m) ≡ m.counts
counted m a z =
    let n = length-take-le m.counts.names m.names (omega (arith, a.names, z.names)) in
    let c = take_short m.counts.cues m.cue z.cues in
    let r = length-take-le m.counts.reports m.reports (omega (arith, a.reports, z.reports)) in
    let e = length-take-le m.counts.echoes m.echoes (omega (arith, a.echoes, z.echoes)) in
    λ i. record { names = n i; cues = c i; reports = r i; echoes = e i }

-- ---- a meaning after a byte of its kind, old or new
module _ (byte : ℕ) (M : Meaning) where
  pub first_byte : kind_byte (bytes_as byte M) ≡ byte
  unfolding bytes_with
  first_byte = refl

  module _ (e : kind_of byte ≡ M.kind) (f : Fits (number_width byte) M) where
    -- where it fits its bytes it is read from them
    pub read_as_lem : meaning_from (bytes_as byte M) ≡ M
    read_as_lem = ap (λ (k : ℕ). meaning_with (number_width k) (bytes_as byte M)) first_byte ∙ meaning_back (number_width byte) byte M e f

    -- and with its kind's counts and its questions answered yes it is accepted
    pub accepted_as : kind_has_counts M.kind (counts_of M) ≡ true → first_no (meaning_questions byte M) ≡ 0 → Accepted (bytes_as byte M)
    accepted_as k q = record {
      size = (λ i. size_with (number_width (first_byte i)) (counts_of (read_as_lem i))) ∙ sym (sized (number_width byte) byte M f);
      counts = (λ i. kind_has_counts ((ap kind_of first_byte ∙ e) i) (counts_of (read_as_lem i))) ∙ k;
      rest = (λ i. first_no (meaning_questions (first_byte i) (read_as_lem i))) ∙ q;
    }

-- so it is with the bytes that it is written as
pub read_back : (M : Meaning) → is_old M.kind ≡ false → Fits (number_width M.kind) M → meaning_from (bytes_of M) ≡ M
read_back M e = read_as_lem M.kind M (kind-again M.kind e)

pub meaning_accepted : (M : Meaning) → Fits (number_width M.kind) M → kind_has_counts M.kind (counts_of M) ≡ true
    → first_no (meaning_questions M.kind M) ≡ 0 → Accepted (bytes_of M)
meaning_accepted M f k = accepted_as M.kind M (kind-again M.kind (counts_new M.kind (counts_of M) k)) f k

-- what the reader hands out of accepted bytes
pub read_message : (s : List ℕ) → first_no (message_questions s) ≡ 0 → read_of s ≡ record { verdict = verdict.Accepted; message = held_as (meaning_from s) }
unfolding read_of read_refusal
read_message [] h = absurd (omega arith)
read_message (b ∷ s) h = ap (λ (k : ℕ). record { verdict = verdict_for k; message = message_for k (meaning_from (b ∷ s)) }) h

-- and what it says of any bytes that are there is their message, which passed the questions
pub read_datagram : (b : ℕ) (s : List ℕ) (d : Datagram Message) → datagram_in (read_of (b ∷ s)) ≡ some d
    → (first_no (message_questions (b ∷ s)) ≡ 0) × (d ≡ Saying (held_as (meaning_from (b ∷ s))))
unfolding read_of read_refusal
read_datagram b s d h = go (first_no (message_questions (b ∷ s))) refl
  where
    read : ℕ → Option (Datagram Message)
    read k = datagram_by (verdict_for k) (message_for k (meaning_from (b ∷ s)))

    go : (k : ℕ) → first_no (message_questions (b ∷ s)) ≡ k → (first_no (message_questions (b ∷ s)) ≡ 0) × (d ≡ Saying (held_as (meaning_from (b ∷ s))))
    go zero e =
        let q : read 0 ≡ some d = ap read (sym e) ∙ h in
        (e, cc)
    go (suc k) e =
        let q : read (suc k) ≡ some d = ap read (sym e) ∙ h in
        let z : ◌≡◌ {A = ℕ} 0 1 = cc in
        absurd (omega arith)

held_meaning : (s : List ℕ) → first_no (message_questions s) ≡ 0 → meaning_of (held_as (meaning_from s)) ≡ meaning_from s
held_meaning s h =
    let small = counts_fit (kind_byte s) (kind_of (kind_byte s)) (counts_of (meaning_from s)) (accepted s h).counts in
    held_back (meaning_from s) small.cues

-- ---- what was read passes the questions of its kind, which is never an old one
pub kind-from : (s : List ℕ) → (meaning_from s).kind ≡ kind_of (kind_byte s)
unfolding meaning_with
kind-from s = refl

cues_wide : (n : ℕ) (t : List ℕ) → n * cue_width ≤ length t → sections.All CueFits (entries cue_of cue_width n t)
unfolding entries
cues_wide zero t h = sections.none
cues_wide (suc n) t h = sections.some (length-take-le cue_width t (omega arith)) (cues_wide n (drop cue_width t) (rw length-drop (omega arith)))

module _ (s : List ℕ) (h : Accepted s) where
  pub counts_read : kind_has_counts (meaning_from s).kind (counts_of (meaning_from s)) ≡ true
  counts_read = ap (λ (k : ℕ). kind_has_counts k (counts_of (meaning_from s))) (kind-from s) ∙ h.counts

  pub rest_read : first_no (meaning_questions (meaning_from s).kind (meaning_from s)) ≡ 0
  rest_read =
      let M : Meaning = meaning_from s in
      let a = all-passed (in_range (most_number (kind_byte s)) M) 10 (ask (hosts_fit M) 11 ∷ []) (omega arith) h.rest in
      let more = range-rises (most_number (kind_byte s)) (most_number (kind_of (kind_byte s))) (most-rises (kind_byte s)) M a.0 in
      ap (λ (k : ℕ). first_no (meaning_questions k M)) (kind-from s) ∙ rw more a.1

  -- whatever its kind byte, its cue numbers are in range
  pub range_read : in_range (number_limit - 1) (meaning_from s) ≡ true
  range_read =
      range-rises (most_number (kind_byte s)) (number_limit - 1) (omega (arith, most-below (kind_byte s))) (meaning_from s)
      (in_range_lem (kind_byte s) (meaning_from s) h.rest)

  -- each cue that was read has its 24 bytes
  pub cues_read : sections.All CueFits (meaning_from s).cues
  unfolding meaning_with section_from
  cues_read =
      let w : ℕ = number_width (kind_byte s) in
      let t : List ℕ = from_cues w s in
      let count = cues-count w s in
      let long = ap length (cues-at w s) ∙ length-drop (at_cues w s) s in
      cues_wide (get_or t 0 0) (drop 1 t) (rw length-drop (omega (arith, h.size, count, long)))

  -- the bytes are those of their meaning after their kind byte
  again : Bytes s → bytes_as (kind_byte s) (meaning_from s) ≡ s
  again b = bytes_back (number_width (kind_byte s)) s b h.size

  new_again : Bytes s → is_old (kind_byte s) ≡ false → bytes_of (meaning_from s) ≡ s
  new_again b e = ap (λ (k : ℕ). bytes_as k (meaning_from s)) (kind-from s ∙ kind-again (kind_byte s) e) ∙ again b

  old_again : Bytes s → is_old (kind_byte s) ≡ true → old_bytes_of (meaning_from s) ≡ s
  old_again b e =
      let k : (meaning_from s).kind - kind_shift ≡ kind_byte s = ap (λ (x : ℕ). x - kind_shift) (kind-from s) ∙ old_kind (kind_byte s) e in
      ap (λ (x : ℕ). bytes_as x (meaning_from s)) k ∙ again b

-- what the writer puts out of a datagram that it accepts
written-bytes : (d : Datagram Message) (out : List ℕ) → write_refusal d out ≡ 0 → wire_of d out ≡ datagram_bytes (said_by d)
unfolding written_of output_of
written-bytes d out h = rw h (take-append_seam (datagram_bytes (said_by d)) (drop (length (datagram_bytes (said_by d))) out))

written-long : (d : Datagram Message) (out : List ℕ) → write_refusal d out ≡ 0 → (written_of d out).len ≡ length (datagram_bytes (said_by d))
unfolding written_of
written-long d out h = rw h

module _ (m : Message) (out : List ℕ) (a : Arrays m) (h : write_refusal (Saying m) out ≡ 0) where
  small : Small (number_width m.kind) m.counts
  small = counts-small m.kind m.counts (writable m out h).counts

  fits : Fits (number_width m.kind) (meaning_of m)
  fits = fits_of_lem m.kind (meaning_of m) (writable m out h).rest (cue-fits m.counts.cues m.cue a.cue)

  counts-written : kind_has_counts m.kind (counts_of (meaning_of m)) ≡ true
  counts-written = ap (kind_has_counts m.kind) (counted m a small) ∙ (writable m out h).counts

-- what the reader says of no bytes
said-none : said_in [] ≡ some Probe
unfolding read_of
said-none = refl

-- what it says of a meaning after a byte of its kind
said_as_byte : (byte : ℕ) (M : Meaning) → kind_of byte ≡ M.kind → Fits (number_width byte) M → kind_has_counts M.kind (counts_of M) ≡ true
    → first_no (meaning_questions byte M) ≡ 0 → said_in (bytes_as byte M) ≡ some (Saying M)
said_as_byte byte M e f k q =
    let s : List ℕ = bytes_as byte M in
    let yes : first_no (message_questions s) ≡ 0 = accepts s (accepted_as byte M e f k q) in
    let back : meaning_of (held_as (meaning_from s)) ≡ M = held_meaning s yes ∙ read_as_lem byte M e f in
    ap (λ (r : Reading). saying_of (datagram_in r)) (read_message s yes) ∙ ap (λ (x : Meaning). some (Saying x)) back

said-written : (M : Meaning) → Fits (number_width M.kind) M → kind_has_counts M.kind (counts_of M) ≡ true → first_no (meaning_questions M.kind M) ≡ 0
    → said_in (bytes_of M) ≡ some (Saying M)
said-written M f k = said_as_byte M.kind M (kind-again M.kind (counts_new M.kind (counts_of M) k)) f k

-- ---- the theorems
pub reads_back : ReadsBack
reads_back Probe out a h = ap said_in (written-bytes Probe out h) ∙ said-none
reads_back (Saying m) out a h =
    ap said_in (written-bytes (Saying m) out h) ∙ said-written (meaning_of m) (fits m out a h) (counts-written m out a h) (writable m out h).rest

pub still_read : StillRead
still_read m out a h old range =
    let M : Meaning = meaning_of m in
    let byte : ℕ = m.kind - kind_shift in
    let hosts = (all-passed (in_range (most_number m.kind) M) 10 (ask (hosts_fit M) 11 ∷ []) (omega arith) (writable m out h).rest).1 in
    let questions : first_no (meaning_questions byte M) ≡ 0 = rw (old, range) hosts in
    let kind : kind_of byte ≡ m.kind = old_back m.kind old in
    said_as_byte byte M kind (fits_of_lem byte M questions (cue-fits m.counts.cues m.cue a.cue)) (counts-written m out a h) questions

-- what bytes say is what the datagram says that the reader makes of them
said_as : (s : List ℕ) (M : Datagram Meaning) → said_in s ≡ some M → (d : Datagram Message) × (datagram_in (read_of s) ≡ some d) × (said_by d ≡ M)
said_as s M h = go (datagram_in (read_of s)) refl
  where
    go : (o : Option (Datagram Message)) → datagram_in (read_of s) ≡ o → (d : Datagram Message) × (datagram_in (read_of s) ≡ some d) × (said_by d ≡ M)
    go none e =
        let q : none ≡ some M = ap saying_of (sym e) ∙ h in
        let z : ◌≡◌ {A = ℕ} 0 1 = cc in
        absurd (omega arith)
    go (some d) e =
        let q : some (said_by d) ≡ some M = ap saying_of (sym e) ∙ h in
        (d, e, cc)

-- of any bytes that are there it is their meaning, and they are accepted
said-by : (x : ℕ) (s : List ℕ) (d : Datagram Message) → datagram_in (read_of (x ∷ s)) ≡ some d
    → Accepted (x ∷ s) × (said_by d ≡ Saying (meaning_from (x ∷ s)))
said-by x s d h =
    let r = read_datagram x s d h in
    (accepted (x ∷ s) r.0, ap said_by r.1 ∙ ap (λ (M : Meaning). Saying M) (held_meaning (x ∷ s) r.0))

-- so it is what they are written as, if their kind is no old one
written_as : (s : List ℕ) (d : Datagram Message) → Bytes s → is_old (kind_byte s) ≡ false → datagram_in (read_of s) ≡ some d → datagram_bytes (said_by d) ≡ s
unfolding read_of
written_as [] d b e h =
    let p : Probe ≡ d = cc in
    ap (λ (x : Datagram Message). datagram_bytes (said_by x)) (sym p)
written_as (x ∷ s) d b e h =
    let r = said-by x s d h in
    ap datagram_bytes r.1 ∙ new_again (x ∷ s) r.0 b e

pub very_bytes : VeryBytes
very_bytes s M b e h =
    let d = said_as s M h in
    ap datagram_bytes (sym d.2) ∙ written_as s d.0 b e d.1

-- an old kind's bytes are there, and are accepted as their meaning
said_old : (s : List ℕ) (M : Meaning) → is_old (kind_byte s) ≡ true → said_in s ≡ some (Saying M) → Accepted s × (meaning_from s ≡ M)
said_old [] M e h = absurd (let z : ◌≡◌ {A = ℕ} 0 1 = cc in omega arith)
said_old (x ∷ s) M e h =
    let d = said_as (x ∷ s) (Saying M) h in
    let r = said-by x s d.0 d.1 in
    let q : Saying (meaning_from (x ∷ s)) ≡ Saying M = sym r.1 ∙ d.2 in
    (r.0, cc)

pub old_bytes_lem : OldBytes
old_bytes_lem s M b e h =
    let r = said_old s M e h in
    ap old_bytes_of (sym r.1) ∙ old_again s r.0 b e

pub old_numbers : OldNumbers
old_numbers s M e h =
    let r = said_old s M e h in
    let range : in_range (most_number (kind_byte s)) M ≡ true =
    ap (in_range (most_number (kind_byte s))) (sym r.1) ∙ in_range_lem (kind_byte s) (meaning_from s) r.0.rest in
    let most : most_number (kind_byte s) < old_number_limit = rw e (omega arith) in
    numbers-below (most_number (kind_byte s)) old_number_limit most M range

-- what the reader accepts passes the writer's questions
write_accepts : (s out : List ℕ) (d : Datagram Message) → datagram_in (read_of s) ≡ some d → room_needed ≤ length out → write_refusal d out ≡ 0
unfolding read_of write_refusal
write_accepts [] out d h room =
    let e : Probe ≡ d = cc in
    let yes : write_refusal Probe out ≡ 0 = rw (le-leb room_needed (length out) room) in
    subst (λ (x : Datagram Message). write_refusal x out ≡ 0) e yes
write_accepts (x ∷ s) out d h room =
    let r = read_datagram x s d h in
    let ok : Accepted (x ∷ s) = accepted (x ∷ s) r.0 in
    let m : Message = held_as (meaning_from (x ∷ s)) in
    let yes = writes m out (record {
      room = room;
      counts = counts_read (x ∷ s) ok;
      rest = ap (λ (M : Meaning). first_no (meaning_questions m.kind M)) (held_meaning (x ∷ s) r.0) ∙ rest_read (x ∷ s) ok;
    }) in
    ap (λ (y : Datagram Message). write_refusal y out) r.1 ∙ yes

-- what was read, written anew, says the same
said_anew : (s : List ℕ) (d : Datagram Message) → datagram_in (read_of s) ≡ some d → said_in (datagram_bytes (said_by d)) ≡ some (said_by d)
unfolding read_of
said_anew [] d h =
    let e : Probe ≡ d = cc in
    subst (λ (x : Datagram Message). said_in (datagram_bytes (said_by x)) ≡ some (said_by x)) e said-none
said_anew (x ∷ s) d h =
    let r = said-by x s d h in
    let M : Meaning = meaning_from (x ∷ s) in
    let fits = fits_of_lem M.kind M (rest_read (x ∷ s) r.0) (cues_read (x ∷ s) r.0) in
    let said = said-written M fits (counts_read (x ∷ s) r.0) (rest_read (x ∷ s) r.0) in
    subst (λ (y : Datagram Meaning). said_in (datagram_bytes y) ≡ some y) (sym r.1) said

pub means_the_same : MeansTheSame
means_the_same s out d h room =
    let yes = write_accepts s out d h room in
    (yes, ap said_in (written-bytes d out yes) ∙ said_anew s d h ∙ sym (ap saying_of h))

pub rewritten : Rewritten
rewritten s out d b e h room =
    let yes = write_accepts s out d h room in
    (yes, written-bytes d out yes ∙ written_as s d b e h)

pub at_most_127 : AtMost127
at_most_127 Probe out a h =
    let l : (written_of Probe out).len ≡ 0 = written-long Probe out h in
    (omega (arith, l), ap length (written-bytes Probe out h) ∙ sym l)
at_most_127 (Saying m) out a h =
    let n : length (bytes_of (meaning_of m)) ≡ size_with (number_width m.kind) m.counts =
    sized (number_width m.kind) m.kind (meaning_of m) (fits m out a h) ∙ ap (size_with (number_width m.kind)) (counted m a (small m out a h)) in
    let l : (written_of (Saying m) out).len ≡ length (bytes_of (meaning_of m)) = written-long (Saying m) out h in
    (omega (arith, (small m out a h).size, n, l), ap length (written-bytes (Saying m) out h) ∙ sym l)

-- the probe is written into an output that is long enough, and refused into any other; neither changes it
probe-wire : (k : ℕ) (out : List ℕ) → (take (length_for k []) (output_for k [] out) ≡ []) × (output_for k [] out ≡ out)
probe-wire zero out = (refl, refl)
probe-wire (suc k) out = (refl, refl)

pub probe_is_empty : ProbeIsEmpty
unfolding written_of output_of
probe_is_empty = (λ out. probe-wire (write_refusal Probe out) out, said-none)

-- a message has bytes
not_empty : (M : Meaning) → bytes_of M ≡ [] → ⊥
unfolding bytes_with
not_empty M e =
    let n : length (bytes_of M) ≡ 0 = ap length e in
    omega arith

pub only_probe_is_empty : OnlyProbeIsEmpty
only_probe_is_empty = (written, read)
  where
    written : (d : Datagram Message) (out : List ℕ) → Sized d → write_refusal d out ≡ 0 → wire_of d out ≡ [] → d ≡ Probe
    written Probe out a h e = refl
    written (Saying m) out a h e = absurd (not_empty (meaning_of m) (sym (written-bytes (Saying m) out h) ∙ e))

    read : (s : List ℕ) → said_in s ≡ some Probe → s ≡ []
    read [] h = refl
    read (b ∷ s) h =
        let d = said_as (b ∷ s) Probe h in
        let r : d.0 ≡ Saying (held_as (meaning_from (b ∷ s))) = (read_datagram b s d.0 d.1).1 in
        let q : Saying (meaning_of (held_as (meaning_from (b ∷ s)))) ≡ Probe = ap said_by (sym r) ∙ d.2 in
        let z : ◌≡◌ {A = ℕ} 0 1 = cc in
        absurd (omega arith)
