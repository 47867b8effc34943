-- The laws behind the reader's loops and what they load: an array filled from the front, and the message that bytes hold, part
-- by part at its place.
use mathlib.Core.Path.{◌≡◌, refl, sym, ap, ◌∙◌}
use Prim.Native.Nat.{ℕ, zero, suc, ◌+◌, ◌*◌, ◌-◌, ◌≤◌, ◌<◌}
use native.Mathlib.Nat.{mul-le-mul_right, suc-mul, sub-zero}
use native.Mathlib.Numerals.{add-one}
use native.Mathlib.Omega.{arith}
use mathlib.Core.List.{List, [], ◌∷◌, ◌++◌}
use lib.ListN.{length, take, drop, get_or, set, replicate}
use lib.Seq.{drop-drop}
use Rattle.std.proofs.Common.{append-nil}
use Rattle.numbers.specs.Number.{value}
use Rattle.message.specs.Section.{entries, section_from}
use Rattle.message.specs.Entry.{as_host, name_width, name_of, cue_width, cue_of, report_width, report_of, echo_width, echo_of, blank_name, blank_cue, blank_report, blank_echo}
use Rattle.message.specs.Message.{kind_of, kind_byte, meaning_with, held_as, name_places, report_places, echo_places, from_names, from_cues, from_reports, from_echoes}
use Rattle.message.specs.declared.Counts.{Counts}
use Rattle.message.specs.declared.Message.{Message}
use Rattle.message.proofs.SectionLaws.{length-entries, entries-more, fill_next}
use Rattle.message.proofs.LayoutLaws.{counts_with, at_cues, at_reports, at_echoes, cues-at, reports-at, echoes-at, names-count, cues-count, reports-count, echoes-count}

-- one entry more in an array that is filled from the front
pub read_turn : {A : Type 0} (f : List ℕ → A) (w k : ℕ) (d : A) (s : List ℕ) (at i : ℕ) (es : List A) (x : A) → i < k
    → es ≡ entries f w i (drop at s) ++ replicate (k - i) d → x ≡ f (drop (at + i * w) s)
    → set es i x ≡ entries f w (i + 1) (drop at s) ++ replicate (k - (i + 1)) d
read_turn f w k d s at i es x h e p =
    let t : List ℕ = drop at s in
    let q : x ≡ f (drop (i * w) t) = p ∙ ap f (sym (drop-drop (i * w) at s)) in
    let m : entries f w (i + 1) t ≡ entries f w i t ++ (f (drop (i * w) t) ∷ []) = rw add-one (entries-more f w i t) in
    (λ j. set (e j) i (q j))
    ∙ fill_next (entries f w i t) k i d (f (drop (i * w) t)) (length-entries f w i t) h
    ∙ ap (λ l. l ++ replicate (k - (i + 1)) d) (sym m)

-- ---- a loop that reads the first n entries of w bytes into an array of k places: i of them are there
pub record FilledSoFar {A : Type 0} (f : List ℕ → A) (w k : ℕ) (d : A) (s : List ℕ) (at n : ℕ) (es : List A) (i : ℕ) : Type 0 where
  pub room : at + n * w ≤ length s
  pub places : n ≤ k
  pub within : i ≤ n
  pub filled : es ≡ entries f w i (drop at s) ++ replicate (k - i) d

pub fill_start : {A : Type 0} {f : List ℕ → A} {w k : ℕ} {d : A} {s : List ℕ} {at n : ℕ} → at + n * w ≤ length s → n ≤ k
    → FilledSoFar f w k d s at n (replicate k d) 0
unfolding entries
fill_start r p = record { room = r; places = p; within = omega arith; filled = rw sub-zero }

module _ {A : Type 0} {f : List ℕ → A} {w k : ℕ} {d : A} {s : List ℕ} {at n : ℕ} {es : List A} {i : ℕ} (l : FilledSoFar f w k d s at n es i) where
  -- one entry more is there
  pub entry-there : i < n → at + i * w + w ≤ length s
  entry-there h =
      let m : (i + 1) * w ≤ n * w = mul-le-mul_right w (omega arith) in
      let e : (i + 1) * w ≡ i * w + w = rw (add-one, suc-mul) in
      omega (arith, l.room)

  pub fill_more : {x : A} → i < n → x ≡ f (drop (at + i * w) s) → FilledSoFar f w k d s at n (set es i x) (i + 1)
  fill_more {x} h e = record {
    room = l.room;
    places = l.places;
    within = omega arith;
    filled = read_turn f w k d s at i es x (omega (arith, l.places)) l.filled e;
  }

  pub fill_all : n ≤ i → es ≡ entries f w n (drop at s) ++ replicate (k - n) d
  fill_all h =
      let e : i ≡ n = omega (arith, l.within) in
      rw (← e) l.filled

-- entries of one byte are the bytes
pub entries-bytes : (n : ℕ) (s : List ℕ) → n ≤ length s → entries (λ (t : List ℕ). get_or t 0 0) 1 n s ≡ take n s
unfolding entries
entries-bytes zero s h = refl
entries-bytes (suc n) [] h = absurd (omega arith)
entries-bytes (suc n) (x ∷ s) h = ap (λ (l : List ℕ). x ∷ l) (entries-bytes n s (omega arith))

-- the first of at most one cue, copied over zeros
pub cue_there : (n at : ℕ) (s b : List ℕ) → n ≤ 1 → b ≡ take (at + n * 24 - at) (drop at s)
    → b ++ drop (n * 24) (replicate 24 0) ≡ get_or (entries cue_of cue_width n (drop at s)) 0 blank_cue
unfolding entries
cue_there zero at s b h e =
    let z : at + 0 * 24 - at ≡ 0 = omega arith in
    ap (λ (l : List ℕ). l ++ replicate 24 0) (e ∙ ap (λ (k : ℕ). take k (drop at s)) z)
cue_there (suc zero) at s b h e =
    let z : at + 1 * 24 - at ≡ 24 = omega arith in
    append-nil b ∙ e ∙ ap (λ (k : ℕ). take k (drop at s)) z
cue_there (suc (suc n)) at s b h e = absurd (omega arith)

-- ---- the message that bytes hold, with the counts c

-- the entries of a section that starts at `at` come one byte after its start, as many as its count says
entries_at : {A : Type 0} (f : List ℕ → A) (w : ℕ) (s t : List ℕ) (at next count : ℕ) → t ≡ drop at s → at + 1 ≡ next → count ≡ get_or t 0 0
    → section_from f w t ≡ entries f w count (drop next s)
unfolding section_from
entries_at f w s t at next count e h c =
    λ i. entries f w (sym c i) ((ap (drop 1) e ∙ drop-drop 1 at s ∙ ap (λ (k : ℕ). drop k s) h) i)

module _ (w : ℕ) (s : List ℕ) where
  -- where the entries start
  abbrev pub to_cues : Counts → ℕ
  to_cues c = 10 + c.names * name_width w

  abbrev pub to_reports : Counts → ℕ
  to_reports c = 11 + c.names * name_width w + c.cues * cue_width

  abbrev pub to_echoes : Counts → ℕ
  to_echoes c = 12 + c.names * name_width w + c.cues * cue_width + c.reports * report_width w

  names-from : (meaning_with w s).names ≡ entries (name_of w) (name_width w) (counts_with w s).names (drop 9 s)
  unfolding meaning_with
  names-from = entries_at (name_of w) (name_width w) s (from_names s) 8 9 (counts_with w s).names refl refl (names-count w s)

  cues-from : (meaning_with w s).cues ≡ entries cue_of cue_width (counts_with w s).cues (drop (to_cues (counts_with w s)) s)
  unfolding meaning_with
  cues-from =
      entries_at cue_of cue_width s (from_cues w s) (at_cues w s) (to_cues (counts_with w s)) (counts_with w s).cues (cues-at w s) (omega arith) (cues-count w s)

  reports-from : (meaning_with w s).reports ≡ entries (report_of w) (report_width w) (counts_with w s).reports (drop (to_reports (counts_with w s)) s)
  unfolding meaning_with
  reports-from =
      entries_at (report_of w) (report_width w) s (from_reports w s) (at_reports w s) (to_reports (counts_with w s)) (counts_with w s).reports
      (reports-at w s) (omega arith) (reports-count w s)

  echoes-from : (meaning_with w s).echoes ≡ entries echo_of echo_width (counts_with w s).echoes (drop (to_echoes (counts_with w s)) s)
  unfolding meaning_with
  echoes-from =
      entries_at echo_of echo_width s (from_echoes w s) (at_echoes w s) (to_echoes (counts_with w s)) (counts_with w s).echoes
      (echoes-at w s) (omega arith) (echoes-count w s)

  -- what the reader loads by the counts c
  abbrev pub loaded_by : Counts → Message
  loaded_by c = record {
    kind = kind_of (kind_byte s);
    sender = as_host (get_or s 1 0);
    stamp = value (take 6 (drop 2 s));
    counts = c;
    names = entries (name_of w) (name_width w) c.names (drop 9 s) ++ replicate (name_places - c.names) blank_name;
    cue = get_or (entries cue_of cue_width c.cues (drop (to_cues c) s)) 0 blank_cue;
    reports = entries (report_of w) (report_width w) c.reports (drop (to_reports c) s) ++ replicate (report_places - c.reports) blank_report;
    echoes = entries echo_of echo_width c.echoes (drop (to_echoes c) s) ++ replicate (echo_places - c.echoes) blank_echo;
  }

  pub loaded : loaded_by (counts_with w s) ≡ held_as (meaning_with w s)
  unfolding meaning_with
  loaded =
      let c : Counts = counts_with w s in
      λ i. record {
        kind = kind_of (kind_byte s);
        sender = as_host (get_or s 1 0);
        stamp = value (take 6 (drop 2 s));
        counts = c;
        names = sym names-from i ++ replicate (name_places - c.names) blank_name;
        cue = get_or (sym cues-from i) 0 blank_cue;
        reports = sym reports-from i ++ replicate (report_places - c.reports) blank_report;
        echoes = sym echoes-from i ++ replicate (echo_places - c.echoes) blank_echo;
      }
