-- The laws of the layout, over the width w of a cue number: where the sections start, what their counts are, and that a struct
-- holds its meaning.
use mathlib.Core.Path.{◌≡◌, sym, ap, ◌∙◌}
use Prim.Native.Nat.{ℕ, ◌+◌, ◌*◌, ◌-◌, ◌≤◌}
use native.Mathlib.Omega.{arith}
use mathlib.Core.List.{List}
use lib.ListN.{length, drop, get_or, replicate}
use lib.Seq.{drop-drop, take-append_seam}
use Rattle.message.specs.Section.{section_from, after}
use Rattle.message.specs.Entry.{name_width, name_of, cue_width, cue_of, report_width, report_of, echo_width, echo_of, blank_name, blank_cue, blank_report, blank_echo}
use Rattle.message.specs.Message.{Meaning, meaning_with, counts_of, meaning_of, held_as, name_places, report_places, echo_places, from_names, from_cues, from_reports, from_echoes}
use Rattle.message.specs.declared.Counts.{Counts}
use Rattle.message.proofs.SectionLaws.{length-entries, one_back}
use Rattle.message.proofs.EntryLaws.{head_at}

-- a section of entries of w bytes, at `at`, ends at `next`
after-at : (w : ℕ) (s : List ℕ) (at next : ℕ) → at + (1 + get_or (drop at s) 0 0 * w) ≡ next → after w (drop at s) ≡ drop next s
unfolding after
after-at w s at next e = drop-drop (1 + get_or (drop at s) 0 0 * w) at s ∙ ap (λ (k : ℕ). drop k s) e

-- the count of a section that starts t is t's first byte
count_of : {A : Type 0} (f : List ℕ → A) (w : ℕ) (t : List ℕ) → length (section_from f w t) ≡ get_or t 0 0
unfolding section_from
count_of f w t = length-entries f w (get_or t 0 0) (drop 1 t)

-- the counts of the message that bytes are read as
abbrev pub counts_with : ℕ → List ℕ → Counts
counts_with w s = counts_of (meaning_with w s)

module _ (w : ℕ) (s : List ℕ) where
  pub names-count : (counts_with w s).names ≡ get_or (from_names s) 0 0
  unfolding meaning_with
  names-count = count_of (name_of w) (name_width w) (from_names s)

  pub cues-count : (counts_with w s).cues ≡ get_or (from_cues w s) 0 0
  unfolding meaning_with
  cues-count = count_of cue_of cue_width (from_cues w s)

  pub reports-count : (counts_with w s).reports ≡ get_or (from_reports w s) 0 0
  unfolding meaning_with
  reports-count = count_of (report_of w) (report_width w) (from_reports w s)

  pub echoes-count : (counts_with w s).echoes ≡ get_or (from_echoes w s) 0 0
  unfolding meaning_with
  echoes-count = count_of echo_of echo_width (from_echoes w s)

  -- where the count bytes stand
  abbrev pub at_cues : ℕ
  at_cues = 9 + (counts_with w s).names * name_width w

  abbrev pub at_reports : ℕ
  at_reports = 10 + (counts_with w s).names * name_width w + (counts_with w s).cues * cue_width

  abbrev pub at_echoes : ℕ
  at_echoes = 11 + (counts_with w s).names * name_width w + (counts_with w s).cues * cue_width + (counts_with w s).reports * report_width w

  pub cues-at : from_cues w s ≡ drop at_cues s
  cues-at = after-at (name_width w) s 8 at_cues (rw names-count (omega arith))

  pub reports-at : from_reports w s ≡ drop at_reports s
  reports-at =
      let c : get_or (drop at_cues s) 0 0 ≡ (counts_with w s).cues = ap (λ (l : List ℕ). get_or l 0 0) (sym cues-at) ∙ sym cues-count in
      ap (after cue_width) cues-at ∙ after-at cue_width s at_cues at_reports (rw c (omega arith))

  pub echoes-at : from_echoes w s ≡ drop at_echoes s
  echoes-at =
      let c : get_or (drop at_reports s) 0 0 ≡ (counts_with w s).reports = ap (λ (l : List ℕ). get_or l 0 0) (sym reports-at) ∙ sym reports-count in
      ap (after (report_width w)) reports-at ∙ after-at (report_width w) s at_reports at_echoes (rw c (omega arith))

  -- the counts, as bytes at those places
  pub names_byte : (counts_with w s).names ≡ get_or s 8 0
  names_byte = names-count ∙ head_at s 8

  pub cues_byte : (counts_with w s).cues ≡ get_or s at_cues 0
  cues_byte = cues-count ∙ ap (λ (l : List ℕ). get_or l 0 0) cues-at ∙ head_at s at_cues

  pub reports_byte : (counts_with w s).reports ≡ get_or s at_reports 0
  reports_byte = reports-count ∙ ap (λ (l : List ℕ). get_or l 0 0) reports-at ∙ head_at s at_reports

  pub echoes_byte : (counts_with w s).echoes ≡ get_or s at_echoes 0
  echoes_byte = echoes-count ∙ ap (λ (l : List ℕ). get_or l 0 0) echoes-at ∙ head_at s at_echoes

-- a struct that holds a meaning means it
pub held_back : (M : Meaning) → length M.cues ≤ 1 → meaning_of (held_as M) ≡ M
held_back M c = λ i. record {
  kind = M.kind;
  sender = M.sender;
  stamp = M.stamp;
  names = take-append_seam M.names (replicate (name_places - length M.names) blank_name) i;
  cues = one_back M.cues blank_cue c i;
  reports = take-append_seam M.reports (replicate (report_places - length M.reports) blank_report) i;
  echoes = take-append_seam M.echoes (replicate (echo_places - length M.echoes) blank_echo) i;
}
