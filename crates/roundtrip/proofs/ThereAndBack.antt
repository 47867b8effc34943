-- The layout there and back, over the width w of a cue number and the kind byte: a meaning that fits its bytes reads back, and bytes that
-- their counts account for are those of their meaning after their kind byte.
use mathlib.Core.Path.{◌≡◌, refl, sym, ap, ◌∙◌, subst}
use Prim.Native.Nat.{ℕ, ◌-◌, ◌^◌, ◌≤◌, ◌<◌}
use native.Mathlib.Omega.{arith}
use mathlib.Core.List.{List, [], ◌∷◌, ◌++◌, append_assoc, append-nil}
use lib.ListN.{length, take, drop, get_or, length-append, length-drop, take-append-drop}
use lib.Seq.{take_at, drop_at, length-take-le}
use Rattle.numbers.specs.Number.{value, digits, Bytes}
use Rattle.numbers.proofs.NumberLaws.{length_digits, value-digits, digits_value, bytes_take, bytes_drop}
use Rattle.message.specs.Section.{section, section_from, after}
use Rattle.message.specs.Entry.{as_host, name_width, name_of, name_bytes, cue_width, cue_of, cue_bytes, report_width, report_of, report_bytes, echo_width, echo_of, echo_bytes}
use Rattle.message.specs.Message.{Meaning, kind_of, kind_byte, counts_of, head_bytes, bytes_with, meaning_with, size_with, from_names, from_cues, from_reports, from_echoes}
use Rattle.message.proofs.SectionLaws.{All, after-section, section_back, section_forth, length-section, after-all}
use Rattle.message.proofs.EntryLaws.{NameFits, ReportFits, CueFits, EchoFits, length-name, name_back, name_forth, cue_back, length-report, report_back, report_forth, length-echo, echo_back, echo_forth}
use Rattle.message.proofs.LayoutLaws.{counts_with, at_cues, at_reports, at_echoes, cues-at, reports-at, echoes-at, names-count, cues-count, reports-count, echoes-count}

module _ (w : ℕ) where
  -- each part of a meaning fits its bytes
  pub record Fits (M : Meaning) : Type 0 where
    pub stamp : M.stamp < 256 ^ 6
    pub names : All (NameFits w) M.names
    pub cues : All CueFits M.cues
    pub reports : All (ReportFits w) M.reports
    pub echoes : All EchoFits M.echoes

  -- the bytes, section after section
  spread : (byte : ℕ) (M : Meaning) → bytes_with w byte M ≡ head_bytes byte M.sender M.stamp
      ++ (section (name_bytes w) M.names ++ (section cue_bytes M.cues ++ (section (report_bytes w) M.reports ++ (section echo_bytes M.echoes ++ []))))
  unfolding bytes_with
  spread byte M = simp (append_assoc, append-nil)

  -- how long they are
  pub sized : (byte : ℕ) (M : Meaning) → Fits M → length (bytes_with w byte M) ≡ size_with w (counts_of M)
  sized byte M h =
      ap length (spread byte M)
      ∙ simp length-append (omega (
        arith,
        length_digits 6 M.stamp,
        length-section (name_bytes w) (name_width w) (NameFits w) (λ a _. length-name w a) M.names h.names,
        length-section cue_bytes cue_width CueFits (λ a p. p) M.cues h.cues,
        length-section (report_bytes w) (report_width w) (ReportFits w) (λ a _. length-report w a) M.reports h.reports,
        length-section echo_bytes echo_width EchoFits (λ a _. length-echo a) M.echoes h.echoes,
      ))

  -- written after a byte of its kind, then read
  pub meaning_back : (byte : ℕ) (M : Meaning) → kind_of byte ≡ M.kind → Fits M → meaning_with w (bytes_with w byte M) ≡ M
  unfolding meaning_with
  meaning_back byte M e h =
      let d : List ℕ = digits 6 M.stamp in
      let r5 : List ℕ = [] in
      let r4 : List ℕ = section echo_bytes M.echoes ++ r5 in
      let r3 : List ℕ = section (report_bytes w) M.reports ++ r4 in
      let r2 : List ℕ = section cue_bytes M.cues ++ r3 in
      let r1 : List ℕ = section (name_bytes w) M.names ++ r2 in
      let s : List ℕ = head_bytes byte M.sender M.stamp ++ r1 in
      let t1 : from_names s ≡ r1 = drop_at d r1 6 (length_digits 6 M.stamp) in
      let t2 : from_cues w s ≡ r2 = ap (after (name_width w)) t1 ∙ after-section (name_bytes w) (name_width w) (NameFits w) (λ a _. length-name w a) M.names r2 h.names in
      let t3 : from_reports w s ≡ r3 = ap (after cue_width) t2 ∙ after-section cue_bytes cue_width CueFits (λ a p. p) M.cues r3 h.cues in
      let t4 : from_echoes w s ≡ r4 = ap (after (report_width w)) t3 ∙ after-section (report_bytes w) (report_width w) (ReportFits w) (λ a _. length-report w a) M.reports r4 h.reports in
      ap (meaning_with w) (spread byte M) ∙ (λ i. record {
        kind = e i;
        sender = M.sender;
        stamp = (ap value (take_at d r1 6 (length_digits 6 M.stamp)) ∙ value-digits 6 M.stamp h.stamp) i;
        names = (ap (section_from (name_of w) (name_width w)) t1 ∙ section_back (name_bytes w) (name_width w) (NameFits w) (λ a _. length-name w a) (name_of w) (name_back w) M.names r2 h.names) i;
        cues = (ap (section_from cue_of cue_width) t2 ∙ section_back cue_bytes cue_width CueFits (λ a p. p) cue_of cue_back M.cues r3 h.cues) i;
        reports = (ap (section_from (report_of w) (report_width w)) t3 ∙ section_back (report_bytes w) (report_width w) (ReportFits w) (λ a _. length-report w a) (report_of w) (report_back w) M.reports r4 h.reports) i;
        echoes = (ap (section_from echo_of echo_width) t4 ∙ section_back echo_bytes echo_width EchoFits (λ a _. length-echo a) echo_of echo_back M.echoes r5 h.echoes) i;
      })

  -- the first eight bytes
  head_forth : (s : List ℕ) → Bytes s → 8 ≤ length s → head_bytes (kind_byte s) (as_host (get_or s 1 0)) (value (take 6 (drop 2 s))) ++ drop 8 s ≡ s
  head_forth [] b h = absurd (omega arith)
  head_forth (x ∷ []) b h = absurd (omega arith)
  head_forth (x ∷ y ∷ s) b h =
      let d : digits 6 (value (take 6 s)) ≡ take 6 s =
      digits_value 6 (take 6 s) (length-take-le 6 s (omega arith)) (bytes_take 6 s (bytes_drop 2 (x ∷ y ∷ s) b)) in
      ap (λ (t : List ℕ). x ∷ y ∷ t) (ap (λ (t : List ℕ). t ++ drop 6 s) d ∙ take-append-drop 6 s)

  -- read, then written after the same byte
  pub bytes_back : (s : List ℕ) → Bytes s → size_with w (counts_with w s) ≡ length s → bytes_with w (kind_byte s) (meaning_with w s) ≡ s
  unfolding meaning_with
  bytes_back s b h =
      let M : Meaning = meaning_with w s in
      let head : List ℕ = head_bytes (kind_byte s) M.sender M.stamp in
      let bytes : (t : List ℕ) (k : ℕ) → t ≡ drop k s → Bytes t = λ t k p. subst Bytes (sym p) (bytes_drop k s b) in
      let long : (t : List ℕ) (k : ℕ) → t ≡ drop k s → length t ≡ length s - k = λ t k p. ap length p ∙ length-drop k s in
      let l1 : length (from_names s) ≡ length s - 8 = length-drop 8 s in
      let l2 : length (from_cues w s) ≡ length s - at_cues w s = long (from_cues w s) (at_cues w s) (cues-at w s) in
      let l3 : length (from_reports w s) ≡ length s - at_reports w s = long (from_reports w s) (at_reports w s) (reports-at w s) in
      let l4 : length (from_echoes w s) ≡ length s - at_echoes w s = long (from_echoes w s) (at_echoes w s) (echoes-at w s) in
      let s1 : section (name_bytes w) M.names ++ from_cues w s ≡ from_names s =
      section_forth (name_of w) (name_bytes w) (name_width w) (name_forth w) (from_names s) (bytes_drop 8 s b) (rw (sym (names-count w s)) (omega arith)) in
      let s2 : section cue_bytes M.cues ++ from_reports w s ≡ from_cues w s =
      section_forth cue_of cue_bytes cue_width (λ t p q. refl) (from_cues w s) (bytes (from_cues w s) (at_cues w s) (cues-at w s)) (rw (sym (cues-count w s)) (omega arith)) in
      let s3 : section (report_bytes w) M.reports ++ from_echoes w s ≡ from_reports w s =
      section_forth (report_of w) (report_bytes w) (report_width w) (report_forth w) (from_reports w s) (bytes (from_reports w s) (at_reports w s) (reports-at w s)) (rw (sym (reports-count w s)) (omega arith)) in
      let s4 : section echo_bytes M.echoes ++ after echo_width (from_echoes w s) ≡ from_echoes w s =
      section_forth echo_of echo_bytes echo_width echo_forth (from_echoes w s) (bytes (from_echoes w s) (at_echoes w s) (echoes-at w s)) (rw (sym (echoes-count w s)) (omega arith)) in
      let z : after echo_width (from_echoes w s) ≡ [] = after-all echo_width (from_echoes w s) (rw (sym (echoes-count w s)) (omega arith)) in
      spread (kind_byte s) M
      ∙ ap (λ (t : List ℕ). head ++ (section (name_bytes w) M.names ++ (section cue_bytes M.cues ++ (section (report_bytes w) M.reports ++ t))))
      (ap (λ (t : List ℕ). section echo_bytes M.echoes ++ t) (sym z) ∙ s4)
      ∙ ap (λ (t : List ℕ). head ++ (section (name_bytes w) M.names ++ (section cue_bytes M.cues ++ t))) s3
      ∙ ap (λ (t : List ℕ). head ++ (section (name_bytes w) M.names ++ t)) s2
      ∙ ap (λ (t : List ℕ). head ++ t) s1
      ∙ head_forth s b (omega arith)
