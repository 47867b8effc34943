-- The laws of the entries' bytes, over the width w of a cue number: how wide an entry is, that what is written reads back, and
-- that what is read is written as it was.
use mathlib.Core.Path.{◌≡◌, sym, ap, ◌∙◌}
use Prim.Native.Nat.{ℕ, suc, ◌+◌, ◌^◌, ◌≤◌, ◌<◌}
use native.Mathlib.Numerals.{one-add}
use native.Mathlib.Omega.{arith}
use native.Mathlib.Nat.{add-zero}
use mathlib.Core.List.{List, [], ◌∷◌, ◌++◌, append_assoc}
use lib.ListN.{length, take, drop, get_or, length-append, length-drop}
use lib.Seq.{take_at, drop_at, length-take-le, take-add, take-suc, get_or-drop}
use Rattle.numbers.specs.Number.{value, digits, Bytes}
use Rattle.numbers.proofs.NumberLaws.{length_digits, value-digits, digits_value, bytes_take, bytes_drop}
use Rattle.message.specs.Entry.{name_width, name_of, name_bytes, cue_of, cue_bytes, report_width, report_of, report_bytes, echo_of, echo_bytes, as_host, as_number}
use Rattle.message.specs.declared.NameEntry.{NameEntry}
use Rattle.message.specs.declared.Report.{Report}
use Rattle.message.specs.declared.Echo.{Echo}

-- the first element of a rest
pub head_at : (s : List ℕ) (at : ℕ) → get_or (drop at s) 0 0 ≡ get_or s at 0
head_at s at = get_or-drop at s 0 0 ∙ ap (λ (k : ℕ). get_or s k 0) (add-zero at)

-- a number of w bytes that starts a list, written and read, and read and written
number_back : (w n : ℕ) (t : List ℕ) → n < 256 ^ w → value (take w (digits w n ++ t)) ≡ n
number_back w n t h = ap value (take_at (digits w n) t w (length_digits w n)) ∙ value-digits w n h

number_forth : (w : ℕ) (s : List ℕ) → Bytes s → w ≤ length s → digits w (value (take w s)) ≡ take w s
number_forth w s b h = digits_value w (take w s) (length-take-le w s h) (bytes_take w s b)

-- ---- names and reports
module _ (w : ℕ) where
  abbrev pub NameFits : NameEntry → Type 0
  NameFits n = n.name.number.0 < 256 ^ w

  abbrev pub ReportFits : Report → Type 0
  ReportFits r = r.last.0 < 256 ^ w

  pub length-name : (n : NameEntry) → length (name_bytes w n) ≡ name_width w
  length-name n =
      let d : length (digits w n.name.number.0) ≡ w = length_digits w n.name.number.0 in
      ap suc (length-append (digits w n.name.number.0) (n.host.0 ∷ [])) ∙ omega arith

  pub name_back : (n : NameEntry) (t : List ℕ) → NameFits n → name_of w (name_bytes w n ++ t) ≡ n
  name_back n t h =
      let d : List ℕ = digits w n.name.number.0 in
      let r : List ℕ = n.host.0 ∷ t in
      let k : (d ++ (n.host.0 ∷ [])) ++ t ≡ d ++ r = append_assoc d (n.host.0 ∷ []) t in
      let m : value (take w ((d ++ (n.host.0 ∷ [])) ++ t)) ≡ n.name.number.0 = ap (λ (l : List ℕ). value (take w l)) k ∙ number_back w n.name.number.0 r h in
      let p : drop (1 + w) (name_bytes w n ++ t) ≡ r = rw one-add (ap (drop w) k ∙ drop_at d r w (length_digits w n.name.number.0)) in
      λ i. record { name = record { source = n.name.source; number = as_number (m i) }; host = as_host (get_or (p i) 0 0) }

  pub name_forth : (s : List ℕ) → Bytes s → name_width w ≤ length s → name_bytes w (name_of w s) ≡ take (name_width w) s
  name_forth [] b h = absurd (omega arith)
  name_forth (x ∷ s) b h =
      let r : Bytes s = bytes_drop 1 (x ∷ s) b in
      let e : 2 + w ≡ suc (suc w) = omega arith in
      let p : get_or (drop (1 + w) (x ∷ s)) 0 0 ≡ get_or s w 0 = rw one-add (head_at s w) in
      let j : w < length s = omega arith in
      ap (λ (t : List ℕ). x ∷ t) ((λ i. number_forth w s r (omega arith) i ++ (p i ∷ [])) ∙ sym (take-suc s w 0 j))
      ∙ ap (λ (k : ℕ). take k (x ∷ s)) (sym e)

  pub length-report : (r : Report) → length (report_bytes w r) ≡ report_width w
  length-report r = rw (length_digits w r.last.0, one-add)

  pub report_back : (r : Report) (t : List ℕ) → ReportFits r → report_of w (report_bytes w r ++ t) ≡ r
  report_back r t h = λ i. record { source = r.source; last = as_number (number_back w r.last.0 t h i) }

  pub report_forth : (s : List ℕ) → Bytes s → report_width w ≤ length s → report_bytes w (report_of w s) ≡ take (report_width w) s
  report_forth [] b h = absurd (omega arith)
  report_forth (x ∷ s) b h =
      let r : Bytes s = bytes_drop 1 (x ∷ s) b in
      rw one-add (ap (λ (t : List ℕ). x ∷ t) (number_forth w s r (omega arith)))

-- ---- cues
abbrev pub CueFits : List ℕ → Type 0
CueFits cue = length cue ≡ 24

pub cue_back : (cue t : List ℕ) → CueFits cue → cue_of (cue_bytes cue ++ t) ≡ cue
cue_back cue t h = take_at cue t 24 h

-- ---- echoes: both numbers fit six bytes
abbrev pub EchoFits : Echo → Type 0
EchoFits e = (e.stamp < 256 ^ 6) × (e.held < 256 ^ 6)

pub length-echo : (e : Echo) → length (echo_bytes e) ≡ 13
length-echo e =
    ap suc (length-append (digits 6 e.stamp) (digits 6 e.held) ∙ (λ i. length_digits 6 e.stamp i + length_digits 6 e.held i))

pub echo_back : (e : Echo) (t : List ℕ) → EchoFits e → echo_of (echo_bytes e ++ t) ≡ e
echo_back e t (p, q) =
    let d : List ℕ = digits 6 e.stamp in
    let g : List ℕ = digits 6 e.held in
    let k : (d ++ g) ++ t ≡ d ++ (g ++ t) = append_assoc d g t in
    let a : value (take 6 ((d ++ g) ++ t)) ≡ e.stamp = ap (λ (l : List ℕ). value (take 6 l)) k ∙ number_back 6 e.stamp (g ++ t) p in
    let b : value (take 6 (drop 6 ((d ++ g) ++ t))) ≡ e.held =
    ap (λ (l : List ℕ). value (take 6 l)) (ap (drop 6) k ∙ drop_at d (g ++ t) 6 (length_digits 6 e.stamp))
    ∙ number_back 6 e.held t q in
    λ i. record { host = e.host; stamp = a i; held = b i }

pub echo_forth : (s : List ℕ) → Bytes s → 13 ≤ length s → echo_bytes (echo_of s) ≡ take 13 s
echo_forth [] b h = absurd (omega arith)
echo_forth (x ∷ s) b h =
    let r : Bytes s = bytes_drop 1 (x ∷ s) b in
    let l : 6 ≤ length (drop 6 s) = rw length-drop (omega arith) in
    ap (λ (t : List ℕ). x ∷ t)
    ((λ i. number_forth 6 s r (omega arith) i ++ number_forth 6 (drop 6 s) (bytes_drop 6 s r) l i) ∙ sym (take-add 6 6 s))
