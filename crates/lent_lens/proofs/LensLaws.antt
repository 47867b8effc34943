-- Laws of lens windows on plain numbers.
use mathlib.Core.Path.{◌≡◌, sym, ap, ◌∙◌}
use Prim.Native.Nat.{ℕ, ◌+◌, ◌/◌, ◌%◌, ◌-◌, ◌<◌, min}
use native.Mathlib.Omega.{arith}
use mathlib.Core.Bool.{true, false}
use mathlib.Core.List.{List, ◌++◌}
use lib.ListN.{length, take, drop, get_or, replicate}
use lib.Seq.{get_or-drop, take_at}
use lib.Dec.{eqb, leb}
use borrow.Author.Tests.{eq-eqb, ne_eqb, lt-leb}
use Rattle.message.specs.Section.{entries}
use Rattle.message.proofs.SectionLaws.{length-entries}
use Rattle.calendar.specs.declared.Date.{Date}
use Rattle.calendar.specs.Calendar.{roll_date, roll_code}
use Rattle.openings.specs.declared.Window.{Window}
use Rattle.openings.specs.declared.Moment.{Moment}
use Rattle.openings.specs.declared.Opening.{Opening}
use Rattle.openings.specs.Windows.{moment}
use Rattle.openings.specs.Find.{in_order, find_of}
use Rattle.lent_lens.specs.Lens.{date_of, moment_of, window_of, windows_of, at_number, opening_code, find_number, roll_number, blank}

-- ---- a window from its numbers
pub window-there : (s : List ℕ) (at : ℕ) (first last : Date) (start end : ℕ)
    → first ≡ date_of (get_or s at 0) (get_or s (at + 1) 0) (get_or s (at + 2) 0)
    → last ≡ date_of (get_or s (at + 3) 0) (get_or s (at + 4) 0) (get_or s (at + 5) 0)
    → start ≡ min (get_or s (at + 6) 0) 65535 → end ≡ min (get_or s (at + 7) 0) 65535
    → record { first = first; last = last; start = start; end = end } ≡ window_of (drop at s)
window-there s at first last start end p q r t =
    let z : get_or s at 0 ≡ get_or s (at + 0) 0 = ap (λ (k : ℕ). get_or s k 0) (omega arith) in
    let g : (i : ℕ) → get_or s (at + i) 0 ≡ get_or (drop at s) i 0 = λ i. sym (get_or-drop at s i 0) in
    λ i. record {
      first = (p ∙ (λ j. date_of ((z ∙ g 0) j) (g 1 j) (g 2 j))) i;
      last = (q ∙ (λ j. date_of (g 3 j) (g 4 j) (g 5 j))) i;
      start = (r ∙ ap (λ (n : ℕ). min n 65535) (g 6)) i;
      end = (t ∙ ap (λ (n : ℕ). min n 65535) (g 7)) i;
    }

-- ---- find
module _ (ws : List ℕ) (y m d k : ℕ) where
  pub not-whole : (length ws % 8 ≡ 0 → ⊥) → 15 ≡ find_number ws y m d k
  unfolding find_number
  not-whole h = rw (ne_eqb (length ws % 8) 0 h)

  module _ (w : length ws % 8 ≡ 0) where
    whole : opening_code (find_of (windows_of ws) (moment_of y m d k)) ≡ find_number ws y m d k
    unfolding find_number
    whole = rw (eq-eqb (length ws % 8) 0 w)

    pub too_long : 32 < length ws / 8 → 15 ≡ find_number ws y m d k
    unfolding find_of in_order
    too_long h =
        let more : 32 < length (windows_of ws) = rw (length-entries window_of 8 (length ws / 8) ws) h in
        let e : leb (length (windows_of ws)) 32 ≡ false = lt-leb (length (windows_of ws)) 32 more in
        let no : 15 ≡ opening_code (find_of (windows_of ws) (moment_of y m d k)) = rw e in
        no ∙ whole

    pub found : (all : List Window) (f : Moment) (o : Opening) (n r : ℕ) → n ≡ length ws / 8 → all ≡ entries window_of 8 n ws ++ replicate (33 - n) blank
        → f ≡ moment_of y m d k → o ≡ find_of (take n all) f → r ≡ opening_code o → r ≡ find_number ws y m d k
    found all f o n r e p q h g =
        let some : take n all ≡ entries window_of 8 n ws =
        ap (take n) p ∙ take_at (entries window_of 8 n ws) (replicate (33 - n) blank) n (length-entries window_of 8 n ws) in
        let these : take n all ≡ windows_of ws = some ∙ ap (λ (i : ℕ). entries window_of 8 i ws) e in
        g ∙ ap opening_code (h ∙ (λ i. find_of (these i) (q i))) ∙ whole

-- ---- roll
module _ (y m d : ℕ) (date next : Date) (code : ℕ) (p : date ≡ date_of y m d) (q : next ≡ roll_date date) (r : code ≡ roll_code date) where
  same_code : code ≡ roll_code (date_of y m d)
  same_code = r ∙ ap roll_code p

  pub rolled : (n : ℕ) → code ≡ 0 → n ≡ at_number (moment next 0) → n ≡ roll_number y m d
  unfolding roll_number
  rolled n z h =
      let e : eqb (roll_code (date_of y m d)) 0 ≡ true = eq-eqb (roll_code (date_of y m d)) 0 (sym same_code ∙ z) in
      rw e (h ∙ ap (λ (x : Date). at_number (moment x 0)) (q ∙ ap roll_date p))

  pub roll-refused : (code ≡ 0 → ⊥) → code ≡ roll_number y m d
  unfolding roll_number
  roll-refused not-zero =
      let e : eqb (roll_code (date_of y m d)) 0 ≡ false = ap (λ (n : ℕ). eqb n 0) (sym same_code) ∙ ne_eqb code 0 not-zero in
      rw e same_code
