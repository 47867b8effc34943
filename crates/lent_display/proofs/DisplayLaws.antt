-- Both laws of a display's bytes, from those of its parts: written, then read, it is the same display; and bytes that pass the test, read and then
-- written, are the very bytes.
use mathlib.Core.Path.{◌≡◌, refl, sym, ap, ◌∙◌}
use Prim.Native.Nat.{ℕ, zero, suc, ◌+◌, ◌<◌}
use native.Mathlib.Omega.{arith}
use mathlib.Core.Bool.{Bool, true, false, ◌&&◌}
use mathlib.Core.List.{List, [], ◌++◌, append-nil}
use lib.ListN.{length, drop}
use lib.Seq.{take_all}
use lib.Dec.{eqb}
use borrow.Author.Tests.{eqb-true, eq-eqb, ne_eqb}
use Rattle.numbers.specs.Number.{digits, Bytes}
use Rattle.message.specs.Entry.{as_host}
use Rattle.message.proofs.QuestionLaws.{and_both}
use Rattle.layout.specs.Puts.{Puts}
use Rattle.layout.proofs.PutLaws.{puts-next}
use Rattle.display_window.specs.Parts.{Seen, Unstarted, Started}
use Rattle.display.specs.declared.Display.{Display}
use Rattle.lent_fields.specs.Fields.{number, Two, Below, four}
use Rattle.lent_fields.proofs.ByteLaws.{all-over}
use Rattle.lent_fields.specs.Form.{Codec}
use Rattle.lent_fields.proofs.Codec.{number_codec, both_codec, beside, struct_codec, enum_codec, refit}
use Rattle.lent_fields.proofs.Options.{no_option, three-zero}
use Rattle.lent_display.specs.Bytes.{Four, four_bytes, window_to, window_of, is_window, window_from, window_test, window_bytes, WindowFits}
use Rattle.lent_display.specs.Bytes.{mark, head_bytes, HeadFits, display_bytes, DisplayFits, display_from, is_display, Holds}

-- ---- the window
window_back : (w : Seen) → window_of (window_to w).one.one.one (window_to w).one.one.two (window_to w).one.two (window_to w).two ≡ w
window_back Unstarted = refl
window_back (Started w) = refl

window-tested : (w : Seen) → is_window (window_to w).one.one.one (window_to w).one.one.two (window_to w).one.two (window_to w).two ≡ true
window-tested Unstarted = refl
window-tested (Started w) = refl

window_forth : (tag a b set : ℕ) → is_window tag a b set ≡ true → window_to (window_of tag a b set) ≡ four tag a b set
window_forth zero a b set h =
    let z = three-zero a b set h in
    λ i. four 0 (sym z.0 i) (sym z.1 i) (sym z.2 i)
window_forth (suc zero) a b set h = refl
window_forth (suc (suc m)) a b set h = absurd (no_option m (eqb a 0 && eqb b 0 && eqb set 0) h)

window_codec : Codec 13 window_bytes window_from window_test WindowFits
unfolding four_bytes
window_codec =
    enum_codec (both_codec (both_codec (both_codec (number_codec 1) (number_codec 2)) (number_codec 2)) (number_codec 8)) window_to
    (λ (x : Four). window_of x.one.one.one x.one.one.two x.one.two x.two)
    (λ (x : Four). is_window x.one.one.one x.one.one.two x.one.two x.two)
    window_back window-tested (λ (x : Four). window_forth x.one.one.one x.one.one.two x.one.two x.two)

-- ---- the two bytes before all
mark_codec : Codec {A = Unit {0}} 2 (λ x. digits 2 mark) (λ s k. tt) (λ s k. eqb (number 2 s k) mark) (λ x. Below 2 mark)
mark_codec =
    enum_codec (number_codec 2) (λ (x : Unit {0}). mark) (λ (n : ℕ). tt) (λ (n : ℕ). eqb n mark) (λ (x : Unit {0}). refl) (λ (x : Unit {0}). refl)
    (λ (n : ℕ) (h : eqb n mark ≡ true). sym (eqb-true n mark h))

-- ---- the display
abbrev Parts : Type 0
Parts = Two (Two (Two (Two (Unit {0}) ℕ) ℕ) ℕ) Seen

abbrev parts_of : Display → Parts
parts_of d = record {
  one = record { one = record { one = record { one = tt; two = d.own.0 }; two = d.sender.0 }; two = d.clock };
  two = d.window;
}

abbrev display_with : Parts → Display
display_with x = record { own = as_host x.one.one.one.two; sender = as_host x.one.one.two; clock = x.one.two; window = x.two }

abbrev display_at : List ℕ → ℕ → Display
display_at s k = record { own = as_host (number 1 s (k + 2)); sender = as_host (number 1 s (k + 3)); clock = number 8 s (k + 4); window = window_from s (k + 12) }

abbrev test_at : List ℕ → ℕ → Bool
test_at s k = eqb (number 2 s k) mark && window_test s (k + 12)

display_codec : Codec 25 display_bytes display_at test_at DisplayFits
unfolding display_bytes head_bytes
display_codec =
    refit
    (struct_codec (both_codec (beside (beside (beside mark_codec 1) 1) 8) window_codec) parts_of display_with (λ (d : Display). refl) (λ (x : Parts). refl))
    DisplayFits
    (λ (d : Display) (h : DisplayFits d).
    let f = h.head-fits in
    let m : mark < 65536 = omega arith in
    ((((m, f.own-fits), f.sender-fits), f.clock-fits), h.window-fits))

-- ---- what the functions need
pub not-long : (s : List ℕ) → (length s ≡ 25 → ⊥) → false ≡ is_display s
unfolding is_display
not-long s h = rw (ne_eqb (length s) 25 h)

pub display_tested : (s : List ℕ) (m : ℕ) (ok : Bool) → length s ≡ 25 → m ≡ number 2 s 0 → ok ≡ window_test s 12
    → (eqb m mark && ok) ≡ is_display s
unfolding is_display
display_tested s m ok h p q = rw (eq-eqb (length s) 25 h) (λ i. eqb (p i) mark && q i)

-- a display's form holds it: written, then read and tested
pub form_holds : (d : Display) (s : List ℕ) → DisplayFits d → s ≡ display_bytes d → Holds s d
unfolding display_from is_display
form_holds d s fits w =
    let there : drop 0 s ≡ display_bytes d ++ [] = w ∙ sym (append-nil (display_bytes d)) in
    let long : length s ≡ 25 = ap length w ∙ display_codec.long d fits in
    record {
      bytes = w;
      reads = display_codec.back d s [] 0 fits there;
      tested = rw (eq-eqb (length s) 25 long) (display_codec.tested d s [] 0 fits there);
    }

pub written : (d : Display) (start one last : List ℕ) → length start ≡ 25 → Puts 0 12 (head_bytes d.own.0 d.sender.0 d.clock) start one
    → HeadFits d.own.0 d.sender.0 d.clock → Puts 12 13 (window_bytes d.window) one last → WindowFits d.window → Holds last d
unfolding display_bytes
written d start one last h p f q g =
    let all : Puts 0 25 (head_bytes d.own.0 d.sender.0 d.clock ++ window_bytes d.window) start last = puts-next p q refl in
    form_holds d last (record { head-fits = f; window-fits = g }) (all.written ∙ all-over _ start (all.long ∙ sym h))

-- a display's bytes are as many as one has
pub display_long : (s : List ℕ) → is_display s ≡ true → length s ≡ 25
unfolding is_display
display_long s h = eqb-true (length s) 25 (and_both (eqb (length s) 25) (test_at s 0) h).0

-- read, then written: the very bytes
pub display_forth : (s : List ℕ) → Bytes s → is_display s ≡ true → display_bytes (display_from s) ≡ s
unfolding is_display display_from
display_forth s b h =
    let p = and_both (eqb (length s) 25) (test_at s 0) h in
    let long : length s ≡ 25 = eqb-true (length s) 25 p.0 in
    display_codec.forth s 0 b (omega arith) p.1 ∙ take_all 25 s (omega arith)

-- so a display's bytes hold the display that is read from them, and no two displays have one form
pub display_holds : (s : List ℕ) → Bytes s → is_display s ≡ true → Holds s (display_from s)
display_holds s b h = record { bytes = sym (display_forth s b h); reads = refl; tested = h }
