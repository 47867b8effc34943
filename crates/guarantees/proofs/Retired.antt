-- First and last from before a call to after it, and which numbers are retired.
use mathlib.Core.Path.{◌≡◌, refl, sym, ap, ◌∙◌}
use mathlib.Core.Bool.{Bool, true, false, ◌&&◌, ◌||◌}
use mathlib.Core.Logic.{inl, inr}
use Prim.Native.Nat.{ℕ, ◌+◌, ◌≤◌, ◌<◌, max}
use native.Mathlib.Omega.{arith}
use lib.Dec.{ltb, leb}
use borrow.Author.Tests.{ltb-true, lt-ltb, le-leb}
use Rattle.numbers.proofs.Cases.{by_order}
use Rattle.message.specs.declared.CueNumber.{CueNumber}
use Rattle.message.specs.Entry.{as_number}
use Rattle.message.proofs.QuestionLaws.{and_both}
use Rattle.end.specs.declared.Record.{Record}
use Rattle.end.specs.Parts.{Span, Closed, Open}
use Rattle.end.specs.declared.Source.{Source}
use Rattle.end.specs.Records.{within, is_below, is_above}
use Rattle.end.specs.Names.{first_after, rise_with}
use Rattle.end.proofs.RecordLaws.{Narrow, inside, within_in, within-below}
use Rattle.end.proofs.Tools.{by_test, clash, clash'}
use Rattle.guarantees.specs.Records.{StayOrRise, SpanMayBecome, retires}
use Rattle.guarantees.specs.Arrivals.{risen}

-- ---- one step
pub stays_or_rises : (first last : CueNumber) → StayOrRise first last first last
stays_or_rises first last = inl (refl, refl)

pub span_stay : (emptied : Bool) (x : Span) → SpanMayBecome emptied x x
span_stay emptied Closed = tt
span_stay emptied (Open first last) = stays_or_rises first last

-- a rise of a span of at most 64 numbers
pub rise-moves : (n : ℕ) (first last : CueNumber) → Narrow (Open first last)
    → StayOrRise first last (as_number (first_after first.0 (max last.0 n))) (as_number (max last.0 n))
rise-moves n first last o = by_order last.0 n
    (λ l. inr (omega arith, refl))
    (λ l.
    let high : max last.0 n ≡ last.0 = omega arith in
    let low : first_after first.0 (max last.0 n) ≡ first.0 = omega (arith, o.0, o.1) in
    inl (ap as_number low, ap as_number high))

-- two of them
twice : (a b c : ℕ) → b ≤ c → first_after (first_after a b) c ≡ first_after a c
twice a b c l = omega arith

pub moves-on : (f l f' l' f'' l'' : CueNumber) → StayOrRise f l f' l' → StayOrRise f' l' f'' l'' → StayOrRise f l f'' l''
moves-on f l f' l' f'' l'' (inl p) (inl q) = inl (q.0 ∙ p.0, q.1 ∙ p.1)
moves-on f l f' l' f'' l'' (inl p) (inr q) = inr (
  omega (arith, q.0, ap (λ (n : CueNumber). n.0) p.1),
  q.1 ∙ ap (λ (n : CueNumber). first_after n.0 l''.0) p.0,
)
moves-on f l f' l' f'' l'' (inr p) (inl q) = inr (
  omega (arith, p.0, ap (λ (n : CueNumber). n.0) q.1),
  ap (λ (n : CueNumber). n.0) q.0 ∙ p.1 ∙ ap (λ (n : CueNumber). first_after f.0 n.0) (sym q.1),
)
moves-on f l f' l' f'' l'' (inr p) (inr q) = inr (
  omega (arith, p.0, q.0),
  q.1 ∙ ap (λ (k : ℕ). first_after k l''.0) p.1 ∙ twice f.0 l'.0 l''.0 (omega (arith, q.0)),
)

-- first never falls
pub first-rises : (f l f' l' : CueNumber) → StayOrRise f l f' l' → f.0 ≤ f'.0
first-rises f l f' l' (inl p) = omega (arith, ap (λ (n : CueNumber). n.0) p.0)
first-rises f l f' l' (inr p) = omega (arith, p.1)

pub last-rises : (f l f' l' : CueNumber) → StayOrRise f l f' l' → l.0 ≤ l'.0
last-rises f l f' l' (inl p) = omega (arith, ap (λ (n : CueNumber). n.0) p.1)
last-rises f l f' l' (inr p) = omega (arith, p.0)

-- ---- what is retired

-- what `retires` says
pub record Retires (first last first' last' n : ℕ) : Type 0 where
  pub low : first ≤ n
  pub high : n ≤ last
  pub rose : last < last'
  pub passed : n < first'

pub retires-is : (first last first' last' : CueNumber) (n : ℕ) → retires (Open first last) (Open first' last') n ≡ true
    → Retires first.0 last.0 first'.0 last'.0 n
retires-is first last first' last' n h =
    let both = and_both (leb first.0 n && leb n last.0) _ h in
    let i = inside first.0 last.0 n both.0 in
    let rest = and_both (ltb last.0 last'.0) _ both.1 in
    record { low = i.low; high = i.high; rose = ltb-true last.0 last'.0 rest.0; passed = ltb-true n first'.0 rest.1 }

-- where first and last stay, none is
pub none-retired : (x : Span) (n : ℕ) → retires x x n ≡ false
none-retired Closed n = refl
none-retired (Open first last) n = by_test (retires (Open first last) (Open first last) n)
    (λ t. absurd (omega (arith, (retires-is first last first last n t).rose))) (λ t. t)

pub retired_outside : (x y : Span) (n : ℕ) → retires x y n ≡ true → within y n ≡ false
retired_outside Closed y n h = clash' h
retired_outside (Open first last) Closed n h = clash' h
retired_outside (Open first last) (Open first' last') n h = within-below first'.0 last'.0 n (retires-is first last first' last' n h).passed

pub retired-below : (x y : Span) (n : ℕ) → retires x y n ≡ true → is_below y n ≡ true
retired-below Closed y n h = clash' h
retired-below (Open first last) Closed n h = clash' h
retired-below (Open first last) (Open first' last') n h = lt-ltb n first'.0 (retires-is first last first' last' n h).passed

-- what is not retired and lies outside afterwards lay outside before
pub outside_before : (x y : Span) (n : ℕ) → SpanMayBecome false x y → Narrow x → retires x y n ≡ false → within y n ≡ false → within x n ≡ false
outside_before Closed y n h o r out = refl
outside_before (Open first last) Closed n h o r out = clash' h
outside_before (Open first last) (Open first' last') n (inl p) o r out = sym (λ i. leb (p.0 i).0 n && leb n (p.1 i).0) ∙ out
outside_before (Open first last) (Open first' last') n (inr p) o r out = by_test (leb first.0 n && leb n last.0)
    (λ w.
    let i = inside first.0 last.0 n w in
    by_order n first'.0
    (λ below. clash (sym (λ j. w j && (lt-ltb last.0 last'.0 p.0 j && lt-ltb n first'.0 below j)) ∙ r))
    (λ le. clash (sym (within_in first'.0 last'.0 n le (omega (arith, i.high, p.0))) ∙ out)))
    (λ w. w)

-- what lies inside afterwards is not retired
pub inside_unretired : (x y : Span) (n : ℕ) → within y n ≡ true → retires x y n ≡ false
inside_unretired x y n w = by_test (retires x y n) (λ t. clash (sym w ∙ retired_outside x y n t)) (λ t. t)

-- below first stays below first
pub below_stays : (x y : Span) (n : ℕ) → SpanMayBecome false x y → is_below x n ≡ true → is_below y n ≡ true
below_stays Closed y n h b = clash' b
below_stays (Open first last) Closed n h b = clash' h
below_stays (Open first last) (Open first' last') n h b =
    lt-ltb n first'.0 (omega (arith, ltb-true n first.0 b, first-rises first last first' last' h))

-- ---- which numbers a rise to n moves: those above last that it asks for, and those that it retires
pub risen-above : (x : Span) (n j : ℕ) → is_above x j ≡ true → j ≤ n → risen x n j ≡ true
risen-above x n j above most = λ i. (above i && le-leb j n most i) || (within x j && ltb (j + 63) n)

pub risen-below : (first last : CueNumber) (n j : ℕ) → first.0 ≤ j → j ≤ last.0 → j + 63 < n → risen (Open first last) n j ≡ true
risen-below first last n j a b l =
    (λ i. (ltb last.0 j && leb j n) || (within_in first.0 last.0 j a b i && lt-ltb (j + 63) n l i)) ∙ second (ltb last.0 j && leb j n)
  where
    second : (t : Bool) → (t || true) ≡ true
    second true = refl
    second false = refl

pub rise-retires : (new : ℕ → Record) (n : ℕ) (s : Source) (x : Span) (j : ℕ) → retires x (rise_with new n s x).span j ≡ true → risen x n j ≡ true
unfolding rise_with
rise-retires new n s Closed j r = clash' r
rise-retires new n s (Open first last) j r =
    let q = retires-is first last (as_number (first_after first.0 (max last.0 n))) (as_number (max last.0 n)) j r in
    risen-below first last n j q.low q.high (omega (arith, q.low, q.rose, q.passed))
