-- The statements of specs/Rises.antt.
use mathlib.Core.Path.{◌≡◌, refl, ap, ◌∙◌, subst}
use mathlib.Core.Bool.{Bool, false, cond}
use mathlib.Core.List.{List, [], ◌∷◌}
use mathlib.Core.Logic.{inl, inr}
use mathlib.Core.Option.{Option, none, some}
use Prim.Native.Nat.{ℕ, zero, suc, ◌+◌, ◌-◌, ◌≤◌, ◌<◌, min, max}
use native.Mathlib.Omega.{arith}
use lib.ListN.{get_or, set}
use lib.Dec.{eqb}
use Rattle.message.specs.declared.CueNumber.{CueNumber}
use Rattle.message.specs.Entry.{as_host, as_number}
use Rattle.end.specs.Parts.{Unset, Soon, Span, Closed, Open}
use Rattle.end.specs.declared.Record.{Record}
use Rattle.end.specs.declared.Moment.{Moment}
use Rattle.end.specs.State.{blank_record, source_at}
use Rattle.end.specs.Records.{place}
use Rattle.end.specs.Round.{request_with}
use Rattle.end.specs.Names.{asking, expressed, asked, filled, lacking, first_after, rise_with, rise}
use Rattle.end.specs.Event.{event_of}
use Rattle.end.specs.Opening.{opening_of}
use Rattle.end.proofs.Tools.{by_test}
use Rattle.guarantees.specs.Records.{StayOrRise, SpanMayBecome, retires, clearing}
use Rattle.guarantees.specs.History.{told, since_joining, count_over, span_over}
use Rattle.guarantees.specs.Rises.{RisesBy64, PlacesAsBefore, requested, rise_before, UpTo63, RiseAsBefore, DataRisesAlike, NothingRetiredUpTo63, NoneMissedUpTo63}
use Rattle.guarantees.proofs.Retired.{retires-is}
use Rattle.guarantees.proofs.Slots.{spans_may_become}
use Rattle.guarantees.proofs.History.{count_over_history}

pub rises_by_64 : RisesBy64
rises_by_64 first last n up near = (omega arith, omega arith)

own-place : (n : ℕ) → n ≤ 63 → place n ≡ n
own-place n l = omega arith

pub places_as_before : PlacesAsBefore
places_as_before us n l = (own-place n l, ap (λ (i : ℕ). get_or us i 0) (own-place n l))

-- ---- the rise
filled-same : (t : Moment) (us : List ℕ) (d k n : ℕ) (names : List Record) → n + k ≤ 64 → filled (asked t us d) k n names ≡ requested t us d k n names
unfolding filled requested
filled-same t us d zero n names l = refl
filled-same t us d (suc k) n names l =
    ap (λ (i : ℕ). filled (asked t us d) k (n + 1) (set names i (asking blank_record (request_with t (get_or us i 0) d 1)))) (own-place n (omega arith))
    ∙ filled-same t us d k (n + 1) (set names n (asking blank_record (request_with t (get_or us n 0) d 1))) (omega arith)

-- its parts, with first f, last k and n the number
low_first : (f l : ℕ) → l ≤ 63 → first_after f l ≡ f
low_first f l h = omega arith

none-counted : (f k : ℕ) → min f (k + 1) - f ≡ 0
none-counted f k = omega arith

from_last : (f k : ℕ) → f ≤ k → max f (k + 1) ≡ k + 1
from_last f k h = omega arith

as_many : (k n : ℕ) → max k n + 1 - (k + 1) ≡ n - k
as_many k n = omega arith

same_count : (m f k : ℕ) → f ≤ k → m + 0 + (f - (k + 1)) ≡ m
same_count m f k h = omega arith

pub rise_as_before : RiseAsBefore
unfolding rise_with rise_before lacking
rise_as_before t us n s a b = go s.span b
  where
    go : (x : Span) → UpTo63 x → rise t us n s x ≡ rise_before t us n s x
    go Closed u = refl
    go (Open first last) u =
        let f = first.0 in
        let k = last.0 in
        rw (low_first f (max k n) (omega (arith, u.1)), none-counted f k, from_last f k u.0, as_many k n)
        (λ i. record {
          span = Open first (as_number (max k n));
          missed = same_count s.missed f k u.0 i;
          pair = s.pair;
          distance = s.distance;
          heard = s.heard;
          names = filled-same t us s.distance (n - k) (k + 1) s.names (omega (arith, u.1)) i;
          origin = s.origin;
          attempts = s.attempts;
        })

pub data_rises_alike : DataRisesAlike
data_rises_alike t us n s another = λ i. rise_with (λ (k : ℕ).
    expressed (cond (another i) (Soon (t.clock + t.params.express)) Unset) (asked t us s.distance k)) n s s.span

-- ---- what is retired, and what is counted
low_stays : (f l f' l' : CueNumber) (n : ℕ) → StayOrRise f l f' l' → l'.0 ≤ 63 → f.0 ≤ n → n < f'.0 → ⊥
low_stays f l f' l' n (inl p) h a b = omega (arith, ap (λ (i : CueNumber). i.0) p.0)
low_stays f l f' l' n (inr p) h a b = omega (arith, p.1)

low_unretired : (emptied : Bool) (x y : Span) (n : ℕ) → SpanMayBecome emptied x y → UpTo63 y → retires x y n ≡ false
low_unretired emptied Closed y n h u = refl
low_unretired emptied (Open first last) Closed n h u = refl
low_unretired emptied (Open first last) (Open first' last') n h u = by_test (retires (Open first last) (Open first' last') n)
    (λ t. let q = retires-is first last first' last' n t in absurd (low_stays first last first' last' n h u.1 q.low q.passed))
    (λ t. t)

pub nothing_retired_up_to_63 : NothingRetiredUpTo63
nothing_retired_up_to_63 e a clock room draws h n hh u =
    low_unretired (clearing a) (source_at e (as_host h)).span (source_at (event_of e a clock room draws).left (as_host h)).span n
    (spans_may_become e a clock room draws h hh) u

low_count : (hs : List ℕ) (top : Option ℕ) → UpTo63 (span_over hs top) → count_over hs top ≡ 0
unfolding span_over count_over lacking
low_count [] top u = refl
low_count (f0 ∷ more) none u = refl
low_count (f0 ∷ more) (some l) u =
    let none_below : first_after f0 l - f0 ≡ 0 = omega (arith, u.1) in
    rw none_below

pub none_missed_up_to_63 : NoneMissedUpTo63
none_missed_up_to_63 host p cs s hh u =
    let e = (opening_of host p).end in
    let x = since_joining e.host.0 s (told e cs) in
    let q = count_over_history host p cs s hh in
    by_test (eqb s e.host.0) q.own (λ other. q.count ∙ low_count x.handed x.highest (subst UpTo63 (q.span other) u))
