-- From a source to its end: a source changed, the clock set, a move, and the state of which nothing is kept.
use mathlib.Core.Path.{◌≡◌, refl, sym, ap, ◌∙◌, subst}
use Prim.Native.Nat.{ℕ, ◌+◌, ◌≤◌, ◌<◌}
use native.Mathlib.Omega.{arith}
use mathlib.Core.Bool.{Bool, true, false, ◌||◌}
use mathlib.Core.List.{List, [], ◌∷◌}
use lib.ListN.{length, get_or, set, replicate, length-set, length-replicate, get_or-replicate, get_or-eq_default}
use lib.Seq.{get_or-set_same, get_or-set_other}
use lib.Dec.{eqb}
use borrow.Author.Tests.{eqb-true, eqb-false, le-leb, leb-true}
use Rattle.numbers.proofs.Cases.{by_order}
use Rattle.message.specs.declared.Host.{Host}
use Rattle.message.specs.declared.Name.{Name}
use Rattle.message.specs.Entry.{as_host}
use Rattle.message.specs.Question.{same_host}
use Rattle.end.specs.declared.Status.{Status}
use Rattle.end.specs.declared.Slot.{Slot}
use Rattle.end.specs.declared.Slot.TheVariants.{Empty}
use Rattle.end.specs.declared.Record.{Record}
use Rattle.end.specs.Parts.{Heard, Never, At}
use Rattle.end.specs.declared.Source.{Source}
use Rattle.end.specs.declared.End.{End}
use Rattle.end.specs.State.{no_record, no_source, no_attempt, blank_record, first_distance, unheard, unheard_sources, source_at, is_member}
use Rattle.end.specs.State.{with_source, with_status, with_clock}
use Rattle.end.specs.Records.{place, record_at}
use Rattle.end.specs.Sound.{all_of, inside_sound, outside_sound, distance_sound, heard_tests, non_member_tests, attempt_sound, params_tests, delay_in}
use Rattle.end.proofs.SoundLaws.{nth}
use Rattle.end.proofs.RecordLaws.{place_in}
use Rattle.end.proofs.Facts.{within-small}
use Rattle.end.proofs.Tools.{by_test, clash', set_elim}
use Rattle.invariants.specs.Outputs.{kept_under, pair_of}
use Rattle.invariants.proofs.Facts.{all_intro, SoundSource, SoundState, span_in}
use Rattle.invariants.proofs.Sources.{stands}

-- where a name stands under which there is something, and what soundness says of it
pub record Stands (e : End) (name : Name) : Type 0 where
  pub source : name.source.0 < 8
  pub number : name.number.0 < 65536
  pub sound : inside_sound e.host name.source (pair_of e name) (kept_under e name) (kept_under e name).slot ≡ true

-- the same by what is there
pub stands_as : {e : End} {name : Name} (x : Slot) → Stands e name → (kept_under e name).slot ≡ x
    → inside_sound e.host name.source (pair_of e name) (kept_under e name) x ≡ true
stands_as {e} {name} x at p = ap (inside_sound e.host name.source (pair_of e name) (kept_under e name)) (sym p) ∙ at.sound

pub there : (e : End) → SoundState e → (name : Name) → ((kept_under e name).slot ≡ Empty → ⊥) → Stands e name
unfolding record_at
there e f name h =
    let n = name.number.0 in
    let s = source_at e name.source in
    by_order name.source.0 8
    (λ l.
    let q = f.each name.source.0 l in
    let w = stands s q n h in
    let spans = span_in e.host e.next e.clock (is_member e.status) name.source s q in
    record { source = l; number = within-small s.span n spans w; sound = q.inside n w })
    (λ l.
    let past : length e.sources ≤ name.source.0 = omega (arith, f.sources) in
    absurd (h (ap (λ (x : Source). (record_at x n).slot) (get_or-eq_default e.sources no_source past))))

-- one source changed
pub source-kept : (e : End) (h : Host) (s : Source) → SoundState e → SoundSource e.host e.next e.clock (is_member e.status) h s → SoundState (with_source e h s)
source-kept e h s f q =
    let Sounds : Host → Source → Type 0 = SoundSource e.host e.next e.clock (is_member e.status) in
    let each : (k : ℕ) → k < 8 → Sounds (as_host k) (get_or (set e.sources h.0 s) k no_source) =
    λ k l. set_elim (Sounds (as_host k)) e.sources h.0 k s no_source (λ i. subst (λ (j : ℕ). Sounds (as_host j) s) (sym i) q) (f.each k l) in
    search (f, each, length-set e.sources h.0 s ∙ f.sources)

-- ---- the clock rises
heard-kept : (own : Bool) (clock t : ℕ) (x : Heard) → clock ≤ t → all_of (heard_tests own clock x) ≡ true → all_of (heard_tests own t x) ≡ true
heard-kept own clock t Never l h = refl
heard-kept own clock t (At stamp when reported) l h =
    let tests = heard_tests own clock (At stamp when reported) in
    let later = le-leb when t (omega (arith, l, leb-true when clock (nth tests 2 h))) in
    λ i. all_of (nth tests 0 h i ∷ nth tests 1 h i ∷ later i ∷ [])

pub clock-kept : (e : End) (t : ℕ) → SoundState e → e.clock ≤ t → t < 281474976710656 → SoundState (with_clock e t)
clock-kept e t f l m =
    let each : (k : ℕ) → k < 8 → SoundSource e.host e.next t (is_member e.status) (as_host k) (get_or e.sources k no_source) =
    λ k hk. let q = f.each k hk in search (q, heard-kept (same_host (as_host k) e.host) e.clock t (get_or e.sources k no_source).heard l q.heard) in
    search (f, each, m)

-- ---- a non-member's status changes
pub status-kept : (e : End) (x : Status) → SoundState e → is_member e.status ≡ false → SoundState (with_status e x)
status-kept e x f m =
    let each : (k : ℕ) → k < 8 → SoundSource e.host e.next e.clock (is_member x) (as_host k) (get_or e.sources k no_source) =
    λ k hk.
    let q = f.each k hk in
    let aside : is_member x ≡ false → all_of (non_member_tests (same_host (as_host k) e.host) (get_or e.sources k no_source)) ≡ true = λ _. q.aside m in
    search q in
    search (f, each)

-- ---- nothing is kept
unheard-sound : (me : Host) (next clock : ℕ) (member : Bool) (h : Host) (d : ℕ) → distance_sound (same_host h me) d ≡ true → (same_host h me || eqb d first_distance) ≡ true
    → SoundSource me next clock member h (unheard d)
unheard-sound me next clock member h d near first = record {
  names = length-replicate 64 blank_record;
  span = refl;
  distance = near;
  heard = refl;
  aside = λ _. λ i. all_of (true ∷ true ∷ first i ∷ true ∷ []);
  pair = refl;
  inside = λ n w. clash' w;
  outside = λ n a b w. ap (λ (r : Record). outside_sound r r.slot) (get_or-replicate 64 (place n) blank_record no_record (place_in n));
  attempts = length-replicate 64 no_attempt;
  origin = refl;
  marks = all_intro _ 64 (λ i l. ap (attempt_sound me false) (get_or-replicate 64 (place (0 + i)) no_attempt no_attempt (place_in (0 + i))));
}

-- a state of which nothing is kept, whatever its status
pub unheard-kept : (e : End) → e.host.0 < 8 → all_of (params_tests e.params) ≡ true → delay_in e.params ≡ true → e.clock < 281474976710656
    → e.next ≤ 65536 → e.sources ≡ unheard_sources e.host.0 → SoundState e
unheard-kept e host params delay clock next p =
    let me = e.host.0 in
    let others : List Source = replicate 8 (unheard first_distance) in
    let Sounds : ℕ → Source → Type 0 = λ k s. SoundSource e.host e.next e.clock (is_member e.status) (as_host k) s in
    let unheard-at : (k d : ℕ) → distance_sound (eqb k me) d ≡ true → (eqb k me || eqb d first_distance) ≡ true → Sounds k (unheard d) =
    λ k d. unheard-sound e.host e.next e.clock (is_member e.status) (as_host k) d in
    let each : (k : ℕ) → k < 8 → Sounds k (get_or (unheard_sources me) k no_source) = λ k hk. by_test (eqb k me)
    (λ t. subst (Sounds k)
    (sym (ap (λ (j : ℕ). get_or (unheard_sources me) j no_source) (eqb-true k me t) ∙ get_or-set_same others me (unheard 0) no_source (omega (arith, host, length-replicate 8 (unheard first_distance)))))
    (unheard-at k 0 (ap (λ (b : Bool). distance_sound b 0) t) (ap (λ (b : Bool). b || false) t)))
    (λ t. subst (Sounds k)
    (sym (get_or-set_other others me k (unheard 0) no_source (eqb-false k me t) ∙ get_or-replicate 8 k (unheard first_distance) no_source hk))
    (unheard-at k first_distance (ap (λ (b : Bool). distance_sound b first_distance) t) (ap (λ (b : Bool). b || true) t))) in
    let all : (k : ℕ) → k < 8 → Sounds k (get_or e.sources k no_source) = λ k hk. subst (λ (l : List Source). Sounds k (get_or l k no_source)) (sym p) (each k hk) in
    search (all, ap length p ∙ length-set others me (unheard 0) ∙ length-replicate 8 (unheard first_distance))
