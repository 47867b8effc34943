-- Both laws of an end's bytes, from those of its parts.
use mathlib.Core.Path.{◌≡◌, refl, sym, ap, ◌∙◌}
use Prim.Native.Nat.{ℕ, zero, suc, ◌+◌, ◌≤◌, ◌<◌}
use native.Mathlib.Omega.{arith}
use mathlib.Core.Bool.{Bool, true, false, ◌&&◌, and-true}
use mathlib.Core.List.{List, [], ◌∷◌, ◌++◌, append-nil}
use lib.ListN.{length, drop}
use lib.Seq.{take_all}
use lib.Dec.{eqb, leb}
use borrow.Author.Tests.{eqb-true, eq-eqb, ne_eqb, leb-true}
use Rattle.numbers.specs.Number.{digits, Bytes}
use Rattle.message.specs.Entry.{as_host}
use Rattle.message.specs.Section.{flat}
use Rattle.message.proofs.QuestionLaws.{and_both}
use Rattle.layout.specs.Puts.{Puts}
use Rattle.layout.proofs.PutLaws.{puts-next}
use Rattle.end.specs.declared.Params.{Params}
use Rattle.end.specs.declared.Status.{Status}
use Rattle.end.specs.declared.Status.TheVariants.{Idle, Joining, Member, Leaving, Crashed}
use Rattle.end.specs.declared.Source.{Source}
use Rattle.end.specs.declared.End.{End}
use Rattle.lent_fields.specs.Fields.{number, many, all_pass, Two, Below, free}
use Rattle.lent_fields.proofs.ByteLaws.{all-over}
use Rattle.lent_fields.specs.Form.{Codec}
use Rattle.lent_fields.proofs.Codec.{number_codec, both_codec, beside, retest, struct_codec, enum_codec, refit, array_codec}
use Rattle.lent_source.specs.Source.{source_from, source_test, source_bytes}
use Rattle.lent_source.specs.SourceLaws.{source_codec}
use Rattle.lent_end.specs.State.{params_bytes, params_from, ParamsFit, status_of, status_number, SourcesFit, mark, head_bytes, HeadFits, end_bytes, EndFits, end_from, is_state, Holds}

-- ---- the parameters
abbrev Seven : Type 0
Seven = Two (Two (Two (Two (Two (Two ℕ ℕ) ℕ) ℕ) ℕ) ℕ) ℕ

abbrev seven_of : Params → Seven
seven_of p = record {
  one = record {
    one = record { one = record { one = record { one = record { one = p.c1; two = p.c2 }; two = p.c3 }; two = p.d1 }; two = p.d2 };
    two = p.d3;
  };
  two = p.express;
}

abbrev params_with : Seven → Params
params_with x = record {
  c1 = x.one.one.one.one.one.one;
  c2 = x.one.one.one.one.one.two;
  c3 = x.one.one.one.one.two;
  d1 = x.one.one.one.two;
  d2 = x.one.one.two;
  d3 = x.one.two;
  express = x.two;
}

params_codec : Codec 56 params_bytes params_from free ParamsFit
unfolding params_bytes
params_codec =
    refit (struct_codec (beside (beside (beside (beside (beside (beside (number_codec 8) 8) 8) 8) 8) 8) 8) seven_of params_with (λ (p : Params). refl) (λ (x : Seven). refl))
    ParamsFit
    (λ (p : Params) (h : ParamsFit p). ((((((h.c1-fits, h.c2-fits), h.c3-fits), h.d1-fits), h.d2-fits), h.d3-fits), h.express-fits))

-- ---- the status
status_back : (x : Status) → status_of (status_number x) ≡ x
status_back Idle = refl
status_back Joining = refl
status_back Member = refl
status_back Leaving = refl
status_back Crashed = refl

status-tested : (x : Status) → leb (status_number x) 4 ≡ true
status-tested Idle = refl
status-tested Joining = refl
status-tested Member = refl
status-tested Leaving = refl
status-tested Crashed = refl

status_forth : (n : ℕ) → leb n 4 ≡ true → status_number (status_of n) ≡ n
status_forth zero h = refl
status_forth (suc zero) h = refl
status_forth (suc (suc zero)) h = refl
status_forth (suc (suc (suc zero))) h = refl
status_forth (suc (suc (suc (suc zero)))) h = refl
status_forth (suc (suc (suc (suc (suc n))))) h = absurd (omega (arith, leb-true (suc (suc (suc (suc (suc n))))) 4 h))

-- from 4 on it is crashed
pub last-status : (n : ℕ) → 4 ≤ n → Crashed ≡ status_of n
last-status n h =
    let zero-not : n ≡ 0 → ⊥ = λ e. absurd (omega arith) in
    let one-not : n ≡ 1 → ⊥ = λ e. absurd (omega arith) in
    let two-not : n ≡ 2 → ⊥ = λ e. absurd (omega arith) in
    let three-not : n ≡ 3 → ⊥ = λ e. absurd (omega arith) in
    rw (ne_eqb n 0 zero-not, ne_eqb n 1 one-not, ne_eqb n 2 two-not, ne_eqb n 3 three-not)

status_codec : Codec 1 (λ x. digits 1 (status_number x)) (λ s k. status_of (number 1 s k)) (λ s k. leb (number 1 s k) 4) (λ x. Below 1 (status_number x))
status_codec = enum_codec (number_codec 1) status_number status_of (λ (n : ℕ). leb n 4) status_back status-tested status_forth

-- ---- the two bytes before all
mark_codec : Codec {A = Unit {0}} 2 (λ x. digits 2 mark) (λ s k. tt) (λ s k. eqb (number 2 s k) mark) (λ x. Below 2 mark)
mark_codec = enum_codec (number_codec 2) (λ (x : Unit {0}). mark) (λ (n : ℕ). tt) (λ (n : ℕ). eqb n mark) (λ (x : Unit {0}). refl) (λ (x : Unit {0}). refl) (λ (n : ℕ) (h : eqb n mark ≡ true). sym (eqb-true n mark h))

-- ---- the end
sources_codec : Codec 31064 (flat source_bytes) (many source_from 3883 8) (all_pass source_test 3883 8) SourcesFit
sources_codec = array_codec source_codec 8

abbrev Head : Type 0
Head = Two (Two (Two (Two (Two (Unit {0}) ℕ) Params) ℕ) Status) ℕ

abbrev parts_of : End → Two Head (List Source)
parts_of e = record {
  one = record {
    one = record { one = record { one = record { one = record { one = tt; two = e.host.0 }; two = e.params }; two = e.clock }; two = e.status };
    two = e.next;
  };
  two = e.sources;
}

abbrev end_with : Two Head (List Source) → End
end_with x = record {
  host = as_host x.one.one.one.one.one.two;
  params = x.one.one.one.one.two;
  clock = x.one.one.one.two;
  status = x.one.one.two;
  next = x.one.two;
  sources = x.two;
}

abbrev end_at : List ℕ → ℕ → End
end_at s k = record {
  host = as_host (number 1 s (k + 2));
  params = params_from s (k + 3);
  clock = number 8 s (k + 59);
  status = status_of (number 1 s (k + 67));
  next = number 4 s (k + 68);
  sources = many source_from 3883 8 s (k + 72);
}

abbrev test_at : List ℕ → ℕ → Bool
test_at s k = eqb (number 2 s k) mark && leb (number 1 s (k + 67)) 4 && all_pass source_test 3883 8 s (k + 72)

end_codec : Codec 31136 end_bytes end_at test_at EndFits
unfolding end_bytes head_bytes
end_codec =
    refit
    (struct_codec
    (both_codec
    (beside
    (both_codec
    (beside (retest (both_codec (beside mark_codec 1) params_codec) (λ s k. eqb (number 2 s k) mark) (λ s k. and-true (eqb (number 2 s k) mark))) 8)
    status_codec)
    4)
    sources_codec)
    parts_of end_with (λ (e : End). refl) (λ (x : Two Head (List Source)). refl))
    EndFits
    (λ (e : End) (h : EndFits e).
    let f = h.head-fits in
    let m : mark < 65536 = omega arith in
    ((((((m, f.host-fits), f.params_fit), f.clock-fits), f.status-fits), f.next_fits), h.sources_fit))

-- ---- what the calls need
pub not-long : (s : List ℕ) → (length s ≡ 31136 → ⊥) → false ≡ is_state s
unfolding is_state
not-long s h = rw (ne_eqb (length s) 31136 h)

pub state-tested : (s : List ℕ) (m t : ℕ) (ok : Bool) → length s ≡ 31136 → m ≡ number 2 s 0 → t ≡ number 1 s 67 → ok ≡ all_pass source_test 3883 8 s 72
    → (eqb m mark && leb t 4 && ok) ≡ is_state s
unfolding is_state
state-tested s m t ok h p q r = rw (eq-eqb (length s) 31136 h) (λ i. eqb (p i) mark && leb (q i) 4 && r i)

-- the bytes of an end whose numbers fit are read back as it, and pass the test
pub form_holds : (e : End) (s : List ℕ) → EndFits e → s ≡ end_bytes e → Holds s e
unfolding end_from is_state
form_holds e s fits w =
    let there : drop 0 s ≡ end_bytes e ++ [] = w ∙ sym (append-nil (end_bytes e)) in
    let long : length s ≡ 31136 = ap length w ∙ end_codec.long e fits in
    record {
      bytes = w;
      reads = end_codec.back e s [] 0 fits there;
      tested = rw (eq-eqb (length s) 31136 long) (end_codec.tested e s [] 0 fits there);
    }

-- written, then read and tested
pub written : (e : End) (tag : ℕ) (start one last : List ℕ) → tag ≡ status_number e.status → length start ≡ 31136
    → Puts 0 72 (head_bytes e.host.0 e.params e.clock tag e.next) start one → HeadFits e.host.0 e.params e.clock tag e.next
    → Puts 72 31064 (flat source_bytes e.sources) one last → SourcesFit e.sources → Holds last e
unfolding end_bytes
written e tag start one last t h p f q g =
    let all : Puts 0 31136 (head_bytes e.host.0 e.params e.clock tag e.next ++ flat source_bytes e.sources) start last = puts-next p q refl in
    let w : last ≡ end_bytes e = all.written ∙ all-over _ start (all.long ∙ sym h) ∙ ap (λ (n : ℕ). head_bytes e.host.0 e.params e.clock n e.next ++ flat source_bytes e.sources) t in
    form_holds e last (record { head-fits = rw t at f; sources_fit = g }) w

-- a state is as long as one
pub state-long : (s : List ℕ) → is_state s ≡ true → length s ≡ 31136
unfolding is_state
state-long s h = eqb-true (length s) 31136 (and_both (eqb (length s) 31136) (test_at s 0) h).0

-- read, then written: the very bytes
pub state_forth : (s : List ℕ) → Bytes s → is_state s ≡ true → end_bytes (end_from s) ≡ s
unfolding is_state end_from
state_forth s b h =
    let p = and_both (eqb (length s) 31136) (test_at s 0) h in
    let long : length s ≡ 31136 = eqb-true (length s) 31136 p.0 in
    end_codec.forth s 0 b (omega arith) p.1 ∙ take_all 31136 s (omega arith)

-- the status's byte is its number
pub status-kept : (s : List ℕ) → is_state s ≡ true → number 1 s 67 ≡ status_number (end_from s).status
unfolding is_state end_from
status-kept s h =
    let p = and_both (eqb (length s) 31136) (test_at s 0) h in
    let q = and_both (eqb (number 2 s 0) mark && leb (number 1 s 67) 4) (all_pass source_test 3883 8 s 72) p.1 in
    let r = and_both (eqb (number 2 s 0) mark) (leb (number 1 s 67) 4) q.0 in
    sym (status_forth (number 1 s 67) r.1)

-- so a state holds the end that is read from it, and is that end's only form
pub state-holds : (s : List ℕ) → Bytes s → is_state s ≡ true → Holds s (end_from s)
state-holds s b h = record { bytes = sym (state_forth s b h); reads = refl; tested = h }
