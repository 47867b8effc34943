-- From the event's promise on the end that the bytes hold to the promise of the call on the bytes.
use mathlib.Core.Path.{◌≡◌, refl, sym, ap, ◌∙◌, subst}
use Prim.Native.Nat.{ℕ, ◌<◌}
use mathlib.Core.Bool.{Bool, true, false, cond, ◌&&◌}
use mathlib.Core.List.{List}
use lib.ListN.{length, replicate}
use lib.Dec.{T, leb, eqb}
use borrow.Author.Tests.{eq-eqb, ne_eqb, lt-leb}
use Rattle.numbers.specs.Splice.{splice}
use Rattle.message.proofs.QuestionLaws.{and_both}
use Rattle.end.specs.declared.Answer.{Answer}
use Rattle.end.specs.declared.End.{End}
use Rattle.end.specs.declared.Stepped.{Stepped}
use Rattle.end.specs.Event.{Action, gives, leaves}
use Rattle.lent_answer.specs.Number.{is_refused, number_of}
use Rattle.lent_fields.proofs.ByteLaws.{all-over}
use Rattle.lent_end.specs.State.{end_from, is_state, end_bytes, Holds}
use Rattle.lent_calls.specs.Arguments.{cue_of}
use Rattle.lent_calls.specs.Call.{after, end_after, asked, Called, ready, call_number, call_state, call_out, CallIs}

module _ (e : End) (a : Action) (clock : ℕ) (draws out out' : List ℕ) (r : Stepped) (s : List ℕ) (p : e ≡ end_from s) (q : r ≡ gives e a clock draws out)
    (w : out' ≡ leaves e a clock draws out) (k : is_state s ≡ true) where
  same : r ≡ gives (end_from s) a clock draws out
  same = q ∙ ap (λ (x : End). gives x a clock draws out) p

  pub refused : (t : Bool) → t ≡ is_refused r.answer → t ≡ true → Called (end_from s) a clock draws out out' s s r.answer
  refused t h g =
      let is : is_refused r.answer ≡ true = sym h ∙ g in
      let here : s ≡ after r s = rw is in
      let there : end_from s ≡ end_after r (end_from s) = rw is in
      record {
        answered = ap (λ (x : Stepped). x.answer) same;
        output = w ∙ ap (λ (x : End). leaves x a clock draws out) p;
        written = here ∙ ap (λ (x : Stepped). after x s) same;
        kept = k;
        holds = there ∙ ap (λ (x : Stepped). end_after x (end_from s)) same;
      }

  pub moved : (t : Bool) (last : List ℕ) → t ≡ is_refused r.answer → t ≡ false → Holds last r.end → Called (end_from s) a clock draws out out' s last r.answer
  moved t last h g l =
      let is : is_refused r.answer ≡ false = sym h ∙ g in
      let here : end_bytes r.end ≡ after r s = rw is in
      let there : r.end ≡ end_after r (end_from s) = rw is in
      record {
        answered = ap (λ (x : Stepped). x.answer) same;
        output = w ∙ ap (λ (x : End). leaves x a clock draws out) p;
        written = l.bytes ∙ here ∙ ap (λ (x : Stepped). after x s) same;
        kept = l.tested;
        holds = l.reads ∙ there ∙ ap (λ (x : Stepped). end_after x (end_from s)) same;
      }

-- a call that is ready has room, draws and a state
ready-room : (s draws out : List ℕ) → ready s draws out ≡ true → leb 128 (length out) ≡ true
ready-room s draws out h = (and_both (leb 128 (length out)) (eqb (length draws) 64 && is_state s) h).0

ready-rest : (s draws out : List ℕ) → ready s draws out ≡ true → (eqb (length draws) 64 ≡ true) × (is_state s ≡ true)
ready-rest s draws out h = and_both (eqb (length draws) 64) (is_state s) (and_both (leb 128 (length out)) (eqb (length draws) 64 && is_state s) h).1

both_ways_lem : (b : Bool) → b ≡ false → b ≡ true → ⊥
both_ways_lem b f t = subst T f (subst T (sym t) tt)

-- the questions in their order
module _ (a : Action) (clock : ℕ) (draws out s : List ℕ) where
  pub no_room : length out < 128 → CallIs a clock draws out out s s 1
  unfolding call_number call_state call_out
  no_room h =
      let e : leb 128 (length out) ≡ false = lt-leb 128 (length out) h in
      record {
        number = rw e;
        state = rw e;
        output = rw e;
        kept = λ k. k;
        holds = λ r. absurd (both_ways_lem (leb 128 (length out)) e (ready-room s draws out r));
      }

  module _ (h : leb 128 (length out) ≡ true) where
    pub no_draws : (length draws ≡ 64 → ⊥) → CallIs a clock draws out out s s 2
    unfolding call_number call_state call_out
    no_draws g =
        let e : eqb (length draws) 64 ≡ false = ne_eqb (length draws) 64 g in
        record {
          number = rw (h, e);
          state = rw (h, e);
          output = rw (h, e);
          kept = λ k. k;
          holds = λ r. absurd (both_ways_lem (eqb (length draws) 64) e (ready-rest s draws out r).0);
        }

    module _ (g : length draws ≡ 64) (ok : Bool) (t : ok ≡ is_state s) where
      pub no_state : ok ≡ false → CallIs a clock draws out out s s 3
      unfolding call_number call_state call_out
      no_state f =
          let d : eqb (length draws) 64 ≡ true = eq-eqb (length draws) 64 g in
          let e : is_state s ≡ false = sym t ∙ f in
          record {
            number = rw (h, d, e);
            state = rw (h, d, e);
            output = rw (h, d, e);
            kept = λ k. k;
            holds = λ r. absurd (both_ways_lem (is_state s) e (ready-rest s draws out r).1);
          }

      pub on_a_state : {out' s' : List ℕ} {answer : Answer} {n : ℕ} → ok ≡ true → Called (end_from s) a clock draws out out' s s' answer → n ≡ number_of answer
          → CallIs a clock draws out out' s s' n
      unfolding call_number call_state call_out
      on_a_state f c m =
          let d : eqb (length draws) 64 ≡ true = eq-eqb (length draws) 64 g in
          let e : is_state s ≡ true = sym t ∙ f in
          record {
            number = rw (h, d, e) (m ∙ ap number_of c.answered);
            state = rw (h, d, e) c.written;
            output = rw (h, d, e) c.output;
            kept = λ k. c.kept;
            holds = λ r. c.holds;
          }

-- questions 1 and 2 asked before the rest
module _ (a : Action) (clock : ℕ) (draws out s : List ℕ) where
  -- one of questions 1 and 2 is answered no
  asked_as : (q : ℕ) (x y : Bool) → leb 128 (length out) ≡ x → eqb (length draws) 64 ≡ y → q ≡ cond x (cond y 0 2) 1 → (q ≡ 0 → ⊥) → CallIs a clock draws out out s s q
  unfolding call_number call_state call_out
  asked_as q true true p d e h = absurd (h e)
  asked_as q true false p d e h = record {
    number = rw (p, d) e;
    state = rw (p, d);
    output = rw (p, d);
    kept = λ k. k;
    holds = λ r. absurd (both_ways_lem (eqb (length draws) 64) d (ready-rest s draws out r).0);
  }
  asked_as q false y p d e h = record {
    number = rw p e;
    state = rw p;
    output = rw p;
    kept = λ k. k;
    holds = λ r. absurd (both_ways_lem (leb 128 (length out)) p (ready-room s draws out r));
  }

  pub refused-asked : (q : ℕ) → q ≡ asked (length out) (length draws) → (q ≡ 0 → ⊥) → CallIs a clock draws out out s s q
  refused-asked q e h = asked_as q (leb 128 (length out)) (eqb (length draws) 64) refl refl e h

-- ---- Send's cue
pub cue-taken : (b last : List ℕ) → length b ≡ 24 → last ≡ splice 0 b (replicate 24 255) → last ≡ cue_of b
cue-taken b last h e = e ∙ all-over b (replicate 24 255) h ∙ rw (eq-eqb (length b) 24 h)

pub cue-out : (b : List ℕ) → (length b ≡ 24 → ⊥) → replicate 24 255 ≡ cue_of b
cue-out b h = rw (ne_eqb (length b) 24 h)
