-- From a number read at its place to the look of its definition.
use mathlib.Core.Path.{◌≡◌, refl, sym, ap, ◌∙◌}
use Prim.Native.Nat.{ℕ, zero, suc, ◌+◌, ◌*◌, ◌<◌}
use native.Mathlib.Nat.{zero-mul, suc-mul}
use native.Mathlib.Omega.{arith}
use mathlib.Core.Bool.{Bool, true, false, cond, ◌&&◌}
use mathlib.Core.List.{List}
use lib.ListN.{length, get_or}
use lib.Dec.{ltb}
use borrow.Author.Tests.{ltb-true}
use Rattle.message.proofs.QuestionLaws.{and_both}
use Rattle.end.specs.declared.Source.{Source}
use Rattle.end.specs.declared.End.{End}
use Rattle.end.specs.State.{no_source}
use Rattle.lent_answer.specs.Number.{NONE}
use Rattle.lent_fields.specs.Fields.{many}
use Rattle.lent_source.specs.Source.{source_from}
use Rattle.lent_end.specs.State.{end_from, is_state}
use Rattle.lent_end.proofs.StateLaws.{state-long}
use Rattle.lent_looks.specs.Looks.{look, look_at}

-- ---- of the end
module _ (f : End → ℕ) (s : List ℕ) (ok : Bool) (t : ok ≡ is_state s) where
  pub seen : (r : ℕ) → ok ≡ true → r ≡ f (end_from s) → r ≡ look f s
  unfolding look
  seen r y e =
      let yes : is_state s ≡ true = sym t ∙ y in
      rw yes e

  pub unseen : ok ≡ false → NONE ≡ look f s
  unfolding look
  unseen n =
      let no : is_state s ≡ false = sym t ∙ n in
      rw no

-- ---- of one of its sources
-- the source at its place
many-at : {A : Type 0} (f : List ℕ → ℕ → A) (w n h : ℕ) (s : List ℕ) (k : ℕ) (d : A) → h < n → get_or (many f w n s k) h d ≡ f s (k + h * w)
unfolding many
many-at f w zero h s k d l = absurd (omega arith)
many-at f w (suc n) zero s k d l =
    let e : k + zero * w ≡ k = rw zero-mul (omega arith) in
    ap (f s) (sym e)
many-at f w (suc n) (suc h) s k d l =
    let e : k + w + h * w ≡ k + suc h * w = rw suc-mul (omega arith) in
    many-at f w n h s (k + w) d (omega arith) ∙ ap (f s) e

source-at : (s : List ℕ) (h : ℕ) → h < 8 → get_or (end_from s).sources h no_source ≡ source_from s (72 + h * 3883)
unfolding end_from
source-at s h l = many-at source_from 3883 8 h s 72 no_source l

module _ (f : Source → ℕ) (h : ℕ) (s : List ℕ) (ok : Bool) (t : ok ≡ (ltb h 8 && is_state s)) where
  pub there-host : ok ≡ true → h < 8
  there-host y = ltb-true h 8 (and_both (ltb h 8) (is_state s) (sym t ∙ y)).0

  pub there-long : ok ≡ true → length s ≡ 31136
  there-long y = state-long s (and_both (ltb h 8) (is_state s) (sym t ∙ y)).1

  pub seen_at : (r at : ℕ) → ok ≡ true → at ≡ 72 + h * 3883 → r ≡ f (source_from s at) → r ≡ look_at f h s
  unfolding look_at look
  seen_at r at y p e =
      let both = and_both (ltb h 8) (is_state s) (sym t ∙ y) in
      rw (both.0, both.1) (e ∙ ap (λ (k : ℕ). f (source_from s k)) p ∙ ap f (sym (source-at s h (there-host y))))

  not_both : (a b : Bool) (x : ℕ) → (a && b) ≡ false → NONE ≡ cond a (cond b x NONE) NONE
  not_both true b x e = rw e
  not_both false b x e = refl

  pub unseen_at : ok ≡ false → NONE ≡ look_at f h s
  unfolding look_at look
  unseen_at n = not_both (ltb h 8) (is_state s) (f (get_or (end_from s).sources h no_source)) (sym t ∙ n)
