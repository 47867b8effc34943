-- Both laws of a form in bytes, and how the forms of parts make that of a whole.
use mathlib.Core.Path.{◌≡◌, refl, sym, ap, ◌∙◌}
use Prim.Native.Nat.{ℕ, zero, suc, ◌+◌, ◌*◌, ◌≤◌}
use native.Mathlib.Nat.{zero-mul, suc-mul}
use native.Mathlib.Omega.{arith}
use mathlib.Core.Bool.{Bool, true, ◌&&◌, and-true, and_assoc}
use mathlib.Core.List.{List, [], ◌∷◌, ◌++◌, append_assoc}
use lib.ListN.{length, take, drop, length-append, length-drop}
use lib.Seq.{take_at, drop_at, length-take-le, take-add, drop-drop}
use Rattle.numbers.specs.Number.{value, digits, Bytes}
use Rattle.numbers.proofs.NumberLaws.{length_digits, value-digits, digits_value, bytes_take, bytes_drop}
use Rattle.message.specs.Section.{flat}
use Rattle.message.proofs.QuestionLaws.{and_both}
use Rattle.message.proofs.SectionLaws.{All, none, some}
use Rattle.lent_fields.specs.Fields.{number, part, many, all_pass, Two, Below, Long, free}
use Rattle.lent_fields.specs.Form.{Codec}

-- a number of w bytes
pub number_codec : (w : ℕ) → Codec w (digits w) (number w) free (Below w)
number_codec w = record {
  long = λ v h. length_digits w v;
  back = λ v s rest k h e. ap (λ (l : List ℕ). value (take w l)) e ∙ ap value (take_at (digits w v) rest w (length_digits w v)) ∙ value-digits w v h;
  tested = λ v s rest k h e. refl;
  forth = λ s k b r e.
      let l : w ≤ length (drop k s) = rw length-drop (omega arith) in
      digits_value w (take w (drop k s)) (length-take-le w (drop k s) l) (bytes_take w (drop k s) (bytes_drop k s b));
}

-- n bytes as they are
pub bytes_codec : (n : ℕ) → Codec n (λ (b : List ℕ). b) (part n) free (Long n)
bytes_codec n = record {
  long = λ b h. h;
  back = λ b s rest k h e. ap (take n) e ∙ take_at b rest n h;
  tested = λ b s rest k h e. refl;
  forth = λ s k b r e. refl;
}

-- what follows a part
after : (w k : ℕ) (s a rest : List ℕ) → length a ≡ w → drop k s ≡ a ++ rest → drop (k + w) s ≡ rest
after w k s a rest h e = sym (drop-drop w k s) ∙ ap (drop w) e ∙ drop_at a rest w h

-- a part, and another at its end
pub both_codec : {A B : Type 0} {w v : ℕ} {g : A → List ℕ} {h : B → List ℕ} {f : List ℕ → ℕ → A} {e : List ℕ → ℕ → B} {t u : List ℕ → ℕ → Bool} {P : A → Type 0} {Q : B → Type 0}
    → Codec w g f t P → Codec v h e u Q
    → Codec {A = Two A B} (w + v) (λ x. g x.one ++ h x.two) (λ s k. record { one = f s k; two = e s (k + w) }) (λ s k. t s k && u s (k + w)) (λ x. P x.one × Q x.two)
both_codec {A} {B} {w} {v} {g} {h} {f} {e} {t} {u} c d =
    let first : (x : Two A B) (s rest : List ℕ) (k : ℕ) → drop k s ≡ (g x.one ++ h x.two) ++ rest → drop k s ≡ g x.one ++ (h x.two ++ rest) =
    λ x s rest k q. q ∙ append_assoc (g x.one) (h x.two) rest in
    record {
      long = λ x p. length-append (g x.one) (h x.two) ∙ (λ i. c.long x.one p.0 i + d.long x.two p.1 i);
      back = λ x s rest k p q.
          let r = first x s rest k q in
          λ i. record {
            one = c.back x.one s (h x.two ++ rest) k p.0 r i;
            two = d.back x.two s rest (k + w) p.1 (after w k s (g x.one) (h x.two ++ rest) (c.long x.one p.0) r) i;
          };
      tested = λ x s rest k p q.
          let r = first x s rest k q in
          λ i. c.tested x.one s (h x.two ++ rest) k p.0 r i && d.tested x.two s rest (k + w) p.1 (after w k s (g x.one) (h x.two ++ rest) (c.long x.one p.0) r) i;
      forth = λ s k b r q.
          let p = and_both (t s k) (u s (k + w)) q in
          (λ i. c.forth s k b (omega arith) p.0 i ++ (d.forth s (k + w) b (omega arith) p.1 ∙ ap (take v) (sym (drop-drop w k s))) i) ∙ sym (take-add w v (drop k s));
    }

module _ {A : Type 0} {w : ℕ} {g : A → List ℕ} {f : List ℕ → ℕ → A} {t : List ℕ → ℕ → Bool} {P : A → Type 0} (c : Codec w g f t P) where
  -- the same values, tested or read in another way
  pub retest : (u : List ℕ → ℕ → Bool) → ((s : List ℕ) (k : ℕ) → t s k ≡ u s k) → Codec w g f u P
  retest u h = record {
    long = c.long;
    back = c.back;
    tested = λ a s rest k p q. sym (h s k) ∙ c.tested a s rest k p q;
    forth = λ s k b r q. c.forth s k b r (h s k ∙ q);
  }

  pub reread : (e : List ℕ → ℕ → A) → ((s : List ℕ) (k : ℕ) → f s k ≡ e s k) → Codec w g e t P
  reread e h = record {
    long = c.long;
    back = λ a s rest k p q. sym (h s k) ∙ c.back a s rest k p q;
    tested = c.tested;
    forth = λ s k b r q. ap g (sym (h s k)) ∙ c.forth s k b r q;
  }

  -- what the type says of it, said in another way
  pub refit : (Q : A → Type 0) → ((a : A) → Q a → P a) → Codec w g f t Q
  refit Q h = record {
    long = λ a q. c.long a (h a q);
    back = λ a s rest k q e. c.back a s rest k (h a q) e;
    tested = λ a s rest k q e. c.tested a s rest k (h a q) e;
    forth = c.forth;
  }

  -- a struct is its parts
  pub struct_codec : {B : Type 0} (to : B → A) (of : A → B) → ((b : B) → of (to b) ≡ b) → ((a : A) → to (of a) ≡ a)
      → Codec {A = B} w (λ b. g (to b)) (λ s k. of (f s k)) t (λ b. P (to b))
  struct_codec to of ob fo = record {
    long = λ b p. c.long (to b) p;
    back = λ b s rest k p q. ap of (c.back (to b) s rest k p q) ∙ ob b;
    tested = λ b s rest k p q. c.tested (to b) s rest k p q;
    forth = λ s k b r q. ap g (fo (f s k)) ∙ c.forth s k b r q;
  }

  -- an enum is its numbers, where they pass a test of their own
  pub enum_codec : {B : Type 0} (to : B → A) (of : A → B) (ok : A → Bool) → ((b : B) → of (to b) ≡ b) → ((b : B) → ok (to b) ≡ true) → ((a : A) → ok a ≡ true → to (of a) ≡ a)
      → Codec {A = B} w (λ b. g (to b)) (λ s k. of (f s k)) (λ s k. t s k && ok (f s k)) (λ b. P (to b))
  enum_codec to of ok ob good fo = record {
    long = λ b p. c.long (to b) p;
    back = λ b s rest k p q. ap of (c.back (to b) s rest k p q) ∙ ob b;
    tested = λ b s rest k p q. (λ i. c.tested (to b) s rest k p q i && ok (c.back (to b) s rest k p q i)) ∙ good b;
    forth = λ s k b r q.
        let p = and_both (t s k) (ok (f s k)) q in
        ap g (fo (f s k) p.1) ∙ c.forth s k b r p.0;
  }

  -- a number beside it, which has no test
  pub beside : (v : ℕ) → Codec {A = Two A ℕ} (w + v) (λ x. g x.one ++ digits v x.two) (λ s k. record { one = f s k; two = number v s (k + w) }) t (λ x. P x.one × Below v x.two)
  beside v = record {
    long = (both_codec c (number_codec v)).long;
    back = (both_codec c (number_codec v)).back;
    tested = λ a s rest k p q. sym (and-true (t s k)) ∙ (both_codec c (number_codec v)).tested a s rest k p q;
    forth = λ s k b r q. (both_codec c (number_codec v)).forth s k b r (and-true (t s k) ∙ q);
  }

  -- ---- n of them
  long-flat : (l : List A) → All P l → length (flat g l) ≡ length l * w
  unfolding flat
  long-flat [] none = sym (zero-mul w)
  long-flat (a ∷ l) (some p q) = length-append (g a) (flat g l) ∙ (λ i. c.long a p i + long-flat l q i) ∙ rw suc-mul (omega arith)

  many_back : (l : List A) (s rest : List ℕ) (k : ℕ) → All P l → drop k s ≡ flat g l ++ rest → many f w (length l) s k ≡ l
  unfolding flat many
  many_back [] s rest k none q = refl
  many_back (a ∷ l) s rest k (some p ps) q =
      let r : drop k s ≡ g a ++ (flat g l ++ rest) = q ∙ append_assoc (g a) (flat g l) rest in
      λ i. c.back a s (flat g l ++ rest) k p r i ∷ many_back l s rest (k + w) ps (after w k s (g a) (flat g l ++ rest) (c.long a p) r) i

  many-tested : (l : List A) (s rest : List ℕ) (k : ℕ) → All P l → drop k s ≡ flat g l ++ rest → all_pass t w (length l) s k ≡ true
  unfolding flat all_pass
  many-tested [] s rest k none q = refl
  many-tested (a ∷ l) s rest k (some p ps) q =
      let r : drop k s ≡ g a ++ (flat g l ++ rest) = q ∙ append_assoc (g a) (flat g l) rest in
      λ i. c.tested a s (flat g l ++ rest) k p r i && many-tested l s rest (k + w) ps (after w k s (g a) (flat g l ++ rest) (c.long a p) r) i

  many_forth : (n : ℕ) (s : List ℕ) (k : ℕ) → Bytes s → k + n * w ≤ length s → all_pass t w n s k ≡ true → flat g (many f w n s k) ≡ take (n * w) (drop k s)
  unfolding flat many all_pass
  many_forth zero s k b h q = rw zero-mul
  many_forth (suc n) s k b h q =
      let e : suc n * w ≡ w + n * w = rw suc-mul (omega arith) in
      let p = and_both (t s k) (all_pass t w n s (k + w)) q in
      let room : k + (w + n * w) ≤ length s = rw (← e) h in
      (λ i. c.forth s k b (omega arith) p.0 i ++ (many_forth n s (k + w) b (omega arith) p.1 ∙ ap (take (n * w)) (sym (drop-drop w k s))) i)
      ∙ sym (take-add w (n * w) (drop k s))
      ∙ ap (λ (m : ℕ). take m (drop k s)) (sym e)

  pub array_codec : (n : ℕ) → Codec {A = List A} (n * w) (flat g) (many f w n) (all_pass t w n) (λ l. (length l ≡ n) × All P l)
  array_codec n = record {
    long = λ l p. long-flat l p.1 ∙ ap (λ (m : ℕ). m * w) p.0;
    back = λ l s rest k p q. ap (λ (m : ℕ). many f w m s k) (sym p.0) ∙ many_back l s rest k p.1 q;
    tested = λ l s rest k p q. ap (λ (m : ℕ). all_pass t w m s k) (sym p.0) ∙ many-tested l s rest k p.1 q;
    forth = λ s k b r q. many_forth n s k b r q;
  }

-- one more is tested
pub pass_more : (t : List ℕ → ℕ → Bool) (w n : ℕ) (s : List ℕ) (k : ℕ) → all_pass t w (suc n) s k ≡ (all_pass t w n s k && t s (k + n * w))
unfolding all_pass
pass_more t w zero s k =
    let e : k + zero * w ≡ k = rw zero-mul (omega arith) in
    and-true (t s k) ∙ ap (t s) (sym e)
pass_more t w (suc n) s k =
    let e : k + w + n * w ≡ k + suc n * w = rw suc-mul (omega arith) in
    ap (λ (b : Bool). t s k && b) (pass_more t w n s (k + w))
    ∙ sym (and_assoc (t s k) (all_pass t w n s (k + w)) _)
    ∙ ap (λ (m : ℕ). all_pass t w (suc n) s k && t s m) e
