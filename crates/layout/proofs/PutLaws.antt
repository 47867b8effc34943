-- The laws of `Puts`: parts written one after the other, and a loop that writes the entries of a section.
use mathlib.Core.Path.{◌≡◌, refl, sym, ap, ◌∙◌}
use Prim.Native.Nat.{ℕ, ◌+◌, ◌*◌, ◌≤◌, ◌<◌}
use native.Mathlib.Nat.{mul-le-mul_right, zero-mul, suc-mul}
use native.Mathlib.Numerals.{add-one}
use native.Mathlib.Omega.{arith}
use mathlib.Core.List.{List, [], ◌∷◌, ◌++◌, append-nil}
use lib.ListN.{length, take, get_or, length-append}
use lib.Seq.{take-suc, length-take-le}
use Rattle.numbers.specs.Number.{digits}
use Rattle.numbers.specs.Splice.{splice}
use Rattle.numbers.proofs.NumberLaws.{length_digits}
use Rattle.numbers.proofs.SpliceLaws.{splice_nil, length-splice, put_next}
use Rattle.message.specs.Section.{flat, section}
use Rattle.message.proofs.SectionLaws.{flat_append, flat-one}
use Rattle.layout.specs.Puts.{Puts}

-- a byte and a number, as the crate numbers writes them
pub put_byte : {at x : ℕ} {start last : List ℕ} → at < length start → last ≡ splice at (x ∷ []) start → Puts at 1 (x ∷ []) start last
put_byte h e = record { long = refl; room = omega arith; written = e }

pub put-number : {at w : ℕ} {start last : List ℕ} (v : ℕ) → at + w ≤ length start → last ≡ splice at (digits w v) start
    → Puts at w (digits w v) start last
put-number {w = w} v h e = record { long = length_digits w v; room = h; written = e }

-- a part and the next one, at its end, are one part
pub puts-next : {at k m n : ℕ} {a b start one two : List ℕ} → Puts at m a start one → Puts k n b one two → k ≡ at + m
    → Puts at (m + n) (a ++ b) start two
puts-next {at} {k} {m} {n} {a} {b} {start} {one} p q e =
    let fits : at + length a ≤ length start = rw p.long p.room in
    let same : length one ≡ length start = ap length p.written ∙ length-splice at a start fits in
    record {
      long = length-append a b ∙ (λ i. p.long i + q.long i);
      room = omega (arith, q.room);
      written = put_next start at k a b (e ∙ ap (λ (x : ℕ). at + x) (sym p.long)) fits p.written q.written;
    }

-- the length said in another way
pub puts-long : {at m n : ℕ} {b start last : List ℕ} → Puts at m b start last → m ≡ n → Puts at n b start last
puts-long p e = record { long = p.long ∙ e; room = omega (arith, p.room); written = p.written }

-- ---- a loop that writes the first n entries of an array, each of k bytes by g: i of them are there
pub record PutSoFar {A : Type 0} (g : A → List ℕ) (k : ℕ) (l : List A) (n at : ℕ) (start out : List ℕ) (i : ℕ) : Type 0 where
  pub places : n ≤ length l
  pub room : at + n * k ≤ length start
  pub within : i ≤ n
  pub same : length out ≡ length start
  pub so_far : Puts at (i * k) (flat g (take i l)) start out

pub put-start : {A : Type 0} {g : A → List ℕ} {k : ℕ} {l : List A} {n at : ℕ} {start : List ℕ} (places : ℕ) → length l ≡ places → n ≤ places
    → at + n * k ≤ length start → PutSoFar g k l n at start start 0
unfolding flat
put-start {k = k} {at = at} {start} places e p r = record {
  places = omega arith;
  room = r;
  within = omega arith;
  same = refl;
  so_far = record { long = sym (zero-mul k); room = omega (arith, zero-mul k); written = sym (splice_nil at start) };
}

module _ {A : Type 0} {g : A → List ℕ} {k : ℕ} {l : List A} {n at : ℕ} {start out : List ℕ} {i : ℕ} (s : PutSoFar g k l n at start out i) where
  -- there is room for one entry more
  pub entry-room : i < n → at + i * k + k ≤ length out
  entry-room h =
      let m : (i + 1) * k ≤ n * k = mul-le-mul_right k (omega arith) in
      let e : (i + 1) * k ≡ i * k + k = rw (add-one, suc-mul) in
      omega (arith, s.room, s.same)

  pub entry-put : {last : List ℕ} {next : ℕ} (d : A) → i < n → length last ≡ length out → next ≡ at + i * k → Puts next k (g (get_or l i d)) out last
      → PutSoFar g k l n at start last (i + 1)
  entry-put d h e f p =
      let more : flat g (take (i + 1) l) ≡ flat g (take i l) ++ g (get_or l i d) =
      rw (add-one, take-suc l i d (omega (arith, s.places)), flat_append) (ap (λ (b : List ℕ). flat g (take i l) ++ b) (flat-one g (get_or l i d))) in
      let size : i * k + k ≡ (i + 1) * k = rw (add-one, suc-mul) in
      record {
        places = s.places;
        room = s.room;
        within = omega arith;
        same = e ∙ s.same;
        so_far = rw more (puts-long (puts-next s.so_far p f) size);
      }

  -- after the count they are a section
  pub section-put : {place : ℕ} {first : List ℕ} → n ≤ i → place < length first → at ≡ place + 1 → start ≡ splice place (n ∷ []) first
      → Puts place (1 + n * k) (section g (take n l)) first out
  unfolding section
  section-put h r f q =
      let e : i ≡ n = omega (arith, s.within) in
      let count : length (take n l) ≡ n = length-take-le n l s.places in
      rw count (puts-next (put_byte r q) (rw e at s.so_far) f)

-- ---- a section where there is one place: one entry, or none
module _ {A : Type 0} (g : A → List ℕ) (w : ℕ) (x : A) where
  pub put_one : {n at : ℕ} {start one last : List ℕ} → at < length start → at + 1 + w ≤ length one → n ≡ 1 → length (g x) ≡ w → one ≡ splice at (n ∷ []) start → last ≡ splice (at + 1) (g x) one
      → Puts at (1 + n * w) (section g (take n (x ∷ []))) start last
  unfolding section flat
  put_one {at = at} {one = one} {last} room more e h p q =
      let b : Puts (at + 1) w (g x) one last = record { long = h; room = more; written = q } in
      rw (e, append-nil (g x)) (puts-long (puts-next (put_byte room (rw e at p)) b refl) (omega arith))

  pub put-none : {n at : ℕ} {start one : List ℕ} → at < length start → n ≡ 0 → one ≡ splice at (n ∷ []) start → Puts at (1 + n * w) (section g (take n (x ∷ []))) start one
  unfolding section flat
  put-none room e p = rw e (puts-long (put_byte room (rw e at p)) (omega arith))
