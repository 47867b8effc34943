-- How many of a run of numbers lack a cue: in two parts, under two tests that agree, and where none or all do.
use mathlib.Core.Path.{◌≡◌, refl, sym, ap, ◌∙◌}
use mathlib.Core.Bool.{Bool, true, false, cond, not}
use Prim.Native.Nat.{ℕ, zero, suc, ◌+◌, ◌-◌, ◌≤◌, ◌<◌, min}
use native.Mathlib.Omega.{arith}
use Rattle.numbers.proofs.Cases.{by_order}
use Rattle.end.specs.Names.{lacks, lacking}

pub lacking_add : (f : ℕ → Bool) (a b n : ℕ) → lacking f (a + b) n ≡ lacking f a n + lacking f b (n + a)
unfolding lacking
lacking_add f zero b n =
    let e : n + 0 ≡ n = omega arith in
    let z : 0 + b ≡ b = omega arith in
    rw (e, z) (omega arith)
lacking_add f (suc a) b n =
    let e : n + suc a ≡ n + 1 + a = omega arith in
    let z : suc a + b ≡ suc (a + b) = omega arith in
    let more = lacking_add f a b (n + 1) in
    rw (e, z) (omega arith)

pub lacking-same : (f g : ℕ → Bool) (k n : ℕ) → ((j : ℕ) → n ≤ j → j < n + k → f j ≡ g j) → lacking f k n ≡ lacking g k n
unfolding lacking
lacking-same f g zero n h = refl
lacking-same f g (suc k) n h = λ i. lacks (h n (omega arith) (omega arith) i) + lacking-same f g k (n + 1) (λ j a b. h j (omega arith) (omega arith)) i

-- where none has a cue, all lack it
pub lacking-all : (f : ℕ → Bool) (k n : ℕ) → ((j : ℕ) → n ≤ j → j < n + k → f j ≡ false) → lacking f k n ≡ k
unfolding lacking
lacking-all f zero n h = refl
lacking-all f (suc k) n h =
    let rest = lacking-all f k (n + 1) (λ j a b. h j (omega arith) (omega arith)) in
    rw (h n (omega arith) (omega arith)) (omega arith)

one_at_most : (t : Bool) → lacks t ≤ 1
one_at_most true = omega arith
one_at_most false = omega arith

pub lacking-most : (f : ℕ → Bool) (k n : ℕ) → lacking f k n ≤ k
unfolding lacking
lacking-most f zero n = omega arith
lacking-most f (suc k) n = omega (arith, one_at_most (f n), lacking-most f k (n + 1))

-- where none above last has a cue: those up to last that lack it and all above, below lo, are those below lo that lack it
pub in_parts : (f : ℕ → Bool) (m first last lo : ℕ) → first ≤ lo → first ≤ last → ((j : ℕ) → last < j → f j ≡ false)
    → m + lacking f (min lo (last + 1) - first) first + (lo - (last + 1)) ≡ m + lacking f (lo - first) first
in_parts f m first last lo low up none = by_order lo (last + 1)
    (λ l.
    let e : min lo (last + 1) - first ≡ lo - first = omega arith in
    rw e (omega arith))
    (λ l.
    let a = last + 1 - first in
    let b = lo - (last + 1) in
    let e : min lo (last + 1) - first ≡ a = omega arith in
    let g : lo - first ≡ a + b = omega arith in
    let z = lacking-all f b (first + a) (λ j p q. none j (omega arith)) in
    rw (e, g) (omega (arith, lacking_add f a b first)))

-- what was counted up to first, and what is counted from there up to lo
pub in_turn : (f g : ℕ → Bool) (m f0 first lo : ℕ) → f0 ≤ first → first ≤ lo → m ≡ lacking g (first - f0) f0 → ((j : ℕ) → first ≤ j → f j ≡ g j)
    → m + lacking f (lo - first) first ≡ lacking g (lo - f0) f0
in_turn f g m f0 first lo a b c d =
    let e : lo - f0 ≡ (first - f0) + (lo - first) = omega arith in
    let at : f0 + (first - f0) ≡ first = omega arith in
    let parts = lacking_add g (first - f0) (lo - first) f0 in
    let same = lacking-same f g (lo - first) first (λ j p q. d j p) in
    (λ i. c i + same i) ∙ ap (λ (x : ℕ). lacking g (first - f0) f0 + lacking g (lo - first) x) (sym at) ∙ sym parts ∙ ap (λ (k : ℕ). lacking g k f0) (sym e)

-- those that lack a cue and those that have one are all
pub lacking_having : (f : ℕ → Bool) (k n : ℕ) → lacking f k n + lacking (λ m. not (f m)) k n ≡ k
unfolding lacking
lacking_having f zero n = refl
lacking_having f (suc k) n = omega (arith, one_of_lem (f n), lacking_having f k (n + 1))
  where
    one_of_lem : (t : Bool) → lacks t + lacks (not t) ≡ 1
    one_of_lem true = refl
    one_of_lem false = refl

-- ---- as a loop goes through them

pub lacking-none : (f : ℕ → Bool) (to i : ℕ) → to ≤ i → lacking f (to - i) i ≡ 0
unfolding lacking
lacking-none f to i h =
    let e : to - i ≡ 0 = omega arith in
    rw e

pub lacking-more : (f : ℕ → Bool) (to i : ℕ) → i < to → lacking f (to - i) i ≡ lacks (f i) + lacking f (to - (i + 1)) (i + 1)
unfolding lacking
lacking-more f to i h =
    let e : to - i ≡ suc (to - (i + 1)) = omega arith in
    rw e

-- where each has a cue, none lacks it
pub lacking_no : (f : ℕ → Bool) (k n : ℕ) → ((j : ℕ) → n ≤ j → j < n + k → f j ≡ true) → lacking f k n ≡ 0
unfolding lacking
lacking_no f zero n h = refl
lacking_no f (suc k) n h =
    let rest = lacking_no f k (n + 1) (λ j a b. h j (omega arith) (omega arith)) in
    rw (h n (omega arith) (omega arith)) (omega arith)
