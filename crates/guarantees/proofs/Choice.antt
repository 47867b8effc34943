-- What Fire chooses is the earliest wait that is due: the names are gone through in rising order, and after each the choice so far is
-- the first of those met, in document 01's order.
use mathlib.Core.Path.{◌≡◌, refl, sym, ap, ◌∙◌, subst}
use mathlib.Core.Bool.{Bool, true, false, cond, ◌&&◌, ◌||◌}
use mathlib.Core.List.{List, [], ◌∷◌}
use mathlib.Core.Logic.{◌⊎◌, inl, inr, ⊎_elim}
use Prim.Native.Nat.{ℕ, zero, suc, ◌+◌, ◌≤◌, ◌<◌}
use native.Mathlib.Omega.{arith}
use lib.ListN.{get_or}
use lib.Dec.{ltb, leb, eqb}
use borrow.Author.Tests.{ltb-true, lt-ltb, le-ltb, leb-true, leb-false, eqb-true, eq-eqb, ne_eqb}
use Rattle.numbers.proofs.Cases.{by_order}
use Rattle.message.specs.declared.Host.{Host}
use Rattle.message.specs.declared.Name.{Name}
use Rattle.message.specs.Entry.{as_host, as_number}
use Rattle.message.proofs.QuestionLaws.{and_both, or_either}
use Rattle.end.specs.declared.Request.{Request}
use Rattle.end.specs.Parts.{Express, Unset, Soon, No, Due, Span, Closed, Open, Earliest, NoWait, First}
use Rattle.end.specs.declared.Slot.{Slot}
use Rattle.end.specs.declared.Slot.TheVariants.{Empty, Held, Waiting}
use Rattle.end.specs.declared.Record.{Record}
use Rattle.end.specs.declared.End.{End}
use Rattle.end.specs.declared.Wait.{Wait}
use Rattle.end.specs.State.{no_source, source_at}
use Rattle.end.specs.Records.{within, start, width, record_at}
use Rattle.end.specs.Answer.{Step}
use Rattle.end.specs.Fire.{fold_up, express_rank, request_rank, reply_rank, before, earlier, due_at, offered, earliest, fire_at}
use Rattle.end.proofs.RecordLaws.{at_outside}
use Rattle.end.proofs.Tools.{by_cond, by_test, clash, clash', and_left, or_left}
use Rattle.guarantees.specs.Waits.{wait_of, waits_in, waits_at, Among, IsDue, sooner, level, lower_name, precedes}
use Rattle.guarantees.specs.Fires.{ChoiceIsEarliest, NoChoiceNoneDue}

-- ---- the order of waits: by due time, then by rank

-- what `sooner` says, of two due times and two ranks
abbrev Before : ℕ → ℕ → ℕ → ℕ → Type 0
Before a b x y = (a < b) ⊎ ((a ≡ b) × (x < y))

before-is : (a b x y : ℕ) → ltb a b || (eqb a b && ltb x y) ≡ true → Before a b x y
before-is a b x y t = ⊎_elim (λ l. inl (ltb-true a b l))
    (λ r. let both = and_both (eqb a b) (ltb x y) r in inr (eqb-true a b both.0, ltb-true x y both.1))
    (or_either (ltb a b) _ t)

is-before : (a b x y : ℕ) → Before a b x y → ltb a b || (eqb a b && ltb x y) ≡ true
is-before a b x y (inl l) = ap (λ (t : Bool). t || (eqb a b && ltb x y)) (lt-ltb a b l)
is-before a b x y (inr r) = (λ i. ltb a b || (eq-eqb a b r.0 i && lt-ltb x y r.1 i)) ∙ second (ltb a b)
  where
    second : (t : Bool) → (t || true) ≡ true
    second true = refl
    second false = refl

before_on : (a b c x y z : ℕ) → Before a b x y → Before b c y z → Before a c x z
before_on a b c x y z (inl l) (inl k) = inl (omega arith)
before_on a b c x y z (inl l) (inr k) = inl (omega (arith, k.0))
before_on a b c x y z (inr l) (inl k) = inl (omega (arith, l.0))
before_on a b c x y z (inr l) (inr k) = inr (l.0 ∙ k.0, omega (arith, l.1, k.1))

-- what is sooner than u comes before whatever u does not follow
sooner-first : (v w u : Wait) → sooner w u ≡ true → precedes v u ≡ false → precedes v w ≡ false
unfolding precedes
sooner-first v w u b p =
    let no = or_left (sooner v u) _ p in
    let wu = before-is w.due u.due w.rank u.rank b in
    let over : Before v.due u.due v.rank u.rank → ⊥ = λ x. clash (sym (is-before v.due u.due v.rank u.rank x) ∙ no) in
    by_test (precedes v w)
    (λ t. ⊎_elim
    (λ x. absurd (over (before_on v.due w.due u.due v.rank w.rank u.rank (before-is v.due w.due v.rank w.rank x) wu)))
    (λ x.
    let both = and_both (eqb v.due w.due) _ (and_left (level v w) _ x) in
    let dues : w.due ≡ v.due = sym (eqb-true v.due w.due both.0) in
    let ranks : w.rank ≡ v.rank = sym (eqb-true v.rank w.rank both.1) in
    absurd (over (subst (λ (k : ℕ). Before k u.due v.rank u.rank) dues (subst (λ (k : ℕ). Before w.due u.due k u.rank) ranks wu))))
    (or_either (sooner v w) _ t))
    (λ t. t)

-- a wait that is not sooner than u, under a name that is not lower, does not precede u
not-sooner : (w u : Wait) → sooner w u ≡ false → lower_name w.name u.name ≡ false → precedes w u ≡ false
unfolding precedes
not-sooner w u b n = (λ i. b i || (level w u && n i)) ∙ none (level w u)
  where
    none : (a : Bool) → a && false ≡ false
    none true = refl
    none false = refl

not_lower : (a b : Name) → (b.source.0 < a.source.0) ⊎ ((b.source.0 ≡ a.source.0) × (b.number.0 ≤ a.number.0)) → lower_name a b ≡ false
not_lower a b h = ⊎_elim
    (λ l. rw (le-ltb a.source.0 b.source.0 (omega arith), ne_eqb a.source.0 b.source.0 (λ e. omega arith)))
    (λ s. rw (le-ltb a.source.0 b.source.0 (omega (arith, s.0)), eq-eqb a.source.0 b.source.0 (sym s.0), le-ltb a.number.0 b.number.0 s.1))
    h

-- none precedes itself
alone : (w : Wait) → precedes w w ≡ false
alone w = not-sooner w w
    (by_test (sooner w w)
    (λ t. absurd (⊎_elim (λ l. omega arith) (λ l. omega (arith, l.1)) (before-is w.due w.due w.rank w.rank t)))
    (λ t. t))
    (not_lower w.name w.name (inr (refl, omega arith)))

-- ---- what waits under a name has that name, and lies in first..last

wait_name : (name : Name) (x : Slot) (w : Wait) → Among w (waits_in name x) → name ≡ w.name
unfolding waits_in
wait_name name Empty w h = absurd h
wait_name name (Waiting q Unset) w (inl h) = ap (λ (z : Wait). z.name) h
wait_name name (Waiting q Unset) w (inr h) = absurd h
wait_name name (Waiting q (Soon due)) w (inl h) = ap (λ (z : Wait). z.name) h
wait_name name (Waiting q (Soon due)) w (inr (inl h)) = ap (λ (z : Wait). z.name) h
wait_name name (Waiting q (Soon due)) w (inr (inr h)) = absurd h
wait_name name (Held No) w h = absurd h
wait_name name (Held (Due due k)) w (inl h) = ap (λ (z : Wait). z.name) h
wait_name name (Held (Due due k)) w (inr h) = absurd h

pub due-inside : (e : End) (w : Wait) → IsDue e w → within (source_at e w.name.source).span w.name.number.0 ≡ true
unfolding waits_at waits_in
due-inside e w d =
    let s = source_at e w.name.source in
    by_test (within s.span w.name.number.0) (λ t. t)
    (λ t. absurd (subst (Among w) (ap (λ (r : Record). waits_in w.name r.slot) (at_outside s w.name.number.0 t)) d.waits))

-- ---- the choice so far: of the waits that are due among those met, the first

Least : End → (Wait → Type 0) → Earliest → Type 0
Least e Met NoWait = (v : Wait) → IsDue e v → Met v → ⊥
Least e Met (First w) = IsDue e w × Met w × ((v : Wait) → IsDue e v → Met v → precedes v w ≡ false)

-- waits of which none is due change nothing
widen : (e : End) (S T : Wait → Type 0) → ((v : Wait) → S v → T v) → ((v : Wait) → IsDue e v → T v → S v) → (best : Earliest) → Least e S best → Least e T best
unfolding Least
widen e S T up down NoWait q = λ v d l. q v d (down v d l)
widen e S T up down (First w) q = (q.0, up w q.1, λ v d l. q.2 v d (down v d l))

-- one wait more, whose name is not lower than those met
module _ (e : End) (S T : Wait → Type 0) (w : Wait) (it : T w) (up : (v : Wait) → S v → T v)
    (met : (v : Wait) → IsDue e v → T v → S v ⊎ (w ≡ v)) (later : (u : Wait) → S u → lower_name w.name u.name ≡ false) where
  same : (u v : Wait) → precedes w u ≡ false → w ≡ v → precedes v u ≡ false
  same u v p i = subst (λ (z : Wait). precedes z u ≡ false) i p

  joins : IsDue e w → (best : Earliest) → Least e S best → Least e T (earlier best w)
  unfolding Least
  joins due NoWait q = (due, it, λ v d l. ⊎_elim (λ k. absurd (q v d k)) (λ k. same w v (alone w) k) (met v d l))
  joins due (First u) q = by_cond (Least e T) (before w u)
      (λ t. (due, it, λ v d l. ⊎_elim (λ k. sooner-first v w u t (q.2 v d k)) (λ k. same w v (alone w) k) (met v d l)))
      (λ t. (q.0, up u q.1, λ v d l. ⊎_elim (λ k. q.2 v d k) (λ k. same u v (not-sooner w u t (later u q.1)) k) (met v d l)))

  -- it counts once it is due
  counts : (w.due ≤ e.clock → IsDue e w) → (best : Earliest) → Least e S best → Least e T (cond (leb w.due e.clock) (earlier best w) best)
  counts due best q = by_cond (Least e T) (leb w.due e.clock)
      (λ t. joins (due (leb-true w.due e.clock t)) best q)
      (λ t. widen e S T up (λ v d l. ⊎_elim (λ k. k)
      (λ k. absurd (omega (arith, ap (λ (z : Wait). z.due) k, leb-false w.due e.clock t, d.due))) (met v d l)) best q)

-- the waits met before number n of source h
abbrev Upto : ℕ → ℕ → Wait → Type 0
Upto h n v = (v.name.source.0 < h) ⊎ ((v.name.source.0 ≡ h) × (v.name.number.0 < n))

-- ---- one name more
module _ (e : End) (h n : ℕ) (hh : h < 8) where
  abbrev name : Name
  name = record { source = as_host h; number = as_number n }

  -- a due wait under the names up to this one is under an earlier name, or is what waits here
  met : (v : Wait) → IsDue e v → Upto h (suc n) v → Upto h n v ⊎ Among v (waits_at e name)
  met v d (inl l) = inl (inl l)
  met v d (inr l) = by_order v.name.number.0 n (λ k. inl (inr (l.0, k)))
      (λ k.
      let same : v.name.number.0 ≡ n = omega (arith, l.1) in
      inr (subst (Among v) (ap (waits_at e) (λ i. record { source = as_host (l.0 i); number = as_number (same i) })) d.waits))

  up : (v : Wait) → Upto h n v → Upto h (suc n) v
  up v l = ⊎_elim (λ k. inl k) (λ k. inr (k.0, omega (arith, k.1))) l

  -- a wait with this name: it is due if it waits here and its time has come, and no name met is higher
  is-due : (rank due : ℕ) → Among (wait_of name rank due) (waits_at e name) → due ≤ e.clock → IsDue e (wait_of name rank due)
  is-due rank due w l = record { source = hh; waits = w; due = l }

  later : (u : Wait) → Upto h n u → lower_name name u.name ≡ false
  later u l = not_lower name u.name (⊎_elim (λ k. inl k) (λ k. inr (k.0, omega (arith, k.1))) l)

  itself : lower_name name name ≡ false
  itself = not_lower name name (inr (refl, omega arith))

  step : (x : Slot) → (record_at (source_at e (as_host h)) n).slot ≡ x → (best : Earliest) → Least e (Upto h n) best → Least e (Upto h (suc n)) (offered name e.clock x best)
  unfolding waits_at waits_in
  step x p best q = go x (ap (waits_in name) p) best q
    where
      -- where no more than one waits
      one : (rank due : ℕ) → waits_at e name ≡ wait_of name rank due ∷ [] → (best : Earliest) → Least e (Upto h n) best
          → Least e (Upto h (suc n)) (cond (leb due e.clock) (earlier best (wait_of name rank due)) best)
      one rank due here = counts e (Upto h n) (Upto h (suc n)) (wait_of name rank due) (inr (refl, omega arith)) up
          (λ v d l. ⊎_elim (λ k. inl k) (λ k. ⊎_elim (λ i. inr i) (λ i. absurd i) (subst (Among v) here k)) (met v d l))
          later (is-due rank due (subst (Among (wait_of name rank due)) (sym here) (inl refl)))

      none : waits_at e name ≡ [] → (best : Earliest) → Least e (Upto h n) best → Least e (Upto h (suc n)) best
      none here best q = widen e (Upto h n) (Upto h (suc n)) up
          (λ v d l. ⊎_elim (λ k. k) (λ k. absurd (subst (Among v) here k)) (met v d l)) best q

      -- an express wait, and then its request
      both : (soon due : ℕ) → waits_at e name ≡ wait_of name express_rank soon ∷ wait_of name request_rank due ∷ [] → (best : Earliest) → Least e (Upto h n) best
          → Least e (Upto h (suc n)) (due_at name e.clock request_rank due (due_at name e.clock express_rank soon best))
      both soon due here best q =
          let first = wait_of name express_rank soon in
          let second = wait_of name request_rank due in
          let Mid : Wait → Type 0 = λ v. Upto h n v ⊎ (first ≡ v) in
          let mid : Least e Mid (due_at name e.clock express_rank soon best) =
          counts e (Upto h n) Mid first (inr refl) (λ v l. inl l) (λ v d l. l) later
          (is-due express_rank soon (subst (Among first) (sym here) (inl refl))) best q in
          counts e Mid (Upto h (suc n)) second (inr (refl, omega arith))
          (λ v l. ⊎_elim (up v) (λ i. subst (Upto h (suc n)) i (inr (refl, omega arith))) l)
          (λ v d l. ⊎_elim (λ k. inl (inl k))
          (λ k. ⊎_elim (λ i. inl (inr i)) (λ i. ⊎_elim (λ j. inr j) (λ j. absurd j) i) (subst (Among v) here k)) (met v d l))
          (λ u l. ⊎_elim (later u) (λ i. subst (λ (z : Wait). lower_name name z.name ≡ false) i itself) l)
          (is-due request_rank due (subst (Among second) (sym here) (inr (inl refl)))) _ mid

      go : (x : Slot) → waits_at e name ≡ waits_in name x → (best : Earliest) → Least e (Upto h n) best
          → Least e (Upto h (suc n)) (offered name e.clock x best)
      go Empty here = none here
      go (Waiting r Unset) here = one request_rank r.due here
      go (Waiting r (Soon due)) here = both due r.due here
      go (Held No) here = none here
      go (Held (Due due k)) here = one reply_rank due here

-- ---- the whole of it

fold_reaches : {A : Type 0} (P : ℕ → A → Type 0) (f : ℕ → A → A) (a : A) (k : ℕ) → P 0 a → ((i : ℕ) (x : A) → i < k → P i x → P (suc i) (f i x)) → P k (fold_up f a k)
unfolding fold_up
fold_reaches P f a zero p h = p
fold_reaches P f a (suc k) p h = h k (fold_up f a k) (omega arith) (fold_reaches P f a k p (λ i x l q. h i x (omega arith) q))

-- a number of first..last is one of those gone through
inside_walk : (x : Span) (n : ℕ) → within x n ≡ true → (start x ≤ n) × (n < start x + width x)
inside_walk Closed n h = clash' h
inside_walk (Open first last) n h =
    let both = and_both (leb first.0 n) (leb n last.0) h in
    (leb-true first.0 n both.0, omega (arith, leb-true first.0 n both.0, leb-true n last.0 both.1))

module _ (e : End) where
  abbrev span_at : ℕ → Span
  span_at h = (get_or e.sources h no_source).span

  -- so are the due waits of a source
  in_walk : (h : ℕ) (v : Wait) → IsDue e v → v.name.source.0 ≡ h → (start (span_at h) ≤ v.name.number.0) × (v.name.number.0 < start (span_at h) + width (span_at h))
  in_walk h v d p = inside_walk (span_at h) v.name.number.0 (ap (λ (k : ℕ). within (span_at k) v.name.number.0) (sym p) ∙ due-inside e v d)

  opens : (h : ℕ) (best : Earliest) → Least e (Upto h 0) best → Least e (Upto h (start (span_at h) + 0)) best
  opens h best = widen e (Upto h 0) (Upto h (start (span_at h) + 0)) (λ v l. ⊎_elim (λ k. inl k) (λ k. absurd (omega (arith, k.1))) l)
      (λ v d l. ⊎_elim (λ k. inl k) (λ k. absurd (omega (arith, k.1, (in_walk h v d k.0).0))) l) best

  closes : (h : ℕ) (best : Earliest) → Least e (Upto h (start (span_at h) + width (span_at h))) best → Least e (Upto (suc h) 0) best
  closes h best = widen e (Upto h (start (span_at h) + width (span_at h))) (Upto (suc h) 0)
      (λ v l. ⊎_elim (λ k. inl (omega arith)) (λ k. inl (omega (arith, k.0))) l)
      (λ v d l. ⊎_elim (λ k. by_order v.name.source.0 h (λ j. inl j) (λ j. let p : v.name.source.0 ≡ h = omega arith in inr (p, (in_walk h v d p).1)))
      (λ k. absurd (omega (arith, k.1))) l) best

  none_met : Least e (Upto 0 0) NoWait
  unfolding Least
  none_met = λ v d l. ⊎_elim (λ k. omega arith) (λ k. omega (arith, k.1)) l

  least : Least e (Upto 8 0) (earliest e 8)
  unfolding earliest
  least = fold_reaches (λ h x. Least e (Upto h 0) x) _ NoWait 8 none_met
      (λ h x hh q. closes h _
      (fold_reaches (λ i y. Least e (Upto h (start (span_at h) + i)) y) _ x (width (span_at h)) (opens h x q)
      (λ i y hi r.
      let n = start (span_at h) + i in
      let x = (record_at (get_or e.sources h no_source) n).slot in
      subst (λ k. Least e (Upto h k) (offered (record { source = as_host h; number = as_number n }) e.clock x y)) (omega arith) (step e h n hh x refl y r))))

pub choice_is_earliest : ChoiceIsEarliest
unfolding Least
choice_is_earliest e w h =
    let q : Least e (Upto 8 0) (First w) = subst (Least e (Upto 8 0)) h (least e) in
    record { due = q.0; first = λ v d. q.2 v d (inl d.source) }

pub no_choice_none_due : NoChoiceNoneDue
unfolding Least
no_choice_none_due e h w d =
    let q : Least e (Upto 8 0) NoWait = subst (Least e (Upto 8 0)) h (least e) in
    q w d (inl d.source)

-- ---- what goes out: of the waits under a name the chosen one, by its rank
module _ (P : Step → Type 0) (us : List ℕ) (e : End) (w : Wait) where
  abbrev Fires : ℕ → Slot → Type 0
  Fires rank y = P (fire_at us rank w.name e y)

  rank_of_lem : (v : Wait) → v ≡ w → w.rank ≡ v.rank
  rank_of_lem v i = ap (λ (z : Wait). z.rank) (sym i)

  due_of_lem : (v : Wait) → v ≡ w → v.due ≡ w.due
  due_of_lem v i = ap (λ (z : Wait). z.due) i

  asks : (q : Request) (y : Express) → wait_of w.name request_rank q.due ≡ w
      → ((q' : Request) (y' : Express) → Waiting q y ≡ Waiting q' y' → q'.due ≡ w.due → w.rank ≡ request_rank → Fires request_rank (Waiting q' y'))
      → Fires w.rank (Waiting q y)
  asks q y i f =
      let v = wait_of w.name request_rank q.due in
      subst (λ (r : ℕ). Fires r (Waiting q y)) (sym (rank_of_lem v i)) (f q y refl (due_of_lem v i) (rank_of_lem v i))

  pub fires_as : (x : Slot) → Among w (waits_in w.name x)
      → ((q : Request) → x ≡ Waiting q (Soon w.due) → w.rank ≡ express_rank → Fires express_rank (Waiting q (Soon w.due)))
      → ((q : Request) (y : Express) → x ≡ Waiting q y → q.due ≡ w.due → w.rank ≡ request_rank → Fires request_rank (Waiting q y))
      → ((k : Host) → x ≡ Held (Due w.due k) → w.rank ≡ reply_rank → Fires reply_rank (Held (Due w.due k)))
      → Fires w.rank x
  unfolding waits_in
  fires_as Empty h f g r = absurd h
  fires_as (Waiting q Unset) (inl i) f g r = asks q Unset i g
  fires_as (Waiting q Unset) (inr i) f g r = absurd i
  fires_as (Waiting q (Soon due)) (inl i) f g r =
      let v = wait_of w.name express_rank due in
      let at : Waiting q (Soon due) ≡ Waiting q (Soon w.due) = ap (λ (k : ℕ). Waiting q (Soon k)) (due_of_lem v i) in
      subst (Fires w.rank) (sym at) (subst (λ (k : ℕ). Fires k (Waiting q (Soon w.due))) (sym (rank_of_lem v i)) (f q at (rank_of_lem v i)))
  fires_as (Waiting q (Soon due)) (inr (inl i)) f g r = asks q (Soon due) i g
  fires_as (Waiting q (Soon due)) (inr (inr i)) f g r = absurd i
  fires_as (Held No) h f g r = absurd h
  fires_as (Held (Due due k)) (inl i) f g r =
      let v = wait_of w.name reply_rank due in
      let at : Held (Due due k) ≡ Held (Due w.due k) = ap (λ (j : ℕ). Held (Due j k)) (due_of_lem v i) in
      subst (Fires w.rank) (sym at) (subst (λ (j : ℕ). Fires j (Held (Due w.due k))) (sym (rank_of_lem v i)) (r k at (rank_of_lem v i)))
  fires_as (Held (Due due k)) (inr i) f g r = absurd i
