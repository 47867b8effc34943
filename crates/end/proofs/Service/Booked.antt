-- What an end did, as the service sees it, is by the book: one lemma for each kind of change, not for each event.
use mathlib.Core.Path.{◌≡◌, refl, sym, ap, ◌∙◌}
use mathlib.Core.Bool.{Bool, true, false, not, cond, ◌&&◌, ◌||◌, and-false}
use mathlib.Core.List.{List, [], ◌∷◌, ◌++◌}
use mathlib.Core.Option.{Option, none, some}
use Prim.Native.Nat.{ℕ, ◌-◌, ◌≤◌, ◌<◌, ◌+◌, max}
use native.Mathlib.Omega.{arith}
use lib.ListN.{length, get_elem?, length-append}
use lib.Dec.{eqb, leb}
use borrow.Author.Tests.{eqb-true, eq-eqb, not-true, leb-true, le-leb, lt-leb}
use Rattle.numbers.proofs.Cases.{by_order}
use Rattle.message.specs.Entry.{as_host, as_number}
use Rattle.message.specs.Message.{SESS, Meaning}
use Rattle.message.specs.declared.Name.{Name}
use Rattle.message.specs.declared.Report.{Report}
use Rattle.end.specs.Parts.{Span, Closed, Open}
use Rattle.end.specs.declared.End.{End}
use Rattle.end.specs.State.{source_at, is_member}
use Rattle.end.specs.declared.Move.{Move}
use Rattle.end.specs.declared.Move.TheVariants.{Join, Joined, Leave, Left, Crash}
use Rattle.end.specs.Answer.{Effect, Out, Got, Done, PutsOut, HandsOut, Untouched, class_of, hands_out, Step, give}
use Rattle.end.specs.Arrival.{message_name, message_cue}
use Rattle.end.specs.Event.{moves, moves_to, Action, Moves, Send, Arrival}
use Rattle.end.specs.Book.{Book, put, read_as, is_about_name, is_original, is_repair, source, number, raised_to, reported_to, brought_to, among, first_of, is_some, not_below, kept, is_got, due, after, NeverGot, IsOriginal, Meets, limits, gets, higher, hand, bring, hears, due_message, after_message, file, cleared_by, moved_book}
use Rattle.end.proofs.Readings.{InRange, in_range_lem}
use Rattle.end.proofs.Tools.{by_cond, by_test, put_all, put_same, put_other, clash, clash', or_left, or_right, and_left, and_right, eqb_flip, get_elem_get_d, get_elem_keeps, get_elem_snoc}
use Rattle.end.proofs.Service.View.{first_in, last_in, windowed, holds, first_at, last_at, or_else, Same, Rose, Took, Rel, carries, Filed, Grows, Right, grows_refl}
use Rattle.end.proofs.Service.Sources.{below_none, window-up}

-- ---- 1. Nothing that the service sees has changed.

pub rel_same : {b : Book} {h : ℕ} {e e' : End} → Rel b h e → Same e e' → Rel b h e'
rel_same {b} {h} {e} {e'} r v = record {
  host = v.host ∙ r.host;
  status = v.status ∙ r.status;
  next = v.next ∙ r.next;
  filed = λ s n c hs p. r.filed s n c hs (sym (v.holding s n hs) ∙ p);
  handed = λ m s n hs d. rw (v.holding s n hs, v.firsts s hs) (r.handed (ap is_member (sym v.status) ∙ m) s n hs d);
  firsts = λ m s hs d. rw (v.firsts s hs) (r.firsts (ap is_member (sym v.status) ∙ m) s hs d);
  lasts = λ m s hs d. rw (v.lasts s hs) (r.lasts (ap is_member (sym v.status) ∙ m) s hs d);
}

pub calm-right : {b : Book} {h : ℕ} {ev : Action} {e : End} {r : Step} → Rel b h e → Same e r.left → after b h ev ≡ b → Meets (due b h ev) r.effect
    → ((x : List ℕ) → class_of r.effect ≡ PutsOut x → Filed b x) → Right b h ev r
calm-right {b} {h} {ev} {e} {r} q v k a f = record {
  answered = a;
  rel = rw k (rel_same q v);
  grows = rw k (grows_refl h b);
  filed = λ x p. rw k (f x p);
}

-- An event that hands nothing out, sends no cue of its own and moves no status. What it puts out carries cues that the end holds. `Leaves` is
-- what it leaves: an end that looks the same, or one to which numbers were brought. Every event added later owes this.
pub record QuietBy (Leaves : End → Type 0) (e : End) (r : Step) : Type 0 where
  pub same : Leaves r.left
  pub not-got : is_got r.effect ≡ false
  pub out : (x : List ℕ) → class_of r.effect ≡ PutsOut x → (m : Meaning) → read_as x ≡ some m → carries m ≡ true → holds e (source m) (number m) ≡ some (message_cue m)

abbrev pub Quiet : End → Step → Type 0
Quiet e r = QuietBy (Same e) e r

-- an answer that leaves the output alone
pub untouched_quiet : (P : End → Type 0) (e e' : End) (a : Effect) → class_of a ≡ Untouched → P e' → QuietBy P e (give a e')
unfolding is_got
untouched_quiet P e e' a h v = record {
  same = v;
  not-got = ap hands_out h;
  out = λ x p. let u : Untouched ≡ PutsOut x = sym h ∙ p in let z : ◌≡◌ {A = ℕ} 0 1 = cc in absurd (omega arith);
}

pub quiet-right : {b : Book} {h : ℕ} {ev : Action} {e : End} {r : Step} → Rel b h e → Quiet e r → after b h ev ≡ b → due b h ev ≡ NeverGot → Right b h ev r
quiet-right {b} {h} {ev} {e} {r} q v k d =
    calm-right q v.same k (rw d v.not-got)
    (λ x p m y z. q.filed (source m) (number m) (message_cue m) (in_range_lem x m y).source (v.out x p m y z))

-- ---- 2. Numbers were brought.

-- a held number is not below first
pub held_not_below : (e : End) (s n : ℕ) (c : List ℕ) → holds e s n ≡ some c → not_below (first_at e s) n ≡ true
unfolding holds first_at
held_not_below e s n c p = by_test (not_below (first_at e s) n) (λ t. t)
    (λ t. let z : none ≡ some c = sym (below_none (source_at e (as_host s)) n t) ∙ p in let o : ◌≡◌ {A = ℕ} 0 1 = cc in absurd (omega arith))

below-first : (e : End) (s n : ℕ) → not_below (first_at e s) n ≡ false → holds e s n ≡ none
unfolding holds first_at
below-first e s n h = below_none (source_at e (as_host s)) n h

-- a highest number that stays or grows
abbrev pub Grown : Option ℕ → Option ℕ → Type 0
Grown none top = Unit {0}
Grown (some a) none = ⊥
Grown (some a) (some b) = a ≤ b

pub window-twice : (f top top' : Option ℕ) → Grown top top' → windowed (windowed f top) top' ≡ windowed f top'
unfolding windowed
window-twice none top top' g = refl
window-twice (some f) none top' g = refl
window-twice (some f) (some a) none g = absurd g
window-twice (some f) (some a) (some b) g = let e : max (max f (a - 63)) (b - 63) ≡ max f (b - 63) = omega arith in rw e

grown_refl : (top : Option ℕ) → Grown top top
grown_refl none = tt
grown_refl (some a) = omega arith

grown_trans : (a b c : Option ℕ) → Grown a b → Grown b c → Grown a c
grown_trans none b c p q = tt
grown_trans (some a) none c p q = absurd p
grown_trans (some a) (some b) none p q = absurd q
grown_trans (some a) (some b) (some c) p q = omega arith

raised_grows : (n : ℕ) (top : Option ℕ) → Grown top (raised_to n top)
unfolding raised_to
raised_grows n none = tt
raised_grows n (some a) = omega arith

pub reported_grows : (s : ℕ) (rs : List Report) (top : Option ℕ) → Grown top (reported_to s rs top)
unfolding reported_to
reported_grows s [] top = grown_refl top
reported_grows s (r ∷ rs) top =
    let now = cond (eqb r.source.0 s) (raised_to r.last.0 top) top in
    grown_trans top now (reported_to s rs now)
    (by_cond (Grown top) (eqb r.source.0 s) (λ _. raised_grows r.last.0 top) (λ _. grown_refl top)) (reported_grows s rs now)

brought_grows : (m : Meaning) (s : ℕ) (top : Option ℕ) → Grown top (brought_to m s top)
unfolding brought_to
brought_grows m s top = by_cond (Grown top) (is_about_name m)
    (λ _. by_cond (Grown top) (eqb (source m) s) (λ _. raised_grows (number m) top) (λ _. grown_refl top))
    (λ _. by_cond (Grown top) (eqb m.kind SESS) (λ _. reported_grows s m.reports top) (λ _. grown_refl top))

module _ (b : Book) (h : ℕ) (m : Meaning) (e e' : End) (q : Rel b h e) (v : Rose (brought_to m) e e') where
  bring-highest : (s : ℕ) → (bring b h m).highest h s ≡ brought_to m s (b.highest h s)
  unfolding bring
  bring-highest s = rw (put_same b.highest h (λ s. brought_to m s (b.highest h s)))

  own : (s : ℕ) → eqb h s ≡ false → eqb e.host.0 s ≡ false
  own s d = rw q.host d

  rose_lasts : is_member e.status ≡ true → (s : ℕ) → s < 8 → eqb h s ≡ false → last_at e' s ≡ (bring b h m).highest h s
  rose_lasts x s hs d = rw (bring-highest s) (v.lasts s hs (own s d) ∙ ap (brought_to m s) (q.lasts x s hs d))

  rose_firsts : is_member e.status ≡ true → (s : ℕ) → s < 8 → eqb h s ≡ false → first_at e' s ≡ windowed (first_of (b.handed h s)) ((bring b h m).highest h s)
  rose_firsts x s hs d =
      let top = b.highest h s in
      v.firsts s hs (own s d) ∙ (λ i. windowed (q.firsts x s hs d i) (rose_lasts x s hs d i))
      ∙ rw (bring-highest s) (window-twice (first_of (b.handed h s)) top (brought_to m s top) (brought_grows m s top))

  -- what is held now is what was held and is not below first
  rose_holding : (s n : ℕ) → s < 8 → eqb h s ≡ false → is_some (holds e s n) ≡ among n (b.handed h s) && not_below (first_at e s) n
      → is_some (holds e' s n) ≡ among n (b.handed h s) && not_below (first_at e' s) n
  unfolding is_some
  rose_holding s n hs d was = by_test (not_below (first_at e' s) n)
      (λ t. rw (v.holding s n hs t, t) (was ∙ ap (λ (y : Bool). among n (b.handed h s) && y) (v.up s n hs t)))
      (λ t. rw (below-first e' s n t, t) (sym (and-false (among n (b.handed h s)))))

  rose_rel : Rel (bring b h m) h e'
  unfolding bring
  rose_rel = record {
    host = v.host ∙ q.host;
    status = v.status ∙ q.status;
    next = v.next ∙ q.next;
    filed = λ s n c hs p. q.filed s n c hs (sym (v.holding s n hs (held_not_below e' s n c p)) ∙ p);
    handed = λ x s n hs d. rose_holding s n hs d (q.handed (ap is_member (sym v.status) ∙ x) s n hs d);
    firsts = λ x s hs d. rose_firsts (ap is_member (sym v.status) ∙ x) s hs d;
    lasts = λ x s hs d. rose_lasts (ap is_member (sym v.status) ∙ x) s hs d;
  }

bring_grows : (b : Book) (h : ℕ) (m : Meaning) → Grows h b (bring b h m)
unfolding bring
bring_grows b h m = record {
  status = λ k d. refl;
  handed = λ k s d. refl;
  highest = λ k s d. ap (λ f. f s) (put_other b.highest h (λ s. brought_to m s (b.highest h s)) k d);
  count = λ k d. refl;
  filed = λ k n c p. p;
}

-- ---- 3. A cue was handed out.

among_snoc : (j : ℕ) (l : List ℕ) (n : ℕ) → among j (l ++ (n ∷ [])) ≡ among j l || eqb j n
unfolding among
among_snoc j [] n = by_test (eqb j n) (λ e. rw e) (λ e. rw e)
among_snoc j (x ∷ l) n = by_test (eqb j x) (λ e. rw e) (λ e. rw e (among_snoc j l n))

first_snoc : (l : List ℕ) (n : ℕ) → first_of (l ++ (n ∷ [])) ≡ some (or_else (first_of l) n)
unfolding first_of or_else
first_snoc [] n = refl
first_snoc (x ∷ l) n = refl

or_true : (a : Bool) → a || true ≡ true
or_true true = refl
or_true false = refl

or_false : (a : Bool) → a || false ≡ a
or_false true = refl
or_false false = refl

-- first after a hand-out: of the first one handed out, and the highest number brought
first-handed : (l : List ℕ) (top : Option ℕ) (n : ℕ) → windowed (some (or_else (windowed (first_of l) top) n)) (some (higher top n)) ≡ windowed (some (or_else (first_of l) n)) (some (higher top n))
unfolding windowed first_of or_else higher
first-handed [] top n = refl
first-handed (x ∷ l) none n = refl
first-handed (x ∷ l) (some a) n = let e : max (max x (a - 63)) (max a n - 63) ≡ max x (max a n - 63) = omega arith in rw e

else_up : (f : Option ℕ) (n j : ℕ) → not_below (some (or_else f n)) j ≡ true → not_below f j ≡ true
unfolding not_below or_else
else_up none n j h = refl
else_up (some f) n j h = h

module _ (b : Book) (h : ℕ) (e e' : End) (s n : ℕ) (c : List ℕ) (q : Rel b h e) (v : Took e e' s n c) (hs : s < 8) where
  hand-handed : (k : ℕ) → (hand b h s n).handed h k ≡ put (b.handed h) s (b.handed h s ++ (n ∷ [])) k
  unfolding hand
  hand-handed k = rw (put_same b.handed h (put (b.handed h) s (b.handed h s ++ (n ∷ []))))

  hand-highest : (k : ℕ) → (hand b h s n).highest h k ≡ put (b.highest h) s (some (higher (b.highest h s) n)) k
  unfolding hand
  hand-highest k = rw (put_same b.highest h (put (b.highest h) s (some (higher (b.highest h s) n))))

  -- a number of the source that is held now, but for n, was held before
  pub took_before : (j : ℕ) (c' : List ℕ) → eqb j n ≡ false → holds e' s j ≡ some c' → holds e s j ≡ some c'
  took_before j c' d p = sym (v.holding-there j d (held_not_below e' s j c' p)) ∙ p

  pub took_filed : (b' : Book) → ((k j : ℕ) (a : List ℕ) → get_elem? (b.filed k) j ≡ some a → get_elem? (b'.filed k) j ≡ some a) → get_elem? (b'.filed s) n ≡ some c
      → (k j : ℕ) (c' : List ℕ) → k < 8 → holds e' k j ≡ some c' → get_elem? (b'.filed k) j ≡ some c'
  took_filed b' stay f k j c' hk p = by_test (eqb k s)
      (λ t.
      let ks : k ≡ s = eqb-true k s t in
      let there : holds e' s j ≡ some c' = rw ks at p in
      rw ks (by_test (eqb j n)
      (λ u.
      let jn : j ≡ n = eqb-true j n u in
      let w : holds e' s n ≡ some c = v.holds-there in
      cc)
      (λ u. stay s j c' (q.filed s j c' hs (took_before j c' u there)))))
      (λ t. stay k j c' (q.filed k j c' hk (sym (v.holding k j hk t) ∙ p)))

  module _ (m : is_member e.status ≡ true) (d : eqb h s ≡ false) where
    there-last : last_at e' s ≡ some (higher (b.highest h s) n)
    there-last = v.last-there ∙ ap (λ x. some (higher x n)) (q.lasts m s hs d)

    there-first : first_at e' s ≡ windowed (first_of (b.handed h s ++ (n ∷ []))) (some (higher (b.highest h s) n))
    there-first =
        v.first-there ∙ (λ i. windowed (some (or_else (q.firsts m s hs d i) n)) (there-last i))
        ∙ first-handed (b.handed h s) (b.highest h s) n ∙ ap (λ x. windowed x (some (higher (b.highest h s) n))) (sym (first_snoc (b.handed h s) n))

    there-handed : (j : ℕ) → is_some (holds e' s j) ≡ among j (b.handed h s ++ (n ∷ [])) && not_below (first_at e' s) j
    unfolding is_some
    there-handed j = rw (among_snoc j (b.handed h s) n)
        (by_test (eqb j n)
        (λ t. let jn : j ≡ n = eqb-true j n t in
        rw (t, jn, v.holds-there, or_true (among n (b.handed h s)), held_not_below e' s n c v.holds-there))
        (λ t. rw (t, or_false (among j (b.handed h s)))
        (by_test (not_below (first_at e' s) j)
        (λ u.
        let up : not_below (some (or_else (first_at e s) n)) j ≡ true = window-up (some (or_else (first_at e s) n)) (last_at e' s) j (ap (λ x. not_below x j) (sym v.first-there) ∙ u) in
        let before : not_below (first_at e s) j ≡ true = else_up (first_at e s) n j up in
        rw (v.holding-there j t u, u) (q.handed m s j hs d ∙ ap (λ (y : Bool). among j (b.handed h s) && y) before))
        (λ u. rw (below-first e' s j u, u) (sym (and-false (among j (b.handed h s))))))))

  took_handed : is_member e.status ≡ true → (k j : ℕ) → k < 8 → eqb h k ≡ false → is_some (holds e' k j) ≡ among j ((hand b h s n).handed h k) && not_below (first_at e' k) j
  took_handed m k j hk d = rw (hand-handed k)
      (put_all (λ i l. i ≡ k → is_some (holds e' i j) ≡ among j l && not_below (first_at e' i) j) (b.handed h) s (b.handed h s ++ (n ∷ []))
      (λ i. there-handed m (rw i d) j)
      k
      (λ t i. rw (v.holding k j hk t, v.firsts k hk t) (q.handed m k j hk d)) refl)

  took_lasts : is_member e.status ≡ true → (k : ℕ) → k < 8 → eqb h k ≡ false → last_at e' k ≡ (hand b h s n).highest h k
  took_lasts m k hk d = rw (hand-highest k)
      (put_all (λ i x. i ≡ k → last_at e' i ≡ x) (b.highest h) s (some (higher (b.highest h s) n))
      (λ i. there-last m (rw i d))
      k
      (λ t i. rw (v.lasts k hk t) (q.lasts m k hk d)) refl)

  took_firsts : is_member e.status ≡ true → (k : ℕ) → k < 8 → eqb h k ≡ false → first_at e' k ≡ windowed (first_of ((hand b h s n).handed h k)) ((hand b h s n).highest h k)
  took_firsts m k hk d = rw (hand-handed k, hand-highest k)
      (by_test (eqb k s)
      (λ t. let i : k ≡ s = eqb-true k s t in
      rw (i, put_same (b.handed h) s (b.handed h s ++ (n ∷ [])), put_same (b.highest h) s (some (higher (b.highest h s) n))) (there-first m (rw (← i) d)))
      (λ t. rw (put_other (b.handed h) s (b.handed h s ++ (n ∷ [])) k t, put_other (b.highest h) s (some (higher (b.highest h s) n)) k t, v.firsts k hk t) (q.firsts m k hk d)))

  took_rel : e'.next ≡ e.next → get_elem? (b.filed s) n ≡ some c → Rel (hand b h s n) h e'
  unfolding hand
  took_rel x f = record {
    host = v.host ∙ q.host;
    status = v.status ∙ q.status;
    next = x ∙ q.next;
    filed = took_filed (hand b h s n) (λ k j a p. p) f;
    handed = λ m. took_handed (ap is_member (sym v.status) ∙ m);
    firsts = λ m. took_firsts (ap is_member (sym v.status) ∙ m);
    lasts = λ m. took_lasts (ap is_member (sym v.status) ∙ m);
  }

hand_grows : (b : Book) (h s n : ℕ) → Grows h b (hand b h s n)
unfolding hand
hand_grows b h s n = record {
  status = λ k d. refl;
  handed = λ k i d. ap (λ f. f i) (put_other b.handed h (put (b.handed h) s (b.handed h s ++ (n ∷ []))) k d);
  highest = λ k i d. ap (λ f. f i) (put_other b.highest h (put (b.highest h) s (some (higher (b.highest h s) n))) k d);
  count = λ k d. refl;
  filed = λ k j c p. p;
}

-- ---- 4. Arrivals.

-- the limits as the end of host h has them, and whether it hands a message out
unfoldable pub fresh : ℕ → End → ℕ → ℕ → Bool
fresh h e s n = is_member e.status && (not (eqb h s) && (not_below (first_at e s) n && not (is_some (holds e s n))))

unfoldable pub takes : ℕ → End → Meaning → Bool
takes h e m = (is_original m || (is_repair m && is_some (first_at e (source m)))) && (not (eqb m.sender.0 h) && fresh h e (source m) (number m))

-- a message that is heard: by a member, and not looped
unfoldable pub heeds : ℕ → End → Meaning → Bool
heeds h e m = is_member e.status && not (eqb m.sender.0 h)

-- what an end does with a message: it hands its cue out, or takes in the numbers that it brings, or passes it over
pub record Hears (h : ℕ) (e : End) (m : Meaning) (r : Step) : Type 0 where
  pub hands : takes h e m ≡ true → (r.effect ≡ Got (message_name m) (message_cue m)) × (r.left.next ≡ e.next) × Took e r.left (source m) (number m) (message_cue m)
  pub brings : takes h e m ≡ false → heeds h e m ≡ true → QuietBy (Rose (brought_to m) e) e r
  pub else : heeds h e m ≡ false → Quiet e r

-- what is handed out is heard
takes_heeds : (h : ℕ) (e : End) (m : Meaning) → heeds h e m ≡ false → takes h e m ≡ false
unfolding takes heeds fresh
takes_heeds h e m x = by_test (is_member e.status)
    (λ i. by_test (eqb m.sender.0 h)
    (λ l. rw l (and-false (is_original m || (is_repair m && is_some (first_at e (source m))))))
    (λ l. clash (rw (i, l) at x)))
    (λ i. rw (i, and-false (not (eqb m.sender.0 h))) (and-false (is_original m || (is_repair m && is_some (first_at e (source m))))))

window-limits : (x : Span) (f top : Option ℕ) (n : ℕ) → first_in x ≡ windowed f top → last_in x ≡ top → not_below (first_in x) n ≡ not_below f n && kept top n
unfolding first_in last_in windowed not_below kept
window-limits x none none n p q = rw p
window-limits Closed none (some top) n p q = let o : ◌≡◌ {A = ℕ} 0 1 = cc in absurd (omega arith)
window-limits (Open first last) none (some top) n p q = let o : ◌≡◌ {A = ℕ} 0 1 = cc in absurd (omega arith)
window-limits x (some f) none n p q = rw p (go (leb f n))
  where
    go : (a : Bool) → a ≡ a && true
    go true = refl
    go false = refl
window-limits x (some f) (some top) n p q = rw p (by_order n f
    (λ l. lt-leb (max f (top - 63)) n (omega arith) ∙ sym (ap (λ (a : Bool). a && leb (top - 63) n) (lt-leb f n l)))
    (λ l. by_order n (top - 63)
    (λ k. lt-leb (max f (top - 63)) n (omega arith) ∙ sym (λ i. le-leb f n l i && lt-leb (top - 63) n k i))
    (λ k. le-leb (max f (top - 63)) n (omega arith) ∙ sym (λ i. le-leb f n l i && le-leb (top - 63) n k i))))

some_windowed : (f top : Option ℕ) → is_some (windowed f top) ≡ is_some f
unfolding windowed is_some
some_windowed none top = refl
some_windowed (some f) none = refl
some_windowed (some f) (some top) = refl

same-limits : (a k l : Bool) → a && (k && not l) ≡ (a && k) && not (l && (a && k))
same-limits true true true = refl
same-limits true true false = refl
same-limits true false true = refl
same-limits true false false = refl
same-limits false k l = refl

-- the end's decision is the book's
module _ (b : Book) (h : ℕ) (e : End) (q : Rel b h e) (s n : ℕ) (hs : s < 8) (c : List ℕ) (f : get_elem? (b.filed s) n ≡ some c) where
  -- "not below the first one handed out" and "not below L−63" together are "not below first"
  first-limits : is_member e.status ≡ true → eqb h s ≡ false → not_below (first_at e s) n ≡ not_below (first_of (b.handed h s)) n && kept (b.highest h s) n
  unfolding first_at last_at
  first-limits m t = window-limits (source_at e (as_host s)).span (first_of (b.handed h s)) (b.highest h s) n (q.firsts m s hs t) (q.lasts m s hs t)

  limits-fresh : limits b h s n ≡ fresh h e s n
  unfolding limits fresh is_some
  limits-fresh =
      rw (← q.status)
      (by_test (is_member e.status)
      (λ m. by_test (eqb h s)
      (λ t. rw (m, t))
      (λ t. rw (m, t, f, q.handed m s n hs t, first-limits m t) (same-limits (not_below (first_of (b.handed h s)) n) (kept (b.highest h s) n) (among n (b.handed h s)))))
      (λ m. rw m))

  -- where there is a fresh number, there is a first where one was handed out
  first_agrees : fresh h e s n ≡ true → is_some (first_at e s) ≡ is_some (first_of (b.handed h s))
  unfolding fresh
  first_agrees t =
      let m = and_left (is_member e.status) _ t in
      ap is_some (q.firsts m s hs (not-true (eqb h s) (and_left (not (eqb h s)) _ (and_right (is_member e.status) _ t))))
      ∙ some_windowed (first_of (b.handed h s)) (b.highest h s)

gets-takes : (b : Book) (h : ℕ) (e : End) → Rel b h e → (m : Meaning) → InRange m → (carries m ≡ true → get_elem? (b.filed (source m)) (number m) ≡ some (message_cue m)) → gets b h m ≡ takes h e m
unfolding gets takes
gets-takes b h e q m r f = by_test (carries m)
    (λ c.
    let l = limits-fresh b h e q (source m) (number m) r.source (message_cue m) (f c) in
    by_test (fresh h e (source m) (number m))
    (λ t. rw (l, first_agrees b h e q (source m) (number m) r.source (message_cue m) (f c) t))
    (λ t. simp (l, t, and-false)))
    (λ c.
    let neither = or_left (is_original m || is_repair m) _ c in
    rw (or_left (is_original m) (is_repair m) neither, or_right (is_original m) (is_repair m) neither))

got_not_out : (a : Effect) (name : Name) (c x : List ℕ) → a ≡ Got name c → class_of a ≡ PutsOut x → ⊥
got_not_out a name c x p q = let z : HandsOut name c ≡ PutsOut x = sym (ap class_of p) ∙ q in let o : ◌≡◌ {A = ℕ} 0 1 = cc in omega arith

either_carries : (a b c l : Bool) → a || (b && c) ≡ true → (a || b) || l ≡ true
either_carries true b c l h = refl
either_carries false true c l h = refl
either_carries false false c l h = clash' h

takes-carries : (h : ℕ) (e : End) (m : Meaning) → takes h e m ≡ true → carries m ≡ true
unfolding takes
takes-carries h e m t =
    either_carries (is_original m) (is_repair m) (is_some (first_at e (source m))) _ (and_left (is_original m || (is_repair m && is_some (first_at e (source m)))) _ t)

pub arrival-right : (b : Book) (h : ℕ) (e : End) (x : List ℕ) (m : Meaning) (r : Step) → Rel b h e → Filed b x → read_as x ≡ some m → Hears h e m r → Right b h (Arrival x) r
unfolding due after due_message after_message hears heeds bring
arrival-right b h e x m r q f p v =
    let i : InRange m = in_range_lem x m p in
    let g : gets b h m ≡ takes h e m = gets-takes b h e q m i (f m p) in
    by_test (takes h e m)
    (λ t.
    let d = v.hands t in
    let k : get_elem? (b.filed (source m)) (number m) ≡ some (message_cue m) = f m p (takes-carries h e m t) in
    record {
      answered = rw (p, g, t) (d.0 ∙ ap (Got (message_name m)) (sym (get_elem_get_d (b.filed (source m)) (number m) (message_cue m) [] k)));
      rel = rw (p, g, t) (took_rel b h e r.left (source m) (number m) (message_cue m) q d.2 i.source d.1 k);
      grows = rw (p, g, t) (hand_grows b h (source m) (number m));
      filed = λ y z. absurd (got_not_out r.effect (message_name m) (message_cue m) y d.0 z);
    })
    (λ t.
    let same : hears b h m ≡ heeds h e m = ap (λ x. is_member x && not (eqb m.sender.0 h)) (sym q.status) in
    by_test (heeds h e m)
    (λ u.
    let d = v.brings t u in
    record {
      answered = rw (p, g, t) d.not-got;
      rel = rw (p, g, t, same, u) (rose_rel b h m e r.left q d.same);
      grows = rw (p, g, t, same, u) (bring_grows b h m);
      filed = λ y z k w c. rw (p, g, t, same, u) (q.filed (source k) (number k) (message_cue k) (in_range_lem y k w).source (d.out y z k w c));
    })
    (λ u. quiet-right q (v.else u) (rw (p, g, t, same, u)) (rw (p, g, t))))

-- ---- 5. A cue was sent.

-- the end of host h sends the cue c
pub record Sends (h : ℕ) (c : List ℕ) (e : End) (r : Step) : Type 0 where
  pub bytes : List ℕ
  pub answer : r.effect ≡ Out bytes
  pub message : IsOriginal bytes h e.next c
  pub next : r.left.next ≡ e.next + 1
  pub took : Took e r.left h e.next c

file_grows : (b : Book) (h : ℕ) (c : List ℕ) → Grows h b (file b h c)
unfolding file
file_grows b h c = record {
  status = λ k d. refl;
  handed = λ k s d. refl;
  highest = λ k s d. refl;
  count = λ k d. ap length (put_other b.filed h (b.filed h ++ (c ∷ [])) k d);
  filed = λ k n a p. put_all (λ i l. i ≡ k → get_elem? l n ≡ some a) b.filed h (b.filed h ++ (c ∷ [])) (λ i. get_elem_keeps (b.filed h) c n a (rw i p)) k (λ d i. p) refl;
}

filed_new : (b : Book) (h : ℕ) (c : List ℕ) (e : End) → Rel b h e → get_elem? ((file b h c).filed h) e.next ≡ some c
unfolding file
filed_new b h c e q = rw (put_same b.filed h (b.filed h ++ (c ∷ [])), q.next) (get_elem_snoc (b.filed h) c)

sent_rel : (b : Book) (h : ℕ) (c : List ℕ) (e : End) (r : Step) → h < 8 → Rel b h e → Sends h c e r → Rel (file b h c) h r.left
unfolding file
sent_rel b h c e r hh q v = record {
  host = v.took.host ∙ q.host;
  status = v.took.status ∙ q.status;
  next = rw (put_same b.filed h (b.filed h ++ (c ∷ [])), length-append) (v.next ∙ ap (λ (n : ℕ). n + 1) q.next);
  filed = took_filed b h e r.left h e.next c q v.took hh (file b h c) (λ k j a p. (file_grows b h c).filed k j a p) (filed_new b h c e q);
  handed = λ m s n hs d. rw (v.took.holding s n hs (eqb_flip h s d), v.took.firsts s hs (eqb_flip h s d)) (q.handed (ap is_member (sym v.took.status) ∙ m) s n hs d);
  firsts = λ m s hs d. rw (v.took.firsts s hs (eqb_flip h s d)) (q.firsts (ap is_member (sym v.took.status) ∙ m) s hs d);
  lasts = λ m s hs d. rw (v.took.lasts s hs (eqb_flip h s d)) (q.lasts (ap is_member (sym v.took.status) ∙ m) s hs d);
}

-- a DATA that was put out carries the cue that was filed with it
sent-filed : (b : Book) (h : ℕ) (c : List ℕ) (e : End) (bytes : List ℕ) → Rel b h e → IsOriginal bytes h e.next c → Filed (file b h c) bytes
sent-filed b h c e bytes q o m y z =
    let same : o.message ≡ m = cc (o.reads, y) in
    let name : message_name m ≡ record { source = as_host h; number = as_number e.next } = ap message_name (sym same) ∙ o.name in
    let s : source m ≡ h = ap (λ (x : Name). x.source.0) name in
    let n : number m ≡ e.next = ap (λ (x : Name). x.number.0) name in
    let carried : message_cue m ≡ c = ap message_cue (sym same) ∙ o.carried in
    rw (s, n, carried) (filed_new b h c e q)

pub send-right : (b : Book) (h : ℕ) (c : List ℕ) (e : End) (r : Step) → h < 8 → Rel b h e → is_member e.status ≡ true → Sends h c e r → Right b h (Send c) r
unfolding due after
send-right b h c e r hh q m v =
    let bm : is_member (b.status h) ≡ true = ap is_member (sym q.status) ∙ m in
    record {
      answered = rw (bm, ← q.next) (v.bytes, v.answer, v.message);
      rel = rw bm (sent_rel b h c e r hh q v);
      grows = rw bm (file_grows b h c);
      filed = λ x p. rw bm (let bx : PutsOut v.bytes ≡ PutsOut x = sym (ap class_of v.answer) ∙ p in let same : v.bytes ≡ x = cc in rw same at (sent-filed b h c e v.bytes q v.message));
    }

-- ---- 6. The status moved.

pub record Moved (m : Move) (e e' : End) : Type 0 where
  pub host : e'.host.0 ≡ e.host.0
  pub status : e'.status ≡ moves_to m
  pub next : e'.next ≡ e.next
  pub holding : (s n : ℕ) (c : List ℕ) → s < 8 → holds e' s n ≡ some c → holds e s n ≡ some c
  pub empty : is_member (moves_to m) ≡ true → (s n : ℕ) → s < 8 → holds e' s n ≡ none
  pub no_first : is_member (moves_to m) ≡ true → (s : ℕ) → s < 8 → first_at e' s ≡ none
  pub no_last : is_member (moves_to m) ≡ true → (s : ℕ) → s < 8 → last_at e' s ≡ none

joined-clears : {A : Type 0} (m : Move) (x : A) → is_member (moves_to m) ≡ true → (f : ℕ → A) (s : ℕ) → cleared_by m x f s ≡ x
unfolding cleared_by
joined-clears Join x h f s = clash' h
joined-clears Joined x h f s = refl
joined-clears Leave x h f s = clash' h
joined-clears Left x h f s = clash' h
joined-clears Crash x h f s = clash' h

moved_rel : (b : Book) (h : ℕ) (m : Move) (e e' : End) → Rel b h e → Moved m e e' → Rel (moved_book b h m) h e'
unfolding moved_book is_some among first_of windowed
moved_rel b h m e e' q v = record {
  host = v.host ∙ q.host;
  status = rw (put_same b.status h (moves_to m)) v.status;
  next = v.next ∙ q.next;
  filed = λ s n c hs p. q.filed s n c hs (v.holding s n c hs p);
  handed = λ x s n hs d.
      let mm : is_member (moves_to m) ≡ true = ap is_member (sym v.status) ∙ x in
      rw (put_same b.handed h (cleared_by m [] (b.handed h)), joined-clears m [] mm (b.handed h) s, v.empty mm s n hs);
  firsts = λ x s hs d.
      let mm : is_member (moves_to m) ≡ true = ap is_member (sym v.status) ∙ x in
      rw (put_same b.handed h (cleared_by m [] (b.handed h)), joined-clears m [] mm (b.handed h) s, v.no_first mm s hs);
  lasts = λ x s hs d.
      let mm : is_member (moves_to m) ≡ true = ap is_member (sym v.status) ∙ x in
      rw (put_same b.highest h (cleared_by m none (b.highest h)), joined-clears m none mm (b.highest h) s, v.no_last mm s hs);
}

moved_grows : (b : Book) (h : ℕ) (m : Move) → Grows h b (moved_book b h m)
unfolding moved_book
moved_grows b h m = record {
  status = λ k d. put_other b.status h (moves_to m) k d;
  handed = λ k s d. ap (λ f. f s) (put_other b.handed h (cleared_by m [] (b.handed h)) k d);
  highest = λ k s d. ap (λ f. f s) (put_other b.highest h (cleared_by m none (b.highest h)) k d);
  count = λ k d. refl;
  filed = λ k n c p. p;
}

pub move-right : (b : Book) (h : ℕ) (m : Move) (e : End) (r : Step) → Rel b h e → moves m e.status ≡ true → r.effect ≡ Done → Moved m e r.left → Right b h (Moves m) r
unfolding due after
move-right b h m e r q t a v =
    let bt : moves m (b.status h) ≡ true = ap (moves m) (sym q.status) ∙ t in
    record {
      answered = rw bt a;
      rel = rw bt (moved_rel b h m e r.left q v);
      grows = rw bt (moved_grows b h m);
      filed = λ x p. let u : Untouched ≡ PutsOut x = sym (ap class_of a) ∙ p in let z : ◌≡◌ {A = ℕ} 0 1 = cc in absurd (omega arith);
    }
