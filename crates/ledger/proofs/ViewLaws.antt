-- The view of a book after a line, and what a line is permitted by.
use mathlib.Core.Path.{◌≡◌, refl, sym, ap, ◌∙◌}
use mathlib.Core.Bool.{Bool, true, false, cond, not, ◌&&◌, ◌||◌, and-true, and-false, or-true, or-false, or_assoc}
use mathlib.Core.List.{List, [], ◌∷◌, ◌++◌}
use mathlib.Core.Option.{Option, none, some}
use Prim.Native.Nat.{ℕ, zero, suc, ◌+◌, ◌-◌, ◌≤◌, max}
use native.Mathlib.Omega.{arith}
use lib.Dec.{leb, eqb}
use lib.ListN.{length, get_or, get_elem?, length-append}
use borrow.Author.Tests.{eqb-true, eqb-false, eq-eqb, ne_eqb, le-leb, lt-leb}
use Rattle.numbers.proofs.Cases.{by_flag, by_order}
use Rattle.end.specs.declared.Move.{Move}
use Rattle.end.specs.declared.Move.TheVariants.{Join, Joined, Leave, Left, Crash}
use Rattle.end.specs.Decide.{same_cue}
use Rattle.end.specs.Event.{Moves, moves, moves_to}
use Rattle.end.specs.Book.{Book, empty_book, put, among, first_of, not_below, is_some, kept, limits, Exactly, Original, due, cleared_by, moved_book, file, higher, hand, after}
use Rattle.end.specs.State.{is_member}
use Rattle.end.specs.Answer.{Ignored}
use Rattle.end.proofs.Tools.{put_same, put_other, and_left, and_right}
use Rattle.record.specs.declared.Said.{Said}
use Rattle.record.specs.declared.Said.TheVariants.{Malformed, Moved, Sent, Got}
use Rattle.record.specs.declared.Line.{Line}
use Rattle.ledger.specs.declared.Asked.{Asked}
use Rattle.ledger.specs.declared.View.{View}
use Rattle.ledger.specs.Judgement.{as_out, permits_said, permits, written_said}
use Rattle.ledger.specs.View.{asked_of, is_cue, is_free, view_of, no_view, joins, shifted, moved_view, filed_view, leaves_free, handed_view, view_after, allowed_by}

pub view_empty : (a : Asked) → view_of empty_book a ≡ no_view
unfolding view_of first_of is_some not_below kept among
view_empty a = refl

-- ---- a move
began_moved : (m : Move) (hs : ℕ → List ℕ) (s : ℕ) → is_some (first_of (cleared_by m [] hs s)) ≡ (is_some (first_of (hs s)) && not (joins m))
unfolding cleared_by first_of is_some
began_moved Join hs s = sym (and-true (is_some (first_of (hs s))))
began_moved Joined hs s = sym (and-false (is_some (first_of (hs s))))
began_moved Leave hs s = sym (and-true (is_some (first_of (hs s))))
began_moved Left hs s = sym (and-true (is_some (first_of (hs s))))
began_moved Crash hs s = sym (and-true (is_some (first_of (hs s))))

free_moved : (m : Move) (hs : ℕ → List ℕ) (os : ℕ → Option ℕ) (s n : ℕ)
    → is_free (first_of (cleared_by m [] hs s)) (cleared_by m none os s) (cleared_by m [] hs s) n ≡ (is_free (first_of (hs s)) (os s) (hs s) n || joins m)
unfolding cleared_by first_of not_below kept among
free_moved Join hs os s n = sym (or-false (is_free (first_of (hs s)) (os s) (hs s) n))
free_moved Joined hs os s n = sym (or-true (is_free (first_of (hs s)) (os s) (hs s) n))
free_moved Leave hs os s n = sym (or-false (is_free (first_of (hs s)) (os s) (hs s) n))
free_moved Left hs os s n = sym (or-false (is_free (first_of (hs s)) (os s) (hs s) n))
free_moved Crash hs os s n = sym (or-false (is_free (first_of (hs s)) (os s) (hs s) n))

-- ---- a number is filed, or handed out

eqb-suc : (m n : ℕ) → eqb (suc m) (suc n) ≡ eqb m n
eqb-suc m n =
    by_flag (eqb m n)
    (λ t. rw t (eq-eqb (suc m) (suc n) (ap suc (eqb-true m n t))))
    (λ f. let d = eqb-false m n f in rw f (ne_eqb (suc m) (suc n) (λ e. d (omega arith))))

filed-same : (l : List (List ℕ)) (c q : List ℕ) (n : ℕ) → is_cue (get_elem? (l ++ (c ∷ [])) n) q ≡ cond (eqb n (length l)) (same_cue c q) (is_cue (get_elem? l n) q)
filed-same [] c q zero = refl
filed-same [] c q (suc n) = rw (ne_eqb (suc n) 0 (λ e. omega arith))
filed-same (x ∷ l) c q zero = rw (ne_eqb 0 (suc (length l)) (λ e. omega arith))
filed-same (x ∷ l) c q (suc n) = rw (eqb-suc n (length l)) (filed-same l c q n)

began_handed : (hs : List ℕ) (new : ℕ) → is_some (first_of (hs ++ (new ∷ []))) ≡ true
unfolding first_of is_some
began_handed [] new = refl
began_handed (x ∷ hs) new = refl

below-handed : (hs : List ℕ) (new n : ℕ) → not_below (first_of (hs ++ (new ∷ []))) n ≡ (not_below (first_of hs) n && (is_some (first_of hs) || leb new n))
unfolding first_of is_some not_below
below-handed [] new n = refl
below-handed (x ∷ hs) new n = sym (and-true (leb x n))

both_kept : (top new n : ℕ) → leb (max top new - 63) n ≡ (leb (top - 63) n && leb (new - 63) n)
both_kept top new n =
    by_order n (top - 63)
    (λ l. rw (lt-leb (top - 63) n l) (lt-leb (max top new - 63) n (omega arith)))
    (λ g.
    by_order n (new - 63)
    (λ l. rw (le-leb (top - 63) n g, lt-leb (new - 63) n l) (lt-leb (max top new - 63) n (omega arith)))
    (λ k. rw (le-leb (top - 63) n g, le-leb (new - 63) n k) (le-leb (max top new - 63) n (omega arith))))

pub kept-handed : (o : Option ℕ) (new n : ℕ) → kept (some (higher o new)) n ≡ (kept o n && leb (new - 63) n)
unfolding kept higher
kept-handed none new n = refl
kept-handed (some top) new n = both_kept top new n

among-handed : (hs : List ℕ) (new n : ℕ) → among n (hs ++ (new ∷ [])) ≡ (among n hs || eqb n new)
unfolding among
among-handed [] new n = or-false (eqb n new)
among-handed (x ∷ hs) new n = ap (λ (t : Bool). eqb n x || t) (among-handed hs new n) ∙ sym (or_assoc (eqb n x) (among n hs) (eqb n new))

shuffled : (a r k l x e : Bool) → ((a && r) && ((k && l) && not (x || e))) ≡ ((a && (k && not x)) && (r && (l && not e)))
shuffled false r k l x e = refl
shuffled true false k l x e = sym (and-false (k && not x))
shuffled true true false l x e = refl
shuffled true true true false x e = sym (and-false (not x))
shuffled true true true true true e = refl
shuffled true true true true false e = refl

free-handed : (hs : List ℕ) (o : Option ℕ) (new n : ℕ)
    → is_free (first_of (hs ++ (new ∷ []))) (some (higher o new)) (hs ++ (new ∷ [])) n ≡ (is_free (first_of hs) o hs n && leaves_free (is_some (first_of hs)) new n)
free-handed hs o new n =
    (λ i. below-handed hs new n i && (kept-handed o new n i && not (among-handed hs new n i)))
    ∙ shuffled (not_below (first_of hs) n) (is_some (first_of hs) || leb new n) (kept o n) (leb (new - 63) n) (among n hs) (eqb n new)

-- ---- the view of a book that a line changed

through : {A B : Type 0} (f : A → B) (t : Bool) (x y : A) → f (cond t x y) ≡ cond t (f x) (f y)
through f true x y = refl
through f false x y = refl

either : {A : Type 0} (t : Bool) (x : A) → cond t x x ≡ x
either true x = refl
either false x = refl

-- a function of two arguments with one value changed
twice_same : {A : Type 0} (f : ℕ → ℕ → A) (h s : ℕ) (x : A) → put f h (put (f h) s x) h s ≡ x
twice_same {A} f h s x = ap (λ (g : ℕ → A). g s) (put_same f h (put (f h) s x)) ∙ put_same (f h) s x

twice-other : {A : Type 0} (f : ℕ → ℕ → A) (k j : ℕ) (x : A) (h s : ℕ) → (eqb h k && eqb s j) ≡ false → put f k (put (f k) j x) h s ≡ f h s
unfolding put
twice-other f k j x h s e =
    by_flag (eqb h k)
    (λ t. let o : eqb s j ≡ false = rw t at e in rw (t, o) (ap (λ (i : ℕ). f i s) (sym (eqb-true h k t))))
    (λ o. rw o)

module _ (b : Book) (a : Asked) where
  abbrev h : ℕ
  h = a.host.0

  abbrev s : ℕ
  s = a.source.0

  abbrev n : ℕ
  n = a.number.0

  -- by its host's status, its source's cues, and the host's handed-out numbers of the source
  alike : (c : Book) {v : View} → c.status h ≡ v.status → length (c.filed s) ≡ v.filed → is_cue (get_elem? (c.filed s) n) a.cue ≡ v.same
      → is_some (first_of (c.handed h s)) ≡ v.began → is_free (first_of (c.handed h s)) (c.highest h s) (c.handed h s) n ≡ v.free → view_of c a ≡ v
  unfolding view_of
  alike c p q r t u = λ i. record { status = p i; filed = q i; same = r i; began = t i; free = u i }

  moved_view_lem : (m : Move) → view_of (moved_book b h m) a ≡ shifted m (view_of b a)
  unfolding view_of moved_book
  moved_view_lem m =
      let hd = put_same b.handed h (cleared_by m [] (b.handed h)) in
      let hi = put_same b.highest h (cleared_by m none (b.highest h)) in
      alike (moved_book b h m) (put_same b.status h (moves_to m)) refl refl
      (ap (λ (f : ℕ → List ℕ). is_some (first_of (f s))) hd ∙ began_moved m (b.handed h) s)
      ((λ i. is_free (first_of (hd i s)) (hi i s) (hd i s) n) ∙ free_moved m (b.handed h) (b.highest h) s n)

  moved_here : (m : Move) → view_of (after b h (Moves m)) a ≡ moved_view m (view_of b a)
  unfolding after view_of
  moved_here m =
      through (λ (c : Book). view_of c a) (moves m (b.status h)) (moved_book b h m) b
      ∙ ap (λ (v : View). cond (moves m (b.status h)) v (view_of b a)) (moved_view_lem m)

  moved-there : (k : ℕ) (m : Move) → eqb h k ≡ false → view_of (after b k (Moves m)) a ≡ view_of b a
  unfolding after view_of moved_book
  moved-there k m e =
      let hd = put_other b.handed k (cleared_by m [] (b.handed k)) h e in
      let hi = put_other b.highest k (cleared_by m none (b.highest k)) h e in
      let other = alike (moved_book b k m) {v = view_of b a} (put_other b.status k (moves_to m) h e) refl refl
      (ap (λ (f : ℕ → List ℕ). is_some (first_of (f s))) hd) (λ i. is_free (first_of (hd i s)) (hi i s) (hd i s) n) in
      through (λ (c : Book). view_of c a) (moves m (b.status k)) (moved_book b k m) b
      ∙ ap (λ (v : View). cond (moves m (b.status k)) v (view_of b a)) other ∙ either (moves m (b.status k)) (view_of b a)

  filed_here : (cue : List ℕ) → view_of (file b s cue) a ≡ filed_view a cue (view_of b a)
  unfolding view_of file
  filed_here cue =
      let f = put_same b.filed s (b.filed s ++ (cue ∷ [])) in
      alike (file b s cue) refl (ap length f ∙ length-append (b.filed s) (cue ∷ []))
      (ap (λ (l : List (List ℕ)). is_cue (get_elem? l n) a.cue) f ∙ filed-same (b.filed s) cue a.cue n) refl refl

  filed-there : (k : ℕ) (cue : List ℕ) → eqb s k ≡ false → view_of (file b k cue) a ≡ view_of b a
  unfolding view_of file
  filed-there k cue e =
      let f = put_other b.filed k (b.filed k ++ (cue ∷ [])) s e in
      alike (file b k cue) refl (ap length f) (ap (λ (l : List (List ℕ)). is_cue (get_elem? l n) a.cue) f) refl refl

  handed_here : (new : ℕ) → view_of (hand b h s new) a ≡ handed_view a new (view_of b a)
  unfolding view_of hand
  handed_here new =
      let hd = twice_same b.handed h s (b.handed h s ++ (new ∷ [])) in
      let hi = twice_same b.highest h s (some (higher (b.highest h s) new)) in
      alike (hand b h s new) refl refl refl (ap (λ (l : List ℕ). is_some (first_of l)) hd ∙ began_handed (b.handed h s) new)
      ((λ i. is_free (first_of (hd i)) (hi i) (hd i) n) ∙ free-handed (b.handed h s) (b.highest h s) new n)

  -- to another host, or of another source
  handed-there : (k j new : ℕ) → (eqb h k && eqb s j) ≡ false → view_of (hand b k j new) a ≡ view_of b a
  unfolding view_of hand
  handed-there k j new e =
      let hd = twice-other b.handed k j (b.handed k j ++ (new ∷ [])) h s e in
      let hi = twice-other b.highest k j (some (higher (b.highest k j) new)) h s e in
      alike (hand b k j new) refl refl refl (ap (λ (l : List ℕ). is_some (first_of l)) hd) (λ i. is_free (first_of (hd i)) (hi i) (hd i) n)

  -- after any line
  pub view_written : (l : Said) (cue : List ℕ) → view_of (written_said b l cue) a ≡ view_after a l cue (view_of b a)
  unfolding written_said view_after
  view_written Malformed cue = refl
  view_written (Moved m k) cue =
      by_flag (eqb h k.0)
      (λ t. rw t (ap (λ (x : ℕ). view_of (after b x (Moves m)) a) (sym (eqb-true h k.0 t)) ∙ moved_here m))
      (λ f. rw f (moved-there k.0 m f))
  view_written (Sent k x) cue =
      by_flag (eqb s k.0)
      (λ t. rw t (ap (λ (x : ℕ). view_of (file b x cue) a) (sym (eqb-true s k.0 t)) ∙ filed_here cue))
      (λ f. rw f (filed-there k.0 cue f))
  view_written (Got k name) cue =
      by_flag (eqb h k.0 && eqb s name.source.0)
      (λ t.
      let p = eqb-true h k.0 (and_left (eqb h k.0) _ t) in
      let q = eqb-true s name.source.0 (and_right (eqb h k.0) _ t) in
      rw t ((λ i. view_of (hand b (sym p i) (sym q i) name.number.0) a) ∙ handed_here name.number.0))
      (λ f. rw f (handed-there k.0 name.source.0 name.number.0 f))

-- ---- the line by the view

permits-got : (m x i f t : Bool) → ((m && (x && (i && f))) && t) ≡ (m && (x && ((i && t) && f)))
permits-got false x i f t = refl
permits-got true false i f t = refl
permits-got true true false f t = refl
permits-got true true true false t = sym (and-false t)
permits-got true true true true t = sym (and-true t)

pub is-filed : (l : List (List ℕ)) (n : ℕ) (cue : List ℕ) → (is_some (get_elem? l n) && same_cue (get_or l n []) cue) ≡ is_cue (get_elem? l n) cue
unfolding is_some
is-filed [] n cue = refl
is-filed (x ∷ l) zero cue = refl
is-filed (x ∷ l) (suc n) cue = is-filed l n cue

pub as_out_lem : (t : Bool) (h n k : ℕ) (cue : List ℕ) → as_out (cond t (Original h k cue) (Exactly Ignored)) n ≡ (t && eqb n k)
as_out_lem true h n k cue = refl
as_out_lem false h n k cue = refl

permits_view : (b : Book) (l : Said) (cue : List ℕ) → permits_said b l cue ≡ allowed_by l (view_of b (asked_of l cue))
unfolding permits_said allowed_by view_of due limits
permits_view b Malformed cue = refl
permits_view b (Moved m h) cue = refl
permits_view b (Sent h n) cue = as_out_lem (is_member (b.status h.0)) h.0 n.0 (length (b.filed h.0)) cue
permits_view b (Got h name) cue =
    let s = name.source.0 in
    let n = name.number.0 in
    let hs = b.handed h.0 s in
    let free = is_free (first_of hs) (b.highest h.0 s) hs n in
    permits-got (is_member (b.status h.0)) (not (eqb h.0 s)) (is_some (get_elem? (b.filed s) n)) free (same_cue (get_or (b.filed s) n []) cue)
    ∙ ap (λ (t : Bool). is_member (b.status h.0) && (not (eqb h.0 s) && (t && free)))
    (is-filed (b.filed s) n cue)

pub permitted_by : (b : Book) (l : Line) {a : Asked} {v : View} {r : Bool} → a ≡ asked_of l.said l.cue → v ≡ view_of b a
    → r ≡ allowed_by l.said v → r ≡ permits b l
permitted_by b l p q e = e ∙ ap (allowed_by l.said) (q ∙ ap (view_of b) p) ∙ sym (permits_view b l.said l.cue)

-- ---- a line files at most one cue
pub filed-few : (a : Asked) (l : Said) (cue : List ℕ) (v : View) → (view_after a l cue v).filed ≤ v.filed + 1
unfolding view_after
filed-few a Malformed cue v = omega arith
filed-few a (Moved m k) cue v = few-moved (eqb a.host.0 k.0) (moves m v.status)
  where
    few-moved : (t u : Bool) → (cond t (cond u (shifted m v) v) v).filed ≤ v.filed + 1
    few-moved true true = omega arith
    few-moved true false = omega arith
    few-moved false u = omega arith
filed-few a (Sent k n) cue v = few-filed (eqb a.source.0 k.0)
  where
    few-filed : (t : Bool) → (cond t (filed_view a cue v) v).filed ≤ v.filed + 1
    few-filed true = omega arith
    few-filed false = omega arith
filed-few a (Got k name) cue v = few-handed (eqb a.host.0 k.0 && eqb a.source.0 name.source.0)
  where
    few-handed : (t : Bool) → (cond t (handed_view a name.number.0 v) v).filed ≤ v.filed + 1
    few-handed true = omega arith
    few-handed false = omega arith
