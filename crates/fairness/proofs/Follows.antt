-- The judge's book follows the service's: the same but for the highest numbers, which the judge takes from got lines alone and which so are never
-- higher.
use mathlib.Core.Path.{◌≡◌, refl, sym, ap, ◌∙◌}
use mathlib.Core.Bool.{Bool, true, false, cond, ◌&&◌}
use mathlib.Core.List.{List, [], ◌∷◌, ◌++◌}
use mathlib.Core.Option.{Option, none, some}
use Prim.Native.Nat.{ℕ, ◌-◌, max}
use native.Mathlib.Omega.{arith}
use lib.Dec.{eqb}
use borrow.Author.Tests.{leb-true, le-leb}
use Rattle.message.specs.declared.Report.{Report}
use Rattle.message.specs.Message.{SESS, Meaning}
use Rattle.end.specs.declared.Move.{Move}
use Rattle.end.specs.declared.Move.TheVariants.{Join, Joined, Leave, Left, Crash}
use Rattle.end.specs.Event.{Moves, moves, moves_to}
use Rattle.end.specs.Book.{Book, put, raised_to, reported_to, is_about_name, source, number, brought_to, kept, cleared_by, moved_book, file, higher, hand, bring, after}
use Rattle.end.proofs.Tools.{put_all, and_left, and_right}
use Rattle.ledger.proofs.ViewLaws.{kept-handed}

-- a number that the second keeps the first keeps too
abbrev pub Keeps : Option ℕ → Option ℕ → Type 0
Keeps mine its = (n : ℕ) → kept its n ≡ true → kept mine n ≡ true

pub record Follows (j b : Book) : Type 0 where
  pub status : (h : ℕ) → j.status h ≡ b.status h
  pub filed : (h : ℕ) → j.filed h ≡ b.filed h
  pub handed : (h s : ℕ) → j.handed h s ≡ b.handed h s
  pub keeps : (h s : ℕ) → Keeps (j.highest h s) (b.highest h s)

pub follows_itself : (b : Book) → Follows b b
follows_itself b = record { status = λ h. refl; filed = λ h. refl; handed = λ h s. refl; keeps = λ h s n k. k }

-- ---- both books change alike

-- what holds of two new values at h, and of the old values elsewhere
put_both : {A : Type 0} (P : A → A → Type 0) (f g : ℕ → A) (h : ℕ) (x y : A) (k : ℕ) → P x y → P (f k) (g k) → P (put f h x k) (put g h y k)
unfolding put
put_both P f g h x y k new old = go (eqb k h)
  where
    go : (t : Bool) → P (cond t x (f k)) (cond t y (g k))
    go true = new
    go false = old

put-twice : {A : Type 0} (P : A → A → Type 0) (f g : ℕ → ℕ → A) (h s : ℕ) (x y : A) (k i : ℕ) → P x y → P (f h i) (g h i) → P (f k i) (g k i)
    → P (put f h (put (f h) s x) k i) (put g h (put (g h) s y) k i)
put-twice P f g h s x y k i new near old =
    put_both (λ u v. P (u i) (v i)) f g h (put (f h) s x) (put (g h) s y) k (put_both P (f h) (g h) s x y i new near) old

cleared_both : {A : Type 0} (P : A → A → Type 0) (m : Move) (x : A) (f g : ℕ → A) (s : ℕ) → P x x → P (f s) (g s) → P (cleared_by m x f s) (cleared_by m x g s)
unfolding cleared_by
cleared_both P Join x f g s new old = old
cleared_both P Joined x f g s new old = new
cleared_both P Leave x f g s new old = old
cleared_both P Left x f g s new old = old
cleared_both P Crash x f g s new old = old

module _ {j b : Book} (f : Follows j b) where
  moved_follows : (h : ℕ) (m : Move) → Follows (moved_book j h m) (moved_book b h m)
  unfolding moved_book
  moved_follows h m =
      record {
        status = λ k. put_both (λ u v. u ≡ v) j.status b.status h (moves_to m) (moves_to m) k refl (f.status k);
        filed = f.filed;
        handed =
            λ k s. put_both (λ u v. u s ≡ v s) j.handed b.handed h (cleared_by m [] (j.handed h)) (cleared_by m [] (b.handed h)) k
            (cleared_both (λ u v. u ≡ v) m [] (j.handed h) (b.handed h) s refl (f.handed h s)) (f.handed k s);
        keeps =
            λ k s. put_both (λ u v. Keeps (u s) (v s)) j.highest b.highest h (cleared_by m none (j.highest h)) (cleared_by m none (b.highest h)) k
            (cleared_both Keeps m none (j.highest h) (b.highest h) s (λ n e. e) (f.keeps h s)) (f.keeps k s);
      }

  pub moves_follow : (h : ℕ) (m : Move) → moves m (b.status h) ≡ true → Follows (after j h (Moves m)) (after b h (Moves m))
  unfolding after
  moves_follow h m t =
      let u : moves m (j.status h) ≡ true = ap (moves m) (f.status h) ∙ t in
      rw (t, u) (moved_follows h m)

  pub file_follows : (h : ℕ) (cue : List ℕ) → Follows (file j h cue) (file b h cue)
  unfolding file
  file_follows h cue =
      record {
        status = f.status;
        filed =
            λ k. put_both (λ u v. u ≡ v) j.filed b.filed h (j.filed h ++ (cue ∷ [])) (b.filed h ++ (cue ∷ [])) k
            (ap (λ (l : List (List ℕ)). l ++ (cue ∷ [])) (f.filed h)) (f.filed k);
        handed = f.handed;
        keeps = f.keeps;
      }

  higher-keeps : (h s n : ℕ) → Keeps (some (higher (j.highest h s) n)) (some (higher (b.highest h s) n))
  higher-keeps h s n k e =
      let p = sym (kept-handed (b.highest h s) n k) ∙ e in
      let old = f.keeps h s k (and_left (kept (b.highest h s) k) _ p) in
      let new = and_right (kept (b.highest h s) k) _ p in
      kept-handed (j.highest h s) n k ∙ (λ i. old i && new i)

  pub hand_follows : (h s n : ℕ) → Follows (hand j h s n) (hand b h s n)
  unfolding hand
  hand_follows h s n =
      record {
        status = f.status;
        filed = f.filed;
        handed =
            λ k i. put-twice (λ u v. u ≡ v) j.handed b.handed h s (j.handed h s ++ (n ∷ [])) (b.handed h s ++ (n ∷ [])) k i
            (ap (λ (l : List ℕ). l ++ (n ∷ [])) (f.handed h s)) (f.handed h i) (f.handed k i);
        keeps =
            λ k i. put-twice Keeps j.highest b.highest h s (some (higher (j.highest h s) n)) (some (higher (b.highest h s) n)) k i
            (higher-keeps h s n) (f.keeps h i) (f.keeps k i);
      }

-- ---- the service's book alone brings higher numbers
raised_keeps : (n : ℕ) (o : Option ℕ) → Keeps o (raised_to n o)
unfolding raised_to kept
raised_keeps n none k e = refl
raised_keeps n (some top) k e = le-leb (top - 63) k (omega (arith, leb-true (max top n - 63) k e))

reported-keeps : (s : ℕ) (rs : List Report) (o : Option ℕ) → Keeps o (reported_to s rs o)
unfolding reported_to
reported-keeps s [] o k e = e
reported-keeps s (r ∷ rs) o k e = one (eqb r.source.0 s) (reported-keeps s rs (cond (eqb r.source.0 s) (raised_to r.last.0 o) o) k e)
  where
    one : (t : Bool) → kept (cond t (raised_to r.last.0 o) o) k ≡ true → kept o k ≡ true
    one true h = raised_keeps r.last.0 o k h
    one false h = h

brought_keeps : (m : Meaning) (s : ℕ) (o : Option ℕ) → Keeps o (brought_to m s o)
unfolding brought_to
brought_keeps m s o k = go (is_about_name m) (eqb (source m) s) (eqb m.kind SESS)
  where
    go : (a t u : Bool) → kept (cond a (cond t (raised_to (number m) o) o) (cond u (reported_to s m.reports o) o)) k ≡ true → kept o k ≡ true
    go true true u e = raised_keeps (number m) o k e
    go true false u e = e
    go false t true e = reported-keeps s m.reports o k e
    go false t false e = e

pub bring_follows : {j b : Book} (h : ℕ) (m : Meaning) → Follows j b → Follows j (bring b h m)
unfolding bring
bring_follows {j} {b} h m f =
    record {
      status = f.status;
      filed = f.filed;
      handed = f.handed;
      keeps =
          λ k s n. put_all (λ k u. kept (u s) n ≡ true → kept (j.highest k s) n ≡ true) b.highest h (λ s. brought_to m s (b.highest h s))
          (λ e. f.keeps h s n (brought_keeps m s (b.highest h s) n e)) k (λ d e. f.keeps k s n e);
    }
