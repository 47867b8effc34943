-- The judgement is right: it is the first prefix that is not permitted, or there is none, after the two refusals.
use mathlib.Core.Path.{◌≡◌, refl, sym, ap, ◌∙◌, subst}
use mathlib.Core.Bool.{true, false, ◌&&◌}
use mathlib.Core.List.{List, [], ◌∷◌}
use mathlib.Core.Logic.{inl, inr}
use Prim.Native.Nat.{ℕ, zero, suc, ◌+◌, ◌≤◌, ◌<◌}
use native.Mathlib.Omega.{arith}
use lib.ListN.{length, take}
use borrow.Author.Tests.{lt-ltb, le-ltb}
use Rattle.numbers.proofs.Cases.{by_flag, by_order}
use Rattle.end.specs.Book.{Book, empty_book}
use Rattle.end.proofs.Tools.{clash, clash', and_left, and_right}
use Rattle.record.specs.declared.Said.{Said}
use Rattle.record.specs.declared.Said.TheVariants.{Malformed, Moved, Sent, Got}
use Rattle.record.specs.declared.Line.{Line}
use Rattle.ledger.specs.declared.Judgement.{Judgement}
use Rattle.ledger.specs.declared.Judgement.TheVariants.{Allowed, BrokenAt, Refused}
use Rattle.ledger.specs.Judgement.{permits_said, permits, written, permits_run, judged_from, is_malformed, any_malformed, most_lines, judgement_of}
use Rattle.fairness.specs.Judged.{FirstBroken, Means, JudgedRight, JudgedOnlySo}

-- ---- a run of lines from any book on

-- a prefix of a permitted run is permitted
prefix : (b : Book) (ls : List Line) (k : ℕ) → permits_run b ls ≡ true → permits_run b (take k ls) ≡ true
unfolding permits_run
prefix b [] zero h = refl
prefix b [] (suc k) h = refl
prefix b (l ∷ ls) zero h = refl
prefix b (l ∷ ls) (suc k) h =
    let p = and_left (permits b l) _ h in
    let q = and_right (permits b l) _ h in
    λ i. p i && prefix (written b l) ls k q i

-- all lines are permitted, or line i, counted from 0, is the first that is not
data Ends (b : Book) (n : ℕ) (ls : List Line) : Type 0 where
  all : permits_run b ls ≡ true → judged_from b n ls ≡ Allowed → Ends b n ls
  breaks : (i : ℕ) → i < length ls → judged_from b n ls ≡ BrokenAt (n + i) → permits_run b (take (suc i) ls) ≡ false
      → ((j : ℕ) → j < suc i → permits_run b (take j ls) ≡ true) → Ends b n ls

ends : (b : Book) (n : ℕ) (ls : List Line) → Ends b n ls
unfolding permits_run judged_from
ends b n [] = all refl refl
ends b n (l ∷ ls) =
    by_flag (permits b l)
    (λ t. goes_on t (ends (written b l) (n + 1) ls))
    (λ f. breaks 0 (omega arith) (rw f (ap BrokenAt (omega arith))) (rw f) (λ j h. none j h))
  where
    none : (j : ℕ) → j < 1 → permits_run b (take j (l ∷ ls)) ≡ true
    none zero h = refl
    none (suc j) h = absurd (omega arith)

    goes_on : permits b l ≡ true → Ends (written b l) (n + 1) ls → Ends b n (l ∷ ls)
    goes_on t (all p e) = all (rw t p) (rw t e)
    goes_on t (breaks i h e p q) = breaks (suc i) (omega arith) (rw t (e ∙ ap BrokenAt (omega arith))) (rw t p) earlier
      where
        earlier : (j : ℕ) → j < suc (suc i) → permits_run b (take j (l ∷ ls)) ≡ true
        earlier zero h = refl
        earlier (suc j) h = rw t (q j (omega arith))

-- ---- the judgement

-- a permitted line is not malformed
said-right : (b : Book) (x : Said) (cue : List ℕ) → permits_said b x cue ≡ true → is_malformed x ≡ false
unfolding permits_said
said-right b Malformed cue h = clash' h
said-right b (Moved m k) cue h = refl
said-right b (Sent k n) cue h = refl
said-right b (Got k name) cue h = refl

run_right : (b : Book) (ls : List Line) → permits_run b ls ≡ true → any_malformed ls ≡ false
unfolding permits_run any_malformed
run_right b [] h = refl
run_right b (l ∷ ls) h =
    rw (said-right b l.said l.cue (and_left (permits b l) _ h)) (run_right (written b l) ls (and_right (permits b l) _ h))

-- which of the three questions decides
module _ (ls : List Line) where
  pub over : most_lines < length ls → judgement_of ls ≡ Refused 16
  unfolding judgement_of
  over h = rw (lt-ltb most_lines (length ls) h)

  pub with_malformed : length ls ≤ most_lines → any_malformed ls ≡ true → judgement_of ls ≡ Refused 17
  unfolding judgement_of
  with_malformed h t = rw (le-ltb most_lines (length ls) h, t)

  pub judged_lines : length ls ≤ most_lines → any_malformed ls ≡ false → judgement_of ls ≡ judged_from empty_book 1 ls
  unfolding judgement_of
  judged_lines h f = rw (le-ltb most_lines (length ls) h, f)

  first-broken : (i : ℕ) → i < length ls → permits_run empty_book (take (suc i) ls) ≡ false
      → ((j : ℕ) → j < suc i → permits_run empty_book (take j ls) ≡ true) → FirstBroken ls (1 + i)
  first-broken i h p q =
      let e : suc i ≡ 1 + i = omega arith in
      record { within = omega arith; broken = ap (λ (k : ℕ). permits_run empty_book (take k ls)) (sym e) ∙ p; before = λ j l. q j (omega arith) }

  means-ended : length ls ≤ most_lines → any_malformed ls ≡ false → Ends empty_book 1 ls → Means (judgement_of ls) ls
  means-ended h f (all p e) = subst (λ (j : Judgement). Means j ls) (sym (judged_lines h f ∙ e)) (h, p)
  means-ended h f (breaks i l e p q) = subst (λ (j : Judgement). Means j ls) (sym (judged_lines h f ∙ e)) (h, f, first-broken i l p q)

pub judged_right : JudgedRight
judged_right ls =
    by_order most_lines (length ls)
    (λ h. subst (λ (j : Judgement). Means j ls) (sym (over ls h)) (inl (refl, h)))
    (λ h.
    by_flag (any_malformed ls)
    (λ t. subst (λ (j : Judgement). Means j ls) (sym (with_malformed ls h t)) (inr (refl, h, t)))
    (λ f. means-ended ls h f (ends empty_book 1 ls)))

-- no other judgement
all-allowed : (ls : List Line) → permits_run empty_book ls ≡ true → Ends empty_book 1 ls → judged_from empty_book 1 ls ≡ Allowed
all-allowed ls h (all p e) = e
all-allowed ls h (breaks i l e p q) = clash (sym (prefix empty_book ls (suc i) h) ∙ p)

broken-there : (ls : List Line) (k : ℕ) → FirstBroken ls k → Ends empty_book 1 ls → judged_from empty_book 1 ls ≡ BrokenAt k
broken-there ls k h (all p e) = clash (sym (prefix empty_book ls k p) ∙ h.broken)
broken-there ls k h (breaks i l e p q) =
    by_order k (suc i)
    (λ below. clash (sym (q k below) ∙ h.broken))
    (λ above.
    by_order (suc i) k
    (λ later. clash (sym (h.before (suc i) later) ∙ p))
    (λ same. e ∙ ap BrokenAt (omega arith)))

pub judged_only_so : JudgedOnlySo
judged_only_so ls Allowed (h, p) = judged_lines ls h (run_right empty_book ls p) ∙ all-allowed ls p (ends empty_book 1 ls)
judged_only_so ls (BrokenAt k) (h, f, b) = judged_lines ls h f ∙ broken-there ls k b (ends empty_book 1 ls)
judged_only_so ls (Refused n) (inl p) = over ls p.1 ∙ ap Refused (sym p.0)
judged_only_so ls (Refused n) (inr p) = with_malformed ls p.1 p.2 ∙ ap Refused (sym p.0)
