-- What a step asks for: the statements of specs/History.antt on the lowest missing number.
use mathlib.Core.Path.{◌≡◌, refl, sym, ◌∙◌}
use mathlib.Core.Bool.{true, false}
use Rattle.std.specs.Prelude.{Option, Some, None}
use mathlib.Core.Logic.{◌⊎◌, inl, inr}
use Prim.Native.Nat.{ℕ, zero, suc, ◌+◌, ◌-◌, ◌<◌}
use native.Mathlib.Omega.{arith}
use borrow.Author.Tests.{le-leb, lt-leb}
use Rattle.numbers.specs.Bits.{bit}
use Rattle.numbers.proofs.Cases.{by_flag, by_order}
use Rattle.message.specs.Message.{bytes_of}
use Rattle.end.specs.Answer.{Out, Nothing}
use Rattle.display_window.specs.Parts.{Seen, Unstarted, Started}
use Rattle.display_window.specs.Window.{lowest_clear, lowest_missing}
use Rattle.display_window.proofs.SetLaws.{clear_none, clear_next, clear-keeps, clear-below}
use Rattle.display.specs.Display.{with_clock}
use Rattle.display.specs.Request.{request_for, request_if, step_of}
use Rattle.display.specs.Call.{done, event_of}
use Rattle.display_history.specs.History.{is_missing, none_missing, stepped, StepAsksLowest}

-- two answers of one search
none-some : {i : ℕ} {A : Type 0} {o : Option ℕ} → o ≡ None → o ≡ Some i → A
none-some p q = let z : ◌≡◌ {A = ℕ} 0 1 = cc in absurd (omega arith)

-- where no place is clear every bit is set; below the lowest clear place, which is clear, every bit is
all_set : (set k : ℕ) → lowest_clear set k ≡ None → (j : ℕ) → j < k → bit set j ≡ true
all_set set zero h j l = absurd (omega arith)
all_set set (suc k) h j l = go (lowest_clear set k) refl (λ p. all_set set k p j)
  where
    go : (o : Option ℕ) → lowest_clear set k ≡ o → (lowest_clear set k ≡ None → j < k → bit set j ≡ true) → bit set j ≡ true
    go (Some i) p rest = none-some h (clear-keeps set k i p)
    go None p rest =
        by_flag (bit set k)
        (λ b. by_order j k (rest p) (λ a. let e : k ≡ j = omega arith in rw e at b))
        (λ b. none-some h (clear_next set k p b))

lowest-clear : (set k i : ℕ) → lowest_clear set k ≡ Some i → (bit set i ≡ false) × ((j : ℕ) → j < i → bit set j ≡ true)
unfolding lowest_clear
lowest-clear set zero i h = none-some refl h
lowest-clear set (suc k) i h = go (lowest_clear set k) refl (lowest-clear set k i)
  where
    Lowest : Type 0
    Lowest = (bit set i ≡ false) × ((j : ℕ) → j < i → bit set j ≡ true)

    go : (o : Option ℕ) → lowest_clear set k ≡ o → (lowest_clear set k ≡ Some i → Lowest) → Lowest
    go (Some m) p rest = rest (p ∙ (sym (clear-keeps set k m p) ∙ h))
    go None p rest =
        by_flag (bit set k)
        (λ b. none-some (clear_none set k p b) h)
        (λ b.
        let e : Some k ≡ Some i = sym (clear_next set k p b) ∙ h in
        let q : k ≡ i = cc in
        (rw q at b, λ j a. all_set set k p j (omega arith)))

-- ---- of a window
none-missing : (w : Seen) → lowest_missing w ≡ None → (k : ℕ) → is_missing w k ≡ false
unfolding lowest_missing
none-missing Unstarted h k = refl
none-missing (Started w) h k = go (lowest_clear w.set (w.lead.0 + 1 - w.trail.0)) refl
  where
    go : (o : Option ℕ) → lowest_clear w.set (w.lead.0 + 1 - w.trail.0) ≡ o → is_missing (Started w) k ≡ false
    go (Some i) p = let e : Some (w.trail.0 + i) ≡ None = rw p at h in none-some refl (sym e)
    go None p =
        by_order k w.trail.0
        (λ a. rw (lt-leb w.trail.0 k a))
        (λ a.
        by_order w.lead.0 k
        (λ b. rw (le-leb w.trail.0 k a, lt-leb k w.lead.0 b))
        (λ b. rw (all_set w.set (w.lead.0 + 1 - w.trail.0) p (k - w.trail.0) (omega arith), le-leb w.trail.0 k a, le-leb k w.lead.0 b)))

lowest-missing : (w : Seen) (n : ℕ) → lowest_missing w ≡ Some n → (is_missing w n ≡ true) × ((k : ℕ) → k < n → is_missing w k ≡ false)
unfolding lowest_missing
lowest-missing Unstarted n h = none-some refl h
lowest-missing (Started w) n h = go (lowest_clear w.set (w.lead.0 + 1 - w.trail.0)) refl
  where
    t : ℕ
    t = w.trail.0

    go : (o : Option ℕ) → lowest_clear w.set (w.lead.0 + 1 - w.trail.0) ≡ o
        → (is_missing (Started w) n ≡ true) × ((k : ℕ) → k < n → is_missing (Started w) k ≡ false)
    go None p = let e : None ≡ Some n = rw p at h in none-some refl e
    go (Some i) p =
        let e : Some (t + i) ≡ Some n = rw p at h in
        let q : t + i ≡ n = cc in
        let l = lowest-clear w.set (w.lead.0 + 1 - t) i p in
        let below = clear-below w.set (w.lead.0 + 1 - t) i p in
        let up : n - t ≡ i = omega arith in (
          rw (up, l.0, le-leb t n (omega arith), le-leb n w.lead.0 (omega arith)),
          λ k a.
              by_order k t
              (λ b. rw (lt-leb t k b))
              (λ b. rw (l.1 (k - t) (omega arith), le-leb t k b, le-leb k w.lead.0 (omega arith))),
        )

-- ---- of a call
pub step_asks_lowest : StepAsksLowest
unfolding event_of step_of
step_asks_lowest d clock room q = rw q (go (lowest_missing d.window) refl)
  where
    go : (o : Option ℕ) → lowest_missing d.window ≡ o → let after = with_clock d clock in
        ((n : ℕ)
        × (done (request_if o after) ≡ stepped (Out (bytes_of (request_for after n))) after)
        × (is_missing d.window n ≡ true)
        × none_missing d.window n)
        ⊎ ((done (request_if o after) ≡ stepped Nothing after) × ((n : ℕ) → none_missing d.window n))
    go None p = inr (refl, λ n k a. none-missing d.window p k)
    go (Some n) p = let l = lowest-missing d.window n p in inl (n, refl, l.0, l.1)
