-- Two holders on computed lists: the tests for what is supposed of several.
use Prim.Native.Nat.{ℕ, ◌≤◌}
use native.Mathlib.Omega.{arith}
use mathlib.Core.Path.{◌≡◌, refl, sym, ap, ◌∙◌, subst}
use mathlib.Core.Bool.{Bool, true, not, ◌||◌}
use mathlib.Core.List.Memᴰ
use mathlib.Core.List.{[], ◌∷◌, Memᴰ}
use mathlib.Core.Logic.{⊎_elim}
use borrow.Author.Tests.{not-true}
use Rattle.message.specs.Message.{RQST, meaning_from}
use Rattle.message.proofs.QuestionLaws.{or_either}
use Rattle.end.proofs.Tools.{clash}
use Rattle.guarantees.specs.Arrivals.{is_about}
use Rattle.recovery.specs.Recovery.{Side, time_of, Recovery, lookback, reply_time}
use Rattle.recovery.specs.Whole.{RepairsReach, RepairsShared}
use Rattle.recovery.specs.Several.{held_by, EachSupposed, RequestsReachSome, RequestsSharedSome, WholeAmong, AllPassed}
use Rattle.recovery_cases.specs.Needs.{ends_suppose}
use Rattle.recovery_cases.proofs.Log.{every, some, Logs, Test, logs, always_behind}
use Rattle.recovery_cases.proofs.Tests.{Shows, holds_if, outs, arrives, hears, hears-about, passes, is_asking, repairs_reach}
use Rattle.recovery_cases.proofs.Tests.{repairs_reach_shows, repairs_shared, repairs_shared_shows}
use Rattle.recovery_cases.proofs.Backed.{all_true_lem, all_hold, ends_tests, SideFits, ends_backed, holder-passed, supposed_of}

-- what holds of both of two holds of each of them
both_of : (P : Side → Type 0) (x y : Side) → P x → P y → (g : Side) → Memᴰ g (x ∷ y ∷ []) → P g
both_of P x y px py g mem = ⊎_elim (λ i. subst P (sym i) px)
    (λ more. ⊎_elim (λ i. subst P (sym i) py) (λ none_left. absurd (Memᴰ.not-nil none_left)) (Memᴰ.cases_cons more)) (Memᴰ.cases_cons mem)

module _ (m : Recovery) (g : Side) (fa : SideFits m.asker) (fh : SideFits m.holder) (fg : SideFits g) where
  abbrev a₀ : Logs
  a₀ = logs m.asker

  abbrev h₀ : Logs
  h₀ = logs m.holder

  abbrev g₀ : Logs
  g₀ = logs g

  pub each-supposed : (t1 : ℕ) → all_true_lem (ends_tests m t1 a₀ h₀) ≡ true → all_true_lem (ends_tests (held_by m g) t1 a₀ g₀) ≡ true
      → lookback (held_by m g) ≤ lookback m → reply_time (held_by m g) ≤ reply_time m → EachSupposed m (g ∷ []) t1
  each-supposed t1 one two less fewer =
      let s = supposed_of m t1 (all_hold (ends_suppose m t1) (ends_tests m t1 a₀ h₀) (ends_backed m fa fh t1) one) in
      let z = supposed_of (held_by m g) t1 (all_hold (ends_suppose (held_by m g) t1) (ends_tests (held_by m g) t1 a₀ g₀) (ends_backed (held_by m g) fa fg t1) two) in
      record {
        supposed = s;
        each = both_of _ m.holder g s z;
        lookback-most = both_of (λ (y : Side). lookback (held_by m y) ≤ lookback m) m.holder g (omega arith) less;
        reply_most = both_of (λ (y : Side). reply_time (held_by m y) ≤ reply_time m) m.holder g (omega arith) fewer;
      }

  pub all-passed : (t : ℕ) → some (passes m.holder t) h₀.behind ≡ true → some (passes g t) g₀.behind ≡ true → AllPassed m (g ∷ []) t
  all-passed t one two = both_of _ m.holder g (holder-passed m fa fh t one) (holder-passed (held_by m g) fa fg t two)

  -- one of the two takes a request that the asker puts out; it takes none of others
  abbrev pub reaches_some : (ℕ → Bool) → Logs → Logs → Test
  reaches_some when h k z = outs (λ b. not (is_about RQST (meaning_from b) m.source m.number) || (not (when (time_of m.asker z.call))
      || (hears m m.holder h b (time_of m.asker z.call) || hears m g k b (time_of m.asker z.call)))) z.result.outcome

  abbrev pub none_asks : Test
  none_asks z = arrives (λ b. not (is_asking m (λ t. true) (meaning_from b))) z.call.action

  module _ (when : ℕ → Bool) (on : ℕ → Type 0) (says : (t : ℕ) → on t → when t ≡ true) where
    reaches_some_shows : Shows (reaches_some when h₀ g₀) (RequestsReachSome m (g ∷ []) on)
    reaches_some_shows e c p bytes out about now = ⊎_elim
        (λ h. (m.holder, Memᴰ.head refl, hears-about m m.holder fh.earlier fh.later bytes (time_of m.asker c) h))
        (λ h. (g, Memᴰ.tail (Memᴰ.head refl), hears-about m g fg.earlier fg.later bytes (time_of m.asker c) h))
        (or_either _ _ (holds_if _ _ (holds_if _ _ (sym (ap (outs _) out) ∙ p) about) (says (time_of m.asker c) now)))

    none_asks_shows : Shows none_asks (RequestsSharedSome m (g ∷ []) on)
    none_asks_shows e c p tk q found quiet bytes is tells = clash (sym tells ∙ not-true _ (sym (ap (arrives _) is) ∙ p))

    pub whole-among : every (reaches_some when h₀ g₀) a₀.behind ≡ true → every none_asks a₀.behind ≡ true
        → every (repairs_reach m when a₀) h₀.behind ≡ true → every (repairs_shared m when a₀) h₀.behind ≡ true
        → every (repairs_reach (held_by m g) when a₀) g₀.behind ≡ true → every (repairs_shared (held_by m g) when a₀) g₀.behind ≡ true
        → WholeAmong m (g ∷ []) on
    whole-among reach bare one shared-one two shared-two = record {
      requests = always_behind m.asker fa.earlier fa.later (RequestsReachSome m (g ∷ []) on) (reaches_some when h₀ g₀) reaches_some_shows reach;
      requests_shared_lem = always_behind m.asker fa.earlier fa.later (RequestsSharedSome m (g ∷ []) on) none_asks none_asks_shows bare;
      repairs = both_of _ m.holder g
          (always_behind m.holder fh.earlier fh.later (RepairsReach m on) (repairs_reach m when a₀)
          (repairs_reach_shows m when on says fa.earlier fa.later) one)
          (always_behind g fg.earlier fg.later (RepairsReach (held_by m g) on) (repairs_reach (held_by m g) when a₀)
          (repairs_reach_shows (held_by m g) when on says fa.earlier fa.later) two);
      repairs_shared_lem = both_of _ m.holder g
          (always_behind m.holder fh.earlier fh.later (RepairsShared m on) (repairs_shared m when a₀)
          (repairs_shared_shows m when on says fa.earlier fa.later) shared-one)
          (always_behind g fg.earlier fg.later (RepairsShared (held_by m g) on) (repairs_shared (held_by m g) when a₀)
          (repairs_shared_shows (held_by m g) when on says fa.earlier fa.later) shared-two);
    }
