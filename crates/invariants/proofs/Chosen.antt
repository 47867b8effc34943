-- Where Fire chooses an express wait, one stands under the chosen name.
use mathlib.Core.Path.{◌≡◌, refl, ap}
use Prim.Native.Nat.{ℕ, zero, suc, ◌+◌}
use mathlib.Core.Bool.{Bool, true, false}
use lib.ListN.{get_or}
use lib.Dec.{leb, eqb}
use Rattle.message.specs.declared.Name.{Name}
use Rattle.message.specs.Entry.{as_host, as_number}
use Rattle.end.specs.declared.Request.{Request}
use Rattle.end.specs.Parts.{Express, Unset, Soon, No, Due, Earliest, NoWait, First}
use Rattle.end.specs.declared.Slot.{Slot}
use Rattle.end.specs.declared.Slot.TheVariants.{Empty, Held, Waiting}
use Rattle.end.specs.declared.Wait.{Wait}
use Rattle.end.specs.declared.End.{End}
use Rattle.end.specs.State.{no_source}
use Rattle.end.specs.Records.{start, width, express_in}
use Rattle.end.specs.Fire.{fold_up, express_rank, request_rank, reply_rank, before, earlier, due_at, express_at, offered, earliest}
use Rattle.end.proofs.Tools.{by_cond, clash'}
use Rattle.invariants.specs.Outputs.{kept_under}

abbrev pub is_soon : Express → Bool
is_soon Unset = false
is_soon (Soon due) = true

-- an express wait stands under a name
abbrev pub Expressing : End → Name → Type 0
Expressing e name = is_soon (express_in (kept_under e name).slot) ≡ true

-- it does under the chosen one, if the rank is that of an express wait
abbrev pub Chosen : End → Earliest → Type 0
Chosen e NoWait = Unit {0}
Chosen e (First w) = eqb w.rank express_rank ≡ true → Expressing e w.name

module _ (e : End) where
  earlier_chosen : (best : Earliest) (w : Wait) → Chosen e best → Chosen e (First w) → Chosen e (earlier best w)
  earlier_chosen NoWait w c d = d
  earlier_chosen (First v) w c d = by_cond (Chosen e) (before w v) (λ _. d) (λ _. c)

  module _ (name : Name) where
    due_chosen : (rank due : ℕ) (best : Earliest) → Chosen e best → (eqb rank express_rank ≡ true → Expressing e name)
        → Chosen e (due_at name e.clock rank due best)
    due_chosen rank due best c d = by_cond (Chosen e) (leb due e.clock) (λ _. earlier_chosen best _ c d) (λ _. c)

    express_chosen : (q : Request) (x : Express) (best : Earliest) → (kept_under e name).slot ≡ Waiting q x → Chosen e best
        → Chosen e (express_at name e.clock x best)
    express_chosen q Unset best p c = c
    express_chosen q (Soon due) best p c = due_chosen express_rank due best c (λ _. ap (λ (x : Slot). is_soon (express_in x)) p)

    offered_chosen : (x : Slot) (best : Earliest) → (kept_under e name).slot ≡ x → Chosen e best → Chosen e (offered name e.clock x best)
    offered_chosen Empty best p c = c
    offered_chosen (Waiting q x) best p c = due_chosen request_rank q.due (express_at name e.clock x best) (express_chosen q x best p c) (λ k. clash' k)
    offered_chosen (Held No) best p c = c
    offered_chosen (Held (Due due requester)) best p c = due_chosen reply_rank due best c (λ k. clash' k)

  fold_chosen : (f : ℕ → Earliest → Earliest) (best : Earliest) (k : ℕ) → ((i : ℕ) (x : Earliest) → Chosen e x → Chosen e (f i x)) → Chosen e best
      → Chosen e (fold_up f best k)
  unfolding fold_up
  fold_chosen f best zero g c = c
  fold_chosen f best (suc k) g c = g k (fold_up f best k) (fold_chosen f best k g c)

  pub earliest_chosen : (k : ℕ) → Chosen e (earliest e k)
  unfolding earliest
  earliest_chosen k =
      fold_chosen _ NoWait k
      (λ h x c. let s = get_or e.sources h no_source in
      fold_chosen _ x (width s.span) (λ i y d. offered_chosen (record { source = as_host h; number = as_number (start s.span + i) }) _ y refl d) c)
      tt
