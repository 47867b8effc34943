-- The runs of specs/Turn.antt. What is supposed of them is computed, by a test for each of its definitions; what is concluded is the theorem's.
use Prim.Native.Nat.{ℕ, zero, suc, ◌+◌, ◌^◌, ◌≤◌, ◌<◌}
use native.Mathlib.Nat.{pow-le-pow_right}
use native.Mathlib.Omega.{arith}
use mathlib.Core.Path.{◌≡◌, refl, sym, ap, ◌∙◌}
use mathlib.Core.Bool.{Bool, true, not, ◌&&◌}
use mathlib.Core.List.{List, [], ◌∷◌, ◌++◌}
use mathlib.Core.Logic.{⊎_elim}
use mathlib.Core.Option.{Option, none, some}
use lib.ListN.{get_or, replicate}
use lib.Dec.{eqb, leb, ltb}
use borrow.Author.Tests.{not-true, eq-eqb, leb-true, ltb-true, le-leb}
use Rattle.message.specs.Entry.{as_host}
use Rattle.message.proofs.QuestionLaws.{and_both}
use Rattle.end.specs.declared.Request.{Request}
use Rattle.end.specs.declared.End.{End}
use Rattle.end.specs.State.{distance_to}
use Rattle.end.specs.Records.{is_held}
use Rattle.end.specs.Round.{Drawn, most_draw}
use Rattle.end.specs.Opening.{house_params}
use Rattle.end.proofs.Tools.{clash}
use Rattle.guarantees.specs.Calls.{OneCall, after, after_all}
use Rattle.guarantees.specs.Records.{slot_of, request_of, clearing, retired}
use Rattle.guarantees.specs.BackOff.{DrawsFit}
use Rattle.guarantees.specs.Turn.{Claim, Always, Sometime, round_of, SetsRound, NeitherLeavesNorCrashes, DoesNotGet, DoesNotRetire, NotAfterDue, NotFarther, Supposed, turn_by, SetBy}
use Rattle.guarantees.proofs.Turn.{turn_comes}
use Rattle.cases.specs.Turn.{before, gap, fired, repaired, FourRounds, past, left, gotten, passed_over, fired_late, farther, told, nearer, suppositions, AllBut, Needed, EachIsNeeded}
use Rattle.cases.proofs.Opened.{opened}

-- ---- a test for each thing that is supposed of a call

abbrev Test : Type 0
Test = End → OneCall → Bool

abbrev passes : Test → End → List OneCall → Bool
passes b e [] = true
passes b e (c ∷ cs) = b e c && passes b (after e c) cs

always : (P : Claim) (b : Test) → ((e : End) (c : OneCall) → b e c ≡ true → P e c) → (e : End) (cs : List OneCall) → passes b e cs ≡ true → Always P e cs
always P b means e [] p = tt
always P b means e (c ∷ cs) p =
    let both = and_both (b e c) (passes b (after e c) cs) p in
    (means e c both.0, always P b means (after e c) cs both.1)

-- not later than the due time of the request that waits, if any
abbrev by_due : ℕ → Option Request → Bool
by_due clock none = true
by_due clock (some q) = leb clock q.due

by-due : (clock : ℕ) (x : Option Request) → by_due clock x ≡ true → (q : Request) → x ≡ some q → clock ≤ q.due
by-due clock x p q is = leb-true clock q.due (sym (ap (by_due clock) is) ∙ p)

module _ (e : End) (cs : List OneCall) where
  stays : passes (λ x c. not (clearing c.action)) e cs ≡ true → Always NeitherLeavesNorCrashes e cs
  stays = always NeitherLeavesNorCrashes _ (λ x c p tk. not-true _ p) e cs

  lacks : passes (λ x c. not (is_held (slot_of (after x c) 0 1))) e cs ≡ true → Always (DoesNotGet 0 1) e cs
  lacks = always (DoesNotGet 0 1) _ (λ x c p. not-true _ p) e cs

  keeps : passes (λ x c. not (retired x (after x c) 0 1)) e cs ≡ true → Always (DoesNotRetire 0 1) e cs
  keeps = always (DoesNotRetire 0 1) _ (λ x c p. not-true _ p) e cs

  fires : passes (λ x c. by_due c.clock (request_of x 0 1)) e cs ≡ true → Always (NotAfterDue 0 1) e cs
  fires = always (NotAfterDue 0 1) _ (λ x c p tk. by-due c.clock (request_of x 0 1) p) e cs

  near : (d : ℕ) → passes (λ x c. leb (distance_to x (as_host 0)) d) e cs ≡ true → Always (NotFarther d 0) e cs
  near d = always (NotFarther d 0) _ (λ x c p tk. leb-true (distance_to x (as_host 0)) d p) e cs

-- a call that is no later than the bound and leaves round k; where no call is one, none has set it
abbrev reaches : ℕ → ℕ → Test
reaches bound k e c = eqb (round_of (after e c) 0 1) k && leb c.clock bound

not_set : (bound k : ℕ) (e : End) (cs : List OneCall) → passes (λ x c. not (reaches bound k x c)) e cs ≡ true → Sometime (SetBy bound k 0 1) e cs → ⊥
not_set bound k e [] p once = once
not_set bound k e (c ∷ cs) p once =
    let both = and_both (not (reaches bound k e c)) _ p in
    ⊎_elim (λ here. clash (sym (reached here.0.1 here.1) ∙ not-true _ both.0)) (λ later. not_set bound k (after e c) cs both.1 later) once
  where
    reached : round_of (after e c) 0 1 ≡ k → c.clock ≤ bound → reaches bound k e c ≡ true
    reached is by = rw (eq-eqb (round_of (after e c) 0 1) k is, le-leb c.clock bound by) refl

-- ---- the runs

drawn : Drawn (replicate 64 most_draw)
drawn = most 64
  where
    most : (k i : ℕ) → get_or (replicate k most_draw) i 0 ≤ most_draw
    most zero i = omega arith
    most (suc k) zero = omega arith
    most (suc k) (suc i) = most k i

four-supposed : Supposed 0 1 40 before gap fired repaired
unfolding opened
four-supposed = record {
  stays = stays (after before gap) fired refl;
  lacks = lacks (after before gap) fired refl;
  keeps = keeps (after before gap) fired refl;
  fires = fires (after before gap) (fired ++ (repaired ∷ [])) refl;
  near = near before (gap ∷ fired) 40 refl;
}

four-set : (k : ℕ) → 1 ≤ k → k ≤ 3 → Sometime (SetBy (turn_by house_params 40 32 k) (k + 1) 0 1) (after before gap) fired
unfolding opened
four-set k least most =
    let fit : DrawsFit (gap ∷ fired) = (drawn, (drawn, (drawn, (drawn, tt)))) in
    let power : 2 ^ k ≤ 2 ^ 3 = pow-le-pow_right {n = 2} (omega arith) {i = k} {j = 3} most in
    let passed : turn_by house_params 40 32 k < 4793 = omega arith in
    turn_comes before gap fired repaired 0 1 40 k (omega arith) fit (refl, refl) four-supposed least (omega arith) passed

pub four-rounds : FourRounds
unfolding opened
four-rounds = record {
  sets = (refl, refl);
  supposed = four-supposed;
  second = four-set 1 (omega arith) (omega arith);
  third = four-set 2 (omega arith) (omega arith);
  fourth = four-set 3 (omega arith) (omega arith);
  computed = refl;
}

-- ---- runs in which one thing fails

-- what is computed of each: the call sets round 1, the clock has passed the bound, and no call by then has left round k+1
record Run (d k : ℕ) (c : OneCall) (cs : List OneCall) (next : OneCall) : Type 0 where
  fit : DrawsFit (c ∷ cs)
  least : 1 ≤ k
  most : k ≤ 15
  sets : SetsRound 1 0 1 before c
  late : ltb (turn_by before.params d c.clock k) (after_all (after before c) (cs ++ (next ∷ []))).clock ≡ true
  unset : passes (λ x y. not (reaches (turn_by before.params d c.clock k) (k + 1) x y)) (after before c) cs ≡ true

module _ (d k : ℕ) (c : OneCall) (cs : List OneCall) (next : OneCall) (r : Run d k c cs next) where
  -- so not all that is supposed holds, by the theorem
  refuted : Supposed 0 1 d before c cs next → ⊥
  refuted s = not_set _ (k + 1) (after before c) cs r.unset
      (turn_comes before c cs next 0 1 d k (omega arith) r.fit r.sets s r.least r.most (ltb-true _ _ r.late))

  needed : (i : ℕ) → AllBut i (suppositions d before c cs next) → Needed i d k before c cs next
  needed i alone = record { sets = r.sets; alone = alone; passed = ltb-true _ _ r.late; not_set = not_set _ (k + 1) (after before c) cs r.unset }

left_run : Run 40 1 gap left (past 713)
unfolding opened
left_run = record { fit = (drawn, (drawn, tt)); least = omega arith; most = omega arith; sets = (refl, refl); late = refl; unset = refl }

left_needed : Needed 0 40 1 before gap left (past 713)
unfolding opened
left_needed =
    let e = after before gap in
    let l = lacks e left refl in
    let k = keeps e left refl in
    let f = fires e (left ++ (past 713 ∷ [])) refl in
    let n = near before (gap ∷ left) 40 refl in
    needed 40 1 gap left (past 713) left_run 0
    ((λ x. refuted 40 1 gap left (past 713) left_run (record { stays = x; lacks = l; keeps = k; fires = f; near = n })), (l, (k, (f, (n, tt)))))

gotten_run : Run 40 1 gap gotten (past 713)
unfolding opened
gotten_run = record { fit = (drawn, (drawn, tt)); least = omega arith; most = omega arith; sets = (refl, refl); late = refl; unset = refl }

gotten_needed : Needed 1 40 1 before gap gotten (past 713)
unfolding opened
gotten_needed =
    let e = after before gap in
    let s = stays e gotten refl in
    let k = keeps e gotten refl in
    let f = fires e (gotten ++ (past 713 ∷ [])) refl in
    let n = near before (gap ∷ gotten) 40 refl in
    needed 40 1 gap gotten (past 713) gotten_run 1
    (s, ((λ x. refuted 40 1 gap gotten (past 713) gotten_run (record { stays = s; lacks = x; keeps = k; fires = f; near = n })), (k, (f, (n, tt)))))

passed_over_run : Run 40 1 gap passed_over (past 713)
unfolding opened
passed_over_run = record { fit = (drawn, (drawn, tt)); least = omega arith; most = omega arith; sets = (refl, refl); late = refl; unset = refl }

passed_over_needed : Needed 2 40 1 before gap passed_over (past 713)
unfolding opened
passed_over_needed =
    let e = after before gap in
    let s = stays e passed_over refl in
    let l = lacks e passed_over refl in
    let f = fires e (passed_over ++ (past 713 ∷ [])) refl in
    let n = near before (gap ∷ passed_over) 40 refl in
    needed 40 1 gap passed_over (past 713) passed_over_run 2
    (s, (l, ((λ x. refuted 40 1 gap passed_over (past 713) passed_over_run (record { stays = s; lacks = l; keeps = x; fires = f; near = n })), (f, (n, tt)))))

fired_late_run : Run 40 1 gap (fired_late ∷ []) (past 10001)
unfolding opened
fired_late_run = record { fit = (drawn, (drawn, tt)); least = omega arith; most = omega arith; sets = (refl, refl); late = refl; unset = refl }

fired_late_needed : Needed 3 40 1 before gap (fired_late ∷ []) (past 10001)
unfolding opened
fired_late_needed =
    let e = after before gap in
    let cs = fired_late ∷ [] in
    let s = stays e cs refl in
    let l = lacks e cs refl in
    let k = keeps e cs refl in
    let n = near before (gap ∷ cs) 40 refl in
    needed 40 1 gap cs (past 10001) fired_late_run 3
    (s, (l, (k, ((λ x. refuted 40 1 gap cs (past 10001) fired_late_run (record { stays = s; lacks = l; keeps = k; fires = x; near = n })), (n, tt)))))

late_at_last_run : Run 40 1 gap [] fired_late
unfolding opened
late_at_last_run = record { fit = (drawn, tt); least = omega arith; most = omega arith; sets = (refl, refl); late = refl; unset = refl }

late_at_last_needed : Needed 3 40 1 before gap [] fired_late
unfolding opened
late_at_last_needed =
    let n = near before (gap ∷ []) 40 refl in
    needed 40 1 gap [] fired_late late_at_last_run 3
    (tt, (tt, (tt, ((λ x. refuted 40 1 gap [] fired_late late_at_last_run (record { stays = tt; lacks = tt; keeps = tt; fires = x; near = n })), (n, tt)))))

farther_run : Run 40 2 gap farther (past 2073)
unfolding opened
farther_run = record { fit = (drawn, (drawn, (drawn, tt))); least = omega arith; most = omega arith; sets = (refl, refl); late = refl; unset = refl }

farther_needed : Needed 4 40 2 before gap farther (past 2073)
unfolding opened
farther_needed =
    let e = after before gap in
    let s = stays e farther refl in
    let l = lacks e farther refl in
    let k = keeps e farther refl in
    let f = fires e (farther ++ (past 2073 ∷ [])) refl in
    needed 40 2 gap farther (past 2073) farther_run 4
    (s, (l, (k, (f, ((λ x. refuted 40 2 gap farther (past 2073) farther_run (record { stays = s; lacks = l; keeps = k; fires = f; near = x })), tt)))))

nearer_run : Run 1 1 told nearer (past 50)
unfolding opened
nearer_run = record { fit = (drawn, (drawn, tt)); least = omega arith; most = omega arith; sets = (refl, refl); late = refl; unset = refl }

nearer_needed : Needed 4 1 1 before told nearer (past 50)
unfolding opened
nearer_needed =
    let e = after before told in
    let s = stays e nearer refl in
    let l = lacks e nearer refl in
    let k = keeps e nearer refl in
    let f = fires e (nearer ++ (past 50 ∷ [])) refl in
    needed 1 1 told nearer (past 50) nearer_run 4
    (s, (l, (k, (f, ((λ x. refuted 1 1 told nearer (past 50) nearer_run (record { stays = s; lacks = l; keeps = k; fires = f; near = x })), tt)))))

pub each_is_needed : EachIsNeeded
unfolding opened
each_is_needed = record {
  stays = left_needed;
  lacks = gotten_needed;
  keeps = passed_over_needed;
  fires = fired_late_needed;
  fires_at_last = late_at_last_needed;
  near = farther_needed;
  near_at_first = nearer_needed;
  near-after = near (after before told) nearer 1 refl;
}
