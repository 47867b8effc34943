-- The lists of what the statements suppose (specs/Needs.antt), each with a list of tests that computes; and that all of a list suffices for its claim, by
-- the theorem.
use Prim.Native.Nat.{ℕ, zero, suc, ◌<◌}
use native.Mathlib.Omega.{arith}
use mathlib.Core.Path.{◌≡◌, refl}
use mathlib.Core.Bool.{Bool, true, false, not, ◌&&◌}
use mathlib.Core.List.{List, [], ◌∷◌, ◌++◌}
use lib.ListN.{length}
use lib.Dec.{ltb}
use borrow.Author.Tests.{not-true, ltb-true}
use Rattle.message.specs.Entry.{as_host}
use Rattle.message.specs.Question.{same_host}
use Rattle.message.proofs.QuestionLaws.{and_both}
use Rattle.end.specs.declared.End.{End}
use Rattle.end.specs.State.{source_at}
use Rattle.end.specs.Records.{is_closed, is_held}
use Rattle.guarantees.specs.Records.{slot_of}
use Rattle.guarantees.specs.Turn.{Taken, NeitherLeavesNorCrashes}
use Rattle.cases.specs.Turn.{All, AllBut}
use Rattle.recovery.specs.Recovery.{Side, opened, time_of, Recovery, UpTo, GotBy, Passed, RecoversBy}
use Rattle.recovery.specs.Supposed.{AsksInTime, RepliesInTime, Keeps, Reaches, Settled, Supposed}
use Rattle.recovery.specs.Whole.{RequestsReach, RequestsShared, RepairsReach, RepairsShared, Whole}
use Rattle.recovery_cases.specs.Needs.{ends_suppose, network_supposes, Statement, supposes, claims, Met, Needed}
use Rattle.recovery_cases.proofs.Log.{every, some, fit, Fit, fits, Logs, logs, at-start, always_before, always_behind, sometime_behind, never-behind}
use Rattle.recovery_cases.proofs.Tests.{stays, stays-shows, up_to, up_to_shows, passes, passes-shows, keeps, keeps-shows, asks_in_time}
use Rattle.recovery_cases.proofs.Tests.{asks_in_time_shows, replies_in_time, replies_in_time_shows, reaches, reaches-shows, settled}
use Rattle.recovery_cases.proofs.Tests.{settled-shows, got_by, shows_got_by, requests_reach, requests_reach_shows, requests_shared}
use Rattle.recovery_cases.proofs.Tests.{requests_shared_shows, repairs_reach, repairs_reach_shows, repairs_shared, repairs_shared_shows}

-- all of a list, from the things one by one
pub chain3 : {A B C : Type 0} → A → B → C → All (A ∷ B ∷ C ∷ [])
chain3 a b c = (a, (b, (c, tt)))

pub chain4 : {A B C D : Type 0} → A → B → C → D → All (A ∷ B ∷ C ∷ D ∷ [])
chain4 a b c d = (a, (b, (c, (d, tt))))

pub chain6 : {A B C D E F : Type 0} → A → B → C → D → E → F → All (A ∷ B ∷ C ∷ D ∷ E ∷ F ∷ [])
chain6 a b c d e f = (a, (b, (c, (d, (e, (f, tt))))))

pub chain7 : {A B C D E F G : Type 0} → A → B → C → D → E → F → G → All (A ∷ B ∷ C ∷ D ∷ E ∷ F ∷ G ∷ [])
chain7 a b c d e f g = (a, (b, (c, (d, (e, (f, (g, tt)))))))

pub chain8 : {A B C D E F G H : Type 0} → A → B → C → D → E → F → G → H → All (A ∷ B ∷ C ∷ D ∷ E ∷ F ∷ G ∷ H ∷ [])
chain8 a b c d e f g h = (a, (b, (c, (d, (e, (f, (g, (h, tt))))))))

pub chain18 : {A B C D E F G H I J K L M N O P Q R : Type 0} → A → B → C → D → E → F → G → H → I → J → K → L → M → N → O → P → Q → R
    → All (A ∷ B ∷ C ∷ D ∷ E ∷ F ∷ G ∷ H ∷ I ∷ J ∷ K ∷ L ∷ M ∷ N ∷ O ∷ P ∷ Q ∷ R ∷ [])
chain18 a b c d e f g h i j k l m n o p q r = (a, (b, (c, (d, (e, (f, (g, (h, (i, (j, (k, (l, (m, (n, (o, (p, (q, (r, tt))))))))))))))))))

-- ---- a list of facts with a list of tests
abbrev pub Backed : List (Type 0) → List Bool → Type 0
Backed [] bs = Unit {0}
Backed (x ∷ xs) [] = ⊥
Backed (x ∷ xs) (b ∷ bs) = (b ≡ true → x) × Backed xs bs

and_then : (xs ys : List (Type 0)) (bs ds : List Bool) → length xs ≡ length bs → Backed xs bs → Backed ys ds → Backed (xs ++ ys) (bs ++ ds)
and_then [] ys [] ds n k l = l
and_then [] ys (b ∷ bs) ds n k l = absurd (let z : ◌≡◌ {A = ℕ} 0 (suc (length bs)) = n in omega arith)
and_then (x ∷ xs) ys [] ds n k l = absurd k
and_then (x ∷ xs) ys (b ∷ bs) ds n k l = (k.0, and_then xs ys bs ds (let z : suc (length xs) ≡ suc (length bs) = n in omega arith) k.1 l)

abbrev pub all_true_lem : List Bool → Bool
all_true_lem [] = true
all_true_lem (b ∷ bs) = b && all_true_lem bs

abbrev pub all_but_lem : ℕ → List Bool → Bool
all_but_lem i [] = true
all_but_lem zero (b ∷ bs) = all_true_lem bs
all_but_lem (suc i) (b ∷ bs) = b && all_but_lem i bs

pub all_hold : (xs : List (Type 0)) (bs : List Bool) → Backed xs bs → all_true_lem bs ≡ true → All xs
all_hold [] bs k h = tt
all_hold (x ∷ xs) [] k h = absurd k
all_hold (x ∷ xs) (b ∷ bs) k h = let both = and_both b (all_true_lem bs) h in (k.0 both.0, all_hold xs bs k.1 both.1)

-- all but one hold, and not all do: so that one fails
pub all_but : (i : ℕ) (xs : List (Type 0)) (bs : List Bool) → Backed xs bs → all_but_lem i bs ≡ true → (All xs → ⊥) → AllBut i xs
all_but i [] bs k h fails = tt
all_but i (x ∷ xs) [] k h fails = absurd k
all_but zero (x ∷ xs) (b ∷ bs) k h fails = let rest = all_hold xs bs k.1 h in (λ y. fails (y, rest), rest)
all_but (suc i) (x ∷ xs) (b ∷ bs) k h fails =
    let both = and_both b (all_but_lem i bs) h in
    let here = k.0 both.0 in
    (here, all_but i xs bs k.1 both.1 (λ rest. fails (here, rest)))

-- the three parts of a list of which all hold
first_part : (xs ys : List (Type 0)) → All (xs ++ ys) → All xs × All ys
first_part [] ys a = (tt, a)
first_part (x ∷ xs) ys a = let rest = first_part xs ys a.1 in ((a.0, rest.0), rest.1)

pub three-parts : (xs ys zs : List (Type 0)) → All (xs ++ (ys ++ zs)) → All xs × All ys × All zs
three-parts xs ys zs a =
    let one = first_part xs (ys ++ zs) a in
    let two = first_part ys zs one.1 in
    (one.0, two.0, two.1)

-- and a list of three parts with its tests
pub three_backed : (xs ys zs : List (Type 0)) (bs ds es : List Bool) → length xs ≡ length bs → length ys ≡ length ds → Backed xs bs → Backed ys ds
    → Backed zs es
    → Backed (xs ++ (ys ++ zs)) (bs ++ (ds ++ es))
three_backed xs ys zs bs ds es n o k l p = and_then xs (ys ++ zs) bs (ds ++ es) n k (and_then ys zs ds es o l p)

-- ---- the two ends
abbrev pub ends_tests : Recovery → ℕ → Logs → Logs → List Bool
ends_tests m t1 a h =
    ltb m.source 8
    ∷ not (same_host (opened m.asker).host (opened m.holder).host)
    ∷ not (same_host (as_host m.source) (opened m.asker).host)
    ∷ every (up_to m.asker t1) a.before
    ∷ every (up_to m.holder t1) h.before
    ∷ not (is_closed (source_at a.start (as_host m.source)).span)
    ∷ not (is_held (slot_of a.start m.source m.number))
    ∷ is_held (slot_of h.start m.source m.number)
    ∷ true
    ∷ true
    ∷ every stays a.behind
    ∷ every stays h.behind
    ∷ every (keeps m) a.behind
    ∷ every (keeps m) h.behind
    ∷ every (asks_in_time m) a.behind
    ∷ every (replies_in_time m) h.behind
    ∷ settled m h.start
    ∷ every (reaches m) h.behind
    ∷ []

-- ---- the network, by a test of the times at which nothing is lost
abbrev pub network_tests : Recovery → (ℕ → Bool) → Logs → Logs → List Bool
network_tests m when a h =
    every (requests_reach m when h) a.behind
    ∷ every (requests_shared m when h) a.behind
    ∷ every (repairs_reach m when a) h.behind
    ∷ every (repairs_shared m when a) h.behind
    ∷ []

-- the calls of a side have arguments of their declared types
pub record SideFits (x : Side) : Type 0 where
  pub earlier : Fit x.earlier
  pub later : Fit x.later

abbrev pub side_fit : Side → Bool
side_fit x = fit x.earlier && fit x.later

pub side-fits : (x : Side) → side_fit x ≡ true → SideFits x
side-fits x h = let both = and_both (fit x.earlier) (fit x.later) h in record { earlier = fits x.earlier both.0; later = fits x.later both.1 }

module _ (m : Recovery) (fa : SideFits m.asker) (fh : SideFits m.holder) where
  abbrev asker : Side
  asker = m.asker

  abbrev holder : Side
  holder = m.holder

  pub ends_backed : (t1 : ℕ) → Backed (ends_suppose m t1) (ends_tests m t1 (logs asker) (logs holder))
  ends_backed t1 =
      let ea = fa.earlier in
      let la = fa.later in
      let eh = fh.earlier in
      let lh = fh.later in
      chain18
      (ltb-true m.source 8)
      (not-true _)
      (not-true _)
      (always_before asker ea la (UpTo asker t1) (up_to asker t1) (up_to_shows asker t1))
      (always_before holder eh lh (UpTo holder t1) (up_to holder t1) (up_to_shows holder t1))
      (λ h. at-start asker ea la (λ (e : End). is_closed (source_at e (as_host m.source)).span ≡ false) (not-true _ h))
      (λ h. at-start asker ea la (λ (e : End). is_held (slot_of e m.source m.number) ≡ false) (not-true _ h))
      (λ h. at-start holder eh lh (λ (e : End). is_held (slot_of e m.source m.number) ≡ true) h)
      (λ _. la.0)
      (λ _. lh.0)
      (always_behind asker ea la NeitherLeavesNorCrashes stays stays-shows)
      (always_behind holder eh lh NeitherLeavesNorCrashes stays stays-shows)
      (always_behind asker ea la (Keeps m) (keeps m) (keeps-shows m))
      (always_behind holder eh lh (Keeps m) (keeps m) (keeps-shows m))
      (always_behind asker ea la (AsksInTime m) (asks_in_time m) (asks_in_time_shows m))
      (always_behind holder eh lh (RepliesInTime m) (replies_in_time m) (replies_in_time_shows m))
      (λ h. at-start holder eh lh (λ (e : End). Settled m e) (settled-shows m (logs holder).start h))
      (always_behind holder eh lh (Reaches m) (reaches m) (reaches-shows m))

  module _ (on : ℕ → Type 0) (when : ℕ → Bool) (says : (t : ℕ) → on t → when t ≡ true) where
    pub network_backed : Backed (network_supposes m on) (network_tests m when (logs asker) (logs holder))
    network_backed =
        let ea = fa.earlier in
        let la = fa.later in
        let eh = fh.earlier in
        let lh = fh.later in
        chain4
        (always_behind asker ea la (RequestsReach m on) (requests_reach m when (logs holder)) (requests_reach_shows m when on says eh lh))
        (always_behind asker ea la (RequestsShared m on) (requests_shared m when (logs holder)) (requests_shared_shows m when on says eh lh))
        (always_behind holder eh lh (RepairsReach m on) (repairs_reach m when (logs asker)) (repairs_reach_shows m when on says ea la))
        (always_behind holder eh lh (RepairsShared m on) (repairs_shared m when (logs asker)) (repairs_shared_shows m when on says ea la))

  -- ---- a side has passed a time; the cue is not got by a time
  pub asker-passed : (t : ℕ) → some (passes asker t) (logs asker).behind ≡ true → Passed asker t
  asker-passed t = sometime_behind asker fa.earlier fa.later (λ e c. Taken e c × (t < time_of asker c)) (passes asker t) (passes-shows asker t)

  pub holder-passed : (t : ℕ) → some (passes holder t) (logs holder).behind ≡ true → Passed holder t
  holder-passed t = sometime_behind holder fh.earlier fh.later (λ e c. Taken e c × (t < time_of holder c)) (passes holder t) (passes-shows holder t)

  pub not-got : (t : ℕ) → every (λ x. not (got_by m t x)) (logs asker).behind ≡ true → RecoversBy m t → ⊥
  not-got t = never-behind asker fa.earlier fa.later (GotBy m t) (got_by m t) (shows_got_by m t)

-- ---- the records of the crate recovery
pub supposed_of : (m : Recovery) (t1 : ℕ) → All (ends_suppose m t1) → Supposed m t1
supposed_of m t1 (s, (two, (other, (ab, (hb, (open_there, (lacks, (holds, (ad, (hd, (az, (hs, (ak, (hk, (af, (hf, (st, (re, _)))))))))))))))))) =
    record {
      begins = record {
        source = s;
        two = two;
        other = other;
        asker-by = ab;
        holder-by = hb;
        open_there = open_there;
        lacks = lacks;
        holds = holds;
      };
      asker-drawn = ad;
      holder-drawn = hd;
      asker-stays = az;
      holder-stays = hs;
      asker-keeps = ak;
      holder-keeps = hk;
      asker-fires = af;
      holder-fires = hf;
      holder-settled = st;
      holder-reaches = re;
    }

pub whole_of : (m : Recovery) (on : ℕ → Type 0) → All (network_supposes m on) → Whole m on
whole_of m on (requests, (shared, (mends, (mends-shared, _)))) =
    record { requests = requests; requests_shared_lem = shared; repairs = mends; repairs_shared_lem = mends-shared }

-- ---- a statement, with tests of what it supposes of its own
abbrev pub tests_of : Statement → (ℕ → Bool) → (Logs → Logs → List Bool) → Logs → Logs → List Bool
tests_of s when own a h = ends_tests s.recovery s.t1 a h ++ (network_tests s.recovery when a h ++ own a h)

module _ (s : Statement) (suffices : Supposed s.recovery s.t1 → Whole s.recovery s.on → All s.own → claims s)
    (when : ℕ → Bool) (says : (t : ℕ) → s.on t → when t ≡ true) (own : Logs → Logs → List Bool) (fa : SideFits s.recovery.asker)
    (fh : SideFits s.recovery.holder)
    (own_backed : Backed s.own (own (logs s.recovery.asker) (logs s.recovery.holder))) where
  abbrev m₀ : Recovery
  m₀ = s.recovery

  abbrev tests₀ : List Bool
  tests₀ = tests_of s when own (logs m₀.asker) (logs m₀.holder)

  backed : Backed (supposes s) tests₀
  backed = three_backed (ends_suppose m₀ s.t1) (network_supposes m₀ s.on) s.own
      (ends_tests m₀ s.t1 (logs m₀.asker) (logs m₀.holder)) (network_tests m₀ when (logs m₀.asker) (logs m₀.holder))
      (own (logs m₀.asker) (logs m₀.holder)) refl refl (ends_backed m₀ fa fh s.t1) (network_backed m₀ fa fh s.on when says) own_backed

  all_suffice : All (supposes s) → claims s
  all_suffice a =
      let parts = three-parts (ends_suppose m₀ s.t1) (network_supposes m₀ s.on) s.own a in
      suffices (supposed_of m₀ s.t1 parts.0) (whole_of m₀ s.on parts.1) parts.2

  pub met : (t : ℕ) → all_true_lem tests₀ ≡ true → every (λ x. not (got_by m₀ t x)) (logs m₀.asker).behind ≡ true → Met s t
  met t h unseen =
      let a = all_hold (supposes s) tests₀ backed h in
      record { holds = a; reached = all_suffice a; no_sooner = not-got m₀ fa fh t unseen }

  pub needed : (i : ℕ) → all_but_lem i tests₀ ≡ true → every (λ x. not (got_by m₀ s.by x)) (logs m₀.asker).behind ≡ true → Needed i s
  needed i h unseen =
      let missed = not-got m₀ fa fh s.by unseen in
      record { alone = all_but i (supposes s) tests₀ backed h (λ a. missed (all_suffice a)); missed = missed }
