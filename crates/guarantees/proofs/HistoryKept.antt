-- One source of another host, and what its history says of it: a rise, a record changed, a cue handed out, the first one.
use mathlib.Core.Path.{◌≡◌, refl, sym, ap, ◌∙◌, subst}
use mathlib.Core.Bool.{Bool, true, false, ◌&&◌, ◌||◌}
use mathlib.Core.List.{List, [], ◌∷◌, ◌++◌}
use mathlib.Core.Option.{Option, none, some}
use Prim.Native.Nat.{ℕ, ◌+◌, ◌-◌, ◌≤◌, ◌<◌, max}
use native.Mathlib.Omega.{arith}
use lib.ListN.{length}
use lib.Dec.{eqb}
use borrow.Author.Tests.{eqb-true, eq-eqb, ne_eqb, ltb-true, ltb-false}
use Rattle.numbers.proofs.Cases.{by_order}
use Rattle.message.specs.Entry.{as_number}
use Rattle.end.specs.Parts.{Pair, Heard, Span, Closed, Open, NoOrigin, From}
use Rattle.end.specs.declared.Record.{Record}
use Rattle.end.specs.declared.Attempt.{Attempt}
use Rattle.end.specs.declared.Source.{Source}
use Rattle.end.specs.State.{with_pair, with_distance, with_heard, with_origin, with_attempts}
use Rattle.end.specs.Records.{within, is_above, is_held, record_at, with_record}
use Rattle.end.specs.Names.{holding, hold, lacking, holds_cue, first_after, rise_with, open_at}
use Rattle.end.specs.Book.{raised_to, higher, among}
use Rattle.end.proofs.Tools.{by_test, clash, clash'}
use Rattle.end.proofs.RecordLaws.{Narrow, inside, within_in, within-above, at_outside, read_same, read_other, stored_length}
use Rattle.end.proofs.Lacking.{lacking-same, in_turn}
use Rattle.end.proofs.RiseLaws.{rise-length, rise_elim, rise-span, rise-reaches, missed-plain}
use Rattle.guarantees.specs.History.{count_over, span_over, origin_over}

-- a source whose first number handed out was f0, with what was handed out and the highest number brought
pub record Kept (f0 : ℕ) (s : Source) (handed : ℕ → Bool) (top : ℕ) : Type 0 where
  pub is : s.span ≡ Open (as_number (first_after f0 top)) (as_number top)
  pub sized : length s.names ≡ 64
  pub least : f0 ≤ top
  pub count : s.missed ≡ lacking handed (first_after f0 top - f0) f0
  pub held : (m : ℕ) → first_after f0 top ≤ m → holds_cue s m ≡ handed m
  pub origin : s.origin ≡ From (as_number f0)
  pub least-handed : (m : ℕ) → m < f0 → handed m ≡ false

-- a rise leaves the first original
pub rise-origin : (new : ℕ → Record) (n : ℕ) (s : Source) (x : Span) → (rise_with new n s x).origin ≡ s.origin
unfolding rise_with
rise-origin new n s Closed = refl
rise-origin new n s (Open first last) = refl

-- above last nothing is held
above-none : (s : Source) (first last : ℕ) → s.span ≡ Open (as_number first) (as_number last) → (m : ℕ) → last < m → holds_cue s m ≡ false
above-none s first last is m l = ap (λ (r : Record). is_held r.slot) (at_outside s m (ap (λ (x : Span). within x m) is ∙ within-above first last m l))

module _ (f0 : ℕ) (s : Source) (handed : ℕ → Bool) (top : ℕ) (h : Kept f0 s handed top) where
  abbrev low : ℕ
  low = first_after f0 top

  abbrev spanned : Span
  spanned = Open (as_number low) (as_number top)

  up : low ≤ top
  up = omega (arith, h.least)

  pub kept_narrow : Narrow s.span
  kept_narrow = subst Narrow (sym h.is) (up, omega arith)

  kept-inside : (n : ℕ) → within s.span n ≡ true → (low ≤ n) × (n ≤ top)
  kept-inside n w = let i = inside low top n (sym (ap (λ (x : Span). within x n) h.is) ∙ w) in (i.low, i.high)

  -- ---- last rises
  module _ (new : ℕ → Record) (fresh : (m : ℕ) → is_held (new m).slot ≡ false) (n : ℕ) where
    abbrev now : ℕ
    now = max top n

    later : (f0 top n : ℕ) → first_after (first_after f0 top) (max top n) ≡ first_after f0 (max top n)
    later f0 top n = omega arith

    risen-span : (rise_with new n s spanned).span ≡ Open (as_number (first_after f0 now)) (as_number now)
    risen-span = rise-span new n s (as_number low) (as_number top) ∙ ap (λ (k : ℕ). Open (as_number k) (as_number now)) (later f0 top n)

    -- what is held and not retired stays so, and nothing else is held
    risen-holds : (m : ℕ) → first_after f0 now ≤ m → holds_cue (rise_with new n s spanned) m ≡ holds_cue s m
    risen-holds m l = rise_elim (λ (r : Record). is_held r.slot ≡ holds_cue s m) new n s spanned h.is h.sized m
        (λ above _. fresh m ∙ sym (above-none s low top h.is m (ltb-true top m above)))
        (λ _. refl)
        (λ out. by_order now m
        (λ over. sym (above-none s low top h.is m (omega arith)))
        (λ le. clash (sym (within_in (first_after f0 now) now m l le) ∙ sym (ap (λ (x : Span). within x m) risen-span) ∙ out)))

    risen-count : s.missed + lacking (holds_cue s) (first_after low now - low) low ≡ lacking handed (first_after f0 now - f0) f0
    risen-count =
        in_turn (holds_cue s) handed s.missed f0 low (first_after low now) (omega arith) (omega arith) h.count h.held
        ∙ ap (λ (k : ℕ). lacking handed (k - f0) f0) (later f0 top n)

    pub risen-kept : Kept f0 (rise_with new n s s.span) handed now
    risen-kept = subst (λ (x : Span). Kept f0 (rise_with new n s x) handed now) (sym h.is) (record {
      is = risen-span;
      sized = rise-length new n s spanned ∙ h.sized;
      least = omega (arith, h.least);
      count = missed-plain new n s (as_number low) (as_number top) h.is up ∙ risen-count;
      held = λ m l. risen-holds m l ∙ h.held m (omega arith);
      origin = rise-origin new n s spanned ∙ h.origin;
      least-handed = h.least-handed;
    })

    -- a number not below first lies in first..last then
    pub risen-reaches : low ≤ n → within (rise_with new n s s.span).span n ≡ true
    risen-reaches l = subst (λ (x : Span). within (rise_with new n s x).span n ≡ true) (sym h.is)
        (rise-reaches new n s (as_number low) (as_number top) (subst Narrow h.is kept_narrow) l)

  -- a number that is not above last is none that raises it
  pub still_kept : (n : ℕ) → is_above s.span n ≡ false → Kept f0 s handed (max top n)
  still_kept n a =
      let le = ltb-false top n (sym (ap (λ (x : Span). is_above x n) h.is) ∙ a) in
      let e : top ≡ max top n = omega arith in
      subst (Kept f0 s handed) e h

  -- ---- a record inside first..last is changed, and with it what is held under its number
  pub stored_kept : (n : ℕ) (r : Record) (handed' : ℕ → Bool) → within s.span n ≡ true → is_held r.slot ≡ handed' n
      → ((m : ℕ) → eqb m n ≡ false → handed' m ≡ handed m) → Kept f0 (with_record s n r) handed' top
  stored_kept n r handed' w now same =
      let i = kept-inside n w in record {
        is = h.is;
        sized = stored_length s n r ∙ h.sized;
        least = h.least;
        count = h.count ∙ lacking-same handed handed' (low - f0) f0 (λ j p q. sym (same j (ne_eqb j n (λ e. omega (arith, i.0)))));
        held = λ m l. by_test (eqb m n)
            (λ e. subst (λ (k : ℕ). holds_cue (with_record s n r) k ≡ handed' k) (sym (eqb-true m n e))
            (ap (λ (y : Record). is_held y.slot) (read_same s n r w h.sized) ∙ now))
            (λ e. ap (λ (y : Record). is_held y.slot) (read_other s n r m kept_narrow w e) ∙ h.held m l ∙ sym (same m e));
        origin = h.origin;
        least-handed = λ m l. same m (ne_eqb m n (λ e. omega (arith, i.0))) ∙ h.least-handed m l;
      }

-- ---- the first cue: a source that begins at a number has it as its first original
abbrev pub begun : ℕ → Source → Source
begun n s = with_origin (open_at n s) (From (as_number n))

begun_kept : (n : ℕ) (cue : List ℕ) (handed : ℕ → Bool) (s : Source) → s.missed ≡ 0 → length s.names ≡ 64 → handed n ≡ true
    → ((m : ℕ) → eqb m n ≡ false → handed m ≡ false) → Kept n (hold n cue (begun n s)) handed n
unfolding lacking
begun_kept n cue handed s missed sized it others =
    let x = begun n s in
    let r = holding (record_at x n) cue in
    let none : first_after n n - n ≡ 0 = omega arith in
    let first : first_after n n ≡ n = omega arith in
    let here = within_in n n n (omega arith) (omega arith) in
    record {
      is = ap (λ (k : ℕ). Open (as_number k) (as_number n)) (sym first);
      sized = stored_length x n r ∙ sized;
      least = omega arith;
      count = missed ∙ ap (λ (k : ℕ). lacking handed k n) (sym none);
      held = λ m l. by_order n m
          (λ over. above-none (with_record x n r) n n refl m over ∙ sym (others m (ne_eqb m n (λ e. omega arith))))
          (λ le.
          let same : n ≡ m = omega arith in
          subst (λ (k : ℕ). holds_cue (with_record x n r) k ≡ handed k) same (ap (λ (y : Record). is_held y.slot) (read_same x n r here sized) ∙ sym it));
      origin = refl;
      least-handed = λ m l. others m (ne_eqb m n (λ e. omega arith));
    }

-- ---- with the numbers handed out as a list, and the highest brought

-- one number more is among them
among-last : (m n : ℕ) (l : List ℕ) → among m (l ++ (n ∷ [])) ≡ (among m l || eqb m n)
unfolding among
among-last m n [] = or_none (eqb m n)
  where
    or_none : (b : Bool) → (b || false) ≡ b
    or_none true = refl
    or_none false = refl
among-last m n (x ∷ l) = ap (λ (b : Bool). eqb m x || b) (among-last m n l) ∙ in_turns (eqb m x) (among m l) (eqb m n)
  where
    in_turns : (a b c : Bool) → (a || (b || c)) ≡ ((a || b) || c)
    in_turns true b c = refl
    in_turns false b c = refl

pub among_it : (m n : ℕ) (l : List ℕ) → eqb m n ≡ true → among m (l ++ (n ∷ [])) ≡ true
among_it m n l e = among-last m n l ∙ ap (λ (b : Bool). among m l || b) e ∙ or_all (among m l)
  where
    or_all : (b : Bool) → (b || true) ≡ true
    or_all true = refl
    or_all false = refl

pub among-other : (m n : ℕ) (l : List ℕ) → eqb m n ≡ false → among m (l ++ (n ∷ [])) ≡ among m l
among-other m n l e = among-last m n l ∙ ap (λ (b : Bool). among m l || b) e ∙ or_none (among m l)
  where
    or_none : (b : Bool) → (b || false) ≡ b
    or_none true = refl
    or_none false = refl

-- another's source: nothing was handed out and it has no first; or it is kept as above
unfoldable pub Others : List ℕ → Option ℕ → Source → Type 0
Others [] top s = (top ≡ none) × (s.span ≡ Closed) × (s.missed ≡ 0) × (s.origin ≡ NoOrigin)
Others (f0 ∷ more) none s = ⊥
Others (f0 ∷ more) (some top) s = Kept f0 s (λ m. among m (f0 ∷ more)) top

module _ (s : Source) where
  -- last rises
  pub others-risen : (new : ℕ → Record) → ((m : ℕ) → is_held (new m).slot ≡ false) → (n : ℕ) (hs : List ℕ) (top : Option ℕ) → Others hs top s
      → Others hs (raised_to n top) (rise_with new n s s.span)
  unfolding Others raised_to rise_with
  others-risen new fresh n [] top q = (
    ap (raised_to n) q.0,
    ap (λ (x : Span). (rise_with new n s x).span) q.1 ∙ q.1,
    ap (λ (x : Span). (rise_with new n s x).missed) q.1 ∙ q.2,
    rise-origin new n s s.span ∙ q.3,
  )
  others-risen new fresh n (f0 ∷ more) none q = absurd q
  others-risen new fresh n (f0 ∷ more) (some top) q = risen-kept f0 s (λ m. among m (f0 ∷ more)) top q new fresh n

  pub others_still : (n : ℕ) (hs : List ℕ) (top : Option ℕ) → is_above s.span n ≡ false → Others hs top s → Others hs (raised_to n top) s
  unfolding Others raised_to
  others_still n [] top a q = (ap (raised_to n) q.0, q.1, q.2, q.3)
  others_still n (f0 ∷ more) none a q = absurd q
  others_still n (f0 ∷ more) (some top) a q = still_kept f0 s (λ m. among m (f0 ∷ more)) top q n a

  -- a record is changed, and stays held or not
  pub others_stored : (n : ℕ) (r : Record) (hs : List ℕ) (top : Option ℕ) → within s.span n ≡ true → is_held r.slot ≡ holds_cue s n → Others hs top s
      → Others hs top (with_record s n r)
  unfolding Others
  others_stored n r [] top w same q = q
  others_stored n r (f0 ∷ more) none w same q = q
  others_stored n r (f0 ∷ more) (some top) w same q =
      let hd : ℕ → Bool = λ m. among m (f0 ∷ more) in
      stored_kept f0 s hd top q n r hd w (same ∙ q.held n (kept-inside f0 s hd top q n w).0) (λ m _. refl)

  -- its cue is handed out
  pub others-handed : (n : ℕ) (r : Record) (hs : List ℕ) (top : Option ℕ) → within s.span n ≡ true → is_held r.slot ≡ true → Others hs top s
      → Others (hs ++ (n ∷ [])) top (with_record s n r)
  unfolding Others
  others-handed n r [] top w held q = clash' (sym (ap (λ (x : Span). within x n) q.1) ∙ w)
  others-handed n r (f0 ∷ more) none w held q = q
  others-handed n r (f0 ∷ more) (some top) w held q =
      stored_kept f0 s (λ m. among m (f0 ∷ more)) top q n r (λ m. among m (f0 ∷ (more ++ (n ∷ [])))) w
      (held ∙ sym (among_it n n (f0 ∷ more) (eq-eqb n n refl))) (λ m e. among-other m n (f0 ∷ more) e)

  -- the first one
  pub others-begun : (n : ℕ) (cue : List ℕ) (hs : List ℕ) (top : Option ℕ) → s.span ≡ Closed → length s.names ≡ 64 → Others hs top s
      → Others (hs ++ (n ∷ [])) (some (higher top n)) (hold n cue (begun n s))
  unfolding Others among higher
  others-begun n cue [] top shut sized q =
      rw q.0 (begun_kept n cue (λ m. among m (n ∷ [])) s q.2 sized (among_it n n [] (eq-eqb n n refl))
      (λ m e. among-other m n [] e))
  others-begun n cue (f0 ∷ more) none shut sized q = absurd q
  others-begun n cue (f0 ∷ more) (some top) shut sized q = absurd (let z : Closed ≡ _ = sym shut ∙ q.is in let y : ◌≡◌ {A = ℕ} 0 1 = cc in omega arith)

  -- the kept pair, the distance and the heard stamp are another matter
  pub others-paired : (pair : Pair) (hs : List ℕ) (top : Option ℕ) → Others hs top s → Others hs top (with_pair s pair)
  unfolding Others record_at
  others-paired pair [] top q = q
  others-paired pair (f0 ∷ more) none q = q
  others-paired pair (f0 ∷ more) (some top) q = record {
    is = q.is;
    sized = q.sized;
    least = q.least;
    count = q.count;
    held = q.held;
    origin = q.origin;
    least-handed = q.least-handed;
  }

  pub others-measured : (d : ℕ) (heard : Heard) (hs : List ℕ) (top : Option ℕ) → Others hs top s → Others hs top (with_heard (with_distance s d) heard)
  unfolding Others record_at
  others-measured d heard [] top q = q
  others-measured d heard (f0 ∷ more) none q = q
  others-measured d heard (f0 ∷ more) (some top) q = record {
    is = q.is;
    sized = q.sized;
    least = q.least;
    count = q.count;
    held = q.held;
    origin = q.origin;
    least-handed = q.least-handed;
  }

  -- and so are the marks of numbers below the first original
  pub others_marked : (l : List Attempt) (hs : List ℕ) (top : Option ℕ) → Others hs top s → Others hs top (with_attempts s l)
  unfolding Others record_at
  others_marked l [] top q = q
  others_marked l (f0 ∷ more) none q = q
  others_marked l (f0 ∷ more) (some top) q = record {
    is = q.is;
    sized = q.sized;
    least = q.least;
    count = q.count;
    held = q.held;
    origin = q.origin;
    least-handed = q.least-handed;
  }

-- ---- what it says

-- a source with no first has no history
pub others-closed : (hs : List ℕ) (top : Option ℕ) (s : Source) → s.span ≡ Closed → Others hs top s → (hs ≡ []) × (top ≡ none)
unfolding Others
others-closed [] top s shut q = (refl, q.0)
others-closed (f0 ∷ more) none s shut q = absurd q
others-closed (f0 ∷ more) (some top) s shut q = absurd (let z : Closed ≡ _ = sym shut ∙ q.is in let y : ◌≡◌ {A = ℕ} 0 1 = cc in omega arith)

pub others_narrow : (hs : List ℕ) (top : Option ℕ) (s : Source) → Others hs top s → Narrow s.span
unfolding Others
others_narrow [] top s q = subst Narrow (sym q.1) tt
others_narrow (f0 ∷ more) none s q = absurd q
others_narrow (f0 ∷ more) (some top) s q = kept_narrow f0 s (λ m. among m (f0 ∷ more)) top q

pub others-count : (hs : List ℕ) (top : Option ℕ) (s : Source) → Others hs top s → s.missed ≡ count_over hs top
unfolding Others count_over
others-count [] top s q = q.2
others-count (f0 ∷ more) none s q = absurd q
others-count (f0 ∷ more) (some top) s q = q.count

pub others-span : (hs : List ℕ) (top : Option ℕ) (s : Source) → Others hs top s → s.span ≡ span_over hs top
unfolding Others span_over
others-span [] top s q = q.1
others-span (f0 ∷ more) none s q = absurd q
others-span (f0 ∷ more) (some top) s q = q.is

pub others-origin : (hs : List ℕ) (top : Option ℕ) (s : Source) → Others hs top s → s.origin ≡ origin_over hs
unfolding Others origin_over
others-origin [] top s q = q.3
others-origin (f0 ∷ more) none s q = absurd q
others-origin (f0 ∷ more) (some top) s q = q.origin

-- what is handed out is not below the first one
pub others-least : (first : ℕ) (more : List ℕ) (top : Option ℕ) (s : Source) → Others (first ∷ more) top s
    → (n : ℕ) → n < first → among n (first ∷ more) ≡ false
unfolding Others
others-least first more none s q n l = absurd q
others-least first more (some top) s q n l = q.least-handed n l

pub others-held : (hs : List ℕ) (top : Option ℕ) (s : Source) → Others hs top s → (n : ℕ) → holds_cue s n ≡ (within (span_over hs top) n && among n hs)
unfolding Others span_over
others-held [] top s q n = ap (λ (r : Record). is_held r.slot) (at_outside s n (ap (λ (x : Span). within x n) q.1))
others-held (f0 ∷ more) none s q n = absurd q
others-held (f0 ∷ more) (some top) s q n =
    let x = Open (as_number (first_after f0 top)) (as_number top) in
    by_test (within x n)
    (λ w. q.held n (inside (first_after f0 top) top n w).low ∙ sym (ap (λ (b : Bool). b && among n (f0 ∷ more)) w))
    (λ w. ap (λ (r : Record). is_held r.slot) (at_outside s n (ap (λ (y : Span). within y n) q.is ∙ w))
    ∙ sym (ap (λ (b : Bool). b && among n (f0 ∷ more)) w))
