-- The laws of the questions: what it means that the first no is 0, and what the table of kinds allows.
use mathlib.Core.Path.{◌≡◌, refl, sym, ap, ◌∙◌}
use Prim.Native.Nat.{ℕ, zero, suc, ◌+◌, ◌*◌, ◌-◌, ◌^◌, ◌≤◌, ◌<◌}
use native.Mathlib.Nat.{mul-le-mul}
use native.Mathlib.Omega.{arith}
use mathlib.Core.Bool.{Bool, true, false, not, ◌&&◌, ◌||◌}
use mathlib.Core.Logic.{◌⊎◌, inl, inr}
use mathlib.Core.List.{List, [], ◌∷◌}
use lib.Dec.{eqb, leb}
use borrow.Author.Tests.{eqb-true, leb-true, le-leb, lt-leb, not-true}
use Rattle.message.specs.Section.{all}
use Rattle.message.specs.Cue.{cue_in}
use Rattle.message.specs.Limit.{number_limit}
use Rattle.message.specs.Kind.{table, no_row, row_or, row_in, row_of, row_at, has_counts, is_old, kind_of, kind_shift, number_width, widest_number, most_number}
use Rattle.message.specs.Entry.{name_width, cue_width, report_width, echo_width}
use Rattle.message.specs.Message.{Meaning, Small, name_places, report_places, echo_places}
use Rattle.message.specs.Question.{Question, ask, first_no, outcome, verdict_for, refusal_of, kind_has_counts, host_in, number_in, ticks_in, name_in, report_in, in_range}
use Rattle.message.specs.declared.CueNumber.{CueNumber}
use Rattle.message.specs.declared.NameEntry.{NameEntry}
use Rattle.message.specs.declared.Report.{Report}
use Rattle.message.specs.declared.Counts.{Counts}
use Rattle.message.specs.declared.Row.{Row}
use Rattle.std.specs.Prelude.{Option, Some, None, is_some, Result, Ok, Err}
use Rattle.message.specs.declared.Refusal.{Refusal}
use Rattle.numbers.proofs.Cases.{by_flag}
use Rattle.message.proofs.SectionLaws.{All, none, some}

-- a test of two parts, and of one of two
pub and_both : (a b : Bool) → (a && b) ≡ true → (a ≡ true) × (b ≡ true)
and_both true b h = (refl, h)
and_both false b h = absurd (let z : ◌≡◌ {A = ℕ} 0 1 = cc in omega arith)

pub or_either : (a b : Bool) → (a || b) ≡ true → (a ≡ true) ⊎ (b ≡ true)
or_either true b h = inl refl
or_either false b h = inr h

-- a test of every element
pub all_true : {A : Type 0} {P : A → Type 0} (p : A → Bool) → ((a : A) → p a ≡ true → P a) → (l : List A) → all p l ≡ true → All P l
unfolding all
all_true p f [] h = none
all_true p f (a ∷ l) h =
    let b = and_both (p a) (all p l) h in
    some (f a b.0) (all_true p f l b.1)

-- a weaker test
pub all_weaker : {A : Type 0} (p q : A → Bool) → ((a : A) → p a ≡ true → q a ≡ true) → (l : List A) → all p l ≡ true → all q l ≡ true
unfolding all
all_weaker p q f [] h = refl
all_weaker p q f (a ∷ l) h =
    let b = and_both (p a) (all p l) h in
    rw (f a b.0) (all_weaker p q f l b.1)

-- where there is no first no, the first question was answered yes, and so were the rest
pub all-passed : (t : Bool) (k : ℕ) (qs : List Question) → 0 < k → first_no (ask t k ∷ qs) ≡ 0 → (t ≡ true) × (first_no qs ≡ 0)
all-passed true k qs p h = (refl, h)
all-passed false k qs p h = absurd (omega arith)

-- what a call's outcome says of its first no: its number, and 0 where there was none
abbrev pub no_of : Result (Unit {0}) Refusal → ℕ
no_of (Ok u) = 0
no_of (Err e) = e.0

pub no_of_outcome : (k : ℕ) → no_of (outcome k) ≡ k
no_of_outcome zero = refl
no_of_outcome (suc k) = refl

pub none-refused : {u : Unit {0}} (k : ℕ) → ◌≡◌ {A = Result (Unit {0}) Refusal} (Ok u) (outcome k) → k ≡ 0
none-refused k h = sym (no_of_outcome k) ∙ sym (ap no_of h)

pub refused-as : {e : Refusal} (k : ℕ) → ◌≡◌ {A = Result (Unit {0}) Refusal} (Err e) (outcome k) → (0 < e.0) × (k ≡ e.0)
refused-as {e} zero h = absurd (let z : Err e ≡ Ok tt = h in cc)
refused-as {e} (suc k) h =
    let n : suc k ≡ e.0 = sym (ap no_of h) in
    (omega arith, n)

-- the paper's number of the verdict is the number that gave it
pub number_of_verdict : (k : ℕ) → refusal_of (verdict_for k) ≡ k
number_of_verdict zero = refl
number_of_verdict (suc k) = refl

-- ---- the table of kinds

-- what holds of every row of a table, and of the empty one that stands where there is none, holds of any byte's row
row_in_lem : (P : Row → Type 0) → P no_row → (t : List (ℕ × Row)) → All (λ (line : ℕ × Row). P line.1) t → (kind : ℕ) → P (row_or (row_in t kind))
row_in_lem P z [] none kind = z
row_in_lem P z (line ∷ t) (some p q) kind = by_flag (eqb kind line.0) (λ e. rw e p) (λ e. rw e (row_in_lem P z t q kind))

-- what every row has: its counts fit the places of a message struct, and its messages have at most 127 bytes, with the widest numbers too
abbrev row_size : Row → ℕ
row_size r = 12 + r.names * name_width widest_number + r.cues * cue_width + r.reports * report_width widest_number + r.echoes * echo_width

record RowFits (r : Row) : Type 0 where
  pub names : r.names ≤ name_places
  pub cues : r.cues ≤ 1
  pub reports : r.reports ≤ report_places
  pub echoes : r.echoes ≤ echo_places
  pub size : row_size r ≤ 127

abbrev fits_of : Row → Bool
fits_of r =
    leb r.names name_places
    && (leb r.cues 1
    && (leb r.reports report_places && (leb r.echoes echo_places && leb (row_size r) 127)))

fits : (r : Row) → fits_of r ≡ true → RowFits r
fits r h =
    let n = and_both (leb r.names name_places) _ h in
    let q = and_both (leb r.cues 1) _ n.1 in
    let b = and_both (leb r.reports report_places) _ q.1 in
    let e = and_both (leb r.echoes echo_places) _ b.1 in
    record {
      names = leb-true r.names name_places n.0;
      cues = leb-true r.cues 1 q.0;
      reports = leb-true r.reports report_places b.0;
      echoes = leb-true r.echoes echo_places e.0;
      size = leb-true (row_size r) 127 e.1;
    }

row_fits : (kind : ℕ) → RowFits (row_at kind)
unfolding all
row_fits = row_in_lem RowFits (fits no_row refl) table (all_true (λ (line : ℕ × Row). fits_of line.1) (λ line. fits line.1) table refl)

-- ---- the kind byte

pub old_most : (byte : ℕ) → is_old byte ≡ true → (1 ≤ byte) × (byte ≤ 4)
old_most byte h =
    let b = and_both (leb 1 byte) _ h in
    (leb-true 1 byte b.0, leb-true byte 4 b.1)

-- a kind is never an old one, and is read as itself
pub new_kind : (byte : ℕ) → is_old (kind_of byte) ≡ false
new_kind byte = by_flag (is_old byte)
    (λ e.
    let far : is_old (byte + kind_shift) ≡ false = rw (le-leb 1 (byte + kind_shift) (omega arith), lt-leb (byte + kind_shift) 4 (omega arith)) in
    rw e far)
    (λ e. rw e e)

pub kind-again : (byte : ℕ) → is_old byte ≡ false → kind_of byte ≡ byte
kind-again byte e = rw e

-- an old kind byte is its kind's old number
pub old_kind : (byte : ℕ) → is_old byte ≡ true → kind_of byte - kind_shift ≡ byte
old_kind byte e = rw e (omega arith)

pub old_back : (kind : ℕ) → is_old (kind - kind_shift) ≡ true → kind_of (kind - kind_shift) ≡ kind
old_back kind e = rw e (omega (arith, old_most (kind - kind_shift) e))

-- "no kind byte asks for more"
pub width_fits : (byte : ℕ) → number_width byte ≤ widest_number
width_fits byte = by_flag (is_old byte) (λ e. rw e (omega arith)) (λ e. rw e (omega arith))

-- a cue number in range is below the limit, and fits its bytes
pub most-below : (byte : ℕ) → most_number byte < number_limit
most-below byte = by_flag (is_old byte) (λ e. rw e (omega arith)) (λ e. rw e (omega arith))

pub most-fits : (byte : ℕ) → most_number byte < 256 ^ number_width byte
most-fits byte = by_flag (is_old byte) (λ e. rw e (omega arith)) (λ e. rw e (omega arith))

-- the most of a kind byte is no more than that of its kind
pub most-rises : (byte : ℕ) → most_number byte ≤ most_number (kind_of byte)
most-rises byte = rw (new_kind byte) (omega (arith, most-below byte))

-- no row is for an old kind
row_new : (t : List (ℕ × Row)) → all (λ (line : ℕ × Row). not (is_old line.0)) t ≡ true → (kind : ℕ) (c : Counts) → has_counts (row_in t kind) c ≡ true
    → is_old kind ≡ false
unfolding all
row_new [] h kind c k = absurd (let z : ◌≡◌ {A = ℕ} 0 1 = cc in omega arith)
row_new (line ∷ t) h kind c k =
    let b = and_both (not (is_old line.0)) _ h in
    by_flag (eqb kind line.0)
    (λ e. ap is_old (eqb-true kind line.0 e) ∙ not-true (is_old line.0) b.0)
    (λ e. row_new t b.1 kind c (rw e at k))

pub counts_new : (kind : ℕ) (c : Counts) → kind_has_counts kind c ≡ true → is_old kind ≡ false
unfolding all
counts_new kind c h = row_new table refl kind c h

-- ---- the counts

-- the counts are those of the row
pub record Counted (o : Option Row) (c : Counts) : Type 0 where
  pub known : is_some o ≡ true
  pub names : c.names ≡ (row_or o).names
  pub cues : c.cues ≡ (row_or o).cues
  pub reports : c.reports ≤ (row_or o).reports
  pub echoes : c.echoes ≤ (row_or o).echoes

counted-row : (o : Option Row) (c : Counts) → has_counts o c ≡ true → Counted o c
counted-row None c h = absurd (let z : ◌≡◌ {A = ℕ} 0 1 = cc in omega arith)
counted-row (Some r) c h =
    let n = and_both (eqb c.names r.names) _ h in
    let q = and_both (eqb c.cues r.cues) _ n.1 in
    let b = and_both (leb c.reports r.reports) _ q.1 in
    record {
      known = refl;
      names = eqb-true c.names r.names n.0;
      cues = eqb-true c.cues r.cues q.0;
      reports = leb-true c.reports r.reports b.0;
      echoes = leb-true c.echoes r.echoes b.1;
    }

pub counted : (kind : ℕ) (c : Counts) → kind_has_counts kind c ≡ true → Counted (row_of kind) c
counted kind c h = counted-row (row_of kind) c h

small : (w : ℕ) (o : Option Row) (c : Counts) → w ≤ widest_number → RowFits (row_or o) → Counted o c → Small w c
small w o c m f h =
    let r = row_or o in
    let n : c.names * name_width w ≤ r.names * name_width widest_number = mul-le-mul (omega (arith, h.names)) (omega arith) in
    let b : c.reports * report_width w ≤ r.reports * report_width widest_number = mul-le-mul h.reports (omega arith) in
    record { names = omega arith; cues = omega arith; reports = omega arith; echoes = omega arith; size = omega arith }

-- whichever byte says the kind
pub counts_fit : (byte kind : ℕ) (c : Counts) → kind_has_counts kind c ≡ true → Small (number_width byte) c
counts_fit byte kind c h = small (number_width byte) (row_of kind) c (width_fits byte) (row_fits kind) (counted kind c h)

pub counts-small : (kind : ℕ) (c : Counts) → kind_has_counts kind c ≡ true → Small (number_width kind) c
counts-small kind = counts_fit kind kind

-- ---- ranges: what is in range is in range where cue numbers may be greater
module _ (most more : ℕ) (rises : most ≤ more) where
  number-rises : (n : CueNumber) → number_in most n ≡ true → number_in more n ≡ true
  number-rises n h = le-leb n.0 more (omega (arith, leb-true n.0 most h))

  name-rises : (n : NameEntry) → name_in most n ≡ true → name_in more n ≡ true
  name-rises n h =
      let a = and_both (host_in n.name.source) _ h in
      let b = and_both (number_in most n.name.number) _ a.1 in
      rw (a.0, number-rises n.name.number b.0) b.1

  report-rises : (r : Report) → report_in most r ≡ true → report_in more r ≡ true
  report-rises r h =
      let a = and_both (host_in r.source) _ h in
      rw a.0 (number-rises r.last a.1)

  pub range-rises : (M : Meaning) → in_range most M ≡ true → in_range more M ≡ true
  unfolding in_range
  range-rises M h =
      let a = and_both (host_in M.sender) _ h in
      let b = and_both (ticks_in M.stamp) _ a.1 in
      let c = and_both (all (name_in most) M.names) _ b.1 in
      let d = and_both (all cue_in M.cues) _ c.1 in
      let e = and_both (all (report_in most) M.reports) _ d.1 in
      let names = all_weaker (name_in most) (name_in more) name-rises M.names c.0 in
      let reports = all_weaker (report_in most) (report_in more) report-rises M.reports e.0 in
      rw (a.0, b.0, names, d.0, reports) e.1
