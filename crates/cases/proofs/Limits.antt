-- The book turns down every list of specs/GotLimits.antt and specs/CallLimits.antt for its one reason.
use mathlib.Core.Path.{◌≡◌, refl, sym, ap, ◌∙◌}
use mathlib.Core.Bool.{true, false, true≢false}
use mathlib.Core.List.{List, [], ◌∷◌, ◌++◌}
use mathlib.Core.Option.{some}
use Prim.Native.Nat.{ℕ, ◌+◌}
use lib.ListN.{get_or}
use lib.Dec.{eqb}
use borrow.Author.Tests.{eqb-false}
use Rattle.message.specs.declared.Name.{Name}
use Rattle.message.specs.Message.{Meaning, meaning_from}
use Rattle.end.specs.declared.Status.{Status}
use Rattle.end.specs.declared.Status.TheVariants.{Idle, Joining, Member, Leaving, Crashed}
use Rattle.end.specs.Answer.{Effect, Out, Got, Done, Ignored, Nothing, Clash, Late, Exhausted}
use Rattle.end.specs.Arrival.{message_name, message_cue}
use Rattle.end.specs.Answer.{Did}
use Rattle.end.specs.Book.{Book, Entry, read_as, is_original, Original, Meets, book_after, RunFrom, empty_book}
use Rattle.cases.specs.Listing.{minus_two, got, name_of, name_at, message0, message1}
use Rattle.cases.specs.Wire.{five_cue}
use Rattle.cases.specs.NotRuns.{started, third, repair, hears, Limit, TurnsDown}
use Rattle.cases.specs.GotLimits as arrive
use Rattle.cases.specs.CallLimits as calls
use Rattle.cases.specs.Probe as probe
use Rattle.cases.proofs.Opened.{opened}

-- ---- a list and the one after it
unfoldable books : Book → List Entry → Book
books b [] = b
books b (x ∷ xs) = books (book_after b x.host x.action x.outcome) xs

both : (xs ys : List Entry) (b : Book) → RunFrom b xs → RunFrom (books b xs) ys → RunFrom b (xs ++ ys)
unfolding books
both [] ys b r s = s
both (x ∷ xs) ys b r s = (r.0, r.1, both xs ys _ r.2 s)

rest : (xs ys : List Entry) (b : Book) → RunFrom b (xs ++ ys) → RunFrom (books b xs) ys
unfolding books
rest [] ys b r = r
rest (x ∷ xs) ys b r = rest xs ys _ r.2

-- ---- a DATA that is put out
original : (bytes : List ℕ) (s n : ℕ) (cue : List ℕ) → read_as bytes ≡ some (meaning_from bytes) → is_original (meaning_from bytes) ≡ true
    → message_name (meaning_from bytes) ≡ name_at s n → message_cue (meaning_from bytes) ≡ cue → Meets (Original s n cue) (Out bytes)
original bytes s n cue r o m c = (bytes, refl, record { message = meaning_from bytes; reads = r; original = o; name = m; carried = c })

-- has its own name and cue
as_sent : (bytes : List ℕ) (s n : ℕ) (cue : List ℕ) → read_as bytes ≡ some (meaning_from bytes) → Meets (Original s n cue) (Out bytes)
    → (message_name (meaning_from bytes) ≡ name_at s n) × (message_cue (meaning_from bytes) ≡ cue)
as_sent bytes s n cue r o =
    let sent = o.2 in
    let same : o.0 ≡ bytes = (let z : Out bytes ≡ Out o.0 = o.1 in cc) in
    let twice : some (meaning_from bytes) ≡ some sent.message = sym r ∙ ap read_as (sym same) ∙ sent.reads in
    let again : meaning_from bytes ≡ sent.message = cc in
    (ap (λ (m : Meaning). message_name m) again ∙ sent.name, ap (λ (m : Meaning). message_cue m) again ∙ sent.carried)

-- ---- the start
start : Book
start = books empty_book started

started-runs : RunFrom empty_book started
unfolding opened
started-runs =
    let first = original message0 0 0 minus_two refl refl refl refl in
    let second = original message1 0 1 minus_two refl refl refl refl in
    (refl, refl, (refl, refl, (refl, refl, (refl, refl, (first, refl, (second, refl, tt))))))

-- what is shown from there on
From : Limit → Type 0
From l =
    (RunFrom (books start l.before) (l.wrong ∷ []) → ⊥)
    × RunFrom start (l.before ++ (l.right ∷ []))
    × RunFrom start l.instead

turned_down : (l : Limit) → From l → TurnsDown l
unfolding From start
turned_down l f = (
  λ r. f.0 (rest l.before (l.wrong ∷ []) start (rest started (l.before ++ (l.wrong ∷ [])) empty_book r)),
  both started (l.before ++ (l.right ∷ [])) empty_book started-runs f.1,
  both started l.instead empty_book started-runs f.2,
)

-- ---- telling answers and statuses apart, by a number for each
unfoldable told : Effect → ℕ
told (Out bytes) = 0
told (Got name cue) = 3 + name.number.0 + get_or cue 2 0
told Done = 1
told Ignored = 2
told Nothing = 0
told (Clash name) = 0
told (Late name cue) = 0
told Exhausted = 0

unfoldable standing : Status → ℕ
standing Idle = 0
standing Joining = 1
standing Member = 2
standing Leaving = 3
standing Crashed = 4

other-number : (m n : ℕ) → eqb m n ≡ false → name_of m ≡ name_of n → ⊥
other-number m n h p = eqb-false m n h (ap (λ (x : Name). x.number.0) p)

-- ---- on an Arrival: a Got that is never due is told by its test
pub not_to_non_member : TurnsDown arrive.to_non_member
unfolding From start books told standing opened
not_to_non_member = turned_down arrive.to_non_member (λ r. true≢false r.0, (refl, refl, tt), (refl, refl, (refl, refl, (refl, refl, tt))))

pub not_while_leaving : TurnsDown arrive.while_leaving
unfolding From start books told standing opened
not_while_leaving = turned_down arrive.while_leaving (λ r. true≢false r.0, (refl, refl, (refl, refl, tt)), (refl, refl, tt))

pub not_to_the_source : TurnsDown arrive.to_the_source
unfolding From start books told standing opened
not_to_the_source =
    turned_down arrive.to_the_source (λ r. true≢false r.0, (refl, refl, tt), (refl, refl, (refl, refl, (refl, refl, (refl, refl, tt)))))

-- and where there is such a first, by this limit alone: host 3 would have it
pub not_to_the_source_alone : (RunFrom arrive.owned (hears 0 (repair 1 2) (got 1) ∷ []) → ⊥)
    × RunFrom arrive.owned (hears 0 (repair 1 2) (Did Done) ∷ [])
    × RunFrom arrive.owned (hears 3 (repair 1 2) (got 1) ∷ [])
unfolding opened
not_to_the_source_alone = (λ r. true≢false r.0, (refl, refl, tt), (refl, refl, tt))

pub not_unfiled : TurnsDown arrive.not_filed
unfolding From start books told standing opened
not_unfiled =
    turned_down arrive.not_filed (λ r. true≢false r.0, (refl, refl, tt), (original (third minus_two) 0 2 minus_two refl refl refl refl, refl, (refl, refl, tt)))

pub not_below_the_first : TurnsDown arrive.below_the_first
unfolding From start books told standing opened
not_below_the_first = turned_down arrive.below_the_first (λ r. true≢false r.0, (refl, refl, (refl, refl, tt)), (refl, refl, (refl, refl, tt)))

pub not-twice : TurnsDown arrive.twice
unfolding From start books told standing opened
not-twice =
    turned_down arrive.twice (
      λ r. true≢false r.0,
      (refl, refl, (refl, refl, tt)),
      (refl, refl, (refl, refl, (refl, refl, (refl, refl, (refl, refl, (refl, refl, tt)))))),
    )

-- Ignored, another name and another cue are other answers than the Got that is due
pub not-withheld : TurnsDown arrive.withheld
unfolding From start books told standing opened
not-withheld = turned_down arrive.withheld (λ r. eqb-false 2 3 refl (ap told r.0), (refl, refl, tt), (refl, refl, (refl, refl, tt)))

pub not_without_first : TurnsDown arrive.without_first
unfolding From start books told standing opened
not_without_first = turned_down arrive.without_first (λ r. true≢false r.0, (refl, refl, tt), (refl, refl, (refl, refl, tt)))

pub not-looped : TurnsDown arrive.looped
unfolding From start books told standing opened
not-looped = turned_down arrive.looped (λ r. true≢false r.0, (refl, refl, (refl, refl, tt)), (refl, refl, (refl, refl, tt)))

pub not-retired : TurnsDown arrive.retired
unfolding From start books told standing opened
not-retired = turned_down arrive.retired (
  λ r. true≢false r.0,
  (refl, refl, (refl, refl, (refl, refl, tt))),
  (refl, refl, (refl, refl, (refl, refl, tt))),
)

pub not_reported_early : TurnsDown arrive.reported_early
unfolding From start books told standing opened
not_reported_early = turned_down arrive.reported_early (
  λ r. eqb-false 2 4 refl (ap told r.0),
  (refl, refl, (refl, refl, (refl, refl, tt))),
  (refl, refl, (refl, refl, (refl, refl, tt))),
)

pub not_other_name : TurnsDown arrive.other_name
unfolding From start books told standing opened
not_other_name = turned_down arrive.other_name (λ r. eqb-false 4 3 refl (ap told r.0), (refl, refl, tt), (refl, refl, tt))

pub not_other_bytes : TurnsDown arrive.other_bytes
unfolding From start books told standing opened
not_other_bytes =
    turned_down arrive.other_bytes (
      λ r. eqb-false 6 5 refl (ap told r.0),
      (original (third minus_two) 0 2 minus_two refl refl refl refl, refl, (refl, refl, tt)),
      (original (third five_cue) 0 2 five_cue refl refl refl refl, refl, (refl, refl, tt)),
    )

pub not_by_probe : TurnsDown probe.got_by_probe
unfolding From start books told standing opened
not_by_probe = turned_down probe.got_by_probe (λ r. true≢false r.0, (refl, refl, tt), (refl, refl, tt))

-- ---- on the other calls
pub not_ignoring_join : TurnsDown calls.ignores_join
unfolding From start books told standing opened
not_ignoring_join = turned_down calls.ignores_join (λ r. eqb-false 2 1 refl (ap told r.0), (refl, refl, tt), (refl, refl, (refl, refl, tt)))

pub not_unmoved : TurnsDown calls.not_moved
unfolding From start books told standing opened
not_unmoved = turned_down calls.not_moved (λ r. eqb-false 3 0 refl (ap standing r.1), (refl, refl, (refl, refl, tt)), (refl, refl, tt))

pub not-unasked : TurnsDown calls.moved_unasked
unfolding From start books told standing opened
not-unasked = turned_down calls.moved_unasked (λ r. eqb-false 0 2 refl (ap standing r.1), (refl, refl, tt), (refl, refl, (refl, refl, (refl, refl, tt))))

pub not_sent_under_other_name : TurnsDown calls.sent_other_name
unfolding From start books told standing opened
not_sent_under_other_name =
    turned_down calls.sent_other_name (
      λ r. other-number 1 2 refl (as_sent message1 0 2 minus_two refl r.0).0,
      (original (third minus_two) 0 2 minus_two refl refl refl refl, refl, tt),
      tt,
    )

pub not-restarted : TurnsDown calls.restarted
unfolding From start books told standing opened
not-restarted =
    turned_down calls.restarted (
      λ r. other-number 0 2 refl (as_sent message0 0 2 minus_two refl r.0).0,
      (refl, refl, (refl, refl, (refl, refl, (refl, refl, (original (third minus_two) 0 2 minus_two refl refl refl refl, refl, tt))))),
      tt,
    )

pub not_sent_with_other_cue : TurnsDown calls.sent_other_cue
unfolding From start books told standing opened
not_sent_with_other_cue =
    turned_down calls.sent_other_cue (
      λ r. eqb-false 1 0 refl (ap (λ (l : List ℕ). get_or l 2 0) (as_sent (third five_cue) 0 2 minus_two refl r.0).1),
      (original (third minus_two) 0 2 minus_two refl refl refl refl, refl, tt),
      (original (third five_cue) 0 2 five_cue refl refl refl refl, refl, tt),
    )

pub not_sent_outside : TurnsDown calls.sent_outside
unfolding From start books told standing opened
not_sent_outside =
    turned_down calls.sent_outside (
      λ r. eqb-false 0 2 refl (ap told r.0),
      (refl, refl, tt),
      (refl, refl, (refl, refl, (original calls.first_of2 2 0 minus_two refl refl refl refl, refl, tt))),
    )

pub not_by_fire : TurnsDown calls.got_by_fire
unfolding From start books told standing opened
not_by_fire = turned_down calls.got_by_fire (λ r. true≢false r.0, (refl, refl, tt), (refl, refl, tt))
