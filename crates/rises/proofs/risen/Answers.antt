-- `rises::risen` meets its contract: first, last, the count and the new numbers are the rise's.
use mathlib.Core.Path.{◌≡◌, refl}
use mathlib.Core.Bool.{true}
use lib.Dec.{leb}
use borrow.Author.Tests.{leb-true}
use Prim.Native.Nat.{ℕ, ◌+◌, ◌-◌, ◌≤◌, ◌<◌, min}
use native.Mathlib.Omega.{arith}
use mir.Syntax.{w32, w64}
use mir.Val.{Fits}
use Rattle.message.specs.Limit.{number_limit}
use Rattle.end.specs.Names.{expressed, asked}
use Rattle.rises.proofs.Steps.{all-risen}
use Rattle.rises.proofs.risen.Goals as goal

module _ (x : ℕ) where
  module _ (k : ℕ) (few : leb k 1 ≡ true) (small : x < number_limit) where
    next_fits : Fits w64 (x + k)
    next_fits = omega (arith, leb-true k 1 few)

    next-most : x + k ≤ number_limit
    next-most = omega (arith, leb-true k 1 few)

  least-most : (a b : ℕ) → x ≡ min a b → a < number_limit → x ≤ number_limit
  least-most a b is small = omega arith

  rest-most : (a b : ℕ) → x ≡ a - b → a < number_limit → x ≤ number_limit
  rest-most a b is small = omega arith

  most-fits : x ≤ number_limit → Fits w32 x
  most-fits most = omega arith

-- ---- what is computed of small numbers is small: over plain numbers, since a search among all that the calls say would be long
sum_fits : (m x : ℕ) → m < number_limit → x ≤ number_limit → Fits w32 (m + x)
sum_fits m x small most = omega arith

sums_fit : (m x y : ℕ) → m < number_limit → x ≤ number_limit → y ≤ number_limit → Fits w32 (m + x + y)
sums_fit m x y small most rest = omega arith

pub count_lacking-lacked-requires : goal.count_lacking-lacked-requires
count_lacking-lacked-requires c =
    let lowest : c.max-lo.result < number_limit = omega arith in
    least-most _ _ _ c.min-old.ensures lowest

pub overflow_add-l : goal.overflow_add-l
overflow_add-l c =
    let highest : c.max-l.result < number_limit = omega arith in
    next_fits _ _ refl highest

pub request_all-renewed-requires : goal.request_all-renewed-requires
request_all-renewed-requires c =
    let highest : c.max-l.result < number_limit = omega arith in
    record { ranges = c.requires.ranges; draws_len = (c.requires.numbered.draws_in, next-most _ _ refl highest) }

pub overflow_cast-lowest : goal.overflow_cast-lowest
overflow_cast-lowest c =
    let lowest : c.max-lo.result < number_limit = omega arith in
    record { fits = lowest }

pub overflow_cast-highest : goal.overflow_cast-highest
overflow_cast-highest c =
    let highest : c.max-l.result < number_limit = omega arith in
    record { fits = highest }

pub overflow_cast-missed : goal.overflow_cast-missed
overflow_cast-missed c = most-fits _ c.count_lacking-lacked.ensures.upper_bound

pub overflow_add-missed : goal.overflow_add-missed
overflow_add-missed c =
    sum_fits _ _ c.requires.missed_lt_number_limit.0 c.count_lacking-lacked.ensures.upper_bound

pub overflow_cast-missed-2 : goal.overflow_cast-missed-2
overflow_cast-missed-2 c =
    let lowest : c.max-lo.result < number_limit = omega arith in
    let passed-most : c.saturating_sub-passed.result ≤ number_limit = rest-most _ _ _ c.saturating_sub-passed.ensures lowest in
    most-fits _ passed-most

pub overflow_add-missed-2 : goal.overflow_add-missed-2
overflow_add-missed-2 c =
    let lowest : c.max-lo.result < number_limit = omega arith in
    let passed-most : c.saturating_sub-passed.result ≤ number_limit = rest-most _ _ _ c.saturating_sub-passed.ensures lowest in
    sums_fit _ _ _ c.requires.missed_lt_number_limit.0 c.count_lacking-lacked.ensures.upper_bound passed-most

pub returns : goal.returns
returns c =
    let a = c.args in
    all-risen (λ m. expressed a.x (asked a.t a.draws.now a.s.distance m)) a.n.0 a.s a.first a.last c.requires.missed_lt_number_limit.1
    c.max-l.ensures c.saturating_sub-floor.ensures c.max-lo.ensures c.min-old.ensures c.max-new.ensures
    c.count_lacking-lacked.ensures.value c.saturating_sub-passed.ensures c.request_all-renewed.ensures
