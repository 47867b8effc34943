-- The rows of specs/HistoryRows.antt, computed.
use mathlib.Core.Path.{◌≡◌, refl, ap, ◌∙◌}
use mathlib.Core.Bool.{Bool, false, ◌||◌}
use mathlib.Core.List.{[], ◌∷◌}
use Prim.Native.Nat.{ℕ, ◌+◌}
use native.Mathlib.Omega.{arith}
use borrow.Author.Tests.{ne_eqb}
use mathlib.Core.Option.{some}
use Rattle.numbers.specs.Number.{value_after}
use Rattle.message.specs.Cue.{cue_in}
use Rattle.message.specs.Section.{section_from, entries, after, all, rises}
use Rattle.message.specs.Message.{meaning_with}
use Rattle.message.specs.Question.{read_refusal, in_range, window_fits, hosts_fit}
use Rattle.end.specs.Names.{lacking}
use Rattle.end.specs.Book.{read_as, raised_to, reported_to, brought_to, higher, among}
use Rattle.end.proofs.Lacking.{lacking_add, lacking-all}
use Rattle.guarantees.specs.History.{since_message, since_read, since_action, since_call, since_from, since_joining, count_over, counted, span_over, span_since}
use Rattle.guarantees.specs.HistoryRows.{ten_to_eighty, TenToEighty, LeftAgain, WholeSeason}

told_so : since_joining 1 0 ten_to_eighty ≡ record { handed = 10 ∷ []; highest = some 80 }
unfolding since_from since_call since_action since_read since_message read_as read_refusal brought_to reported_to raised_to higher
    meaning_with section_from entries after in_range value_after all window_fits hosts_fit rises cue_in
told_so = refl

pub ten_to_eighty_lem : TenToEighty
unfolding count_over span_over lacking among
ten_to_eighty_lem = record { since = told_so; span = ap span_since told_so; count = ap counted told_so }

pub left-again : LeftAgain
unfolding since_from since_call since_action
left-again = refl

pub whole-season : WholeSeason
unfolding count_over lacking among
whole-season =
    let held : ℕ → Bool = λ n. among n (0 ∷ []) in
    lacking_add held 1 65471 0
    ∙ ap (λ (k : ℕ). lacking held 1 0 + k) (lacking-all held 65471 1 (λ j a b. ap (λ (t : Bool). t || false) (ne_eqb j 0 (λ e. omega arith))))
