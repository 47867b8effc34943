use mathlib.Core.Path.{sym, ap, ◌∙◌}
use mathlib.Core.List.{List, ◌∷◌}
use Prim.Native.Nat.{ℕ}
use Rattle.script.specs.Line.{line_in}
use Rattle.script.proofs.LineLaws.{long-line, short_line, more_words, no_more}
use Rattle.script.proofs.read_line.Goals as goal

-- `script::read_line` meets its contract: a line that is too long is not looked at, and of the others the words are taken one by one.
pub returns-then-line-gt-LONGEST : goal.returns-then-line-gt-LONGEST
returns-then-line-gt-LONGEST c = long-line _ c.if-line-gt-LONGEST.true

pub returns-in_err-end : goal.returns-in_err-end
unfolding line_in
returns-in_err-end c =
    c.from_residual.ensures ∙ short_line _ _ c.if-line-gt-LONGEST.false (sym c.of-words.ensures ∙ c.in_err-end.ensures.steps.0)

pub returns-in_err-verb : goal.returns-in_err-verb
unfolding line_in
returns-in_err-verb c =
    let e = c.in_ok-end.end.now in
    c.from_residual-in_err-verb.ensures
    ∙ short_line _ _ c.if-line-gt-LONGEST.false
    (sym c.of-words.ensures ∙ c.in_ok-end.ensures.steps ∙ ap (λ (l : List (List ℕ)). e ∷ l) c.in_err-verb.ensures.steps.0)

pub returns-in_err-clock : goal.returns-in_err-clock
unfolding line_in
returns-in_err-clock c =
    let e = c.in_ok-end.end.now in
    let v = c.in_ok-verb.verb.now in
    c.from_residual-in_err-clock.ensures
    ∙ short_line _ _ c.if-line-gt-LONGEST.false
    (sym c.of-words.ensures ∙ c.in_ok-end.ensures.steps ∙ ap (λ (l : List (List ℕ)). e ∷ l) (c.in_ok-verb.ensures.steps ∙ ap (λ (l : List (List ℕ)). v ∷ l) c.in_err-clock.ensures.steps.0))

pub returns-then-is_some : goal.returns-then-is_some
returns-then-is_some c =
    let e = c.in_ok-end.end.now in
    let v = c.in_ok-verb.verb.now in
    let t = c.in_ok-clock.clock.now in
    more_words e v t c.next-with.result c.next-4.result _ _ _ c.next-with.ensures.steps c.next-4.ensures.steps (sym c.is_some.ensures ∙ c.if-is_some.true)
    ∙ short_line _ _ c.if-line-gt-LONGEST.false
    (sym c.of-words.ensures ∙ c.in_ok-end.ensures.steps ∙ ap (λ (l : List (List ℕ)). e ∷ l) (c.in_ok-verb.ensures.steps ∙ ap (λ (l : List (List ℕ)). v ∷ l) c.in_ok-clock.ensures.steps))

pub returns : goal.returns
returns c =
    let e = c.in_ok-end.end.now in
    let v = c.in_ok-verb.verb.now in
    let t = c.in_ok-clock.clock.now in
    c.call_of.ensures
    ∙ no_more e v t c.next-with.result c.next-4.result _ _ _ c.next-with.ensures.steps c.next-4.ensures.steps (sym c.is_some.ensures ∙ c.if-is_some.false)
    ∙ short_line _ _ c.if-line-gt-LONGEST.false
    (sym c.of-words.ensures ∙ c.in_ok-end.ensures.steps ∙ ap (λ (l : List (List ℕ)). e ∷ l) (c.in_ok-verb.ensures.steps ∙ ap (λ (l : List (List ℕ)). v ∷ l) c.in_ok-clock.ensures.steps))
