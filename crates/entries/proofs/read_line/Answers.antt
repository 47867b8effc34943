-- `entries::read_line` meets its contract: the words are taken one by one.
use mathlib.Core.Path.{sym, ap, ◌∙◌}
use mathlib.Core.List.{List, ◌∷◌}
use Prim.Native.Nat.{ℕ}
use Rattle.entries.specs.Line.{line_in}
use Rattle.entries.proofs.LineLaws.{six_words, five_words}
use Rattle.entries.proofs.read_line.Goals as goal

pub returns-in_err-v : goal.returns-in_err-v
unfolding line_in
returns-in_err-v c = c.from_residual.ensures ∙ sym (ap line_in (sym c.of-words.ensures ∙ c.in_err-v.ensures.steps.0))

pub returns-in_default : goal.returns-in_default
unfolding line_in
returns-in_default c =
    let v = c.in_ok-v.v.now in
    c.clear_in.ensures
    ∙ sym (ap line_in (sym c.of-words.ensures ∙ c.in_ok-v.ensures.steps ∙ ap (λ (l : List (List ℕ)). v ∷ l) c.in_default.ensures.steps.0))

pub returns-in_default-next : goal.returns-in_default-next
unfolding line_in
returns-in_default-next c =
    let v = c.in_ok-v.v.now in
    let a = c.in-Some.a.now in
    c.roll_in.ensures
    ∙ sym (ap line_in (sym c.of-words.ensures ∙ c.in_ok-v.ensures.steps ∙ ap (λ (l : List (List ℕ)). v ∷ l)
    (c.in-Some.ensures.steps ∙ ap (λ (l : List (List ℕ)). a ∷ l) c.in_default-next.ensures.steps.0)))

pub returns-in_default-next-2 : goal.returns-in_default-next-2
unfolding line_in
returns-in_default-next-2 c =
    let v = c.in_ok-v.v.now in
    let a = c.in-Some.a.now in
    let b = c.in-Some-next.b.now in
    c.next_in.ensures
    ∙ sym (ap line_in (sym c.of-words.ensures ∙ c.in_ok-v.ensures.steps ∙ ap (λ (l : List (List ℕ)). v ∷ l)
    (c.in-Some.ensures.steps ∙ ap (λ (l : List (List ℕ)). a ∷ l)
    (c.in-Some-next.ensures.steps ∙ ap (λ (l : List (List ℕ)). b ∷ l) c.in_default-next-2.ensures.steps.0))))

pub returns-in_err-e : goal.returns-in_err-e
unfolding line_in
returns-in_err-e c =
    let v = c.in_ok-v.v.now in
    let a = c.in-Some.a.now in
    let b = c.in-Some-next.b.now in
    let s = c.in-Some-next-2.s.now in
    c.from_residual-in_err-e.ensures
    ∙ sym (ap line_in (sym c.of-words.ensures ∙ c.in_ok-v.ensures.steps ∙ ap (λ (l : List (List ℕ)). v ∷ l)
    (c.in-Some.ensures.steps ∙ ap (λ (l : List (List ℕ)). a ∷ l)
    (c.in-Some-next.ensures.steps ∙ ap (λ (l : List (List ℕ)). b ∷ l)
    (c.in-Some-next-2.ensures.steps ∙ ap (λ (l : List (List ℕ)). s ∷ l) c.in_err-e.ensures.steps.0)))))

pub returns-then-is_some : goal.returns-then-is_some
returns-then-is_some c =
    let v = c.in_ok-v.v.now in
    let a = c.in-Some.a.now in
    let b = c.in-Some-next.b.now in
    let s = c.in-Some-next-2.s.now in
    let e = c.in_ok-e.e.now in
    six_words v a b s e c.next-6.result _ _ c.next-6.ensures.steps (sym c.is_some.ensures ∙ c.if-is_some.true)
    ∙ sym (ap line_in (sym c.of-words.ensures ∙ c.in_ok-v.ensures.steps ∙ ap (λ (l : List (List ℕ)). v ∷ l)
    (c.in-Some.ensures.steps ∙ ap (λ (l : List (List ℕ)). a ∷ l)
    (c.in-Some-next.ensures.steps ∙ ap (λ (l : List (List ℕ)). b ∷ l)
    (c.in-Some-next-2.ensures.steps ∙ ap (λ (l : List (List ℕ)). s ∷ l) c.in_ok-e.ensures.steps)))))

pub returns : goal.returns
returns c =
    let v = c.in_ok-v.v.now in
    let a = c.in-Some.a.now in
    let b = c.in-Some-next.b.now in
    let s = c.in-Some-next-2.s.now in
    let e = c.in_ok-e.e.now in
    c.window_in.ensures
    ∙ five_words v a b s e c.next-6.result _ _ c.next-6.ensures.steps (sym c.is_some.ensures ∙ c.if-is_some.false)
    ∙ sym (ap line_in (sym c.of-words.ensures ∙ c.in_ok-v.ensures.steps ∙ ap (λ (l : List (List ℕ)). v ∷ l)
    (c.in-Some.ensures.steps ∙ ap (λ (l : List (List ℕ)). a ∷ l)
    (c.in-Some-next.ensures.steps ∙ ap (λ (l : List (List ℕ)). b ∷ l)
    (c.in-Some-next-2.ensures.steps ∙ ap (λ (l : List (List ℕ)). s ∷ l) c.in_ok-e.ensures.steps)))))
