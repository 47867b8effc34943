-- `record::read_line` meets its contract: the words are taken one by one.
use mathlib.Core.Path.{sym, ap, ◌∙◌}
use mathlib.Core.List.{List, ◌∷◌}
use Prim.Native.Nat.{ℕ}
use Rattle.record.specs.Line.{line_in}
use Rattle.record.proofs.LineLaws.{six_words, five_words}
use Rattle.record.proofs.read_line.Goals as goal

pub returns-in_default : goal.returns-in_default
unfolding line_in
returns-in_default c =
    c.no_line.ensures
    ∙ sym (ap line_in (sym c.of-words.ensures ∙ c.in_default.ensures.steps.0))

pub returns-in_default-next : goal.returns-in_default-next
unfolding line_in
returns-in_default-next c =
    let v = c.in-Some.v.now in
    c.no_line-in_default-next.ensures
    ∙ sym (ap line_in (sym c.of-words.ensures ∙ c.in-Some.ensures.steps ∙ ap (λ (l : List (List ℕ)). v ∷ l)
    (c.in_default-next.ensures.steps.0)))

pub returns-in_default-next-2 : goal.returns-in_default-next-2
unfolding line_in
returns-in_default-next-2 c =
    let v = c.in-Some.v.now in
    let h = c.in-Some-next.h.now in
    c.moved_in.ensures
    ∙ sym (ap line_in (sym c.of-words.ensures ∙ c.in-Some.ensures.steps ∙ ap (λ (l : List (List ℕ)). v ∷ l)
    (c.in-Some-next.ensures.steps ∙ ap (λ (l : List (List ℕ)). h ∷ l)
    (c.in_default-next-2.ensures.steps.0))))

pub returns-in_default-next-3 : goal.returns-in_default-next-3
unfolding line_in
returns-in_default-next-3 c =
    let v = c.in-Some.v.now in
    let h = c.in-Some-next.h.now in
    let x = c.in-Some-next-2.x.now in
    c.no_line-in_default-next-3.ensures
    ∙ sym (ap line_in (sym c.of-words.ensures ∙ c.in-Some.ensures.steps ∙ ap (λ (l : List (List ℕ)). v ∷ l)
    (c.in-Some-next.ensures.steps ∙ ap (λ (l : List (List ℕ)). h ∷ l)
    (c.in-Some-next-2.ensures.steps ∙ ap (λ (l : List (List ℕ)). x ∷ l)
    (c.in_default-next-3.ensures.steps.0)))))

pub returns-in_default-next-4 : goal.returns-in_default-next-4
unfolding line_in
returns-in_default-next-4 c =
    let v = c.in-Some.v.now in
    let h = c.in-Some-next.h.now in
    let x = c.in-Some-next-2.x.now in
    let n = c.in-Some-next-3.n.now in
    c.sent_in.ensures
    ∙ sym (ap line_in (sym c.of-words.ensures ∙ c.in-Some.ensures.steps ∙ ap (λ (l : List (List ℕ)). v ∷ l)
    (c.in-Some-next.ensures.steps ∙ ap (λ (l : List (List ℕ)). h ∷ l)
    (c.in-Some-next-2.ensures.steps ∙ ap (λ (l : List (List ℕ)). x ∷ l)
    (c.in-Some-next-3.ensures.steps ∙ ap (λ (l : List (List ℕ)). n ∷ l)
    (c.in_default-next-4.ensures.steps.0))))))

pub returns-then-is_some : goal.returns-then-is_some
returns-then-is_some c =
    let v = c.in-Some.v.now in
    let h = c.in-Some-next.h.now in
    let x = c.in-Some-next-2.x.now in
    let n = c.in-Some-next-3.n.now in
    let c5 = c.in-Some-next-4.c.now in
    c.no_line-then-is_some.ensures
    ∙ six_words v h x n c5 c.next-6.result _ _ c.next-6.ensures.steps (sym c.is_some.ensures ∙ c.if-is_some.true)
    ∙ sym (ap line_in (sym c.of-words.ensures ∙ c.in-Some.ensures.steps ∙ ap (λ (l : List (List ℕ)). v ∷ l)
    (c.in-Some-next.ensures.steps ∙ ap (λ (l : List (List ℕ)). h ∷ l)
    (c.in-Some-next-2.ensures.steps ∙ ap (λ (l : List (List ℕ)). x ∷ l)
    (c.in-Some-next-3.ensures.steps ∙ ap (λ (l : List (List ℕ)). n ∷ l)
    (c.in-Some-next-4.ensures.steps))))))

pub returns : goal.returns
returns c =
    let v = c.in-Some.v.now in
    let h = c.in-Some-next.h.now in
    let x = c.in-Some-next-2.x.now in
    let n = c.in-Some-next-3.n.now in
    let c5 = c.in-Some-next-4.c.now in
    c.got_in.ensures
    ∙ five_words v h x n c5 c.next-6.result _ _ c.next-6.ensures.steps (sym c.is_some.ensures ∙ c.if-is_some.false)
    ∙ sym (ap line_in (sym c.of-words.ensures ∙ c.in-Some.ensures.steps ∙ ap (λ (l : List (List ℕ)). v ∷ l)
    (c.in-Some-next.ensures.steps ∙ ap (λ (l : List (List ℕ)). h ∷ l)
    (c.in-Some-next-2.ensures.steps ∙ ap (λ (l : List (List ℕ)). x ∷ l)
    (c.in-Some-next-3.ensures.steps ∙ ap (λ (l : List (List ℕ)). n ∷ l)
    (c.in-Some-next-4.ensures.steps))))))
