-- What a step promises, by the effect that its answer and its output have and the end that it leaves.
use mathlib.Core.Path.{◌≡◌, sym}
use Prim.Native.Nat.{ℕ}
use mathlib.Core.List.{List}
use Rattle.end.specs.declared.Answer.{Answer}
use Rattle.end.specs.declared.Stepped.{Stepped}
use Rattle.end.specs.declared.End.{End}
use Rattle.end.specs.Answer.{Effect, Step, give, Did, done, called_of, buffer_of}
use Rattle.compose.proofs.PutLaws.{Answers}

abbrev pub Gives : Step → Stepped → List ℕ → List ℕ → Type 0
Gives step r out last = (r ≡ called_of (done step)) × (last ≡ buffer_of (Did step.effect) out)

-- the answer of an effect beside the end that is left is what the step gives
pub gives : (a : Effect) (to : End) (r : Answer) (x : End) (out last : List ℕ) → Answers a r out last → x ≡ to
    → Gives (give a to) (record { answer = r; end = x }) out last
gives a to r x out last w z = (λ i. record { answer = w.0 i; end = z i }, w.1)

-- what a step in place promises: the answer beside the end that is left is what the step gives
abbrev pub Leaves : Step → Answer → End → List ℕ → List ℕ → Type 0
Leaves step r x out last = (called_of (done step) ≡ record { answer = r; end = x }) × (last ≡ buffer_of (Did step.effect) out)

pub leaves : {step : Step} {a : Effect} {to : End} (r : Answer) (x : End) (out last : List ℕ) → step ≡ give a to → Answers a r out last → x ≡ to
    → Leaves step r x out last
leaves r x out last p w z = rw p (λ i. record { answer = sym w.0 i; end = sym z i }, w.1)
