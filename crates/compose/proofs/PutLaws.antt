-- A message written into the output is the answer Out with its bytes.
use mathlib.Core.Path.{◌≡◌, ap, ◌∙◌, subst}
use Prim.Native.Nat.{ℕ}
use mathlib.Core.List.{List}
use lib.ListN.{length}
use Rattle.numbers.specs.Splice.{splice}
use Rattle.numbers.proofs.SpliceLaws.{splice-start}
use Rattle.message.specs.Message.{Meaning, bytes_of}
use Rattle.end.specs.declared.Answer.{Answer}
use Rattle.end.specs.declared.Answer.TheVariants as answer
use Rattle.end.specs.Answer.{Effect, Out, Did, answer_of, buffer_of}

-- what a function that answers promises of its answer and of its output, by the effect
abbrev pub Answers : Effect → Answer → List ℕ → List ℕ → Type 0
Answers a r out last = (r ≡ answer_of (Did a)) × (last ≡ buffer_of (Did a) out)

pub puts : (bytes : List ℕ) (n : ℕ) (out last : List ℕ) → n ≡ length bytes → last ≡ splice 0 bytes out → Answers (Out bytes) (answer.Out n) out last
unfolding answer_of buffer_of
puts bytes n out last p l = (ap answer.Out p, l ∙ splice-start bytes out)

-- and so of a message that is this one
pub puts_as : (r : Answer) (y z : Meaning) (out last : List ℕ) → Answers (Out (bytes_of y)) r out last → y ≡ z → Answers (Out (bytes_of z)) r out last
puts_as r y z out last w e = subst (λ (m : Meaning). Answers (Out (bytes_of m)) r out last) e w
