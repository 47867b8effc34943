use mathlib.Core.Path.{◌≡◌, refl, ap, ◌∙◌}
use mathlib.Core.List.{List, [], ◌∷◌}
use Prim.Native.Nat.{ℕ, suc, ◌+◌, ◌≤◌, ◌<◌}
use native.Mathlib.Omega.{arith}
use lib.ListN.{length, take, get_or}
use lib.Seq.{take_all}
use borrow.Author.Rules.{rules}
use Rattle.numbers.proofs.SpliceLaws.{length-splice}
use Rattle.record.specs.Text.{hex_text}
use Rattle.answers.specs.Put.{Put}
use Rattle.answers.proofs.PutLaws.{put_both, put_same, put_wider}
use Rattle.keeping.proofs.LineTexts.{hex_next, put-none}
use Rattle.keeping.proofs.put_digits.Invariants.{DigitsSoFar}
use Rattle.keeping.proofs.put_digits.Goals as goal

-- `keeping::put_digits` meets its contract: after i turns the digits of the first i bytes are there.
room_for_pair : {at end i : ℕ} {cue start out : List ℕ} → DigitsSoFar at cue start out end i → i < 24 → at + 48 ≤ length start → end + 2 ≤ length out
room_for_pair {at} {end} {i} d h r = omega (arith, d.put.ends, d.put.small, d.same)

one_more : {at end next i : ℕ} {cue start out after : List ℕ} → DigitsSoFar at cue start out end i
    → Put 2 end (hex_text (get_or cue i 0 ∷ [])) out after next → i < 24 → length cue ≡ 24 → at + 48 ≤ length start
    → DigitsSoFar at cue start after next (i + 1)
one_more {at} {end} {next} {i} {cue} {start} {out} d p h k r =
    let both = put_both {most = (i + 1) + (i + 1)} d.put p (omega arith) (omega arith) in
    let e : suc i ≡ i + 1 = omega arith in
    record {
      put = put_same both (hex_next i cue (omega arith) ∙ ap (λ (j : ℕ). hex_text (take j cue)) e);
      few = omega arith;
      same =
          ap length p.bytes ∙ length-splice end (hex_text (get_or cue i 0 ∷ [])) out (omega (arith, d.put.ends, d.put.small, d.same, p.small))
          ∙ d.same;
    }

all_digits : {at end i : ℕ} {cue start out : List ℕ} → DigitsSoFar at cue start out end i → 24 ≤ i → length cue ≡ 24 → Put 48 at (hex_text cue) start out end
all_digits {at} {end} {i} {cue} d h k = put_same (put_wider d.put (omega (arith, d.few))) (ap hex_text (take_all i cue (omega (arith, k))))

pub loop-b-init : goal.loop-b-init
unfolding hex_text
loop-b-init c = record { put = put-none _ _; few = omega arith; same = refl }

pub put_pair-end-requires : goal.put_pair-end-requires
put_pair-end-requires c = room_for_pair c.loop-b.invariant (omega arith) (omega arith)

pub loop-b-preserved : goal.loop-b-preserved
loop-b-preserved c = one_more c.loop-b.invariant c.put_pair-end.ensures (omega arith) (search rules) (omega arith)

pub returns : goal.returns
returns c = all_digits c.loop-b.invariant (omega arith) (search rules)
