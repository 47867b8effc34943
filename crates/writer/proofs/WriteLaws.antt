-- The answers to the writer's questions, and what it promises by them.
use mathlib.Core.Path.{◌≡◌, refl, sym, ◌∙◌}
use Prim.Native.Nat.{ℕ, zero, suc, ◌≤◌, ◌<◌}
use native.Mathlib.Omega.{arith}
use mathlib.Core.List.{List, ◌∷◌}
use lib.ListN.{length}
use lib.Dec.{leb}
use borrow.Author.Tests.{leb-true, le-leb, lt-leb}
use Rattle.numbers.specs.Splice.{splice}
use Rattle.numbers.proofs.SpliceLaws.{splice-start}
use Rattle.message.specs.Limit.{room_needed}
use Rattle.message.specs.Message.{number_width, Small, Datagram, Probe, Saying, meaning_of, said_by, datagram_bytes}
use Rattle.message.specs.Question.{ask, meaning_questions, kind_has_counts, refusal_of, write_refusal, written_of, output_of}
use Rattle.message.proofs.QuestionLaws.{all-passed, counts-small}
use Rattle.message.specs.declared.Message.{Message}
use Rattle.message.specs.declared.Written.{Written}
use Rattle.message.specs.declared.Verdict.TheVariants.{Accepted, Refused}

-- where a message is not refused there is room, and the counts are small
pub put-ready : (m : Message) (out : List ℕ) → write_refusal (Saying m) out ≡ 0 → Small (number_width m.kind) m.counts × (room_needed ≤ length out)
unfolding write_refusal
put-ready m out h =
    let last = meaning_questions m.kind (meaning_of m) in
    let a = all-passed (leb room_needed (length out)) 1 (ask (kind_has_counts m.kind m.counts) 9 ∷ last) (omega arith) h in
    let b = all-passed (kind_has_counts m.kind m.counts) 9 last (omega arith) a.1 in
    (counts-small m.kind m.counts b.0, leb-true room_needed (length out) a.0)

-- a probe is refused only where there is no room
pub probe_no : (out : List ℕ) → length out < room_needed → write_refusal Probe out ≡ 1
unfolding write_refusal
probe_no out h = rw (lt-leb room_needed (length out) h)

pub probe-yes : (out : List ℕ) → room_needed ≤ length out → write_refusal Probe out ≡ 0
unfolding write_refusal
probe-yes out h = rw (le-leb room_needed (length out) h)

module _ (d : Datagram Message) (out : List ℕ) where
  -- what the writer promises of its answer and its output
  abbrev pub Promise : Written → List ℕ → Type 0
  Promise r last = (r ≡ written_of d out) × ((refusal_of r.verdict ≡ write_refusal d out) × (last ≡ output_of d out))

  pub no : (k : ℕ) → 0 < k → write_refusal d out ≡ k → Promise (record { verdict = Refused k; len = 0 }) out
  unfolding written_of output_of
  no zero p e = absurd (omega arith)
  no (suc k) p e = (rw e, (sym e, rw e))

  pub yes-written : (n : ℕ) (last : List ℕ) → write_refusal d out ≡ 0 → n ≡ length (datagram_bytes (said_by d)) → last ≡ splice 0 (datagram_bytes (said_by d)) out
      → Promise (record { verdict = Accepted; len = n }) last
  unfolding written_of output_of
  yes-written n last e p q = (rw (e, p), (sym e, rw e (q ∙ splice-start (datagram_bytes (said_by d)) out)))

-- the probe is no bytes
pub yes-probe : (out : List ℕ) → write_refusal Probe out ≡ 0 → Promise Probe out (record { verdict = Accepted; len = 0 }) out
unfolding splice
yes-probe out e = yes-written Probe out 0 out e refl refl
