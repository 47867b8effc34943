-- The moves and Send leave a sound state.
use mathlib.Core.Path.{◌≡◌, refl, ◌∙◌}
use Prim.Native.Nat.{ℕ, ◌+◌, ◌≤◌, ◌<◌}
use native.Mathlib.Omega.{arith}
use mathlib.Core.Bool.{Bool, true, false, not, ◌||◌}
use mathlib.Core.List.{List, [], ◌∷◌}
use lib.ListN.{length, get_or, set, length-set}
use lib.Seq.{get_or-set_same, get_or-set_other}
use lib.Dec.{eqb}
use borrow.Author.Tests.{eqb-true, eqb-false}
use Rattle.message.specs.declared.Host.{Host}
use Rattle.message.specs.Cue.{cue_in}
use Rattle.message.specs.Entry.{as_host}
use Rattle.message.specs.Question.{same_host}
use Rattle.end.specs.declared.Status.{Status}
use Rattle.end.specs.declared.Status.TheVariants.{Idle, Joining, Member, Leaving, Crashed}
use Rattle.end.specs.declared.Move.{Move}
use Rattle.end.specs.declared.Move.TheVariants.{Join, Joined, Leave, Left, Crash}
use Rattle.end.specs.Parts.{Span, Closed, Open}
use Rattle.end.specs.declared.Source.{Source}
use Rattle.end.specs.declared.End.{End}
use Rattle.end.specs.State.{no_source, is_member, is_crashed, source_at, moment_of}
use Rattle.end.specs.Sound.{all_of, span_tests}
use Rattle.end.specs.Answer.{Step}
use Rattle.end.specs.Event.{moves, moves_to, clears, cleared, moved_end, move_of, sent_source, sent_end}
use Rattle.end.proofs.SoundLaws.{nth}
use Rattle.end.proofs.Tools.{by_cond, by_test, clash, clash'}
use Rattle.invariants.proofs.Facts.{SoundSource, SoundState}
use Rattle.invariants.proofs.Rises.{sent-kept}
use Rattle.invariants.proofs.Ends.{status-kept, unheard-kept}

-- ---- Join, Joined, Leave, Left, Crash

-- a move that clears nothing is no member's
kept_from : (m : Move) (x : Status) → clears m ≡ false → moves m x ≡ true → is_member x ≡ false
kept_from m Idle c t = refl
kept_from m Joining c t = refl
kept_from m Leaving c t = refl
kept_from m Crashed c t = refl
kept_from Join Member c t = clash' t
kept_from Joined Member c t = clash' t
kept_from Leave Member c t = clash c
kept_from Left Member c t = clash' t
kept_from Crash Member c t = clash c

pub member_not_crashed : (x : Status) → is_member x ≡ true → is_crashed x ≡ false
member_not_crashed Idle m = refl
member_not_crashed Joining m = refl
member_not_crashed Member m = refl
member_not_crashed Leaving m = refl
member_not_crashed Crashed m = clash' m

pub move-kept : (m : Move) (e : End) → SoundState e → SoundState (move_of m e).left
unfolding move_of moved_end
move-kept m e f = by_cond (λ (r : Step). SoundState r.left) (moves m e.status)
    (λ t. by_cond SoundState (clears m)
    (λ _. unheard-kept (cleared e (moves_to m)) f.host f.params f.delay f.clock f.next refl)
    (λ c. status-kept e (moves_to m) f (kept_from m e.status c t)))
    (λ _. f)

-- ---- Send

-- the next number is none of another source's business
span-other : (own : Bool) (next next' missed : ℕ) (x : Span) → own ≡ false → all_of (span_tests own next missed x) ≡ true
    → all_of (span_tests own next' missed x) ≡ true
span-other own next next' missed Closed d h = h
span-other own next next' missed (Open first last) d h =
    let tests = span_tests own next missed (Open first last) in
    λ i. all_of (nth tests 0 h i ∷ nth tests 1 h i ∷ (not (d i) || eqb (last.0 + 1) next') ∷ nth tests 3 h i ∷ nth tests 4 h i ∷ [])

number-kept : {me : Host} {next next' clock : ℕ} {member : Bool} {h : Host} {s : Source} → same_host h me ≡ false → SoundSource me next clock member h s → SoundSource me next' clock member h s
number-kept {me} {next} {next'} {clock} {member} {h} {s} d q = search (q, span-other (same_host h me) next next' s.missed s.span d q.span)

pub send-kept : (us cue : List ℕ) (e : End) → length cue ≡ 24 → cue_in cue ≡ true → SoundState e → is_member e.status ≡ true → e.next < 65536
    → SoundState (sent_end us cue e)
send-kept us cue e long fits f member hn =
    let me = e.host.0 in
    let s = source_at e e.host in
    let x = sent_source (moment_of e) us e.next cue s in
    let Sounds : ℕ → Source → Type 0 = λ k y. SoundSource e.host (e.next + 1) e.clock (is_member e.status) (as_host k) y in
    let mine : Sounds me x =
    sent-kept (moment_of e) us cue long fits e.host e.next e.clock hn (is_member e.status) member s (f.each me f.host) s.span refl in
    let each : (k : ℕ) → k < 8 → Sounds k (get_or (set e.sources me x) k no_source) = λ k hk. by_test (eqb k me)
    (λ t. rw (eqb-true k me t, get_or-set_same e.sources me x no_source (omega (arith, f.host, f.sources))) mine)
    (λ t. rw (get_or-set_other e.sources me k x no_source (eqb-false k me t)) (number-kept t (f.each k hk))) in
    let more : e.next + 1 ≤ 65536 = omega arith in
    search (f, each, more, length-set e.sources me x ∙ f.sources)
