-- Document 02, P4: in no list of calls that demand 3 speaks of is Clash answered. What an end holds and what the network brings are both
-- the cue that is filed under the name.
use mathlib.Core.Path.{◌≡◌, refl, sym, ap, ◌∙◌}
use mathlib.Core.Bool.{Bool, true, ◌||◌}
use mathlib.Core.List.Memᴰ
use mathlib.Core.List.{List, [], ◌∷◌, Memᴰ}
use mathlib.Core.Logic.{⊎_elim}
use mathlib.Core.Option.{some}
use Prim.Native.Nat.{ℕ, ◌<◌}
use native.Mathlib.Omega.{arith}
use lib.ListN.{length, get_elem?}
use lib.Dec.{eqb}
use borrow.Author.Tests.{eqb-true}
use Rattle.message.specs.declared.Name.{Name}
use Rattle.message.specs.Message.{LATE, Meaning, meaning_from}
use Rattle.message.specs.Question.{first_no, read_refusal}
use Rattle.end.specs.declared.Slot.{Slot}
use Rattle.end.specs.declared.Slot.TheVariants.{Empty, Held, Waiting}
use Rattle.end.specs.declared.End.{End}
use Rattle.end.specs.State.{with_clock}
use Rattle.end.specs.Records.{is_held}
use Rattle.end.specs.Answer.{Clash, Did, Result}
use Rattle.end.specs.Arrival.{message_cue}
use Rattle.end.specs.Event.{step_of, question_of, event_of}
use Rattle.end.specs.Book.{Book, Entry, empty_book, book_after, read_as, source, number}
use Rattle.end.specs.Run.{World, Call, result_of, world_after, seen, Brought, Allowed}
use Rattle.end.specs.Clashes.{named_record, Clashing, NeverClashes}
use Rattle.end.proofs.Tools.{by_cond, clash, clash'}
use Rattle.end.proofs.Readings.{reads, in_range_lem}
use Rattle.end.proofs.Clashes.{same_cue_is_same_bytes, step-clashes}
use Rattle.end.proofs.Service.Sources.{held-is}
use Rattle.end.proofs.Service.View.{held_in_lem, held_at, holds, Rel, Filed}
use Rattle.end.proofs.Service.Frame.{Inv, Passed, passes, Stepped, brought_filed, stepped, fresh}
use Rattle.end.proofs.Service.Ends.{events}

-- a message that carries the filed cue does not clash on an end that agrees with the book
filed-fits : (b : Book) (h : ℕ) (e : End) (x : List ℕ) (m : Meaning) → Rel b h e → Filed b x → read_as x ≡ some m → Clashing e m → ⊥
unfolding holds held_at
filed-fits b h e x m q f p k =
    let r = named_record e m in
    let kept : get_elem? (b.filed (source m)) (number m) ≡ some r.cue = q.filed (source m) (number m) r.cue (in_range_lem x m p).source (held-is r.slot r.cue k.held) in
    let carried : get_elem? (b.filed (source m)) (number m) ≡ some (message_cue m) = f m p (ap (λ (b : Bool). b || eqb m.kind LATE) k.carries) in
    let same : message_cue m ≡ r.cue = cc in
    clash (sym ((same_cue_is_same_bytes (message_cue m) r.cue).1 same) ∙ k.differs)

-- the same of an end whose clock is set, as the call sets it
clock-fits : (b : Book) (h : ℕ) (e : End) (clock : ℕ) (x : List ℕ) (m : Meaning) → Rel b h e → Filed b x → read_as x ≡ some m → Clashing (with_clock e clock) m → ⊥
clock-fits b h e clock x m q f p k =
    filed-fits b h e x m q f p (record { member = k.member; another = k.another; carries = k.carries; held = k.held; differs = k.differs })

-- one call
unclashed : (w : World) (b : Book) (c : Call) → Inv w b → c.host < 8 → Brought w.sent c.action (result_of w c).outcome → (name : Name) → (result_of w c).outcome ≡ Did (Clash name) → ⊥
unfolding result_of event_of read_refusal
unclashed w b c inv hh =
    let h = c.host in
    let ev = c.action in
    let e = w.ends h in
    let step = step_of c.clock c.draws ev e in
    by_cond (λ (r : Result). Brought w.sent ev r.outcome → (name : Name) → r.outcome ≡ Did (Clash name) → ⊥)
    (eqb (question_of e ev c.clock (length c.output) (length c.draws)) 0)
    (λ t br name p.
    let z : Passed e ev c.clock = passes e ev c.clock (length c.output) (length c.draws) (eqb-true _ _ t) in
    let answers : step.effect ≡ Clash name = cc in
    let k = step-clashes e c.clock c.draws name ev answers in
    let own = sym (ap first_no k.asked) ∙ rw k.arrival at z.own in
    clock-fits b h e c.clock k.bytes (meaning_from k.bytes) (inv.rel h hh) (brought_filed w b ev step.effect inv br k.bytes k.arrival) (reads k.bytes own) k.clashing)
    (λ t br name p. let z : ◌≡◌ {A = ℕ} 0 1 = cc in absurd (omega arith))

-- and so the list
never-clash : (cs : List Call) (w : World) (b : Book) → Inv w b → Allowed w cs → (x : Entry) → Memᴰ x (seen w cs) → (name : Name) → x.outcome ≡ Did (Clash name) → ⊥
unfolding seen
never-clash [] w b inv a x k name p = absurd (Memᴰ.not-nil k)
never-clash (c ∷ cs) w b inv a x k name p =
    let s : Stepped w b c.host c.action (result_of w c) = stepped events w b c inv a.0 a.1 a.2 in
    ⊎_elim (λ here. unclashed w b c inv a.0 a.2 name (ap (λ (y : Entry). y.outcome) (sym here) ∙ p))
    (λ later. never-clash cs (world_after w c.host (result_of w c)) (book_after b c.host c.action (result_of w c).outcome) s.inv a.3 x later name p)
    (Memᴰ.cases_cons k)

pub never-clashes : NeverClashes
never-clashes w f cs a = never-clash cs w empty_book (fresh w f) a
