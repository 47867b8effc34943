-- Document 02, P9: in the lists of calls that demand 3 speaks of, a cue that is handed out as Late is the one that its source filed: kind 23
-- carries a cue that its sender holds, and what an end holds is filed.
use mathlib.Core.Path.{◌≡◌, refl, sym, ap, ◌∙◌}
use mathlib.Core.Bool.{Bool, true, ◌||◌, or-true}
use mathlib.Core.List.{List, [], ◌∷◌}
use mathlib.Core.Option.{some}
use Prim.Native.Nat.{ℕ, ◌<◌}
use native.Mathlib.Omega.{arith}
use lib.ListN.{length, get_elem?}
use lib.Dec.{eqb}
use borrow.Author.Tests.{eqb-true}
use Rattle.message.specs.declared.Name.{Name}
use Rattle.message.specs.Message.{meaning_from}
use Rattle.message.specs.Question.{first_no, read_refusal}
use Rattle.end.specs.Answer.{Late, Did, Outcome, Result}
use Rattle.end.specs.Event.{step_of, question_of, event_of}
use Rattle.end.specs.Book.{Book, empty_book, book_after, is_original, is_repair}
use Rattle.end.specs.Run.{World, Call, Allowed, Brought, result_of, world_after, seen}
use Rattle.end.specs.Lates.{LateAsFiled, LatesAsFiled, LateHasTheSourcesBytes}
use Rattle.end.proofs.Tools.{by_cond}
use Rattle.end.proofs.Readings.{reads}
use Rattle.end.proofs.Lates.{step-late}
use Rattle.end.proofs.Service.View.{Filed}
use Rattle.end.proofs.Service.Frame.{Inv, Passed, passes, Stepped, stepped, brought_filed, fresh}
use Rattle.end.proofs.Service.Ends.{events}

-- one call
filed : (w : World) (b : Book) (c : Call) → Inv w b → Brought w.sent c.action (result_of w c).outcome → LateAsFiled b (result_of w c).outcome
unfolding result_of event_of read_refusal
filed w b c inv =
    let ev = c.action in
    let e = w.ends c.host in
    let step = step_of c.clock c.draws ev e in
    by_cond (λ (r : Result). Brought w.sent ev r.outcome → LateAsFiled b r.outcome)
    (eqb (question_of e ev c.clock (length c.output) (length c.draws)) 0)
    (λ t br name cue p.
    let z : Passed e ev c.clock = passes e ev c.clock (length c.output) (length c.draws) (eqb-true _ _ t) in
    let answers : step.effect ≡ Late name cue = cc in
    let k = step-late e c.clock c.draws name cue ev answers in
    let m = meaning_from k.bytes in
    let own = sym (ap first_no k.asked) ∙ rw k.arrival at z.own in
    let there : Filed b k.bytes = brought_filed w b ev step.effect inv br k.bytes k.arrival in
    sym (ap (λ (x : Name). get_elem? (b.filed x.source.0) x.number.0) k.message.named)
    ∙ there m (reads k.bytes own) (rw k.message.kind (or-true (is_original m || is_repair m))) ∙ ap some k.message.carried)
    (λ t br name cue p. let z : ◌≡◌ {A = ℕ} 0 1 = cc in absurd (omega arith))

-- and so the list
all-filed : (cs : List Call) (w : World) (b : Book) → Inv w b → Allowed w cs → LatesAsFiled b (seen w cs)
unfolding seen
all-filed [] w b inv a = tt
all-filed (c ∷ cs) w b inv a =
    let s : Stepped w b c.host c.action (result_of w c) = stepped events w b c inv a.0 a.1 a.2 in (
      filed w b c inv a.2,
      all-filed cs (world_after w c.host (result_of w c)) (book_after b c.host c.action (result_of w c).outcome) s.inv a.3,
    )

pub late_has_the_sources_bytes : LateHasTheSourcesBytes
late_has_the_sources_bytes w f cs a = all-filed cs w empty_book (fresh w f) a
