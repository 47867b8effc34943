-- Demand 3 with displays in the list: what a display puts out is a RQST that the reader accepts, and any such may arrive at an end.
use mathlib.Core.Path.{◌≡◌, refl, sym, ap, ◌∙◌, subst}
use mathlib.Core.List.Memᴰ
use mathlib.Core.List.{List, [], ◌∷◌, Memᴰ}
use mathlib.Core.Logic.{inl, inr, ⊎_elim}
use Prim.Native.Nat.{ℕ}
use Rattle.end.specs.Answer.{PutsOut, class_in, Outcome, Refused, Did}
use Rattle.end.specs.Event.{Action, Moves, Send, Arrival, Else}
use Rattle.end.specs.Run as run
use Rattle.end.proofs.Tools.{put_all}
use Rattle.end.proofs.Service.Frame.{sent-by}
use Rattle.end.proofs.Service.Ends.{service}
use Rattle.display.specs.declared.Display.{Display}
use Rattle.display.specs.Display.{with_clock}
use Rattle.display.specs.Request.{request_for}
use Rattle.display.specs.Call.{event_of}
use Rattle.display_history.specs.History.{Call}
use Rattle.display_history.specs.Foyer.{Turn, AtEnd, AtDisplay, Foyer, display_result, after_end, after_display, Brought, Allowed, Fresh, at_ends, EndsAllowed, FoyerService}
use Rattle.display_history.proofs.History.{opened}
use Rattle.display_history.proofs.Answers.{Below, below_next, put_out_is, puts}

-- what a display puts out may arrive
call_asks : (d : Display) (c : Call) → Below d.window → (x : List ℕ) → class_in (event_of d c.event c.clock c.room).outcome ≡ PutsOut x
    → run.AnyRequest x
call_asks d c b x e =
    let p = puts d c x b (put_out_is (event_of d c.event c.clock c.room).outcome x e) in
    (request_for (with_clock d c.clock) p.number, p.reads, refl)

-- ---- a list

record Holds (f : Foyer) : Type 0 where
  pub leads : (k : ℕ) → Below (f.displays k).window
  pub requests : (x : List ℕ) → Memᴰ x f.asked → run.AnyRequest x

holds-next : (f : Foyer) (k : ℕ) (c : Call) → Holds f → Holds (after_display f k c)
unfolding run.sent_after
holds-next f k c h =
    let d = f.displays k in
    let r = display_result f k c in
    record {
      leads = λ j.
          put_all (λ _ (x : Display). Below x.window) f.displays k r.left (below_next d c (h.leads k)) j (λ _. h.leads j);
      requests = sent-by run.AnyRequest (class_in r.outcome) f.asked h.requests (call_asks d c (h.leads k));
    }

-- an end is brought what demand 3 has it be brought
brought : (f : Foyer) → Holds f → (a : Action) (o : Outcome) → Brought f a o → run.Brought f.world.sent a o
brought f h (Moves m) o b = tt
brought f h (Send cue) o b = tt
brought f h (Arrival bytes) (Refused k) b = tt
brought f h (Arrival []) (Did a) b = tt
brought f h (Arrival (x ∷ s)) (Did a) b = ⊎_elim (λ m. inl m) (λ m. inr (h.requests (x ∷ s) m)) b
brought f h (Else e) o b = tt

allowed : (f : Foyer) → Holds f → (ts : List Turn) → Allowed f ts → run.Allowed f.world (at_ends ts)
unfolding at_ends
allowed f h [] a = tt
allowed f h (AtEnd c ∷ ts) a =
    (a.0, a.1, brought f h c.action _ a.2, allowed (after_end f c) (record { leads = h.leads; requests = h.requests }) ts a.3)
allowed f h (AtDisplay k c ∷ ts) a = allowed (after_display f k c) (holds-next f k c h) ts a

fresh_holds : (f : Foyer) → Fresh f → Holds f
fresh_holds f g = record {
  leads = λ k. let o = g.displays k in subst Below (sym (ap (λ (d : Display). d.window) o.2 ∙ opened o.0 o.1)) tt;
  requests = λ x m. absurd (Memᴰ.not-nil (subst (Memᴰ x) g.asked m));
}

pub ends-allowed : EndsAllowed
ends-allowed f g ts a = allowed f (fresh_holds f g) ts a

pub foyer-service : FoyerService
foyer-service f g ts a = service f.world g.ends (at_ends ts) (ends-allowed f g ts a)
