-- Demand 3. "For every list of the calls .., refused ones included, on ends opened fresh, each host number once, each state used only as
-- its end left it, whatever the clocks say and whichever messages the network loses, delays, repeats or reorders (it invents none), the
-- list is a run of the reliable multicast service by document 01's book."
use Rattle.std.specs.Prelude.{◌≡◌}
use mathlib.Core.List.{List, map, Memᴰ}
use Rattle.message.specs.declared.Name.{Name}
use Rattle.end.specs.declared.Answer.TheVariants as answer
use Rattle.end.specs.Answer.{Clash, Did}
use Rattle.end.specs.Book.{Entry, RunFrom, empty_book}
use Rattle.end.specs.Lates.{LatesAsFiled}
use Rattle.end.specs.Run.{World, Call, Fresh, Allowed, seen}
use Rattle.cases.specs.Shown.{Returned, returned, onlooked}

pub record ServiceKept : Type 0 where
  pub runs : (w : World) → Fresh w → (cs : List Call) → Allowed w cs → RunFrom empty_book (seen w cs)
  -- the same of what the calls return: their declared answers, and the outputs that they leave
  pub shown : (w : World) → Fresh w → (cs : List Call) → Allowed w cs → RunFrom empty_book (map onlooked (returned w cs))
  -- document 02, P4: "In runs where the network invents nothing, Clash is shown never to come up": no call of such a list answers it
  pub never-clashes : (w : World) → Fresh w → (cs : List Call) → Allowed w cs
      → (x : Entry) → Memᴰ x (seen w cs) → (name : Name) → x.outcome ≡ Did (Clash name) → ⊥
  -- and none returns it
  pub never_returns_clash : (w : World) → Fresh w → (cs : List Call) → Allowed w cs
      → (x : Returned) → Memᴰ x (returned w cs) → (name : Name) → x.answer ≡ answer.Clash name → ⊥
  -- P9: a cue that is handed out as Late is "in the service's runs with the source's bytes"
  pub late_has_the_sources_bytes : (w : World) → Fresh w → (cs : List Call) → Allowed w cs → LatesAsFiled empty_book (seen w cs)
  pub late-shown : (w : World) → Fresh w → (cs : List Call) → Allowed w cs → LatesAsFiled empty_book (map onlooked (returned w cs))
