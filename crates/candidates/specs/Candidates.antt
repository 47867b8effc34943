-- What is chosen in fetching, as the code takes it: the parts of the crate end's Fetch.antt that lie in the one source that the name is of, and the
-- nearest host by the sources alone. proofs/MayLaws.antt shows that `may_on` is `may_fetch`, the crate fetch's proofs/FetchLaws.antt what the others are.
use Rattle.std.specs.Prelude.{ℕ, Bool, cond, not, ◌&&◌, List, get_or, eqb}
use Rattle.numbers.specs.Bits.{bit}
use Rattle.message.specs.declared.Host.{Host}
use Rattle.message.specs.declared.Name.{Name}
use Rattle.message.specs.declared.NameEntry.{NameEntry}
use Rattle.message.specs.Entry.{as_host}
use Rattle.message.specs.Question.{host_in, same_host}
use Rattle.end.specs.Parts.{Nearest, Nobody}
use Rattle.end.specs.declared.Source.{Source}
use Rattle.end.specs.State.{no_source}
use Rattle.end.specs.Records.{fetchable, attempt_at}
use Rattle.end.specs.Names.{holds_cue}
use Rattle.end.specs.Fire.{fold_up}
use Rattle.end.specs.Fetch.{reported_by, nearer}

-- ---- the event

-- whether a name may be fetched, by its source
abbrev pub may_on : Name → Source → Bool
may_on name s = host_in name.source && (fetchable s.origin name.number.0 && not (attempt_at s name.number.0).late)

-- host h, whose source is s, beside the nearest so far
abbrev pub offered : Host → Host → ℕ → Host → Source → Nearest → Nearest
offered me source tried h s best =
    cond ((not (eqb h.0 me.0) && reported_by s.heard source) && not (bit tried h.0)) (nearer best h s.distance) best

-- of the first k hosts, those that reported the source and are not among the tried
unfoldable pub nearest_of : Host → List Source → Host → ℕ → ℕ → Nearest
nearest_of me sources source tried k = fold_up (λ h best. offered me source tried (as_host h) (get_or sources h no_source) best) Nobody k

-- ---- kind 22, with its name and the host in it

abbrev pub answers : Host → NameEntry → Source → Bool
answers me x s = same_host x.host me && holds_cue s x.name.number.0

-- ---- kind 23, with its sender too

abbrev pub hands : Host → NameEntry → Host → Source → Bool
hands me x sender s =
    let was = attempt_at s x.name.number.0 in
    same_host x.host me && (bit was.tried sender.0 && not was.late)
