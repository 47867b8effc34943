-- What Send, Fire, Report and an arrival need of a state beyond `Ready`: its host and the requesters are hosts, each source has at most 64
-- numbers and is counted, no stamp was heard in the future, and none from oneself. Soundness gives it, and a clock not below the state's keeps it.
use Rattle.std.specs.Prelude.{◌≡◌, ℕ, ◌<◌}
use Rattle.message.specs.declared.Host.{Host}
use Rattle.end.specs.Parts.{Reply, No, Due, Never}
use Rattle.end.specs.declared.End.{End}
use Rattle.end.specs.State.{source_at}
use Rattle.end.specs.Records.{record_at, reply_in}
use Rattle.end.specs.Ready.{Ready, HeardBy}
use Rattle.state.specs.Counted.{Counted}

-- a reply's requester is a host
abbrev pub Asked : Reply → Type 0
Asked No = Unit {0}
Asked (Due due requester) = requester.0 < 8

pub record Settled (e : End) : Type 0 where
  pub ready : Ready e
  pub host : e.host.0 < 8
  pub counts : (h : Host) → h.0 < 8 → Counted (source_at e h)
  pub asked : (h : Host) (n : ℕ) → h.0 < 8 → Asked (reply_in (record_at (source_at e h) n).slot)
  pub heard : (h : Host) → h.0 < 8 → HeardBy e.clock (source_at e h).heard
  pub own : (source_at e e.host).heard ≡ Never
