-- A name may be fetched by what its source says: where the name's source is no host, that of host 0 is looked up, and the name may not.
use mathlib.Core.Path.{◌≡◌}
use mathlib.Core.Bool.{cond}
use Rattle.message.specs.declared.Host.{Host}
use Rattle.message.specs.declared.Name.{Name}
use Rattle.message.specs.Entry.{as_host}
use Rattle.message.specs.Question.{host_in}
use Rattle.end.specs.declared.End.{End}
use Rattle.end.specs.State.{source_at}
use Rattle.end.specs.Fetch.{may_fetch}
use Rattle.end.proofs.Tools.{by_test}
use Rattle.candidates.specs.Candidates.{may_on}

pub may-is : (e : End) (name : Name) (from : Host) → from ≡ cond (host_in name.source) name.source (as_host 0)
    → may_on name (source_at e from) ≡ may_fetch e name
unfolding may_fetch
may-is e name from p = rw p (by_test (host_in name.source) (λ t. rw t) (λ t. rw t))
