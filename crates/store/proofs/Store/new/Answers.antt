use mathlib.Core.Path.{refl}
use Rattle.store.specs.Store.{first_messages}
use Rattle.store.proofs.Store.new.Goals as goal

-- `Store::new` meets its contract: no place is used.
pub returns : goal.returns
unfolding first_messages
returns c = refl
