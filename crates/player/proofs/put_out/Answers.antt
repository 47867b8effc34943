use native.Mathlib.Omega.{arith}
use Rattle.player.proofs.PlayLaws.{put-kept, put_beyond}
use Rattle.player.proofs.put_out.Goals as goal

-- `player::put_out` meets its contract: the message is one more, or there is no place for it.
pub returns-then-store-lt-MOST : goal.returns-then-store-lt-MOST
returns-then-store-lt-MOST c = put-kept _ _ _ c.requires.shelf.few _ (omega arith) c.keep.ensures.messages

pub returns-else-store-lt-MOST : goal.returns-else-store-lt-MOST
returns-else-store-lt-MOST c = put_beyond _ _ _ c.requires.shelf.few (omega arith)
