use Rattle.player.proofs.PlayLaws.{known-place, in_output, played}
use Rattle.player.proofs.play_known.Goals as goal

-- `player::play_known` meets its contract: the call, and what its answer tells.
pub event_in-happened-requires : goal.event_in-happened-requires
event_in-happened-requires c = known-place c.args.verb c.args.store.now.count c.requires.known c.requires.few

pub tell-requires : goal.tell-requires
tell-requires c =
    let a = c.args in
    record {
      in_output =
          in_output a.explains a.e a.verb a.clock a.store.now c.requires.few c.requires.known _ _
          c.event_in-happened.ensures.stepped_value c.event_in-happened.ensures.out_after;
      shelf = record { out-size = c.event_in-happened.auto.out; few = c.requires.few };
    }

pub returns : goal.returns
returns c =
    let a = c.args in
    played a.explains a.e a.verb a.clock a.store.now c.requires.few c.requires.known _ _
    c.event_in-happened.ensures.stepped_value c.event_in-happened.ensures.out_after _ _ _ c.event_in-happened.ensures.why_value c.tell.ensures
