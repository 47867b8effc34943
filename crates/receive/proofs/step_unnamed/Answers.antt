-- `receive::step_unnamed` meets its contract: kind 22, kind 23, kind 24, or a session message.
use Rattle.message.specs.Message.{meaning_of}
use Rattle.session.proofs.Passes.{in_range_lem}
use Rattle.receive.proofs.step_unnamed.Goals as goal

pub hand_late-requires : goal.hand_late-requires
hand_late-requires c = ((in_range_lem (meaning_of c.args.m) c.requires.ranges_in).sender, c.requires.room_in)
