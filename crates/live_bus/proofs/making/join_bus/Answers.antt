use Rattle.live_bus.proofs.MadeLaws.{after_join}
use Rattle.live_bus.proofs.making.join_bus.Goals as goal

pub invariant_of-live : goal.invariant_of-live
invariant_of-live c = record {
  made = after_join c.join.result c.copy.result c.args.terminal.now.terminal c.args.live.now.bus c.join.new.self c.join.ensures.behind c.join.ensures.unchanged
      (record { legality = c.copy.ensures.legality; description = c.copy.ensures.description }) c.args.terminal.now.made c.args.live.now.made;
}
