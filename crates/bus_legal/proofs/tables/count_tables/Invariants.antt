use Rattle.std.proofs.Common.{◌&&◌, take}
use Rattle.bus_legal.specs.inner.Masks.{MasksSay, bit_said}
use Rattle.bus_legal.proofs.tables.count_tables.Given as goal

-- the masks are those of the rules so far
abbrev pub invariant-loop-rule : goal.invariant-loop-rule
invariant-loop-rule l = record {
  own_receive : MasksSay l.own_receive (bit_said (λ r. r.own && r.receive) (take l.rule-index l.rules));
  own_transmit : MasksSay l.own_transmit (bit_said (λ r. r.own && r.transmit) (take l.rule-index l.rules));
  broadcast_receive : MasksSay l.broadcast_receive (bit_said (λ r. r.broadcast && r.receive) (take l.rule-index l.rules));
}
