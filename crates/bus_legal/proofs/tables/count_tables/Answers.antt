use Rattle.std.proofs.Common.{◌<◌, ◌&&◌, length, arith}
use Rattle.bus_legal.specs.inner.Masks.{has_both_bits}
use Rattle.bus_legal.proofs.TableSteps.{zeros-bits, rule_says-take}
use Rattle.bus_legal.proofs.tables.count_tables.Goals as goal

pub loop-rule-init : goal.loop-rule-init
loop-rule-init c = record { own_receive = zeros-bits; own_transmit = zeros-bits; broadcast_receive = zeros-bits }

pub loop-rule-preserved : goal.loop-rule-preserved
loop-rule-preserved c =
    let at = c.loop-rule.rule-index in
    let rules = c.args.rules.now in
    let rule = c.rule-item.result in
    let inside : at < length rules = omega arith in
    let before = c.loop-rule.invariant in
    record {
      own_receive = λ s i l k.
          rule_says-take (λ r. r.own && r.receive && has_both_bits s i r) rules at rule _ _ inside (before.own_receive s i l k)
          (rw c.rule-item.is at (c.put.ensures s i l k));
      own_transmit = λ s i l k.
          rule_says-take (λ r. r.own && r.transmit && has_both_bits s i r) rules at rule _ _ inside (before.own_transmit s i l k)
          (rw c.rule-item.is at (c.put-in-loop-rule.ensures s i l k));
      broadcast_receive = λ s i l k.
          rule_says-take (λ r. r.broadcast && r.receive && has_both_bits s i r) rules at rule _ _ inside (before.broadcast_receive s i l k)
          (rw c.rule-item.is at (c.put-in-loop-rule-2.ensures s i l k));
    }
