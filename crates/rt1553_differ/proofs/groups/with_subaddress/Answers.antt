use Rattle.rt1553_differ.proofs.GroupLaws.{set_at}
use Rattle.std.proofs.Common.{◌&&◌, ◌||◌, ◌==◌, ◌-◌, ap, sym, rules, ◌∙◌}
use Rattle.bus_word.specs.Mask.{has_bit}
use Rattle.rt1553_differ.proofs.groups.with_subaddress.Goals as goal

pub returns-then-set : goal.returns-then-set
returns-then-set c = λ t l. set_at c.args.bits c.args.s t c.from.result (search rules) c.requires.low c.requires.high l ∙ sym (ap (λ b. (b && (t == c.args.s)) || has_bit c.args.bits (t - 1)) c.if-set.true)
