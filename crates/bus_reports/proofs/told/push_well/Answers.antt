use Rattle.std.proofs.Common.{OnOk, sym, subst, if◌then◌else◌}
use Rattle.std.specs.String.{string_bytes}
use Rattle.bus_reports.specs.Outcomes.{EndsWith, well_words}
use Rattle.bus_reports.proofs.Ends.{ends}
use Rattle.bus_reports.proofs.told.push_well.Goals as goal

pub returns-then-in_every_order : goal.returns-then-in_every_order
returns-then-in_every_order c =
    subst (λ b. OnOk c.push_str.result (EndsWith (well_words b) (string_bytes c.push_str.new.self))) (sym c.if-in_every_order.true) (ends c.push_str.result _ _ _ c.push_str.ensures.bytes)

pub returns-else-in_every_order : goal.returns-else-in_every_order
returns-else-in_every_order c =
    subst (λ b. OnOk c.push_str-else-in_every_order.result (EndsWith (well_words b) (string_bytes c.push_str-else-in_every_order.new.self))) (sym c.if-in_every_order.false) (ends c.push_str-else-in_every_order.result _ _ _ c.push_str-else-in_every_order.ensures.bytes)
