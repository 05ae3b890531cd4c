use Rattle.std.proofs.Common.{ap, ◌∙◌}
use Rattle.toml.specs.Data.{table, string}
use Rattle.toml.specs.View.{members_view}
use Rattle.rt1553_toml.proofs.TableLaws.{rule_made}
use Rattle.rt1553_toml.proofs.full_tree.rule_value.Goals as goal

pub returns : goal.returns
returns c =
    c.from-4.ensures
    ∙ ap table (rule_made c.args.to.now c.args.direction.now c.args.subaddress c.args.counts _ _ _ _ _ _ _ _ _ _ _ (ap members_view c.new-members.ensures.empty)
    c.in_ok-put.ensures c.in_ok-put-2.ensures c.in_ok-put-3.ensures c.in_ok-put-4.ensures c.in_ok-put-5.ensures
    (c.from.ensures ∙ ap string c.in_ok-set_text.ensures) c.in_ok-string.ensures c.from-2.ensures c.from-3.ensures c.in_ok-string-2.ensures)
