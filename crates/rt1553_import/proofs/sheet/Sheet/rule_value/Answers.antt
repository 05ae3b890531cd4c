use Rattle.std.proofs.Common.{ap, ◌∙◌}
use Rattle.toml.specs.View.{members_view}
use Rattle.rt1553_import.proofs.TableLaws.{rule_made}
use Rattle.rt1553_import.proofs.sheet.Sheet.rule_value.Goals as goal

pub returns : goal.returns
returns c =
    c.from.ensures
    ∙ rule_made c.args.self.now c.args.row.now _ _ _ _ _ _ _ _ (ap members_view c.new-members.ensures.empty)
    c.in_ok-put_small_text.ensures c.in_ok-put_text.ensures c.in_ok-put_text-2.ensures c.in_ok-put_scope.ensures
    c.cell-kind.ensures c.cell-subaddresses.ensures c.cell-counts.ensures
