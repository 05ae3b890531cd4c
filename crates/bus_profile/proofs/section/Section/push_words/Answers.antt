use Rattle.std.proofs.Common.{◌≡◌, OnOk, subst}
use Rattle.toml.specs.View.{table_view}
use Rattle.bus_profile.proofs.PushedFaults.{next, grown, words_told}
use Rattle.bus_profile.proofs.section.Section.push_words.Goals as goal

pub returns : goal.returns
returns c =
    subst (λ fs. OnOk c.push_each_word.result (c.push_each_word.new.faults.items ≡ fs))
    (grown _ _ _ _ _ (next _ _ _ _ _ c.in_ok-push_some.ensures c.in_ok-push_where.ensures)
    (words_told c.args.self.now.part (table_view c.args.self.now.table.now) c.key_fault.result c.goes_beyond.result c.items_in-values.result.now c.key_fault.ensures c.items_in-values.ensures c.goes_beyond.ensures))
    c.push_each_word.ensures
