use Rattle.std.proofs.Common.{◌≡◌, Some, true, false, arith}
use Rattle.std.proofs.lemmas.Bool.Decides.{nat_tests}
use Rattle.toml.specs.Data.{array}
use Rattle.toml.specs.View.{items_view, table_view}
use Rattle.bus_profile.specs.Keys.{tables}
use Rattle.bus_profile.specs.Kinds.{found, is_too_long}
use Rattle.bus_profile.proofs.Arrays.{array_here, entries_head, is_too_long-view}
use Rattle.bus_profile.proofs.section.Section.entries.Goals as goal

pub returns-then-items-gt256-clause-reads : goal.returns-then-items-gt256-clause-reads
returns-then-items-gt256-clause-reads c =
    let values = c.in-Some-items_of.items.now in
    let here : Some (array (items_view values)) ≡ found c.args.key (table_view c.args.self.now.table.now) = array_here _ _ _ c.in-Some.ensures c.in-Some-items_of.ensures in
    let many : is_too_long (tables 256) (items_view values) ≡ true = grind (arith, nat_tests, is_too_long-view values) in
    rw (← here, entries_head c.args.self.now.part c.args.key (items_view values) (is_too_long (tables 256) (items_view values)), many)

pub returns-clause-reads : goal.returns-clause-reads
returns-clause-reads c =
    let values = c.in-Some-items_of.items.now in
    let here : Some (array (items_view values)) ≡ found c.args.key (table_view c.args.self.now.table.now) = array_here _ _ _ c.in-Some.ensures c.in-Some-items_of.ensures in
    let few : is_too_long (tables 256) (items_view values) ≡ false = grind (arith, nat_tests, is_too_long-view values) in
    (rw (← here, entries_head c.args.self.now.part c.args.key (items_view values) (is_too_long (tables 256) (items_view values)), few), rw (← here))
