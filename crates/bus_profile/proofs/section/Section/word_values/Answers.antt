use Rattle.std.proofs.Common.{◌≡◌, Some, true, false, arith}
use Rattle.std.proofs.lemmas.Bool.Decides.{nat_tests}
use Rattle.toml.specs.Data.{array}
use Rattle.toml.specs.View.{items_view, table_view}
use Rattle.bus_profile.specs.declared.fault.Key.TheVariants.{Words}
use Rattle.bus_profile.specs.Keys.{at_row}
use Rattle.bus_profile.specs.Kinds.{found, value}
use Rattle.bus_profile.specs.Faults.{goes_beyond}
use Rattle.bus_profile.proofs.Arrays.{array_here, words_head, goes_beyond-view}
use Rattle.bus_profile.proofs.section.Section.word_values.Goals as goal

pub returns-then-values-from-clause-reads : goal.returns-then-values-from-clause-reads
returns-then-values-from-clause-reads c =
    let values = c.in-Some-items_of.values.now in
    let at = value at_row (table_view c.args.self.now.table.now) in
    let here : Some (array (items_view values)) ≡ found Words (table_view c.args.self.now.table.now) = array_here _ _ _ c.in-Some.ensures c.in-Some-items_of.ensures in
    let many : goes_beyond at (items_view values) ≡ true = grind (arith, nat_tests, goes_beyond-view c.args.first at values c.requires, c.requires.low) in
    rw (← here, words_head c.args.self.now.part (items_view values) (goes_beyond at (items_view values)), many)

pub returns-clause-reads : goal.returns-clause-reads
returns-clause-reads c =
    let values = c.in-Some-items_of.values.now in
    let at = value at_row (table_view c.args.self.now.table.now) in
    let here : Some (array (items_view values)) ≡ found Words (table_view c.args.self.now.table.now) = array_here _ _ _ c.in-Some.ensures c.in-Some-items_of.ensures in
    let few : goes_beyond at (items_view values) ≡ false = grind (arith, nat_tests, goes_beyond-view c.args.first at values c.requires, c.requires.low) in
    (rw (← here, words_head c.args.self.now.part (items_view values) (goes_beyond at (items_view values)), few), rw (← here))
