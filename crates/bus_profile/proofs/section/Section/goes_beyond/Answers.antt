use Rattle.std.proofs.Common.{arith, sym}
use Rattle.std.proofs.lemmas.Bool.Decides.{nat_tests}
use Rattle.toml.specs.View.{items_view, table_view}
use Rattle.bus_profile.specs.Keys.{at_row}
use Rattle.bus_profile.specs.Kinds.{value}
use Rattle.bus_profile.specs.inner.FirstWord.{IsFirstWord}
use Rattle.bus_profile.proofs.Arrays.{place_of, goes_beyond-view}
use Rattle.bus_profile.proofs.AllFaults.{beyond_nowhere}
use Rattle.bus_profile.proofs.section.Section.goes_beyond.Goals as goal

pub returns-in-Ok : goal.returns-in-Ok
returns-in-Ok c =
    let at = value at_row (table_view c.args.self.now.table.now) in
    let reads = c.in-Ok.ensures.reads in
    let place : IsFirstWord c.in-Ok.first at = place_of c.args.self.now.part (table_view c.args.self.now.table.now) c.in-Ok.first reads.0 reads.1 in
    grind (arith, nat_tests, goes_beyond-view c.in-Ok.first at c.args.values.now place, place.low, place.high)

pub returns-in-Err : goal.returns-in-Err
returns-in-Err c = sym (beyond_nowhere c.args.self.now.part (table_view c.args.self.now.table.now) _ (items_view c.args.values.now) c.in-Err.ensures.reads)
