use Rattle.std.proofs.Common.{◌≡◌, ◌-◌, ◌≤◌, ℕ, true, ◌&&◌, nat_le, ap, arith}
use Rattle.std.proofs.lemmas.Bool.Decides.{nat_tests}
use Rattle.terminal_exchanges.specs.Values.{exchange_in}
use Rattle.bus_canon.proofs.ScriptLaws.{initial_shown}
use Rattle.bus_canon.proofs.script.initial_script.Goals as goal

is_place : (s : ℕ) → 1 ≤ s → s ≤ 30 → nat_le 1 s && nat_le s 30 ≡ true
is_place s low high = grind (arith, nat_tests)

pub returns : goal.returns
returns c =
    initial_shown c.args.p.now c.tables.result.now c.address.result (c.from.result - 1) c.args.subaddress c.largest_count-count.result (exchange_in c.transmit.result) c.script_of_one.result.items
    c.tables.ensures c.address.ensures (ap (λ s. s - 1) c.from.ensures) (is_place c.args.subaddress c.requires.low c.requires.high) c.largest_count-count.ensures.count c.transmit.ensures.exchange c.script_of_one.ensures
