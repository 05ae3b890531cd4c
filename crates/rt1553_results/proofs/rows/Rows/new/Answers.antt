use Rattle.std.proofs.Common.{◌+◌, ◌∙◌, sym, ap, []}
use Rattle.bus_legal.specs.Description.{described}
use Rattle.bus_legal.specs.Parts.{description_in}
use Rattle.bus_legal.specs.Tables.{tables_say}
use Rattle.rt1553_results.specs.Rows.{rows_from}
use Rattle.rt1553_results.proofs.RowLaws.{set_up_alike, rows_alike}
use Rattle.rt1553_results.proofs.rows.Rows.new.Goals as goal

pub returns : goal.returns
returns c =
    let v = c.args.normal.now in
    let setup = c.setup.result in
    let Q = described setup (tables_say v.tables) in
    let P = description_in v in
    record {
      description = Q;
      history = [];
      stands = c.power_up.ensures.stands;
      rest = (ap (rows_from P []) (sym c.new.ensures.left) ∙ sym (rows_alike Q P (set_up_alike v setup c.setup.ensures.normal c.setup.ensures.parts setup.own_address) [] _));
      number = ap (λ n. n + 1) c.new.ensures.given;
    }
