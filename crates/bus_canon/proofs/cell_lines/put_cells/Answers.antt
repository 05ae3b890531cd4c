use Rattle.std.proofs.Common.{◌++◌, append_assoc, refl}
use Rattle.bus_canon.proofs.CellLaws.{CellLines, cells_spelled}
use Rattle.bus_canon.proofs.cell_lines.put_cells.Goals as goal

pub returns : goal.returns
returns c =
    let a = c.in_ok-put_masks.ensures in
    let b = c.in_ok-put_masks-2.ensures in
    let d = c.in_ok-put_broadcast_masks.ensures in
    let e = c.in_ok-put_own_codes.ensures in
    let f = c.in_ok-put_broadcast_codes.ensures in
    let lines : CellLines c.args.broadcast c.args.tables.now (a.0 ++ (b.0 ++ (d.0 ++ (e.0 ++ f.0)))) = record {
      receive = a.0;
      transmit = b.0;
      heard = d.0;
      own = e.0;
      all = f.0;
      is = refl;
      receive_is = a.2;
      transmit_is = b.2;
      heard_is = d.2;
      own_is = e.2;
      all_is = f.2;
    } in
    (a.0 ++ (b.0 ++ (d.0 ++ (e.0 ++ f.0))), simp (f.1, e.1, d.1, b.1, a.1, append_assoc), cells_spelled c.args.broadcast c.args.tables.now _ lines)
