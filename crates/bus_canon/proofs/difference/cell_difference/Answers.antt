use Rattle.bus_legal.specs.Parts.{description_in}
use Rattle.bus_canon.specs.inner.Search.{AlikeBefore}
use Rattle.bus_canon.proofs.CellFound.{receive_same, receive_first, transmit_same, transmit_first, broadcast_receive_same, broadcast_receive_first, own_code_same, own_code_first, broadcast_code_same, broadcast_code_first}
use Rattle.bus_canon.proofs.difference.cell_difference.Goals as goal

pub returns-in-Some : goal.returns-in-Some
returns-in-Some c =
    receive_first c.args.p.now c.args.q.now c.tables-ours.result.now c.tables-theirs.result.now c.tables-ours.ensures c.tables-theirs.ensures c.in-Some.s c.in-Some.n c.requires.before c.in-Some.ensures

pub returns-in-Some-first_count : goal.returns-in-Some-first_count
returns-in-Some-first_count c =
    let before_4 : AlikeBefore 4 (description_in c.args.p.now) (description_in c.args.q.now) = receive_same c.args.p.now c.args.q.now c.tables-ours.result.now c.tables-theirs.result.now c.tables-ours.ensures c.tables-theirs.ensures c.requires.before c.in_default.ensures in
    transmit_first c.args.p.now c.args.q.now c.tables-ours.result.now c.tables-theirs.result.now c.tables-ours.ensures c.tables-theirs.ensures c.in-Some-first_count.s c.in-Some-first_count.n before_4 c.in-Some-first_count.ensures

pub returns-in-Some-first_count-2 : goal.returns-in-Some-first_count-2
returns-in-Some-first_count-2 c =
    let before_4 : AlikeBefore 4 (description_in c.args.p.now) (description_in c.args.q.now) = receive_same c.args.p.now c.args.q.now c.tables-ours.result.now c.tables-theirs.result.now c.tables-ours.ensures c.tables-theirs.ensures c.requires.before c.in_default.ensures in
    let before_5 : AlikeBefore 5 (description_in c.args.p.now) (description_in c.args.q.now) = transmit_same c.args.p.now c.args.q.now c.tables-ours.result.now c.tables-theirs.result.now c.tables-ours.ensures c.tables-theirs.ensures before_4 c.in_default-first_count.ensures in
    broadcast_receive_first c.args.p.now c.args.q.now c.tables-ours.result.now c.tables-theirs.result.now c.tables-ours.ensures c.tables-theirs.ensures c.in-Some-first_count-2.s c.in-Some-first_count-2.n before_5 c.in-Some-first_count-2.ensures

pub returns-in-Some-first_bit : goal.returns-in-Some-first_bit
returns-in-Some-first_bit c =
    let before_4 : AlikeBefore 4 (description_in c.args.p.now) (description_in c.args.q.now) = receive_same c.args.p.now c.args.q.now c.tables-ours.result.now c.tables-theirs.result.now c.tables-ours.ensures c.tables-theirs.ensures c.requires.before c.in_default.ensures in
    let before_5 : AlikeBefore 5 (description_in c.args.p.now) (description_in c.args.q.now) = transmit_same c.args.p.now c.args.q.now c.tables-ours.result.now c.tables-theirs.result.now c.tables-ours.ensures c.tables-theirs.ensures before_4 c.in_default-first_count.ensures in
    let before_6 : AlikeBefore 6 (description_in c.args.p.now) (description_in c.args.q.now) = broadcast_receive_same c.args.p.now c.args.q.now c.tables-ours.result.now c.tables-theirs.result.now c.tables-ours.ensures c.tables-theirs.ensures before_5 c.in_default-first_count-2.ensures in
    own_code_first c.args.p.now c.args.q.now c.tables-ours.result.now c.tables-theirs.result.now c.tables-ours.ensures c.tables-theirs.ensures c.in-Some-first_bit.code c.requires.first c.requires.second before_6 c.in-Some-first_bit.ensures

pub returns-in-Some-first_bit-2 : goal.returns-in-Some-first_bit-2
returns-in-Some-first_bit-2 c =
    let before_4 : AlikeBefore 4 (description_in c.args.p.now) (description_in c.args.q.now) = receive_same c.args.p.now c.args.q.now c.tables-ours.result.now c.tables-theirs.result.now c.tables-ours.ensures c.tables-theirs.ensures c.requires.before c.in_default.ensures in
    let before_5 : AlikeBefore 5 (description_in c.args.p.now) (description_in c.args.q.now) = transmit_same c.args.p.now c.args.q.now c.tables-ours.result.now c.tables-theirs.result.now c.tables-ours.ensures c.tables-theirs.ensures before_4 c.in_default-first_count.ensures in
    let before_6 : AlikeBefore 6 (description_in c.args.p.now) (description_in c.args.q.now) = broadcast_receive_same c.args.p.now c.args.q.now c.tables-ours.result.now c.tables-theirs.result.now c.tables-ours.ensures c.tables-theirs.ensures before_5 c.in_default-first_count-2.ensures in
    let before_7 : AlikeBefore 7 (description_in c.args.p.now) (description_in c.args.q.now) = own_code_same c.args.p.now c.args.q.now c.tables-ours.result.now c.tables-theirs.result.now c.tables-ours.ensures c.tables-theirs.ensures before_6 c.in_default-first_bit.ensures in
    broadcast_code_first c.args.p.now c.args.q.now c.tables-ours.result.now c.tables-theirs.result.now c.tables-ours.ensures c.tables-theirs.ensures c.in-Some-first_bit-2.code c.requires.first c.requires.second before_7 c.in-Some-first_bit-2.ensures

pub returns : goal.returns
returns c =
    let before_4 : AlikeBefore 4 (description_in c.args.p.now) (description_in c.args.q.now) = receive_same c.args.p.now c.args.q.now c.tables-ours.result.now c.tables-theirs.result.now c.tables-ours.ensures c.tables-theirs.ensures c.requires.before c.in_default.ensures in
    let before_5 : AlikeBefore 5 (description_in c.args.p.now) (description_in c.args.q.now) = transmit_same c.args.p.now c.args.q.now c.tables-ours.result.now c.tables-theirs.result.now c.tables-ours.ensures c.tables-theirs.ensures before_4 c.in_default-first_count.ensures in
    let before_6 : AlikeBefore 6 (description_in c.args.p.now) (description_in c.args.q.now) = broadcast_receive_same c.args.p.now c.args.q.now c.tables-ours.result.now c.tables-theirs.result.now c.tables-ours.ensures c.tables-theirs.ensures before_5 c.in_default-first_count-2.ensures in
    let before_7 : AlikeBefore 7 (description_in c.args.p.now) (description_in c.args.q.now) = own_code_same c.args.p.now c.args.q.now c.tables-ours.result.now c.tables-theirs.result.now c.tables-ours.ensures c.tables-theirs.ensures before_6 c.in_default-first_bit.ensures in
    broadcast_code_same c.args.p.now c.args.q.now c.tables-ours.result.now c.tables-theirs.result.now c.tables-ours.ensures c.tables-theirs.ensures before_7 c.in_default-first_bit-2.ensures
