use Rattle.std.proofs.Common.{◌≡◌, ◌++◌, ◌≤◌, true, nat_le, codes, append_assoc, refl, subst, arith, lit<}
use Rattle.std.proofs.lemmas.Bool.Decides.{nat_tests}
use Rattle.bus_legal.specs.Parts.{parts_of}
use Rattle.line_format.specs.Format.{Spells}
use Rattle.line_format.specs.Shapes.{decimal, number_line}
use Rattle.line_format.proofs.Writes.{number_text, number_spelled}
use Rattle.bus_canon.specs.Canon.{wrap_lines, wrap_name, version_field, is_written}
use Rattle.bus_canon.proofs.CanonLaws.{TextLines, text_spelled}
use Rattle.bus_canon.proofs.write.put_text.Goals as goal

pub returns : goal.returns
unfolding wrap_lines wrap_name
returns c =
    let setup = c.args.setup.now in
    let head = number_text (codes "rt1553") version_field 2 in
    let address = number_text (codes "address") decimal c.from.result in
    let broadcast = c.in_ok-put_bit_line.ensures in
    let tables = c.in_ok-put_cells.ensures in
    let accept = c.in_ok-put_acceptance.ensures in
    let vector = c.in_ok-put_asked_word.ensures in
    let bit = c.in_ok-put_asked_word-2.ensures in
    let wrap = c.in_ok-put_wraparound.ensures in
    let initial = c.in_ok-put_blocks.ensures in
    let same : c.from.result ≡ setup.address = c.from.ensures in
    let low : c.from.result ≤ 30 = omega (arith, c.requires.address) in
    let own : nat_le c.from.result 30 ≡ true = grind (arith, nat_tests) in
    let lines : TextLines is_written (parts_of setup c.args.tables.now) (head ++ (address ++ (broadcast.0 ++ (tables.0 ++ (accept.0 ++ (vector.0 ++ (bit.0 ++ (wrap.0 ++ initial.0)))))))) = record {
      version = 2;
      head = head;
      address = address;
      broadcast = broadcast.0;
      cells = tables.0;
      accept = accept.0;
      vector = vector.0;
      bit = bit.0;
      wrap = wrap.0;
      initial = initial.0;
      is = refl;
      head_is = number_spelled (codes "rt1553") version_field is_written 2 (lit< tt) refl;
      address_is = subst (λ n. Spells (number_line (codes "address") decimal (λ n. nat_le n 30)) n address) same (number_spelled (codes "address") decimal (λ n. nat_le n 30) c.from.result (omega arith) own);
      broadcast_is = broadcast.2;
      cells_are = tables.2;
      accept_is = accept.2;
      vector_is = vector.2;
      bit_is = bit.2;
      wrap_is = wrap.2;
      initial_is = initial.2;
    } in
    (_, simp (initial.1, wrap.1, bit.1, vector.1, accept.1, tables.1, broadcast.1, c.in_ok-put_number_line-2.ensures, c.in_ok-put_number_line.ensures, append_assoc), text_spelled is_written (parts_of setup c.args.tables.now) _ lines)
