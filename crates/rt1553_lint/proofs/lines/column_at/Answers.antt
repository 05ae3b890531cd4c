use Rattle.std.proofs.Common.{◌≡◌, ℕ, true, false, List, get_or, arith, rules}
use Rattle.rt1553_lint.specs.Positions.{is_feed, begins_character}
use Rattle.rt1553_lint.proofs.Columns.{column_feed, column_character, column_inside, column_small}
use Rattle.rt1553_lint.proofs.lines.column_at.Goals as goal
use Rattle.rt1553_lint.proofs.lines.column_at.Goals.{then-is_feed, else-is_feed+then-begins_character, else-is_feed+else-begins_character}

pub loop-at-init : goal.loop-at-init
loop-at-init c = let small = column_small c.args.text.now c.args.from (omega arith) in record { counted = c.requires.column; small = omega (arith, c.requires.column, small) }

pub loop-at-preserved : goal.loop-at-preserved
loop-at-preserved c =
    let text : List ℕ = c.args.text.now in
    let i : ℕ = c.loop-at.at in
    let within = c.requires.within in
    elim c.if-is_feed.branch [
      | then-is_feed w ↦
          let feed : is_feed (get_or text i 0) ≡ true = search rules in
          rw w.column-is (let e = column_feed text i (omega arith) feed in record { counted = omega (arith, e); small = omega arith })
      | else-is_feed+then-begins_character w ↦
          let feed : is_feed (get_or text i 0) ≡ false = search rules in
          let begins : begins_character (get_or text i 0) ≡ true = search rules in
          rw w.column-is (let e = column_character text i (omega arith) feed begins in record { counted = omega (arith, e); small = omega arith })
      | else-is_feed+else-begins_character w ↦
          let feed : is_feed (get_or text i 0) ≡ false = search rules in
          let begins : begins_character (get_or text i 0) ≡ false = search rules in
          rw w.column-is (let e = column_inside text i (omega arith) feed begins in record { counted = omega (arith, e); small = omega arith })
    ]
