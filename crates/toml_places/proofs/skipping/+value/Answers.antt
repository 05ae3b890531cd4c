use Rattle.std.proofs.Common.{◌≡◌, ◌-◌, ◌<◌, ◌||◌, ◌==◌, true, false, drop, length, Some, sym, ap, ◌∙◌, rules, arith}
use Rattle.std.proofs.lemmas.Grind.{common_steps}
use Rattle.toml_parser.specs.Lexical.{first, skip_blank}
use Rattle.toml.specs.Data.{array, table, no_items}
use Rattle.toml.specs.Tables.{no_nodes}
use Rattle.toml.specs.Parse.{val, items, members, key_equals, after_element}
use Rattle.toml.proofs.Turns.{val_atom, val_open_array, val_open_table, val_deep}
use Rattle.toml_places.proofs.Faults.{passed_on}
use Rattle.toml_places.proofs.Turns.{given, read_map_some, items_done, items_on, members_done, members_on}
use Rattle.toml_places.proofs.skipping.+value.Goals as goal

pub skip_items-returns-then-first-eq93-clause-value : goal.skip_items-returns-then-first-eq93-clause-value
skip_items-returns-then-first-eq93-clause-value c c' n found x rest read =
    let l = c'.items in
    let (m, more, loop) = l.invariant.2 n found x rest read in
    let closing : (first (skip_blank l.rest.now) == 93) ≡ true = grind (arith, common_steps) in
    c'.skip.ensures.rest ∙ ap (drop 1) c'.skip_blank-start.ensures.rest ∙ items_done (val c'.args.depth) m more x l.rest.now rest loop closing

pub skip_items-returns-in_err-after-clause-value : goal.skip_items-returns-in_err-after-clause-value
skip_items-returns-in_err-after-clause-value c c' n found x rest read =
    let l = c'.items in
    let (m, more, loop) = l.invariant.2 n found x rest read in
    let other : (first (skip_blank l.rest.now) == 93) ≡ false = grind (arith, common_steps) in
    given (items_on (val c'.args.depth) m more x l.rest.now rest loop other) λ e.
    passed_on _ _ _ _ c'.from_residual.ensures.1 (λ y p. p) (c'.in_err-after.ensures.value e.value e.after (ap (val c'.args.depth) c'.skip_blank-start.ensures.rest ∙ e.read))

pub skip_items-returns-in_err-rest-clause-value : goal.skip_items-returns-in_err-rest-clause-value
skip_items-returns-in_err-rest-clause-value c c' n found x rest read =
    let l = c'.items in
    let (m, more, loop) = l.invariant.2 n found x rest read in
    let other : (first (skip_blank l.rest.now) == 93) ≡ false = grind (arith, common_steps) in
    given (items_on (val c'.args.depth) m more x l.rest.now rest loop other) λ e.
    let after_is = c'.in_ok-after.ensures.value e.value e.after (ap (val c'.args.depth) c'.skip_blank-start.ensures.rest ∙ e.read) in
    passed_on _ _ _ _ c'.from_residual-in_err-rest.ensures.1 (λ y p. p) (c'.in_err-rest.ensures.value e.next (ap (after_element 93) after_is ∙ e.goes_on))

pub skip_items-items-preserved : goal.skip_items-items-preserved
skip_items-items-preserved c c' =
    let l = c'.items in
    let other : (first (skip_blank l.rest.now) == 93) ≡ false = grind (arith, common_steps) in
    let shorter = c'.in_ok-after.ensures.shorter in
    let within = c'.in_ok-rest.ensures.within in
    let before = c'.skip_blank-start.ensures.within in (
      search rules,
      omega (arith, l.invariant.1),
      λ n found x end read.
          let (m, more, loop) = l.invariant.2 n found x end read in
          given (items_on (val c'.args.depth) m more x l.rest.now end loop other) λ e.
          let after_is = c'.in_ok-after.ensures.value e.value e.after (ap (val c'.args.depth) c'.skip_blank-start.ensures.rest ∙ e.read) in
          let rest_is = c'.in_ok-rest.ensures.value e.next (ap (after_element 93) after_is ∙ e.goes_on) in
          (e.fuel, e.found, ap (items (val c'.args.depth) e.fuel e.found) rest_is ∙ e.more),
    )

pub skip_members-returns-then-first-eq125-clause-value : goal.skip_members-returns-then-first-eq125-clause-value
skip_members-returns-then-first-eq125-clause-value c c' n found x rest read =
    let l = c'.members in
    let (m, more, loop) = l.invariant.2 n found x rest read in
    let closing : (first (skip_blank l.rest.now) == 125) ≡ true = grind (arith, common_steps) in
    c'.skip.ensures.rest ∙ ap (drop 1) c'.skip_blank-start.ensures.rest ∙ members_done (val c'.args.depth) m more x l.rest.now rest loop closing

pub skip_members-returns-in_err-_key-clause-value : goal.skip_members-returns-in_err-_key-clause-value
skip_members-returns-in_err-_key-clause-value c c' n found x rest read =
    let l = c'.members in
    let (m, more, loop) = l.invariant.2 n found x rest read in
    let other : (first (skip_blank l.rest.now) == 125) ≡ false = grind (arith, common_steps) in
    given (members_on (val c'.args.depth) m more x l.rest.now rest loop other) λ e.
    passed_on _ _ _ _ c'.from_residual.ensures.1 (λ y p. p) (c'.in_err-_key.ensures.value e.name e.read.at_value (ap key_equals c'.skip_blank-start.ensures.rest ∙ e.read.key))

pub skip_members-returns-in_err-after-clause-value : goal.skip_members-returns-in_err-after-clause-value
skip_members-returns-in_err-after-clause-value c c' n found x rest read =
    let l = c'.members in
    let (m, more, loop) = l.invariant.2 n found x rest read in
    let other : (first (skip_blank l.rest.now) == 125) ≡ false = grind (arith, common_steps) in
    given (members_on (val c'.args.depth) m more x l.rest.now rest loop other) λ e.
    let (key_is, at_value_is) = c'.in_ok-_key.ensures.value e.name e.read.at_value (ap key_equals c'.skip_blank-start.ensures.rest ∙ e.read.key) in
    passed_on _ _ _ _ c'.from_residual-in_err-after.ensures.1 (λ y p. p) (c'.in_err-after.ensures.value e.value e.after (ap (val c'.args.depth) at_value_is ∙ e.read.value))

pub skip_members-returns-in_err-rest-clause-value : goal.skip_members-returns-in_err-rest-clause-value
skip_members-returns-in_err-rest-clause-value c c' n found x rest read =
    let l = c'.members in
    let (m, more, loop) = l.invariant.2 n found x rest read in
    let other : (first (skip_blank l.rest.now) == 125) ≡ false = grind (arith, common_steps) in
    given (members_on (val c'.args.depth) m more x l.rest.now rest loop other) λ e.
    let (key_is, at_value_is) = c'.in_ok-_key.ensures.value e.name e.read.at_value (ap key_equals c'.skip_blank-start.ensures.rest ∙ e.read.key) in
    let after_is = c'.in_ok-after.ensures.value e.value e.after (ap (val c'.args.depth) at_value_is ∙ e.read.value) in
    passed_on _ _ _ _ c'.from_residual-in_err-rest.ensures.1 (λ y p. p) (c'.in_err-rest.ensures.value e.next (ap (after_element 125) after_is ∙ e.goes_on))

pub skip_members-members-preserved : goal.skip_members-members-preserved
skip_members-members-preserved c c' =
    let l = c'.members in
    let other : (first (skip_blank l.rest.now) == 125) ≡ false = grind (arith, common_steps) in
    let shorter = c'.in_ok-_key.ensures.shorter in
    let shorter_again = c'.in_ok-after.ensures.shorter in
    let within = c'.in_ok-rest.ensures.within in
    let before = c'.skip_blank-start.ensures.within in (
      search rules,
      omega (arith, l.invariant.1),
      λ n found x end read.
          let (m, more, loop) = l.invariant.2 n found x end read in
          given (members_on (val c'.args.depth) m more x l.rest.now end loop other) λ e.
          let (key_is, at_value_is) = c'.in_ok-_key.ensures.value e.name e.read.at_value (ap key_equals c'.skip_blank-start.ensures.rest ∙ e.read.key) in
          let after_is = c'.in_ok-after.ensures.value e.value e.after (ap (val c'.args.depth) at_value_is ∙ e.read.value) in
          let rest_is = c'.in_ok-rest.ensures.value e.next (ap (after_element 125) after_is ∙ e.goes_on) in
          (e.fuel, e.found, ap (members (val c'.args.depth) e.fuel e.found) rest_is ∙ e.more),
    )

pub skip_value-returns-then-byte-ne123-clause-value : goal.skip_value-returns-then-byte-ne123-clause-value
skip_value-returns-then-byte-ne123-clause-value c c' x rest read =
    let s = c'.args.s.now in
    let a : (first s == 91) ≡ false = grind (arith, common_steps) in
    let b : (first s == 123) ≡ false = grind (arith, common_steps) in
    c'.skip_atom.ensures.value x rest (sym (val_atom c'.args.depth s a b) ∙ read)

pub skip_value-returns-then-depth-eq0-clause-value : goal.skip_value-returns-then-depth-eq0-clause-value
skip_value-returns-then-depth-eq0-clause-value c c' x rest read =
    let s = c'.args.s.now in
    let bracket : ((first s == 91) || (first s == 123)) ≡ true = grind (arith, common_steps) in
    let zero : c'.args.depth ≡ 0 = omega arith in
    let here : val 0 s ≡ Some (x, rest) = ap (λ d. val d s) (sym zero) ∙ read in
    let none = val_deep s bracket in
    absurd (cc (here, none))

pub skip_value-returns-then-byte-eq91-clause-value : goal.skip_value-returns-then-byte-eq91-clause-value
skip_value-returns-then-byte-eq91-clause-value c c' x rest read =
    let s = c'.args.s.now in
    let some : 0 < c'.args.depth = omega arith in
    let a : (first s == 91) ≡ true = grind (arith, common_steps) in
    let inside = items (val (c'.args.depth - 1)) (length s) no_items in
    let (all, inner, same) = read_map_some array (inside (drop 1 s)) x rest (sym (val_open_array c'.args.depth s some a) ∙ read) in
    c'.skip_items.ensures.value (length s) no_items all rest (ap inside c'.skip.ensures.rest ∙ inner)

pub skip_value-returns-else-byte-eq91-clause-value : goal.skip_value-returns-else-byte-eq91-clause-value
skip_value-returns-else-byte-eq91-clause-value c c' x rest read =
    let s = c'.args.s.now in
    let some : 0 < c'.args.depth = omega arith in
    let a : (first s == 91) ≡ false = grind (arith, common_steps) in
    let b : (first s == 123) ≡ true = grind (arith, common_steps) in
    let inside = members (val (c'.args.depth - 1)) (length s) no_nodes in
    let (all, inner, same) = read_map_some table (inside (drop 1 s)) x rest (sym (val_open_table c'.args.depth s some a b) ∙ read) in
    c'.skip_members.ensures.value (length s) no_nodes all rest (ap inside c'.skip-else-byte-eq91.ensures.rest ∙ inner)
