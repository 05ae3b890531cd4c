use Rattle.std.proofs.Common.{◌≡◌, ◌≤◌, true, false, Some, Err, string_bytes, subst, ap, sym, ◌∙◌, arith}
use Rattle.toml.specs.Data.{members_depth, members_have_valid_dates}
use Rattle.toml.specs.Parse.{parse_document}
use Rattle.rt1553_import.specs.Tree.{table_tree}
use Rattle.rt1553_import.proofs.TreeLaws.{tree_low}
use Rattle.rt1553_import.proofs.importing.text_of.Goals as goal

pub returns-in-Ok : goal.returns-in-Ok
returns-in-Ok c =
    let low = tree_low c.args.sheet.now in
    let text = string_bytes c.in-Ok.text in
    subst (λ ms. members_depth ms ≤ 80 → parse_document text ≡ Some ms) c.requires c.in-Ok.ensures.reads_back (omega (arith, low.low))

pub unreachable-requires : goal.unreachable-requires
unreachable-requires c =
    let dates : members_have_valid_dates (table_tree c.args.sheet.now) ≡ true = (tree_low c.args.sheet.now).dates in
    let none = c.in-Err-DateInvalid.ensures.dates.0 (ap Err c.in-Err-DateInvalid.field-0-is) in
    let clash : true ≡ false = sym dates ∙ (ap members_have_valid_dates (sym c.requires) ∙ none) in
    cc
