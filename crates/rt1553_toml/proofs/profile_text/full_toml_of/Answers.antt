use Rattle.std.proofs.Common.{◌≡◌, ◌≤◌, true, false, Some, Err, string_bytes, subst, ap, sym, ◌∙◌, arith}
use Rattle.std.proofs.lemmas.Str.{IsUtf8-string_bytes}
use Rattle.toml.specs.Data.{members_depth, members_have_valid_dates}
use Rattle.toml.specs.Parse.{parse_document}
use Rattle.toml.specs.Text.{IsDocumentText}
use Rattle.bus_legal.specs.Parts.{Parts}
use Rattle.rt1553_toml.specs.Toml.{IsTomlOf}
use Rattle.rt1553_toml.specs.inner.FullTree.{full_tree}
use Rattle.rt1553_toml.proofs.TreeText.{full_tree_shallow, full_text_is_toml, full_text_is_profile, full_text_reaches}
use Rattle.rt1553_toml.proofs.profile_text.full_toml_of.Goals as goal
use Rattle.rt1553_toml.proofs.profile_text.full_toml_of.Goals.{After-drop-root}

is_toml : (c : After-drop-root) → IsTomlOf (string_bytes c.in-Ok.text) c.args.normal.now
is_toml c =
    let v : Parts = c.args.normal.now in
    let text = string_bytes c.in-Ok.text in
    let shallow = full_tree_shallow v c.setup.ensures.normal in
    let reads : parse_document text ≡ Some (full_tree v) = subst (λ ms. members_depth ms ≤ 80 → parse_document text ≡ Some ms) c.in_ok-root.ensures c.in-Ok.ensures.reads_back (omega (arith, shallow.low)) in
    full_text_is_profile v text c.setup.ensures.normal (IsUtf8-string_bytes c.in-Ok.text) reads

pub returns-in-Ok-clause-reaches : goal.returns-in-Ok-clause-reaches
returns-in-Ok-clause-reaches c =
    let v : Parts = c.args.normal.now in
    let text = string_bytes c.in-Ok.text in
    let written = subst (λ ms. IsDocumentText false ms text) c.in_ok-root.ensures c.in-Ok.ensures.text in
    full_text_reaches v text (full_text_is_toml v text written) (is_toml c)

pub returns-in-Ok-clause-toml : goal.returns-in-Ok-clause-toml
returns-in-Ok-clause-toml c = is_toml c

pub unreachable-requires : goal.unreachable-requires
unreachable-requires c =
    let v : Parts = c.args.normal.now in
    let dates : members_have_valid_dates (full_tree v) ≡ true = (full_tree_shallow v c.setup.ensures.normal).dates in
    let none = c.in-Err-DateInvalid.ensures.dates.0 (ap Err c.in-Err-DateInvalid.field-0-is) in
    let clash : true ≡ false = sym dates ∙ (ap members_have_valid_dates (sym c.in_ok-root.ensures) ∙ none) in
    cc
