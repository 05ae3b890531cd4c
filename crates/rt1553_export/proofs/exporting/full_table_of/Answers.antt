use Rattle.std.proofs.Common.{◌≡◌, ℕ, true, false, Vec, Global, IsUtf8, string_bytes, sym, ap, subst, ◌∙◌}
use Rattle.bus_legal.specs.Parts.{Parts}
use Rattle.rt1553_export.specs.Table.{IsTableOf}
use Rattle.rt1553_export.specs.inner.Full.{full_text}
use Rattle.rt1553_export.proofs.FullAscii.{full_utf8}
use Rattle.rt1553_export.proofs.FullText.{full_is_table}
use Rattle.rt1553_export.proofs.exporting.full_table_of.Goals as goal

pub unreachable-requires : goal.unreachable-requires
unreachable-requires c =
    let clash : false ≡ true = c.in-Err.ensures.succeeds (subst IsUtf8 (sym c.in_ok-full_text.ensures) (full_utf8 c.args.normal.now c.setup.ensures.normal)) in
    cc

pub returns : goal.returns
returns c =
    let v : Parts = c.args.normal.now in
    let block : Vec ℕ Global = c.in_ok-full_text.field-0 in
    let same : string_bytes c.in-Ok.text ≡ full_text v = ap (λ (b : Vec ℕ Global). b.items) c.in-Ok.ensures.ok ∙ c.in_ok-full_text.ensures in
    subst (λ t. IsTableOf t v) (sym same) (full_is_table block v c.setup.ensures.normal)
