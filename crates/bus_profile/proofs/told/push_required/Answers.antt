use Rattle.std.proofs.Common.{◌≡◌, ◌==◌, length, OnOk, subst, ap, ◌∙◌}
use Rattle.toml.specs.View.{table_view}
use Rattle.bus_profile.specs.Gives.{each_of, mode_in}
use Rattle.bus_profile.proofs.PushedFaults.{with_codes, without_codes}
use Rattle.bus_profile.proofs.told.push_required.Goals as goal

pub returns-then-not-is_empty : goal.returns-then-not-is_empty
returns-then-not-is_empty c = without_codes (table_view c.args.table.now) c.args.faults.now.items c.requires (c.if-not-is_empty.ensures ∙ ap (λ fs. length fs == 0) c.as_slice.ensures.value)

pub returns : goal.returns
returns c =
    subst (λ fs. OnOk c.push_code_faults.result (c.push_code_faults.new.faults.items ≡ fs))
    (with_codes (table_view c.args.table.now) c.args.faults.now.items c.as_slice-2.result.now c.requires (c.if-not-is_empty.ensures ∙ ap (λ fs. length fs == 0) c.as_slice.ensures.value)
    (c.as_slice-2.ensures ∙ (c.in-Ok-modes_of.ensures.reads.1 ∙ ap (each_of mode_in) c.in-Ok.ensures.reads.1)))
    c.push_code_faults.ensures
