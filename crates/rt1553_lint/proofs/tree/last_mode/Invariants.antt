use Rattle.std.proofs.Common.{◌≡◌, ◌<◌, ◌+◌, true, IfSome}
use Rattle.toml.specs.View.{table_view}
use Rattle.bus_profile.specs.declared.fault.Part.TheVariants.{Mode}
use Rattle.rt1553_lint.specs.Places.{has_entry}
use Rattle.rt1553_lint.proofs.tree.last_mode.Given as goal

abbrev pub invariant-loop-index : goal.invariant-loop-index
invariant-loop-index l = IfSome l.last (λ k. (k < 256) × (has_entry (Mode (k + 1)) (table_view l.table) ≡ true))
