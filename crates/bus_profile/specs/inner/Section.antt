-- A table of the profile text as its readers see it.
use Rattle.std.specs.Prelude.{ℕ, List, Option}
use Rattle.std.specs.Option.{option_or}
use Rattle.toml.specs.Data.{Data, Members}
use Rattle.toml.specs.View.{table_view}
use Rattle.bus_profile.specs.declared.section.Section.{Section}
use Rattle.bus_profile.specs.declared.fault.Part.{Part}
use Rattle.bus_profile.specs.declared.fault.ProfileFault.{ProfileFault}
use Rattle.bus_profile.specs.Keys.{KeyRow}
use Rattle.bus_profile.specs.Kinds.{value, items, is_too_long}
use Rattle.bus_profile.specs.Faults.{row_checks, head_checks, each_item}
use Rattle.bus_profile.specs.Checks.{Check, first_fault}
use Rattle.bus_profile.specs.inner.FirstFault.{fault_of_parts}

-- the keys of the section, with their values
abbrev pub tree_of : Section → Members
tree_of s = table_view s.table.now

-- what holds for a key of the section
abbrev pub value_at : KeyRow → Section → Option Data
value_at row s = value row (tree_of s)

-- the first fault of a key of the section
abbrev pub fault_at : KeyRow → Section → Option ProfileFault
fault_at row s = first_fault (row_checks s.part (tree_of s) row)

-- the first fault of an array of entries: of itself first, then of its items
abbrev pub entries_fault : Part → KeyRow → (ℕ → Data → List Check) → Members → Option ProfileFault
entries_fault part row checks ms =
    option_or (first_fault (head_checks part row (is_too_long row.kind) ms)) (fault_of_parts (each_item checks 1 (items (value row ms))))
