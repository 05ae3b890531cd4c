use Rattle.std.proofs.Common.{◌≡◌, suc, ◌≤◌, [], length, map, Some}
use denote.Text.{Utf8}
use denote.Shadow.{shadow}
use Rattle.toml.specs.Tables.{Document, no_nodes}
use Rattle.toml.specs.Parse.{lines, skip_bom}
use Rattle.toml_places.specs.Parsed.{statements_of}
use Rattle.toml_places.specs.Found.{seen}
use Rattle.toml_places.proofs.Listing.{Left, AreWithin}
use Rattle.toml_places.proofs.reading.statements_of.Given as goal

abbrev pub invariant-statements : goal.invariant-statements
invariant-statements l =
    shadow (Utf8 l.rest) × (length l.rest ≤ length l.fn.text) × AreWithin (length l.fn.text) l.found.items
    × ((final : Document) → lines (suc (length l.fn.text)) (no_nodes, []) (skip_bom l.fn.text) ≡ Some final
    → Left (length l.fn.text) final (map (seen (length l.fn.text)) (statements_of l.fn.text)) l.found.items l.rest)

abbrev pub decreases-statements : goal.decreases-statements
decreases-statements l = length l.rest
