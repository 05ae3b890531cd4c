use Rattle.std.proofs.Common.{not, List, ℕ, ap, sym, filter}
use Rattle.bus_profile.specs.Keys.{keys_of}
use Rattle.bus_profile.specs.Kinds.{is_known}
use Rattle.bus_profile.specs.AllFaults.{rows_at}
use Rattle.bus_profile.proofs.Items.{names_of-view}
use Rattle.bus_profile.proofs.told.unknown_keys.Goals as goal

pub loop-name-init : goal.loop-name-init
loop-name-init c =
    rw (c.into_iter-name-iterator.ensures.into_iter_gives, c.keys-name-items.ensures.rest, c.new-names.ensures.items, c.known_keys-keys.ensures)
    (ap (filter (λ (name : List ℕ). not (is_known (keys_of (rows_at c.args.part)) name))) (sym (names_of-view c.args.table.now.entries)))
