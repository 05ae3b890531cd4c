use Rattle.std.proofs.Common.{not, List, ℕ, ap, sym}
use Rattle.std.specs.List.{list_any}
use Rattle.bus_profile.specs.Kinds.{is_known}
use Rattle.bus_profile.proofs.Items.{names_of-view}
use Rattle.bus_profile.proofs.section.Section.has_unknown_key.Goals as goal

pub loop-name-init : goal.loop-name-init
loop-name-init c =
    rw (c.into_iter-name-iterator.ensures.into_iter_gives, c.keys-name-items.ensures.rest)
    (ap (list_any (λ (name : List ℕ). not (is_known c.args.keys.now name))) (sym (names_of-view c.args.self.now.table.now.entries)))
