use Rattle.std.proofs.Common.{◌==◌, ◌&&◌, ◌∙◌, not, ap}
use Rattle.std.specs.List.{list_any}
use Rattle.tool_buses.specs.EndsWell.{is_transmitter_at}
use Rattle.tool_buses.proofs.AloneLaws.{seen_by}
use Rattle.tool_buses.proofs.ended.CommandResult.is_unheard_by.Goals as goal

pub returns : goal.returns
returns c ms r =
    let v = c.args.normal.now in
    let seen = c.contains.ensures.value ∙ ((λ j. list_any (λ b. b == c.address-2.ensures j) ((c.as_slice.ensures.value ∙ r.seen) j)) ∙ seen_by v.address ms) in
    c.misses.ensures ∙ (λ j. c.broadcast.ensures j && (not ((c.is_transmitter_at.ensures ∙ ap (λ a. is_transmitter_at c.args.put.transmitter a) c.address.ensures) j) && not (seen j)))
