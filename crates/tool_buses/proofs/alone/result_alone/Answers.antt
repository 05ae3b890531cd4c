use Rattle.std.proofs.Common.{map, flat_map, take, subst}
use Rattle.bus_legal.specs.Parts.{description_in}
use Rattle.tool_buses.specs.EndsWell.{messages_alone}
use Rattle.tool_buses.specs.inner.Results.{AreResultsAt}
use Rattle.tool_buses.proofs.AloneLaws.{at_index, places_more}
use Rattle.tool_buses.proofs.alone.result_alone.Goals as goal

pub loop-place-init : goal.loop-place-init
loop-place-init c p = c.none-result_of.ensures c.args.put

pub loop-place-preserved : goal.loop-place-preserved
loop-place-preserved c p =
    let vs = c.args.normals.now in
    let k = c.loop-place.place in
    let f = messages_alone c.args.put (map description_in vs) c.args.events.now in
    subst (λ l. AreResultsAt c.args.put l c.take_place.new.result_of) (places_more f vs k c.index-normals-place.result c.loop-place-test.true c.index-normals-place.is)
    (c.in_ok-take_place.ensures vs (flat_map f (take k vs)) p (at_index vs k c.index-normals-place.result c.loop-place-test.true c.index-normals-place.is) (c.loop-place.invariant p))
