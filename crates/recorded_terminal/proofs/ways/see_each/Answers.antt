use Rattle.std.proofs.Common.{◌≡◌, ◌∙◌, ◌<◌, length, set, arith, add-one, sym, subst}
use Rattle.recorded_terminal.specs.Ways.{WaySees, EachSees}
use Rattle.recorded_terminal.proofs.WayLaws.{ChangedBelow, none_changed, one_changed, all_changed, taken}
use Rattle.recorded_terminal.proofs.ways.see_each.Goals as goal

pub loop-way-init : goal.loop-way-init
loop-way-init g c =
    let By = WaySees g.L.Legality.is_legal c.args.status c.args.marked.now in
    subst (ChangedBelow By 0 c.args.ways.now.items) (sym c.deref_mut-way-items.ensures.value) (none_changed By c.args.ways.now.items)

pub loop-way-preserved : goal.loop-way-preserved
loop-way-preserved g c =
    let By = WaySees g.L.Legality.is_legal c.args.status c.args.marked.now in
    let within : c.loop-way.way-index < length c.loop-way.way-items = omega (arith, c.loop-way-test.true, c.loop-way.auto.way-items) in
    subst (λ n. ChangedBelow By n c.args.ways.now.items (set c.loop-way.way-items c.loop-way.way-index c.see.new.self)) (sym (add-one c.loop-way.way-index))
    (one_changed By c.loop-way.way-index c.args.ways.now.items c.loop-way.way-items c.way-item.result c.see.new.self within c.loop-way.invariant c.see.ensures)

pub returns : goal.returns
returns g c =
    let By = WaySees g.L.Legality.is_legal c.args.status c.args.marked.now in
    let n : c.args.ways.now.len ≡ length c.loop-way.way-items = sym c.deref_mut-way-items.ensures.len ∙ sym c.loop-way.auto.way-items in
    subst (λ ws. EachSees g.L.Legality.is_legal c.args.status c.args.marked.now c.args.ways.now.items ws) (sym (taken c.args.ways.now.len c.loop-way.way-items _ n))
    (all_changed By c.loop-way.way-index c.args.ways.now.items c.loop-way.way-items (omega (arith, c.loop-way-test.false, c.loop-way.auto.way-items)) c.loop-way.invariant)
