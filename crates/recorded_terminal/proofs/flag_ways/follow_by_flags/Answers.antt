use Rattle.std.proofs.Common.{◌≡◌, ◌∙◌, ◌<◌, Some, length, get_or, set, arith, refl, add-one, sym, subst}
use Rattle.std.proofs.lemmas.Result.{err_from_is_err_and}
use Rattle.recorded_terminal.specs.declared.flag_ways.FlagWays.{FlagWays}
use Rattle.recorded_terminal.specs.Watched.{LeadOn, LeadOnByFlags}
use Rattle.recorded_terminal.specs.inner.Followed.{Followed}
use Rattle.recorded_terminal.proofs.WayLaws.{ChangedBelow, none_changed, one_changed, all_changed, next_unchanged, taken}
use Rattle.recorded_terminal.proofs.FlagLaws.{PartFollows, part_follows, parts_follow, found_by_flags}
use Rattle.recorded_terminal.proofs.flag_ways.follow_by_flags.Goals as goal

pub loop-others-init : goal.loop-others-init
loop-others-init g c =
    let By = PartFollows g.L.Legality.is_legal c.args.followed c.args.waiting.now in
    subst (ChangedBelow By 0 c.args.by_flags.now.items) (sym c.deref_mut-others-items.ensures.value) (none_changed By c.args.by_flags.now.items)

pub returns-in_err-found-clause-refused : goal.returns-in_err-found-clause-refused
returns-in_err-found-clause-refused g c =
    let legal = g.L.Legality.is_legal in
    let p = err_from_is_err_and c.from_residual.result c.from_residual.ensures.1 in
    let within : c.loop-others.others-index < length c.loop-others.others-items = omega (arith, c.loop-others-test.true, c.loop-others.auto.others-items) in
    rw (p.1, p.2) (λ same P h ms low leads.
    let lead = next_unchanged (PartFollows legal c.args.followed c.args.waiting.now) (λ o. LeadOn legal P h ms (Some o.status) o.ways.items) c.loop-others.others-index c.args.by_flags.now.items c.loop-others.others-items c.others-item.result within c.loop-others.invariant leads.each in
    c.in_err-found.ensures.refused same P h ms low lead.ways)

pub returns-in-Some-clause-found : goal.returns-in-Some-clause-found
returns-in-Some-clause-found g c P h ms low leads counted bound none =
    let legal = g.L.Legality.is_legal in
    let ws = c.args.waiting.now in
    let o : FlagWays g.row.L.Denot = get_or c.loop-others.others-items c.loop-others.others-index c.others-item.result in
    let within : c.loop-others.others-index < length c.loop-others.others-items = omega (arith, c.loop-others-test.true, c.loop-others.auto.others-items) in
    let lead : LeadOn legal P h ms (Some o.status) o.ways.items = next_unchanged (PartFollows legal c.args.followed ws) (λ o. LeadOn legal P h ms (Some o.status) o.ways.items) c.loop-others.others-index c.args.by_flags.now.items c.loop-others.others-items c.others-item.result within c.loop-others.invariant leads.each in
    found_by_flags legal P h ms ws c.args.followed o.status o.ways.items c.in-Some.found counted none lead
    (subst (Followed legal P h ms c.args.followed (Some o.status) ws o.ways.items c.follow.new.ways.items) c.in-Some.is (c.in_ok-found.ensures.found P h ms low bound lead.ways))

pub loop-others-preserved : goal.loop-others-preserved
loop-others-preserved g c =
    let legal = g.L.Legality.is_legal in
    let ws = c.args.waiting.now in
    let By = PartFollows legal c.args.followed ws in
    let o : FlagWays g.row.L.Denot = get_or c.loop-others.others-items c.loop-others.others-index c.others-item.result in
    let p : FlagWays g.row.L.Denot = record { status = o.status; ways = c.follow.new.ways } in
    let within : c.loop-others.others-index < length c.loop-others.others-items = omega (arith, c.loop-others-test.true, c.loop-others.auto.others-items) in
    subst (λ n. ChangedBelow By n c.args.by_flags.now.items (set c.loop-others.others-items c.loop-others.others-index p)) (sym (add-one c.loop-others.others-index))
    (one_changed By c.loop-others.others-index c.args.by_flags.now.items c.loop-others.others-items c.others-item.result p within c.loop-others.invariant
    (part_follows legal ws c.args.followed o p refl
    (λ P h ms low bound ways. subst (Followed legal P h ms c.args.followed (Some o.status) ws o.ways.items c.follow.new.ways.items) c.in_default.is (c.in_ok-found.ensures.found P h ms low bound ways))))

pub returns-clause-found : goal.returns-clause-found
returns-clause-found g c P h ms low leads counted bound none =
    let By = PartFollows g.L.Legality.is_legal c.args.followed c.args.waiting.now in
    let n : c.args.by_flags.now.len ≡ length c.loop-others.others-items = sym c.deref_mut-others-items.ensures.len ∙ sym c.loop-others.auto.others-items in
    subst (LeadOnByFlags g.L.Legality.is_legal P h _) (sym (taken c.args.by_flags.now.len c.loop-others.others-items _ n))
    (parts_follow g.L.Legality.is_legal P h ms c.args.waiting.now c.args.followed c.args.by_flags.now.items c.loop-others.others-items low bound none
    (all_changed By c.loop-others.others-index c.args.by_flags.now.items c.loop-others.others-items (omega (arith, c.loop-others-test.false, c.loop-others.auto.others-items)) c.loop-others.invariant) leads)
