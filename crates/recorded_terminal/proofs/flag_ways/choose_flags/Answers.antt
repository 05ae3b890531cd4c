use Rattle.std.proofs.Common.{◌≡◌, ◌∙◌, true, false, sym, subst, rules}
use Rattle.recorded_terminal.proofs.FlagLaws.{IsChosen, chosen_from, chosen_here, chosen_before, chosen_ways}
use Rattle.recorded_terminal.proofs.flag_ways.choose_flags.Goals as goal

pub loop-others-init : goal.loop-others-init
loop-others-init g c P h ms leads = chosen_from g.L.Legality.is_legal P h ms c.args.status c.args.ways.now.items c.args.by_flags.now.items leads

pub loop-others-preserved-then-show_the_same : goal.loop-others-preserved-then-show_the_same
loop-others-preserved-then-show_the_same g c P h ms leads =
    let legal = g.L.Legality.is_legal in
    let rest = c.pop.new.self.items in
    chosen_here legal P h ms c.args.status c.loop-others.ways.items rest c.in-Some.others (c.show_the_same.ensures.0 c.if-show_the_same.true)
    (subst (IsChosen legal P h ms c.args.status c.loop-others.ways.items) c.in-Some.ensures.items (c.loop-others.invariant P h ms leads))

pub loop-others-preserved : goal.loop-others-preserved
loop-others-preserved g c P h ms leads =
    let legal = g.L.Legality.is_legal in
    let rest = c.pop.new.self.items in
    chosen_before legal P h ms c.args.status c.loop-others.ways.items rest c.in-Some.others (λ same. let wrong : true ≡ false = sym (c.show_the_same.ensures.1 same) ∙ c.if-show_the_same.false in absurd (cc))
    (subst (IsChosen legal P h ms c.args.status c.loop-others.ways.items) c.in-Some.ensures.items (c.loop-others.invariant P h ms leads))

pub returns-clause-leads : goal.returns-clause-leads
returns-clause-leads g c P h ms leads =
    chosen_ways g.L.Legality.is_legal P h ms c.args.status c.loop-others.ways.items (subst (IsChosen g.L.Legality.is_legal P h ms c.args.status c.loop-others.ways.items) (search rules) (c.loop-others.invariant P h ms leads))
