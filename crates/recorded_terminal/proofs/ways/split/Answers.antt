use Rattle.std.proofs.Common.{◌≡◌, ◌≤◌, ◌∙◌, ◌++◌, ◌∷◌, [], ◌+◌, suc, arith, length, take, add-one, sym, subst, take_all, length-take-le}
use Rattle.std.proofs.lemmas.Result.{err_from_is_err_and}
use Rattle.recorded_terminal.specs.inner.Steps.{Splits, Keeps}
use Rattle.recorded_terminal.proofs.WayLaws.{cut_of, take_more, split_passes, split_both, kept_few}
use Rattle.recorded_terminal.proofs.ways.split.Goals as goal
use Rattle.recorded_terminal.proofs.ways.split.Goals.{then-not-passes_gap+in_ok-push_unless_met, else-not-passes_gap}

pub loop-way-preserved : goal.loop-way-preserved
loop-way-preserved g c =
    let legal = g.L.Legality.is_legal in
    let n = c.loop-way.way-index in
    let way = c.way-item.result in
    let news = c.push_unless_met-in-loop-way.new.ways.items in
    let more : take n c.args.ways.now ++ way ∷ [] ≡ take (n + 1) c.args.ways.now =
    sym (take_more c.args.ways.now n way (cut_of c.args.ways.now n way c.loop-way-test.true c.way-item.is)) ∙ (λ j. take (sym (add-one n) j) c.args.ways.now) in
    subst (λ l. Splits legal c.args.bus c.args.status l news) more
    (elim c.if-not-passes_gap.branch [
      | then-not-passes_gap+in_ok-push_unless_met w ↦
          split_both legal c.args.bus c.args.status (take n c.args.ways.now) c.loop-way.all.items w.push_unless_met.new.ways.items news way w.with_gap.result c.copy.result c.loop-way.invariant w.with_gap.ensures c.copy.ensures
          w.in_ok-push_unless_met.ensures.keeps (subst (λ v. Keeps legal v.items c.copy.result news) w.all-is c.in_ok-push_unless_met-2.ensures.keeps)
      | else-not-passes_gap w ↦
          split_passes legal c.args.bus c.args.status (take n c.args.ways.now) c.loop-way.all.items news way c.copy.result c.loop-way.invariant (c.passes_gap.ensures w.if-not-passes_gap.false) c.copy.ensures
          (subst (λ v. Keeps legal v.items c.copy.result news) w.all-is c.in_ok-push_unless_met-2.ensures.keeps)
    ])

pub returns-clause-splits : goal.returns-clause-splits
returns-clause-splits g c = subst (λ l. Splits g.L.Legality.is_legal c.args.bus c.args.status l c.loop-way.all.items) (take_all c.loop-way.way-index c.args.ways.now c.loop-way-test.false) c.loop-way.invariant

pub returns-in_err-push_unless_met-clause-refused : goal.returns-in_err-push_unless_met-clause-refused
returns-in_err-push_unless_met-clause-refused g c =
    let n = c.loop-way.way-index in
    let seen : length (take n c.args.ways.now) ≡ n = length-take-le n c.args.ways.now (omega (arith, c.loop-way-test.true)) in
    let p = err_from_is_err_and c.from_residual.result c.from_residual.ensures.1 in
    rw (p.1, p.2) (λ same. omega (arith, seen, c.loop-way-test.true, c.loop-way.invariant.few, c.in_err-push_unless_met.ensures.refused same))

pub returns-in_err-push_unless_met-2-clause-refused : goal.returns-in_err-push_unless_met-2-clause-refused
returns-in_err-push_unless_met-2-clause-refused g c =
    let n = c.loop-way.way-index in
    let olds = c.loop-way.all.items in
    let seen : length (take n c.args.ways.now) ≡ n = length-take-le n c.args.ways.now (omega (arith, c.loop-way-test.true)) in
    let one : length c.if-not-passes_gap.all.items ≤ suc (length olds) =
    elim c.if-not-passes_gap.branch [
      | then-not-passes_gap+in_ok-push_unless_met w ↦
          subst (λ v. length v.items ≤ suc (length olds)) (sym w.all-is) (kept_few g.L.Legality.is_legal olds w.with_gap.result w.push_unless_met.new.ways.items w.in_ok-push_unless_met.ensures.keeps)
      | else-not-passes_gap w ↦ subst (λ v. length v.items ≤ suc (length olds)) (sym w.all-is) (omega arith)
    ] in
    let r = c.from_residual-in_err-push_unless_met-2 in
    let p = err_from_is_err_and r.result r.ensures.1 in
    rw (p.1, p.2) (λ same. omega (arith, one, seen, c.loop-way-test.true, c.loop-way.invariant.few, c.in_err-push_unless_met-2.ensures.refused same))
