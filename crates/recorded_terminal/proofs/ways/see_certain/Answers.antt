use Rattle.std.proofs.Common.{◌≡◌, ◌∙◌, [], true, sym, subst}
use Rattle.std.specs.List.{AllByRecursion}
use Rattle.recorded_terminal.specs.inner.Steps.{LeftOf, SentFirst}
use Rattle.recorded_terminal.proofs.WayLaws.{steps_seen, ends_seen, all_left, each_some, empty_of, not_empty}
use Rattle.recorded_terminal.proofs.ways.see_certain.Goals as goal

pub returns-then-are_left : goal.returns-then-are_left
returns-then-are_left g c P h ms low seen ways =
    let legal = g.L.Legality.is_legal in
    let news = c.see_each.new.ways.items in
    let left : AllByRecursion (λ w. w.is_left ≡ true) news = subst (AllByRecursion (λ w. w.is_left ≡ true)) c.as_slice.ensures.value (c.are_left.ensures c.if-are_left.true) in
    steps_seen legal P h ms c.args.marked.now c.args.status c.args.ways.now.items news news low seen ways c.see_each.ensures (all_left legal news left)
    (each_some legal c.args.status c.args.marked.now c.args.ways.now.items news c.see_each.ensures ways.some)

pub returns-then-is_empty : goal.returns-then-is_empty
returns-then-is_empty g c P h ms low seen ways =
    let legal = g.L.Legality.is_legal in
    let news = c.see_each.new.ways.items in
    let left = c.in_ok-ways.field-0.items in
    ends_seen legal P h ms c.args.marked.now c.args.status c.args.ways.now.items news left c.sent_first.result low seen ways c.see_each.ensures
    (subst (λ ws. LeftOf legal ws left) c.as_slice-3.ensures.value c.in_ok-ways.ensures)
    (subst (λ ws. ws ≡ []) c.as_slice-4.ensures.value (empty_of c.as_slice-4.result.now (sym c.is_empty.ensures ∙ c.if-is_empty.true))) (subst (λ ws. SentFirst ws c.sent_first.result) c.as_slice-2.ensures.value c.sent_first.ensures)

pub returns : goal.returns
returns g c P h ms low seen ways =
    let legal = g.L.Legality.is_legal in
    let news = c.see_each.new.ways.items in
    let left = c.in_ok-ways.field-0.items in
    steps_seen legal P h ms c.args.marked.now c.args.status c.args.ways.now.items news left low seen ways c.see_each.ensures
    (subst (λ ws. LeftOf legal ws left) c.as_slice-3.ensures.value c.in_ok-ways.ensures)
    (subst (λ ws. ws ≡ [] → ⊥) c.as_slice-4.ensures.value (not_empty c.as_slice-4.result.now (sym c.is_empty.ensures ∙ c.if-is_empty.false)))
