use Rattle.std.proofs.Common.{◌≡◌, true, sym, subst, ◌∙◌}
use Rattle.bus_word.specs.Cell.{is_data_place}
use Rattle.rt1553_differ.specs.inner.Alone.{alone_mask, said_at, AddsGroups}
use Rattle.rt1553_differ.specs.declared.groups.Group.{Group}
use Rattle.rt1553_differ.proofs.GroupLaws.{adds_nothing, adds_no_more, adds_group, place_of}
use Rattle.rt1553_differ.proofs.groups.push_side.Goals as goal

pub returns-then-counts-eq0 : goal.returns-then-counts-eq0
returns-then-counts-eq0 c = adds_nothing c.args.kind (alone_mask c.args.p.now c.args.q.now c.args.kind) c.args.first c.args.s _ (sym c.alone_at-counts.ensures ∙ c.if-counts-eq0.true)

pub returns-then-not-is_first : goal.returns-then-not-is_first
returns-then-not-is_first c = adds_no_more c.args.kind (alone_mask c.args.p.now c.args.q.now c.args.kind) c.args.first c.args.s _ (sym c.if-not-is_first.true ∙ c.is_first.ensures)

pub returns : goal.returns
returns c =
    let masks = alone_mask c.args.p.now c.args.q.now c.args.kind in
    let g : Group = record { difference = c.of_count-difference.result; subaddresses = c.subaddresses_with-subaddresses.result; counts = c.alone_at-counts.result; in_first = c.args.first } in
    let place : is_data_place c.args.s c.least_count-least.result ≡ true = place_of _ _ c.requires.low c.requires.high c.least_count-least.ensures.low c.least_count-least.ensures.high in
    subst (λ xs. AddsGroups c.args.kind c.args.groups.now.items xs (said_at masks c.args.first c.args.s)) (sym c.in_ok-push.ensures.items)
    (adds_group c.args.kind masks c.args.first c.args.s c.least_count-least.result c.args.groups.now.items g place c.of_count-difference.ensures (λ _. c.args.first) c.alone_at-counts.ensures c.least_count-least.ensures.has
    c.subaddresses_with-subaddresses.ensures (sym c.if-not-is_first.false ∙ c.is_first.ensures))
