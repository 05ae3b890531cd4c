use Rattle.std.proofs.Common.{ap, ◌++◌, ◌∙◌}
use Rattle.rt1553_differ.specs.inner.Alone.{singles}
use Rattle.std.proofs.Common.{false}
use Rattle.rt1553_differ.proofs.GroupLaws.{are_groups}
use Rattle.rt1553_differ.proofs.groups.groups_of.Goals as goal

pub returns : goal.returns
returns c =
    are_groups c.args.p.now c.args.q.now c.args.found.now _ _ _ _ _
    (c.in_ok-push_singles.ensures ∙ ap (λ xs. xs ++ singles c.args.p.now false c.args.found.now) c.new-groups.ensures.items)
    c.in_ok-push_counts.ensures c.in_ok-push_counts-2.ensures c.in_ok-push_counts-3.ensures c.in_ok-push_singles-2.ensures
