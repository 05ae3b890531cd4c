use Rattle.std.proofs.Common.{◌++◌, ◌+◌, ◌<◌, ◌^◌, length, None, ap, sym, ◌∙◌, subst, rules}
use Rattle.recorded_terminal.specs.Marks.{maybe_in, HasManyWays}
use Rattle.recorded_terminal.specs.Watched.{IsFollowing}
use Rattle.recorded_terminal.specs.Ways.{AreWays}
use Rattle.recorded_terminal.specs.inner.Followed.{Followed}
use Rattle.recorded_terminal.proofs.WayLaws.{if_ok, if_err}
use Rattle.recorded_terminal.proofs.WatchLaws.{ended, decided_first, follows_still}
use Rattle.recorded_terminal.proofs.watch.Watch.end.Goals as goal

pub returns-then-is_some-clause-first : goal.returns-then-is_some-clause-first
returns-then-is_some-clause-first g c P h ms watches = decided_first g.L.Legality.is_legal P h ms c.args.self c.args.self.first (search rules) watches.1

pub returns-clause-first : goal.returns-clause-first
returns-clause-first g c =
    let legal = g.L.Legality.is_legal in
    if_ok c.follow.result _ _
    (λ result x P h ms watches.
    let i : IsFollowing legal P h ms c.args.self = follows_still legal P h ms c.args.self c.args.self.first (search rules) watches.1 in
    let olds = c.choose_flags.new.ways.items in
    ended legal P h ms c.args.self olds c.follow.new.ways.items result i (c.choose_flags.ensures.leads P h i.followed i.leads)
    (subst (λ ws. c.args.self.followed + length ws < 2 ^ 64 → AreWays legal P h i.followed olds → Followed legal P h i.followed c.args.self.followed None ws olds c.follow.new.ways.items result)
    c.as_slice.ensures.value (x P h i.followed watches.0)))
    c.follow.ensures.found

pub returns-clause-refused : goal.returns-clause-refused
returns-clause-refused g c =
    let legal = g.L.Legality.is_legal in
    if_err c.follow.result _ _
    (λ fault x same P h ms watches.
    let i : IsFollowing legal P h ms c.args.self = follows_still legal P h ms c.args.self c.args.self.first (search rules) watches.1 in
    subst (λ l. HasManyWays (maybe_in l)) (ap (λ l. i.followed ++ l) c.as_slice.ensures.value ∙ sym i.all) (x same P h i.followed watches.0 (c.choose_flags.ensures.leads P h i.followed i.leads).ways))
    c.follow.ensures.refused
