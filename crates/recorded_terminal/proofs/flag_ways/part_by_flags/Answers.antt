use Rattle.std.proofs.Common.{[], take, get_or, sym, subst, take_all, rules}
use Rattle.recorded_terminal.specs.Watched.{LeadOnBy}
use Rattle.recorded_terminal.proofs.WayLaws.{empty_of, not_empty}
use Rattle.recorded_terminal.proofs.FlagLaws.{status_words, ArePartedBy, none_parted, one_parted, all_parted, word_more, are_parted}
use Rattle.recorded_terminal.proofs.flag_ways.part_by_flags.Goals as goal

pub returns-then-not-is_empty : goal.returns-then-not-is_empty
returns-then-not-is_empty g c P h ms leads = are_parted g.L.Legality.is_legal P h ms c.args.ways.now c.args.by_flags.now.items (not_empty c.args.by_flags.now.items (search rules)) leads

pub loop-status-init : goal.loop-status-init
loop-status-init g c = subst (ArePartedBy g.L.Legality.is_legal c.args.ways.now []) (sym (empty_of c.args.by_flags.now.items (search rules))) (none_parted g.L.Legality.is_legal c.args.ways.now)

pub loop-status-preserved : goal.loop-status-preserved
loop-status-preserved g c =
    let legal = g.L.Legality.is_legal in
    let n = c.loop-status.status-index in
    let ways = c.args.ways.now in
    subst (λ l. ArePartedBy legal ways l c.push.new.self.items) (word_more n c.loop-status-test.true)
    (subst (ArePartedBy legal ways _) (sym c.in_ok-push.ensures.items)
    (one_parted legal ways (take n status_words) c.loop-status.by_flags.items (record { status = get_or status_words n 0; ways = c.in_ok-copies_of.field-0 }) c.loop-status.invariant c.in_ok-copies_of.ensures))

pub returns : goal.returns
returns g c P h ms leads =
    let legal = g.L.Legality.is_legal in
    all_parted legal P h ms c.args.ways.now c.loop-status.by_flags.items
    (subst (λ l. ArePartedBy legal c.args.ways.now l c.loop-status.by_flags.items) (take_all c.loop-status.status-index status_words c.loop-status-test.false) c.loop-status.invariant)
    (subst (LeadOnBy legal P h ms c.args.ways.now) (empty_of c.args.by_flags.now.items (search rules)) leads)
