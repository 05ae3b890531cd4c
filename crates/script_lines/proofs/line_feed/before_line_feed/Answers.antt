use Rattle.script_lines.proofs.LineFeedLaws.{none_marked, some_marked, few, others, found}
use Rattle.script_lines.proofs.line_feed.before_line_feed.Goals as goal

pub returns-then-feeds-eq0-clause-others : goal.returns-then-feeds-eq0-clause-others
returns-then-feeds-eq0-clause-others c = others c.args.bytes.now 64 c.requires (none_marked c.args.bytes.now c.requires c.if-feeds-eq0.true)

pub returns-else-feeds-eq0-clause-few : goal.returns-else-feeds-eq0-clause-few
returns-else-feeds-eq0-clause-few c = few c.args.bytes.now _ c.requires (some_marked c.args.bytes.now c.requires c.if-feeds-eq0.false)

pub returns-else-feeds-eq0-clause-others : goal.returns-else-feeds-eq0-clause-others
returns-else-feeds-eq0-clause-others c = others c.args.bytes.now _ c.requires (some_marked c.args.bytes.now c.requires c.if-feeds-eq0.false)

pub returns-else-feeds-eq0-clause-found : goal.returns-else-feeds-eq0-clause-found
returns-else-feeds-eq0-clause-found c = found c.args.bytes.now _ c.requires (some_marked c.args.bytes.now c.requires c.if-feeds-eq0.false)
