use Rattle.std.proofs.Common.{◌∙◌}
use Rattle.std.proofs.lemmas.Result.{err_from_is_err_and}
use Rattle.toml.specs.View.{table_view}
use Rattle.bus_profile.proofs.Sections.{rule_fault}
use Rattle.bus_profile.proofs.rule.rule_from.Goals as goal

pub returns-in_err-addressee : goal.returns-in_err-addressee
returns-in_err-addressee c =
    let p = err_from_is_err_and c.from_residual.result c.from_residual.ensures.1 in
    rw (p.1, p.2) (rule_fault c.args.number (table_view c.args.table.now) ∙ rw (← c.if-has_unknown_key.ensures, c.in_err-addressee.ensures))

pub returns-in_err-direction : goal.returns-in_err-direction
returns-in_err-direction c =
    let p = err_from_is_err_and c.from_residual-in_err-direction.result c.from_residual-in_err-direction.ensures.1 in
    rw (p.1, p.2) (rule_fault c.args.number (table_view c.args.table.now) ∙ rw (← c.if-has_unknown_key.ensures, c.in_ok-addressee.ensures.0, c.in_err-direction.ensures))

pub returns-in_err-subaddresses : goal.returns-in_err-subaddresses
returns-in_err-subaddresses c =
    let p = err_from_is_err_and c.from_residual-in_err-subaddresses.result c.from_residual-in_err-subaddresses.ensures.1 in
    rw (p.1, p.2) (rule_fault c.args.number (table_view c.args.table.now) ∙ rw (← c.if-has_unknown_key.ensures, c.in_ok-addressee.ensures.0, c.in_ok-direction.ensures.0, c.in_err-subaddresses.ensures.reads))

pub returns-in_err-counts : goal.returns-in_err-counts
returns-in_err-counts c =
    let p = err_from_is_err_and c.from_residual-in_err-counts.result c.from_residual-in_err-counts.ensures.1 in
    rw (p.1, p.2) (rule_fault c.args.number (table_view c.args.table.now) ∙ rw (← c.if-has_unknown_key.ensures, c.in_ok-addressee.ensures.0, c.in_ok-direction.ensures.0, c.in_ok-subaddresses.ensures.reads.0, c.in_err-counts.ensures))

pub returns-in_err-legal : goal.returns-in_err-legal
returns-in_err-legal c =
    let p = err_from_is_err_and c.from_residual-in_err-legal.result c.from_residual-in_err-legal.ensures.1 in
    rw (p.1, p.2) (rule_fault c.args.number (table_view c.args.table.now) ∙ rw (← c.if-has_unknown_key.ensures, c.in_ok-addressee.ensures.0, c.in_ok-direction.ensures.0, c.in_ok-subaddresses.ensures.reads.0, c.in_ok-counts.ensures.0, c.in_err-legal.ensures))

pub returns : goal.returns
returns c =
    let ranges = c.in_ok-subaddresses.ensures.reads in
    let to = c.in_ok-addressee.ensures in
    let direction = c.in_ok-direction.ensures in
    let counts = c.in_ok-counts.ensures in
    let legal = c.in_ok-legal.ensures in
    (rule_fault c.args.number _ ∙ rw (← c.if-has_unknown_key.ensures, to.0, direction.0, ranges.0, counts.0, legal.0), rw (c.is_own.ensures, c.is_broadcast.ensures, c.is_receive.ensures, c.is_transmit.ensures, to.1, direction.1, ranges.1, counts.1, legal.1))
