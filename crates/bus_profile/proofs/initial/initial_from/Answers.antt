use Rattle.std.proofs.lemmas.Result.{err_from_is_err_and}
use Rattle.toml.specs.View.{table_view}
use Rattle.bus_profile.proofs.Arrays.{place_of}
use Rattle.bus_profile.proofs.Sections.{word_fails}
use Rattle.bus_profile.proofs.initial.initial_from.Goals as goal

pub word_values-requires : goal.word_values-requires
word_values-requires c =
    let at = c.in_ok-first.ensures.reads in
    place_of _ (table_view c.args.table.now) c.in_ok-first.first at.0 at.1

pub returns-in_err-words : goal.returns-in_err-words
returns-in_err-words c =
    let p = err_from_is_err_and c.from_residual-in_err-words.result c.from_residual-in_err-words.ensures.1 in
    let values = c.in_ok-values.ensures.reads in
    rw (p.1, p.2)
    (word_fails c.args.number (table_view c.args.table.now) c.in_ok-values.values.now _
    c.if-has_unknown_key.ensures c.in_ok-subaddress.ensures.reads.0 c.in_ok-first.ensures.reads.0 values.0 values.1 c.in_err-words.ensures)
