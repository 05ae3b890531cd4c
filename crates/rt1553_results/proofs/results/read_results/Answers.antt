use Rattle.std.proofs.Common.{◌-◌, ◌<◌, ◌+◌, inl, inr, length, map, take, drop, sym, subst, arith}
use Rattle.std.proofs.lemmas.Bool.Decides.{nat_tests}
use Rattle.std.proofs.lemmas.Result.{err_from_is_err_and}
use Rattle.csv_rows.specs.Rows.{record_fields, AreRows}
use Rattle.rt1553_results.specs.Results.{pair_in}
use Rattle.rt1553_results.specs.Refused.{IsNotKept}
use Rattle.rt1553_results.proofs.FieldLaws.{has_places}
use Rattle.rt1553_results.proofs.ResultLaws.{so_far_none, so_far_more, row_more, around_row, first_wrong}
use Rattle.rt1553_results.proofs.ResultLaws.{SoFar}
use Rattle.rt1553_results.proofs.results.read_results.Goals as goal

pub loop-row-init : goal.loop-row-init
loop-row-init c = so_far_none c.in_ok-columns.columns _ c.new.ensures.empty

pub read_row-requires : goal.read_row-requires
read_row-requires c = has_places (record_fields c.index-rows-0.result) c.in_ok-columns.columns c.in_ok-columns.ensures.found

pub returns-in_err-entry-clause-refused : goal.returns-in_err-entry-clause-refused
returns-in_err-entry-clause-refused c =
    let rows = c.as_slice-rows.result.now in
    let first = c.index-rows-0.result in
    let under = take (length rows - 1) (drop 1 rows) in
    let i = c.loop-row.row-index in
    let row = c.row-item.result in
    let some : 0 < length rows = grind (arith, nat_tests, c.is_empty.ensures, c.if-is_empty.false) in
    let r = c.from_residual-in_err-entry in
    let p = err_from_is_err_and r.result r.ensures.1 in
    let records = subst (λ xs. AreRows c.args.text.now (map record_fields xs)) (sym c.as_slice-rows.ensures.value) c.in_ok-records.ensures.rows in
    rw (p.1, p.2)
    (first_wrong c.args.text.now (map record_fields rows) (record_fields first) (map record_fields (take i under)) (record_fields row) (map record_fields (drop (i + 1) under))
    c.in_ok-columns.columns c.loop-row.results c.in_err-entry.field-0.0 records (around_row rows first i row some c.index-rows-0.is (omega (arith, c.loop-row-test.true)) c.row-item.is)
    c.in_ok-columns.ensures.found c.loop-row.invariant (inl c.in_err-entry.ensures.refused))

pub returns-in_err-keep-clause-refused : goal.returns-in_err-keep-clause-refused
returns-in_err-keep-clause-refused c =
    let rows = c.as_slice-rows.result.now in
    let first = c.index-rows-0.result in
    let under = take (length rows - 1) (drop 1 rows) in
    let i = c.loop-row.row-index in
    let row = c.row-item.result in
    let entry = c.in_ok-entry.entry in
    let some : 0 < length rows = grind (arith, nat_tests, c.is_empty.ensures, c.if-is_empty.false) in
    let r = c.from_residual-in_err-keep in
    let p = err_from_is_err_and r.result r.ensures.1 in
    let records = subst (λ xs. AreRows c.args.text.now (map record_fields xs)) (sym c.as_slice-rows.ensures.value) c.in_ok-records.ensures.rows in
    let f = c.in_err-keep.field-0.0 in
    rw (p.1, p.2)
    (first_wrong c.args.text.now (map record_fields rows) (record_fields first) (map record_fields (take i under)) (record_fields row) (map record_fields (drop (i + 1) under))
    c.in_ok-columns.columns c.loop-row.results f records (around_row rows first i row some c.index-rows-0.is (omega (arith, c.loop-row-test.true)) c.row-item.is)
    c.in_ok-columns.ensures.found c.loop-row.invariant
    (inr (pair_in entry, c.in_ok-entry.ensures.read, subst (λ o. IsNotKept o f) (c.loop-row.invariant.answers entry.number) c.in_err-keep.ensures.refused)))

pub loop-row-preserved : goal.loop-row-preserved
loop-row-preserved c =
    let rows = c.as_slice-rows.result.now in
    let under = take (length rows - 1) (drop 1 rows) in
    let i = c.loop-row.row-index in
    let row = c.row-item.result in
    let entry = c.in_ok-entry.entry in
    subst (λ rows. SoFar c.in_ok-columns.columns rows c.keep.new.self) (row_more under i row (omega (arith, c.loop-row-test.true)) c.row-item.is)
    (so_far_more c.in_ok-columns.columns (map record_fields (take i under)) (record_fields row) entry.number entry.reply.items c.loop-row.results c.keep.new.self c.loop-row.invariant c.in_ok-entry.ensures.read c.in_ok-keep.ensures.new c.in_ok-keep.ensures.kept)
