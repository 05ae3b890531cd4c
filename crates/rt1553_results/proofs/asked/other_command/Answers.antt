use Rattle.std.proofs.Common.{◌≡◌, ◌∙◌, ◌-◌, ◌∷◌, MatchOption, length, map, take, drop, codes, sym, subst, arith}
use Rattle.std.specs.List.{All}
use Rattle.bus_legal.specs.Parts.{description_in}
use Rattle.csv_rows.specs.Rows.{record_fields, AreRows}
use Rattle.rt1553_results.specs.declared.asked.AskedColumns.{AskedColumns}
use Rattle.rt1553_results.specs.Asked.{commands_of, IsAskedRow, HasOtherRow, AreAskedColumns}
use Rattle.rt1553_results.specs.Refused.{IsMissing}
use Rattle.rt1553_results.specs.Results.{IsColumn}
use Rattle.rt1553_results.proofs.AskedLaws.{asked_rows, one_place}
use Rattle.rt1553_results.proofs.asked.other_command.Goals as goal

pub returns-in-Some-first_other : goal.returns-in-Some-first_other
returns-in-Some-first_other c =
    let rows = c.as_slice.result.now in
    let header = record_fields c.header-item.result in
    let under = map record_fields (take (length rows - 1) (drop 1 rows)) in
    let columns : AskedColumns = record { number = c.in_ok-number.number; command = c.in-Some.command } in
    let all : c.as_slice-2.result.now ≡ commands_of (description_in c.args.normal.now) = c.as_slice-2.ensures.value ∙ c.in_ok-commands.ensures in
    record {
      header = header;
      rows = under;
      columns = columns;
      records = asked_rows c.args.text.now rows c.header-item.result (omega (arith, c.in-len1-up.len_at_least)) c.header-item.is
          (subst (λ xs. AreRows c.args.text.now (map record_fields xs)) (sym c.as_slice.ensures.value) c.in_ok-records.ensures.rows);
      found = record {
        number = c.in_ok-number.ensures.found;
        command = subst (λ o. MatchOption o (IsMissing (codes "command") header) (IsColumn (codes "command") header)) c.in-Some.is c.in_ok-command.ensures;
      };
      other = subst (λ cs. HasOtherRow cs columns under) all c.in-Some-first_other.ensures;
    }

pub returns : goal.returns
returns c =
    let rows = c.as_slice.result.now in
    let header = record_fields c.header-item.result in
    let under = map record_fields (take (length rows - 1) (drop 1 rows)) in
    let columns : AskedColumns = record { number = c.in_ok-number.number; command = c.in-Some.command } in
    let all : c.as_slice-2.result.now ≡ commands_of (description_in c.args.normal.now) = c.as_slice-2.ensures.value ∙ c.in_ok-commands.ensures in
    let found : AreAskedColumns header columns = record {
      number = c.in_ok-number.ensures.found;
      command = subst (λ o. MatchOption o (IsMissing (codes "command") header) (IsColumn (codes "command") header)) c.in-Some.is c.in_ok-command.ensures;
    } in (
      header ∷ under,
      asked_rows c.args.text.now rows c.header-item.result (omega (arith, c.in-len1-up.len_at_least)) c.header-item.is
          (subst (λ xs. AreRows c.args.text.now (map record_fields xs)) (sym c.as_slice.ensures.value) c.in_ok-records.ensures.rows),
      (λ others is. subst (λ columns. All (IsAskedRow (commands_of (description_in c.args.normal.now)) columns) under) (one_place header columns others found is)
          (subst (λ cs. All (IsAskedRow cs columns) under) all c.in-None.ensures)),
    )
