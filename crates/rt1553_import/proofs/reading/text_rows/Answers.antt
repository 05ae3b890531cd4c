use Rattle.std.proofs.Common.{◌≡◌, ◌∙◌, true, false, subst}
use Rattle.std.proofs.lemmas.Iterator.Adapters.{YieldsList-from_vec}
use Rattle.std.proofs.lemmas.Iterator.Consumers.{YieldsList-turn}
use Rattle.std.specs.Result.{IsOk}
use Rattle.rt1553_import.proofs.TextLaws.{untext}
use Rattle.rt1553_import.proofs.reading.text_rows.Goals as goal

pub returns-in-Err-clause-refused : goal.returns-in-Err-clause-refused
returns-in-Err-clause-refused c =
    let from = c.into_iter-row-iterator.ensures.into_iter_gives in
    let t = YieldsList-turn (YieldsList-from_vec c.args.rows.items from.0 (from.1 ∙ c.args.rows.ok.0)) c.loop-row.yielded c.loop-row.row-iterator c.loop-row.yielded_by c.next.result c.next.new.self c.in-Some.row c.in-Some.is c.next.ensures.steps in
    untext c.args.rows.items _ c.in-Some.row t (λ all. let no : false ≡ true = subst IsOk c.in-Err.is (c.from_byte_record.ensures.refused all) in cc no)
