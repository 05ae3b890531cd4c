use Rattle.std.proofs.Common.{[], subst}
use Rattle.std.proofs.lemmas.Result.{IfOk-weaker}
use Rattle.bus_legal.specs.Parts.{description_in}
use Rattle.bus_legal.specs.Tables.{tables_say}
use Rattle.bus_legal.proofs.NormalLaws.{set_up_normal}
use Rattle.recorded_terminal.specs.Judged.{CanBegin, WatchesLater}
use Rattle.script_recordings.proofs.SinceLaws.{can_begin}
use Rattle.script_recordings.proofs.explaining.begin_later.Goals as goal

pub returns-clause-begun : goal.returns-clause-begun
returns-clause-begun c =
    let v = c.args.normal.now in
    IfOk-weaker c.new.result _ (WatchesLater (λ normal. tables_say normal.tables) (description_in v) [])
    (λ watch begins. subst (λ D. CanBegin D → WatchesLater (λ normal. tables_say normal.tables) D [] watch) (set_up_normal v c.setup.result c.setup.ensures.parts) begins (can_begin v c.setup.ensures.normal))
    c.new.ensures
