use Rattle.std.proofs.Common.{◌∙◌, sym}
use Rattle.std.proofs.lemmas.Result.{IfOk-weaker}
use Rattle.bus_canon.proofs.CanonLaws.{none_added, name_added}
use Rattle.bus_canon.proofs.asked.put_wraparound.Goals as goal

pub returns-then-not-can_wrap_somewhere : goal.returns-then-not-can_wrap_somewhere
returns-then-not-can_wrap_somewhere c =
    none_added c.args.tables.now c.args.wrap c.args.out.now.items c.requires.small c.requires.unwrapped (sym c.can_wrap_somewhere.ensures ∙ c.if-not-can_wrap_somewhere.true)

pub returns : goal.returns
returns c =
    IfOk-weaker c.put_wrap_line.result _ _ (λ _ h. name_added c.args.tables.now c.args.wrap _ _ (sym c.can_wrap_somewhere.ensures ∙ c.if-not-can_wrap_somewhere.false) h) c.put_wrap_line.ensures
