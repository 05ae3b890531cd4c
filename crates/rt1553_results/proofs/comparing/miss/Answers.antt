use Rattle.std.proofs.Common.{◌∙◌, refl}
use Rattle.rt1553_results.proofs.CompareLaws.{numbers_alone, popped_none, popped_some}
use Rattle.rt1553_results.proofs.comparing.miss.Goals as goal

pub returns-in_default : goal.returns-in_default
returns-in_default c =
    let old = c.args.missing.now.items in
    let mid = c.pop.new.self.items in
    numbers_alone old mid c.push.new.self.items _ (popped_none old mid c.pop.result c.pop.ensures.items c.in_default.is) c.in_ok-push.ensures.items refl

pub returns-in_ok-push-in-None-2 : goal.returns-in_ok-push-in-None-2
returns-in_ok-push-in-None-2 c =
    let old = c.args.missing.now.items in
    let mid = c.push-in-None.new.self.items in
    numbers_alone old mid c.push-in-None-2.new.self.items _ (c.in_ok-push-in-None.ensures.items ∙ popped_some old c.pop.new.self.items c.pop.result c.in-Some.last c.pop.ensures.items c.in-Some.is) c.in_ok-push-in-None-2.ensures.items refl
