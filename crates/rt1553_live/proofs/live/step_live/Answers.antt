use Rattle.std.proofs.Common.{Some, refl, ap, sym, ◌∙◌, subst}
use Rattle.bus_legal.specs.Parts.{description_in}
use Rattle.rt1553_live.specs.Live.{StepsBy}
use Rattle.rt1553_live.proofs.live.step_live.Goals as goal

pub returns-in-Some : goal.returns-in-Some
returns-in-Some c =
    let x = c.args.live.now in
    let rests = c.step.follows.holds-at-none in
    subst (λ e. StepsBy e x 0 (record { event = x.event; answer = c.show.new.to; terminal = c.step.follows.lender-at-none; made = c.live-in-Some-2-1.given.0 })) c.in-Some.ensures (
      refl,
      record {
        answers = λ P h a. c.show.ensures ∙ ap Some (c.step.ensures.answer a.own h a.stands ∙ a.alike h c.in-Some.event);
        stands = λ P h a. (let further = rests.0 a.own h a.stands in record {
          own = a.own;
          stands = further;
          alike = a.alike;
          made = rests.2 ∙ a.made ∙ ap description_in (sym rests.1);
        });
        event = refl;
      },
    )
