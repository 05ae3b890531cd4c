use Rattle.std.proofs.Common.{◌∙◌, ◌++◌, length, sym, ap, subst, IfSome, IfNone}
use Rattle.rt1553_expand.specs.Gathered.{NoneNext}
use Rattle.rt1553_expand.specs.inner.Gathering.{IsNextLine, WroteNext}
use Rattle.rt1553_expand.proofs.PieceLaws.{wrote-message, wrote-alone}
use Rattle.rt1553_expand.proofs.gathering.push_piece.Goals as goal

pub returns-in_ok-push-in-Some : goal.returns-in_ok-push-in-Some
returns-in_ok-push-in-Some c =
    let next = subst (λ o. IfSome o (λ line. IsNextLine c.args.own.now c.args.events.now c.next_message.new.room.items line.bytes)) c.in-Some.is c.in_ok-line.ensures.some in
    subst (WroteNext c.args.own.now c.args.out.now.items c.push.new.self.items c.args.events.now) (sym (ap length c.as_slice.ensures.value))
    (wrote-message c.args.own.now c.args.events.now c.next_message.new.room.items _ _ _ _ next (c.in_ok-extend_from_slice-in-Some.ensures.items ∙ ap (λ l. c.args.out.now.items ++ l) (c.as_bytes.ensures.value ∙ c.as_str.ensures.value)) c.in_ok-push-in-Some.ensures.items)

pub returns-in_ok-write_line-in-None : goal.returns-in_ok-write_line-in-None
returns-in_ok-write_line-in-None c =
    let none = subst (λ o. IfNone o (NoneNext c.args.own.now c.args.events.now)) c.in-None.is c.in_ok-line.ensures.none in
    wrote-alone c.args.own.now c.args.events.now c.index-events-0.result _ _ c.requires c.index-events-0.is none c.in_ok-write_line-in-None.ensures
