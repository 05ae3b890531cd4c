use Rattle.rt1553_expand.proofs.WroteLaws.{sender-more}
use Rattle.rt1553_expand.proofs.writing.push_sender.Goals as goal

pub returns-in_ok-push_word-2 : goal.returns-in_ok-push_word-2
returns-in_ok-push_word-2 c =
    sender-more c.args.bus c.args.sender c.in-Some.command c.plain_status.result _ _ _ _ c.in-Some.is c.plain_status.ensures
    c.in_ok-push_word.ensures c.in_ok-push.ensures.items c.in_ok-push_word-2.ensures
