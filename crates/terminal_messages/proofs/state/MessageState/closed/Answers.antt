use Rattle.terminal_messages.proofs.state.MessageState.closed.Goals as goal

pub returns : goal.returns
returns c ds = λ j. record c.args.self { «end» = c.end_closed.ensures ds j; unsent = c.unsent_closed.ensures ds j }
