use Rattle.std.proofs.Common.{[]}
use Rattle.bus_script.proofs.PlayLaws.{Played-nil}
use Rattle.bus_script.proofs.FeedLaws.{taken_played, then_played}
use Rattle.bus_script.proofs.feed.play_usual.Goals as goal

pub returns-in-35-clause-ok : goal.returns-in-35-clause-ok
returns-in-35-clause-ok g c = ([], c.pass_comments.ensures, Played-nil (c.args.terminal.now, c.args.writer.now))

pub returns-in-Ok-clause-ok : goal.returns-in-Ok-clause-ok
returns-in-Ok-clause-ok g c =
    then_played (c.args.terminal.now, c.args.writer.now) (c.play_received.new.terminal, c.play_received.new.writer) (c.take_word-in-Ok.new.terminal, c.play_received.new.writer) c.args.bytes.now c.args.most
    c.in-Ok.piece c.take_word-in-Ok.result c.if-piece-eq0.true c.in-Ok.ensures.ok
    (taken_played c.play_received.new.terminal c.take_word-in-Ok.new.terminal c.play_received.new.writer c.args.bytes.now c.args.most c.take_word-in-Ok.result c.take_word-in-Ok.ensures)
