use Rattle.std.proofs.Common.{◌+◌, ◌∙◌, drop, ap, subst}
use Rattle.std.proofs.lemmas.List.{drop-drop}
use Rattle.byte_streams.proofs.SinkLaws.{from_there}
use Rattle.bus_script.specs.inner.Lines.{IsComment}
use Rattle.bus_script.proofs.FeedLaws.{comment_piece}
use Rattle.bus_script.proofs.lines.pass_comments.Goals as goal

pub loop-piece-preserved : goal.loop-piece-preserved
loop-piece-preserved c =
    let i = c.loop-piece.invariant in
    let len = c.in-Some.len in
    let at = c.loop-piece.piece.bytes in record {
      piece = comment_piece c.args.bytes.now c.args.most c.loop-piece.piece len i.piece (subst (λ xs. IsComment xs len) i.rest c.in-Some.ensures) c.loop-piece-test.true;
      rest = from_there (len + 1) c.loop-piece.rest.now ∙ (ap (drop (len + 1)) i.rest ∙ drop-drop (len + 1) at c.args.bytes.now);
    }
