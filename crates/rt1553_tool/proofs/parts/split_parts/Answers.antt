use Rattle.std.proofs.Common.{length, arith}
use Rattle.rt1553_tool.specs.Parts.{pieces_of, with_bytes}
use Rattle.rt1553_tool.specs.inner.Parts.{texts}
use Rattle.rt1553_tool.proofs.PartLaws.{pieces_step, pieces_end, few_step}
use Rattle.rt1553_tool.proofs.parts.split_parts.Goals as goal

pub loop-at-preserved : goal.loop-at-preserved
loop-at-preserved c =
    let i = c.loop-at.invariant in
    record {
      few = few_step c.args.text.now c.loop-at.at c.piece_len-len.result (length c.loop-at.parts.items) (length c.push_piece.new.parts.items) c.push_piece.ensures.few i.few;
      parts = pieces_step c.args.text.now c.loop-at.at c.piece_len-len.result (texts c.loop-at.parts.items) (texts c.push_piece.new.parts.items) (with_bytes (pieces_of c.args.text.now))
          c.piece_len-len.ensures.value c.push_piece.ensures.parts i.parts;
    }

pub returns : goal.returns
returns c = pieces_end c.args.text.now c.loop-at.at (texts c.loop-at.parts.items) (with_bytes (pieces_of c.args.text.now)) (omega (arith, c.loop-at-test.false)) c.loop-at.invariant.parts
