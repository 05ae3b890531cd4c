use Rattle.std.proofs.Common.{[], append-nil, sym}
use Rattle.std.proofs.lemmas.Result.{IfOk-weaker}
use Rattle.bus_canon.proofs.BlockLaws.{FitsBlock, block_absent, block_given}
use Rattle.bus_canon.proofs.blocks.put_block.Goals as goal

pub returns-then-counts-eq0 : goal.returns-then-counts-eq0
returns-then-counts-eq0 c =
    let fits : FitsBlock c.args.counts c.args.words.now = record { is_block = record { long = c.told-words; fit = c.fits-words }; unsent = c.requires.unsent } in
    ([], sym (append-nil c.args.out.now.items), block_absent c.args.subaddress c.args.counts c.args.words.now c.if-counts-eq0.true fits)

pub returns : goal.returns
returns c =
    let fits : FitsBlock c.args.counts c.args.words.now = record { is_block = record { long = c.told-words; fit = c.fits-words }; unsent = c.requires.unsent } in
    IfOk-weaker c.put_words_line.result _ _
    (λ _ h. (h.0, h.1, block_given c.args.subaddress c.args.counts c.largest_count.result c.args.words.now h.0 c.if-counts-eq0.false c.largest_count.ensures.count fits h.2)) c.put_words_line.ensures
