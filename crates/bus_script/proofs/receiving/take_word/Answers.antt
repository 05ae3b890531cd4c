use Rattle.std.proofs.Common.{arith}
use Rattle.bus_word.specs.declared.word.Kind.TheVariants.{Dat}
use Rattle.bus_word.specs.Word.{valid_word}
use Rattle.bus_script.proofs.FeedLaws.{word_taken}
use Rattle.bus_script.proofs.receiving.take_word.Goals as goal

pub returns-in-Some : goal.returns-in-Some
returns-in-Some g c =
    word_taken c.args.terminal.now c.take_valid.new.self c.args.bytes.now c.args.most 8 c.in-Some.bus (valid_word Dat c.in-Some.bits) c.of.result c.requires (omega arith) c.in-Some.ensures c.of.ensures c.take_valid.ensures.takes
