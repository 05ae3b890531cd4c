use Rattle.std.proofs.Common.{ap, sym, ◌∙◌, [], ◌∷◌, arith}
use Rattle.terminal_messages.specs.View.{with_datum}
use Rattle.terminal_messages.proofs.Words.{room, full}
use Rattle.terminal_messages.proofs.kept.push_word.Goals as goal

pub returns-then-len-lt-MOST_WORDS-clause-words : goal.returns-then-len-lt-MOST_WORDS-clause-words
returns-then-len-lt-MOST_WORDS-clause-words c =
    c.push.ensures.items ∙ (room 64 c.args.words.now.items c.in-Some.word (omega arith) ∙ ap (with_datum c.args.words.now.items) (sym c.in-Some.is))

pub returns-else-len-lt-MOST_WORDS-clause-words : goal.returns-else-len-lt-MOST_WORDS-clause-words
returns-else-len-lt-MOST_WORDS-clause-words c =
    full 64 c.args.words.now.items (c.in-Some.word ∷ []) (omega arith) ∙ ap (with_datum c.args.words.now.items) (sym c.in-Some.is)
