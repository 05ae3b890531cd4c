use Rattle.std.proofs.Common.{◌∙◌, ◌-◌, length, take, drop, sym, ap, Some, arith}
use Rattle.rt1553_results.specs.Results.{words_said}
use Rattle.rt1553_results.proofs.FieldLaws.{behind, refused, said_wrong, said_apart, last_word, next_word_of, too_few, too_many}
use Rattle.rt1553_results.proofs.fields.read_words.Goals as goal
use Rattle.rt1553_results.proofs.fields.read_words.Goals.{then-loop-rest-test+else-len-lt33, else-loop-rest-test}

pub loop-rest-preserved : goal.loop-rest-preserved
loop-rest-preserved c =
    let rest = c.loop-rest.rest.now in
    ap (λ words. behind words (words_said (take (length rest - 5) (drop 5 rest)))) c.push.ensures.items
    ∙ next_word_of c.loop-rest.words.items rest (words_said c.args.field.now) c.in-Some.word c.loop-rest.invariant (omega arith) (sym c.read_word.ensures ∙ c.in-Some.is) c.if-rest-ne32.false

pub returns-in_default : goal.returns-in_default
returns-in_default c =
    let rest = c.loop-rest.rest.now in
    refused c.loop-rest.words.items (words_said rest) (words_said c.args.field.now) c.loop-rest.invariant (said_wrong rest (omega arith) (sym c.read_word.ensures ∙ c.in_default.is))

pub returns-then-rest-eq4 : goal.returns-then-rest-eq4
returns-then-rest-eq4 c =
    ap Some c.push.ensures.items
    ∙ last_word c.loop-rest.words.items c.loop-rest.rest.now (words_said c.args.field.now) c.in-Some.word c.loop-rest.invariant c.if-rest-eq4.true (sym c.read_word.ensures ∙ c.in-Some.is) (omega arith)

pub returns-then-rest-ne32 : goal.returns-then-rest-ne32
returns-then-rest-ne32 c =
    let rest = c.loop-rest.rest.now in
    refused c.loop-rest.words.items (words_said rest) (words_said c.args.field.now) c.loop-rest.invariant (said_apart rest (omega arith) c.if-rest-ne32.true)

pub returns : goal.returns
returns c =
    let words = c.loop-rest.words.items in
    let rest = c.loop-rest.rest.now in
    elim c.loop-rest-test.branch [
      | then-loop-rest-test+else-len-lt33 w ↦ too_many words rest (words_said c.args.field.now) c.loop-rest.invariant (omega arith)
      | else-loop-rest-test w ↦ too_few words rest (words_said c.args.field.now) c.loop-rest.invariant (omega arith)
    ]
