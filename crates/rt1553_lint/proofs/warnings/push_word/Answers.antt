use Rattle.std.proofs.Common.{rules}
use Rattle.rt1553_lint.proofs.Warned.{warns_no_word, warns_needed_word, warns_word}
use Rattle.rt1553_lint.proofs.warnings.push_word.Goals as goal

pub returns-then-not-gives_word : goal.returns-then-not-gives_word
returns-then-not-gives_word c = warns_no_word _ _ c.args.index c.args.word c.index-as_slice-index.result c.as_slice.result.now _ c.as_slice.ensures c.index-as_slice-index.is c.gives_word.ensures (search rules)

pub returns-then-not-is_spare : goal.returns-then-not-is_spare
returns-then-not-is_spare c = warns_needed_word _ _ c.args.index c.args.word c.index-as_slice-index.result _ c.requires.spare (search rules)

pub returns : goal.returns
returns c = warns_word _ _ _ c.args.index c.args.word c.index-as_slice-index.result c.as_slice.result.now _ _ c.as_slice.ensures c.requires.index c.index-as_slice-index.is c.gives_word.ensures (search rules)
    c.requires.spare (search rules) c.requires.needed c.in_ok-push_warning.ensures
