use Rattle.std.proofs.Common.{string_bytes, refl, subst, sym}
use Rattle.std.specs.Str.{chars}
use Rattle.std.specs.Str.Iter.{escapes_form, IsEscapeIn}
use Rattle.std.specs.Char.Escape.{IsEscapeDebug}
use Rattle.rt1553_files.proofs.ShownLaws.{written_more, char_step, text_end}
use Rattle.rt1553_files.proofs.printable.push_text.Goals as goal

pub loop-c-preserved : goal.loop-c-preserved
loop-c-preserved c =
    let x = c.in-Some.c in
    let done = c.loop-c.yielded in
    let was = c.loop-c.invariant in
    let steps = c.in-Some.ensures.steps in
    let written = written_more (string_bytes c.args.text.now) (string_bytes c.loop-c.text) (string_bytes c.push.new.self) done x x
    was.written refl c.in_ok-push.ensures.bytes in
    let next = char_step (chars c.args.part.now) done _ _ _ _ _ x (IsEscapeIn (escapes_form c.loop-c.c-iterator))
    was.form was.utf8 was.shows steps.1 in
    record {
      written = written;
      form = λ d escape. subst (λ f. IsEscapeIn f d escape → IsEscapeDebug d escape) (sym steps.0) (was.form d escape);
      utf8 = next.0;
      shows = next.1;
    }

pub returns : goal.returns
returns c =
    let was = c.loop-c.invariant in
    let over = c.in-None.ensures.steps.1 in
    (c.loop-c.yielded, was.written, text_end (chars c.args.part.now) c.loop-c.yielded _ _ _ over.0 over.1 was.shows)
