use Rattle.std.proofs.Common.{◌++◌, string_bytes, subst, sym, ap, ◌∙◌, append_assoc}
use Rattle.std.specs.Prelude.{encode_utf8_all}
use Rattle.std.specs.List.{flat_map}
use Rattle.std.specs.Str.{chars}
use Rattle.std.specs.Str.Chunks.{utf8_chunks_rest, utf8_chunk_valid, utf8_chunk_invalid}
use Rattle.std.specs.Char.Escape.{escape_ascii}
use Rattle.rt1553_files.specs.Printable.{Shows, ShowsChars, ShowsBytes}
use Rattle.rt1553_files.proofs.ShownLaws.{written_chunk, chunk_shows, bytes_end}
use Rattle.rt1553_files.proofs.EscapeLaws.{shows_one_line}
use Rattle.rt1553_files.proofs.printable.escaped.Goals as goal

pub loop-chunk-preserved : goal.loop-chunk-preserved
loop-chunk-preserved c =
    let valid = utf8_chunk_valid c.in-Some.chunk in
    let invalid = utf8_chunk_invalid c.in-Some.chunk in
    let steps = c.in-Some.ensures.steps in
    let was = c.loop-chunk.invariant in
    let done = was.0 in
    let text = c.in_ok-push_text.ensures in
    let shown = text.0 in
    let escapes = flat_map escape_ascii invalid in
    let shows = subst (λ t. ShowsChars (chars t) shown) c.valid.ensures text.2 in
    let mid = string_bytes c.push_text.new.text in
    let bytes = c.in_ok-push_bytes.ensures ∙ ap (λ t. mid ++ encode_utf8_all (flat_map escape_ascii t)) c.invalid.ensures in
    let written = written_chunk (string_bytes c.loop-chunk.text) mid (string_bytes c.push_bytes.new.text) done shown escapes
    was.1 text.1 bytes in (
      done ++ (shown ++ escapes),
      written,
      λ tail behind.
          let chunk = chunk_shows (utf8_chunks_rest c.loop-chunk.chunk-iterator) valid invalid (utf8_chunks_rest c.next.new.self) shown tail
          steps.0 steps.1 steps.3.0 steps.3.1 shows behind in
          subst (ShowsBytes c.args.bytes.now) (sym (append_assoc done (shown ++ escapes) tail)) (was.2 (shown ++ escapes ++ tail) chunk),
    )

shows_all : (c : goal.In-None) → Shows c.args.bytes.now (string_bytes c.loop-chunk.text)
shows_all c =
    let was = c.loop-chunk.invariant in
    (was.0, was.1, bytes_end c.args.bytes.now was.0 _ c.in-None.ensures.steps.0 was.2)

pub returns-clause-shows : goal.returns-clause-shows
returns-clause-shows c = shows_all c

pub returns-clause-one_line : goal.returns-clause-one_line
returns-clause-one_line c = shows_one_line c.args.bytes.now (string_bytes c.loop-chunk.text) (shows_all c)
