-- The statements of a document are what its lines define.
use Rattle.std.proofs.Common.{zero, suc, ◌==◌, length, refl, inl, inr, arith}
use Rattle.std.proofs.lemmas.Bool.{cases_Bool}
use Rattle.toml_parser.specs.Lexical.{skip_blank}
use Rattle.toml.specs.Parse.{parse_document}
use Rattle.toml_places.specs.StatementsLaw.{LinesLaw, DocumentLaw}
use Rattle.toml_places.proofs.Turns.{map_some, no_lines, lines_done, lines_on}

-- the lines of a text leave the document that its statements define
pub lines_law : LinesLaw
lines_law zero doc final text h = absurd (no_lines doc final text h)
lines_law (suc n) doc final text h =
    elim (cases_Bool (length (skip_blank text) == 0)) [
      | inl over ↦ let (same, none) = lines_done (suc n) doc final text h over in rw (none, same) refl
      | inr other ↦
          let s = lines_on n doc final text h other in
          rw (s.all, s.defines) (lines_law n s.next final s.after s.more)
    ]

-- the tree of a text is what its statements define
pub document_law : DocumentLaw
unfolding parse_document
document_law text tree h = search (arith, map_some, lines_law)
