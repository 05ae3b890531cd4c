-- What the statements of a document are to its tree.
use Rattle.std.specs.Prelude.{◌≡◌, ℕ, List, [], map, Some}
use Rattle.toml.specs.Data.{Members}
use Rattle.toml.specs.Tables.{Document, Expression, no_nodes, close}
use Rattle.toml.specs.Parse.{lines, parse_document}
use Rattle.toml_places.specs.Parsed.{Placed, statements, statements_of, defined}

-- the statements without their places
abbrev pub expressions : List Placed → List Expression
expressions ps = map (λ p. p.0) ps

-- The lines of a text leave the document that its statements define.
abbrev pub LinesLaw : Type 0
LinesLaw = (n : ℕ) (doc final : Document) (text : List ℕ) → lines n doc text ≡ Some final → defined doc (expressions (statements n text)) ≡ Some final

-- The tree of a text is what its statements define, one after another, from nothing.
abbrev pub DocumentLaw : Type 0
DocumentLaw =
    (text : List ℕ) (tree : Members) → parse_document text ≡ Some tree
    → (final : Document) × (defined (no_nodes, []) (expressions (statements_of text)) ≡ Some final) × (tree ≡ close final.0)
