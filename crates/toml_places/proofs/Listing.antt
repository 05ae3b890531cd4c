-- The statements that were read so far, and those that are left.
use Rattle.std.proofs.Common.{◌≡◌, ℕ, suc, ◌-◌, ◌≤◌, ◌==◌, true, false, List, [], ◌∷◌, ◌++◌, length, map, Some, sym, ap, ◌∙◌, append_assoc, arith}
use Rattle.std.proofs.lemmas.List.{map-append, append-nil}
use Rattle.std.proofs.lemmas.List.Elements.{All-append, All-cons, All-nil}
use Rattle.std.specs.List.{All}
use Rattle.std.specs.Option.{IsSome}
use Rattle.toml_parser.specs.Lexical.{skip_blank}
use Rattle.toml.specs.Tables.{Expression, Document, no_nodes}
use Rattle.toml.specs.Parse.{read_map, line, lines, skip_bom, parse_document}
use Rattle.toml_places.specs.declared.statement.Statement.{Statement}
use Rattle.toml_places.specs.Parsed.{Placed, statements}
use Rattle.toml_places.specs.Found.{Seen, seen, statement_view}
use Rattle.toml_places.specs.inner.Steps.{Heading, heading, heading_view}
use Rattle.toml_places.proofs.Turns.{lines_done, some_lines_on}

-- a document has lines to its end
pub document_lines : (text : List ℕ) → IsSome (parse_document text) → (final : Document) × (lines (suc (length text)) (no_nodes, []) (skip_bom text) ≡ Some final)
unfolding parse_document
document_lines text h = search arith

-- a statement before others
abbrev put_before : Expression → ℕ → List Placed → List Placed
put_before e left ps = (e, left) ∷ ps

-- these statements, with those that are left, are all
abbrev WithRest : ℕ → List Statement → List Placed → List Seen → Type 0
WithRest len found left all = map statement_view found ++ map (seen len) left ≡ all

seen_as_kept : (len : ℕ) (s : Statement) (e : Expression) (left : ℕ) → s.at ≡ len - left → heading_view (s.key, s.kind) ≡ heading e → statement_view s ≡ seen len (e, left)
seen_as_kept len s e left place what = search arith

one_more : (len : ℕ) (found new : List Statement) (s : Statement) (ps : List Placed) (e : Expression) (left : ℕ) (rest : List Placed) (all : List Seen)
    → WithRest len found ps all → ps ≡ put_before e left rest → new ≡ found ++ s ∷ [] → statement_view s ≡ seen len (e, left) → WithRest len new rest all
one_more len found new s ps e left rest all whole split pushed same = search (arith, map-append, append_assoc)

-- a text of this length whose rest, where these statements were found before it, gives the others
pub record Left (len : ℕ) (final : Document) (all : List Seen) (found : List Statement) (rest : List ℕ) : Type 0 where
  pub fuel : ℕ
  pub doc : Document
  pub read : lines fuel doc rest ≡ Some final
  pub whole : map statement_view found ++ map (seen len) (statements fuel rest) ≡ all

-- at the end none is left
pub left_none : (len : ℕ) (final : Document) (all : List Seen) (found : List Statement) (rest start : List ℕ) → Left len final all found rest → start ≡ skip_blank rest → (length start == 0) ≡ true
    → map statement_view found ≡ all
left_none len final all found rest start l start_is over = search (arith, lines_done, append-nil)

-- before the end there is a statement to read
pub left_some : (len : ℕ) (final : Document) (all : List Seen) (found : List Statement) (rest start : List ℕ) → Left len final all found rest → start ≡ skip_blank rest → (length start == 0) ≡ false
    → (x : Heading) × (after : List ℕ) × (read_map heading (line start) ≡ Some (x, after))
left_some len final all found rest start l start_is other =
    let here : (length (skip_blank rest) == 0) ≡ false = ap (λ t. length t == 0) (sym start_is) ∙ other in
    let (n, is, s) = some_lines_on l.fuel l.doc final rest l.read here in
    (heading s.expression, s.after, ap (λ t. read_map heading (line t)) start_is ∙ ap (read_map heading) s.read)

-- it is found, and the others are left after it
pub left_more : (len : ℕ) (final : Document) (all : List Seen) (found new : List Statement) (s : Statement) (rest start after : List ℕ) → Left len final all found rest → start ≡ skip_blank rest
    → (length start == 0) ≡ false
    → ((x : Heading) (next : List ℕ) → read_map heading (line start) ≡ Some (x, next) → (heading_view (s.key, s.kind) ≡ x) × (after ≡ next))
    → s.at ≡ len - length start → new ≡ found ++ s ∷ [] → Left len final all new after
left_more len final all found new s rest start after l start_is other reads place pushed =
    let here : (length (skip_blank rest) == 0) ≡ false = ap (λ t. length t == 0) (sym start_is) ∙ other in
    let (n, is, turn) = some_lines_on l.fuel l.doc final rest l.read here in
    let read = ap (λ t. read_map heading (line t)) start_is ∙ ap (read_map heading) turn.read in
    let (heading_is, after_is) = reads (heading turn.expression) turn.after read in
    let left = length (skip_blank rest) in
    let split = ap (λ k. statements k rest) is ∙ turn.all ∙ ap (λ t. put_before turn.expression left (statements n t)) (sym after_is) in
    let same = seen_as_kept len s turn.expression left (place ∙ ap (λ t. len - length t) start_is) heading_is in
    record {
      fuel = n;
      doc = turn.next;
      read = ap (lines n turn.next) after_is ∙ turn.more;
      whole = one_more len found new s (statements l.fuel rest) turn.expression left (statements n after) all l.whole split pushed same;
    }

-- the statements begin within a text of this length
abbrev pub AreWithin : ℕ → List Statement → Type 0
AreWithin len found = All (λ s. s.at ≤ len) found

pub within_more : (len : ℕ) (found : List Statement) (s : Statement) → AreWithin len found → s.at ≤ len → AreWithin len (found ++ s ∷ [])
within_more len found s before here =
    All-append (λ s. s.at ≤ len) found (s ∷ []) before (All-cons (λ s. s.at ≤ len) s [] here (All-nil (λ s. s.at ≤ len)))
