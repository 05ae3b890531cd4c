-- How the result of one step stands to what the grammar reads there.
use Rattle.std.specs.Prelude.{◌≡◌, List, ℕ, Option, Some, option_map, option_and_then, Result, MatchResult}
use Rattle.std.specs.Borrow.{Bor}
use Rattle.toml_parser.specs.declared.key.Key as code
use Rattle.toml_parser.specs.Lexical.{Read}
use Rattle.toml_parser.specs.Strings.{Key, key}
use Rattle.toml_parser.specs.Reading.{key_view}
use Rattle.toml.specs.Tables.{Expression}
use Rattle.toml.specs.Parse.{after_byte}
use Rattle.toml_places.specs.declared.fault.StatementsFault.{StatementsFault}
use Rattle.toml_places.specs.declared.fault.StatementsFault.TheVariants.{Memory}
use Rattle.toml_places.specs.declared.statement.StatementKind.{StatementKind}
use Rattle.toml_places.specs.Parsed.{statement_kind}

-- where the grammar reads a value, the result is that, seen through f, with the text after it; or memory ran out
abbrev pub Takes : {A B : Type 0} → (A → B) → Result (A × Bor (List ℕ)) StatementsFault → Read B → Type 0
Takes {A} {B} f r read =
    (x : B) (rest : List ℕ) → read ≡ Some (x, rest) → MatchResult r (λ p. (f p.0 ≡ x) × (p.1.now ≡ rest)) (λ fault. fault ≡ Memory)

-- where the grammar reads a value, the result is the text after it; or memory ran out
abbrev pub Skips : {B : Type 0} → Result (Bor (List ℕ)) StatementsFault → Read B → Type 0
Skips {B} r read = (x : B) (rest : List ℕ) → read ≡ Some (x, rest) → MatchResult r (λ left. left.now ≡ rest) (λ fault. fault ≡ Memory)

-- where the grammar goes on, the result is the text there
abbrev pub GoesOn : Result (Bor (List ℕ)) StatementsFault → Option (List ℕ) → Type 0
GoesOn r next = (rest : List ℕ) → next ≡ Some rest → MatchResult r (λ left. left.now ≡ rest) (λ fault. fault ≡ Memory)

-- a key, right behind it this byte, and the text after that
abbrev pub key_before : ℕ → List ℕ → Read Key
key_before byte text = option_and_then (λ k. option_map (λ rest. (k.0, rest)) (after_byte byte k.1)) (key text)

-- the key of a statement, and what it is
abbrev pub Heading : Type 0
Heading = Key × StatementKind

-- the key and the kind of a statement, without its value
abbrev pub heading : Expression → Heading
heading e = (e.0, statement_kind e.1)

-- the same of what was read
abbrev pub heading_view : code.Key × StatementKind → Heading
heading_view p = (key_view p.0, p.1)
