use Rattle.std.proofs.Common.{◌≡◌, ◌==◌, true, false, drop, slice_index, ap, ◌∙◌, eqb-true, arith}
use Rattle.std.proofs.lemmas.Grind.{common_steps}
use Rattle.toml_parser.specs.Lexical.{first}
use Rattle.toml.specs.Parse.{header_key, val}
use Rattle.toml_places.proofs.Faults.{passed_on}
use Rattle.toml_places.proofs.Turns.{given, same_heading, pair_heading, table_heading, entry_heading}
use Rattle.toml_places.proofs.reading.statement.Goals as goal

pub returns-in_err-key-clause-value : goal.returns-in_err-key-clause-value
returns-in_err-key-clause-value c x rest read =
    let s = c.args.s.now in
    let other : (first s == 91) ≡ false = grind (arith, common_steps) in
    given (pair_heading s x rest other read) λ (d, pair, is).
    passed_on _ _ _ _ c.from_residual.ensures.1 (λ y p. p) (c.in_err-key.ensures.value x.0 pair.at_value pair.key)

pub returns-in_err-rest-clause-value : goal.returns-in_err-rest-clause-value
returns-in_err-rest-clause-value c x rest read =
    let s = c.args.s.now in
    let other : (first s == 91) ≡ false = grind (arith, common_steps) in
    given (pair_heading s x rest other read) λ (d, pair, is).
    let (key_is, at_value_is) = c.in_ok-key.ensures.value x.0 pair.at_value pair.key in
    passed_on _ _ _ _ c.from_residual-in_err-rest.ensures.1 (λ y p. p) (c.in_err-rest.ensures.value d rest (ap (val 80) at_value_is ∙ pair.value))

pub returns-in_ok-rest-clause-value : goal.returns-in_ok-rest-clause-value
returns-in_ok-rest-clause-value c x rest read =
    let s = c.args.s.now in
    let other : (first s == 91) ≡ false = grind (arith, common_steps) in
    given (pair_heading s x rest other read) λ (d, pair, is).
    let (key_is, at_value_is) = c.in_ok-key.ensures.value x.0 pair.at_value pair.key in
    (same_heading _ _ x key_is is, c.in_ok-rest.ensures.value d rest (ap (val 80) at_value_is ∙ pair.value))

pub returns-in_err-key-2-clause-value : goal.returns-in_err-key-2-clause-value
returns-in_err-key-2-clause-value c x rest read =
    let s = c.args.s.now in
    let bracket : (first s == 91) ≡ true = grind (arith, common_steps) in
    let other : (slice_index s 1 == 91) ≡ false = grind (arith, common_steps) in
    given (table_heading s x rest bracket other read) λ (header, is).
    passed_on _ _ _ _ c.from_residual-in_err-key-2.ensures.1 (λ y p. p) (c.in_err-key-2.ensures.value x.0 rest (ap header_key c.skip.ensures.rest ∙ header))

pub returns-in_ok-key-2-clause-value : goal.returns-in_ok-key-2-clause-value
returns-in_ok-key-2-clause-value c x rest read =
    let s = c.args.s.now in
    let bracket : (first s == 91) ≡ true = grind (arith, common_steps) in
    let other : (slice_index s 1 == 91) ≡ false = grind (arith, common_steps) in
    given (table_heading s x rest bracket other read) λ (header, is).
    let (key_is, rest_is) = c.in_ok-key-2.ensures.value x.0 rest (ap header_key c.skip.ensures.rest ∙ header) in
    (same_heading _ _ x key_is is, rest_is)

pub returns-in_err-key-3-clause-value : goal.returns-in_err-key-3-clause-value
returns-in_err-key-3-clause-value c x rest read =
    let s = c.args.s.now in
    let bracket : (first s == 91) ≡ true = grind (arith, common_steps) in
    let second : (slice_index s 1 == 91) ≡ true = grind (arith, common_steps) in
    given (entry_heading s x rest bracket second read) λ (after, header, there, goes_on, is).
    passed_on _ _ _ _ c.from_residual-in_err-key-3.ensures.1 (λ y p. p) (c.in_err-key-3.ensures.value x.0 after (ap header_key c.skip-else-byte_at-ne91.ensures.rest ∙ header))

pub returns-then-first-ne93-clause-value : goal.returns-then-first-ne93-clause-value
returns-then-first-ne93-clause-value c x rest read =
    let s = c.args.s.now in
    let bracket : (first s == 91) ≡ true = grind (arith, common_steps) in
    let second : (slice_index s 1 == 91) ≡ true = grind (arith, common_steps) in
    given (entry_heading s x rest bracket second read) λ (after, header, there, goes_on, is).
    let (key_is, rest_is) = c.in_ok-key-3.ensures.value x.0 after (ap header_key c.skip-else-byte_at-ne91.ensures.rest ∙ header) in
    absurd (c.if-first-ne93.true (c.first-else-byte_at-ne91.ensures ∙ ap first rest_is ∙ eqb-true _ _ there))

pub returns-else-first-ne93-clause-value : goal.returns-else-first-ne93-clause-value
returns-else-first-ne93-clause-value c x rest read =
    let s = c.args.s.now in
    let bracket : (first s == 91) ≡ true = grind (arith, common_steps) in
    let second : (slice_index s 1 == 91) ≡ true = grind (arith, common_steps) in
    given (entry_heading s x rest bracket second read) λ (after, header, there, goes_on, is).
    let (key_is, rest_is) = c.in_ok-key-3.ensures.value x.0 after (ap header_key c.skip-else-byte_at-ne91.ensures.rest ∙ header) in
    (same_heading _ _ x key_is is, c.skip-else-byte_at-ne91-2.ensures.rest ∙ ap (drop 1) rest_is ∙ goes_on)
