use Rattle.std.proofs.Common.{◌∙◌, drop, sym, ap, eqb-true}
use Rattle.toml_parser.specs.Lexical.{first}
use Rattle.toml_places.proofs.Faults.{memory_fault, passed_on}
use Rattle.toml_places.proofs.Turns.{given, same_read, key_before_some}
use Rattle.toml_places.proofs.skipping.key_before.Goals as goal

pub returns-in_err-key-clause-value : goal.returns-in_err-key-clause-value
returns-in_err-key-clause-value c x rest read =
    given (key_before_some c.args.byte c.args.s.now x rest read) λ before.
    passed_on _ _ _ _ c.from_residual.ensures.1 (λ y p. p) (memory_fault _ _ _ c.in_err-key.ensures.value before.read)

pub returns-then-first-byte-clause-value : goal.returns-then-first-byte-clause-value
returns-then-first-byte-clause-value c x rest read =
    given (key_before_some c.args.byte c.args.s.now x rest read) λ before.
    let (same_key, same_rest) = same_read _ _ _ _ (sym before.read ∙ c.in_ok-key.ensures.value) in
    (sym same_key, c.skip.ensures.rest ∙ sym (ap (drop 1) same_rest) ∙ before.goes_on)

pub returns-else-first-byte-clause-value : goal.returns-else-first-byte-clause-value
returns-else-first-byte-clause-value c x rest read =
    given (key_before_some c.args.byte c.args.s.now x rest read) λ before.
    let (same_key, same_rest) = same_read _ _ _ _ (sym before.read ∙ c.in_ok-key.ensures.value) in
    absurd (c.if-first-byte.false (c.first.ensures ∙ sym (ap first same_rest) ∙ eqb-true _ _ before.there))
