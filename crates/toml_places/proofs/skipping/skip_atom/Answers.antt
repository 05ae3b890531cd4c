use Rattle.std.proofs.Common.{◌≡◌, true, false, sym, ◌∙◌}
use Rattle.toml_parser.specs.Strings.{starts_string}
use Rattle.toml_places.proofs.Faults.{memory_fault, passed_on}
use Rattle.toml_places.proofs.Turns.{given, same_read, atom_string, atom_scalar}
use Rattle.toml_places.proofs.skipping.skip_atom.Goals as goal

pub returns-in_err-_text-clause-value : goal.returns-in_err-_text-clause-value
returns-in_err-_text-clause-value c x rest read =
    let s = c.args.s.now in
    let starts : starts_string s ≡ true = sym c.if-starts_string.ensures in
    given (atom_string s x rest starts read) λ (y, read_string).
    passed_on _ _ _ _ c.from_residual.ensures.1 (λ y p. p) (memory_fault _ _ _ c.in_err-_text.ensures.value read_string)

pub returns-in_err-_scalar-clause-value : goal.returns-in_err-_scalar-clause-value
returns-in_err-_scalar-clause-value c x rest read =
    let s = c.args.s.now in
    let other : starts_string s ≡ false = sym c.if-starts_string.ensures in
    given (atom_scalar s x rest other read) λ (y, read_scalar).
    passed_on _ _ _ _ c.from_residual-in_err-_scalar.ensures.1 (λ y p. p) (memory_fault _ _ _ c.in_err-_scalar.ensures.value read_scalar)

pub returns-in_ok-_text-clause-value : goal.returns-in_ok-_text-clause-value
returns-in_ok-_text-clause-value c x rest read =
    let s = c.args.s.now in
    let starts : starts_string s ≡ true = sym c.if-starts_string.ensures in
    given (atom_string s x rest starts read) λ (y, read_string).
    let (same, left) = same_read _ _ _ _ (sym c.in_ok-_text.ensures.value ∙ read_string) in left

pub returns-in_ok-_scalar-clause-value : goal.returns-in_ok-_scalar-clause-value
returns-in_ok-_scalar-clause-value c x rest read =
    let s = c.args.s.now in
    let other : starts_string s ≡ false = sym c.if-starts_string.ensures in
    given (atom_scalar s x rest other read) λ (y, read_scalar).
    let (same, left) = same_read _ _ _ _ (sym c.in_ok-_scalar.ensures.value ∙ read_scalar) in left
