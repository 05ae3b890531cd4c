use Rattle.std.proofs.Common.{ℕ, ◌<◌, Some, sym, ap, ◌∙◌, subst, slice_index, arith}
use Rattle.std.specs.Int.{w32, to_le_bytes}
use Rattle.std.specs.Int.Bits.{bit_or}
use Rattle.script_lines.proofs.DigitLaws.{all_or, small_digits, small_ascii}
use Rattle.script_lines.proofs.known_digits.KnownDigits.small.Goals as goal

pub returns-then-s-lt16-clause-digits : goal.returns-then-s-lt16-clause-digits
returns-then-s-lt16-clause-digits c =
    ap Some (c.to_le_bytes.ensures ∙ ap (λ n. to_le_bytes w32 (bit_or n 538976288)) c.from_le_bytes.ensures ∙ all_or c.args.a c.args.b c.args.c c.args.d (omega arith) (omega arith) (omega arith) (omega arith))
    ∙ sym (small_digits c.args.a c.args.b c.args.c c.args.d _ _ _ _ (omega arith) (omega arith) (omega arith) (omega arith)
    (c.value-p.ensures c.if-p-lt16.true) (c.value-q.ensures c.if-q-lt16.true) (c.value-r.ensures c.if-r-lt16.true) (c.value-s.ensures c.if-s-lt16.true))

pub returns-then-s-lt16-clause-ascii : goal.returns-then-s-lt16-clause-ascii
returns-then-s-lt16-clause-ascii c =
    subst (λ xs. (i : ℕ) → slice_index xs i < 128)
    (sym (c.to_le_bytes.ensures ∙ ap (λ n. to_le_bytes w32 (bit_or n 538976288)) c.from_le_bytes.ensures ∙ all_or c.args.a c.args.b c.args.c c.args.d (omega arith) (omega arith) (omega arith) (omega arith)))
    (small_ascii c.args.a c.args.b c.args.c c.args.d _ _ _ _ (omega arith) (omega arith) (omega arith) (omega arith)
    (c.value-p.ensures c.if-p-lt16.true) (c.value-q.ensures c.if-q-lt16.true) (c.value-r.ensures c.if-r-lt16.true) (c.value-s.ensures c.if-s-lt16.true))
