use Rattle.std.proofs.Common.{ℕ, ◌<◌, sym, subst, slice_index, arith}
use Rattle.script_lines.proofs.DigitLaws.{digits_from, digits_ascii}
use Rattle.script_lines.proofs.known_pairs.KnownPairs.digits.Goals as goal

pub returns-clause-digits : goal.returns-clause-digits
returns-clause-digits c = digits_from c.args.self.now.digits c.args.word (omega arith) c.args.self.now.known

pub returns-clause-ascii : goal.returns-clause-ascii
returns-clause-ascii c =
    subst (λ xs. (i : ℕ) → slice_index xs i < 128) (sym (digits_from c.args.self.now.digits c.args.word (omega arith) c.args.self.now.known)) (digits_ascii c.args.word)
