use Rattle.std.proofs.Common.{ℕ, ◌==◌, ◌%◌, ap, sym, ◌∙◌, rules}
use Rattle.bus_word.specs.declared.word.Raw.{Raw}
use Rattle.bus_word.specs.Word.{low_bits, ones, is_valid}
use Rattle.bus_word.proofs.Parity.{ones-low_bits, odd_with_parity}
use Rattle.bus_word.proofs.word.Raw.of.Goals as goal

pub returns-clause-word : goal.returns-clause-word
returns-clause-word c =
    let with_ones = λ (n : ℕ). let w : Raw = record { kind = c.args.kind; bits = c.args.bits; parity = n % 2 == 0 } in w in
    sym (ap with_ones (ones-low_bits 16 c.args.bits (search rules)))

pub returns-clause-valid : goal.returns-clause-valid
returns-clause-valid c = ap is_valid (returns-clause-word c) ∙ odd_with_parity (ones (low_bits 16 c.args.bits))
