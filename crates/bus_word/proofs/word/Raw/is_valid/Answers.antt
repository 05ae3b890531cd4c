use Rattle.std.proofs.Common.{◌≡◌, ◌+◌, ◌%◌, ◌==◌, ◌∙◌, not, ap, sym, rules}
use Rattle.std.specs.Int.RustNames.{count_ones}
use Rattle.bus_word.specs.Word.{bit_of, low_bits, ones}
use Rattle.bus_word.proofs.Parity.{ones-low_bits, odd_where_even, odd_where_odd}
use Rattle.bus_word.proofs.word.Raw.is_valid.Goals as goal

pub returns-then-self : goal.returns-then-self
returns-then-self c =
    let w = c.args.self.now in
    let all : ones (low_bits 16 w.bits) ≡ count_ones w.bits = ones-low_bits 16 w.bits (search rules) in
    ap (λ n. n % 2 == 0) (sym all) ∙ odd_where_even (ones (low_bits 16 w.bits)) ∙ ap (λ p. (bit_of p + ones (low_bits 16 w.bits)) % 2 == 1) (sym c.if-self.true)

pub returns-else-self : goal.returns-else-self
returns-else-self c =
    let w = c.args.self.now in
    let all : ones (low_bits 16 w.bits) ≡ count_ones w.bits = ones-low_bits 16 w.bits (search rules) in
    ap (λ n. not (n % 2 == 0)) (sym all) ∙ odd_where_odd (ones (low_bits 16 w.bits)) ∙ ap (λ p. (bit_of p + ones (low_bits 16 w.bits)) % 2 == 1) (sym c.if-self.false)
