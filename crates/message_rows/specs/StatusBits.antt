-- The bits of status words.
use Rattle.std.specs.Prelude.{ℕ, Bool, ◌/◌, ◌%◌, ◌==◌, List, [], ◌∷◌, codes}

-- the bit of this place value is set
abbrev pub is_bit_set : ℕ → ℕ → Bool
is_bit_set word place = word / place % 2 == 1

-- the bits behind the address, each by its place value, with its name
abbrev pub named_bits : List (ℕ × List ℕ)
named_bits =
    (1024, codes "error") ∷ (512, codes "instrumentation") ∷ (256, codes "service") ∷ (128, codes "reserved1") ∷ (64, codes "reserved2")
    ∷ (32, codes "reserved3") ∷ (16, codes "broadcast") ∷ (8, codes "busy") ∷ (4, codes "subsystem") ∷ (2, codes "accept") ∷ (1, codes "terminal") ∷ []
