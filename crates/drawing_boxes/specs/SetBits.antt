-- How the box of a status word is coloured by the bits that are set behind its address (MIL-STD-1553B, 4.3.3.5.3).
use Rattle.std.specs.Prelude.{ℕ, Bool, ◌/◌, ◌%◌, ◌==◌, if◌then◌else◌, List, [], codes}
use Rattle.drawing_boxes.specs.declared.caption.Caption.{Caption}
use Rattle.drawing_boxes.specs.declared.caption.Caption.TheVariants.{Status, OtherStatus}

-- the bit of this place value is set
abbrev pub has_status_bit : ℕ → ℕ → Bool
has_status_bit word place = word / place % 2 == 1

-- the class by which a status word is coloured: with message error, or else with busy, or else with another bit; none without any
abbrev pub status_class : ℕ → List ℕ
status_class word =
    if has_status_bit word 0x0400 then codes "error"
    else if has_status_bit word 0x0008 then codes "busy"
    else if word % 2048 == 0 then []
    else codes "flagged"

-- the same of any box: only status words have one
abbrev pub bits_class : Caption → List ℕ
bits_class (Status word) = status_class word
bits_class (OtherStatus word) = status_class word
bits_class other = []
