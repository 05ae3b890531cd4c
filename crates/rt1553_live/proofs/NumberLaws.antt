-- Words that stand for something mean it again.
use Rattle.std.proofs.Common.{◌≡◌, ◌≤◌, ℕ, List, ◌&&◌, nat_lt, if◌then◌else◌, Bool, true, false, Option, Some, None, option_map, length, refl, lit≤, arith}
use Rattle.std.proofs.lemmas.Bool.Decides.{nat_tests}
use Rattle.terminal_state.specs.declared.message.Phase.{Phase}
use Rattle.terminal_rules.specs.History.{Replying}
use Rattle.rt1553_live.specs.declared.bits.Bits.{Bits}
use Rattle.rt1553_live.specs.declared.message.SavedMessage.{SavedMessage}
use Rattle.rt1553_live.specs.Numbers.{bit, is_set, bit_numbers, bits_from, reply_numbers, message_numbers, at, byte, bus_from, has_words, phase_from, words_collected, message_from}
use Rattle.rt1553_live.specs.Text.{word_number}

back : (b : Bool) → is_set (bit b) ≡ b
back true = refl
back false = refl

pub bits_back : (b : Bits) → bits_from (bit_numbers b) ≡ b
bits_back b = λ j. record {
  heard = record { a = back b.heard.a j; b = back b.heard.b j };
  flags = record { service = back b.flags.service j; busy = back b.flags.busy j; subsystem = back b.flags.subsystem j; terminal = back b.flags.terminal j };
  inhibited = back b.inhibited j;
  off = record { a = back b.off.a j; b = back b.off.b j };
  status = record { error = back b.status.error j; service = back b.status.service j; broadcast = back b.status.broadcast j; busy = back b.status.busy j; subsystem = back b.status.subsystem j; accept = back b.status.accept j; terminal = back b.status.terminal j };
}

pub reply_five : (r : Option Replying) → length (reply_numbers r) ≡ 5
reply_five None = refl
reply_five (Some r) = refl

pub message_five : (m : Option SavedMessage) → length (message_numbers m) ≡ 5
message_five None = refl
message_five (Some m) = refl

-- at most 32 data words are collected
pub few_words : (ws : List ℕ) → word_number (message_from ws) ≤ 32
few_words ws = by_phase (phase_from (at 0 ws) (byte (at 3 ws)))
  where
    few : (p : Phase) (n : ℕ) → words_collected p n ≤ 32
    few p n = by_words (has_words p)
      where
        by_words : (t : Bool) → (if t && nat_lt n 33 then n else 0) ≤ 32
        by_words false = lit≤ tt
        by_words true = by_size (nat_lt n 33) refl
          where
            by_size : (t : Bool) → nat_lt n 33 ≡ t → (if t then n else 0) ≤ 32
            by_size true e = grind (arith, nat_tests)
            by_size false e = lit≤ tt

    by_phase : (o : Option Phase) → word_number (option_map (λ p. record { bus = bus_from (at 1 ws); command = at 2 ws; phase = p; count = words_collected p (at 4 ws) }) o) ≤ 32
    by_phase None = lit≤ tt
    by_phase (Some p) = few p (at 4 ws)
