-- The complete test of a terminal: one script, played once from power-up, that tells it from every other terminal. It goes
-- through all that can differ, one exchange or two for each. No reset and no power cycle is needed before any of them: the
-- test is played from power-up, and reset remote terminal (mode code 8) is among the commands tried.
use Rattle.std.specs.Prelude.{◌≡◌, ℕ, zero, suc, ◌+◌, ◌≤◌, ◌↔◌, if◌then◌else◌, Some, List, [], ◌∷◌, ◌++◌, length, is_some}
use Rattle.bus_word.specs.declared.cell.Cell.TheVariants.{OwnMode}
use Rattle.bus_word.specs.Mode as mode
use Rattle.bus_word.specs.Cell.{allows_broadcast}
use Rattle.bus_legal.specs.Description.{Description}
use Rattle.bus_legal.specs.Reach.{can_wrap}
use Rattle.bus_legal.specs.Parts.{Parts, description_in, IsNormal}
use Rattle.terminal_rules.specs.declared.event.Event.{Event}
use Rattle.terminal_rules.specs.Reply.{words_after_status}
use Rattle.terminal_rules.specs.Same.{AreProper, Same}
use Rattle.terminal_rules.specs.Out.{outs}
use Rattle.terminal_exchanges.specs.Exchanges.{Exchange, script_of}
use Rattle.terminal_exchanges.specs.Sent.{sent}
use Rattle.terminal_exchanges.specs.Distinguish.{all_terminals, receive_zeros, transmit, mode_code, mode_code_with, ask, sent_back}

-- the exchanges of n numbers, from the first number on
unfoldable pub each_in : ℕ → ℕ → (ℕ → List Exchange) → List Exchange
each_in first zero f = []
each_in first (suc n) f = f first ++ each_in (suc first) n f

-- those of each subaddress of data
abbrev pub each_subaddress : (ℕ → List Exchange) → List Exchange
each_subaddress f = each_in 1 30 f

-- those of each word count at each subaddress of data
abbrev pub each_place : (ℕ → ℕ → List Exchange) → List Exchange
each_place f = each_subaddress (λ s. each_in 1 32 (f s))

-- those of each mode code
abbrev pub each_code : (ℕ → List Exchange) → List Exchange
each_code f = each_in 0 32 f

-- The broadcast option and the address. A broadcast transmit status word is illegal where it is heard, and the status that
-- is asked for says so.
abbrev pub option_tried : Description → List Exchange
option_tried P = mode_code all_terminals mode.transmit_status ∷ ask P.address ∷ []

-- Every transmit command, with slots for all its words: which are legal, and the words held at power-up. This comes before
-- anything is received.
abbrev pub transmit_tried : Description → ℕ → ℕ → List Exchange
transmit_tried P s n = transmit P.address s n (n + 1) ∷ []

-- every receive command
abbrev pub receive_tried : Description → ℕ → ℕ → List Exchange
receive_tried P s n = receive_zeros P.address s n ∷ []

-- the slots that the reply to an own mode code can need
abbrev pub code_slots : ℕ → ℕ
code_slots code = suc (words_after_status (Some (OwnMode code)))

-- Every own mode code that may be legal: which are, acceptance, the vector word and the BIT word.
abbrev pub own_code_tried : Description → ℕ → List Exchange
own_code_tried P code = if is_some (mode.mode_row code) then mode_code_with (code_slots code) P.address code ∷ [] else []

-- every broadcast receive command; a broadcast is not answered, so the status is asked for after it
abbrev pub broadcast_receive_tried : Description → ℕ → ℕ → List Exchange
broadcast_receive_tried P s n = receive_zeros all_terminals s n ∷ ask P.address ∷ []

-- every broadcast mode code that may be legal
abbrev pub broadcast_code_tried : Description → ℕ → List Exchange
broadcast_code_tried P code = if allows_broadcast (mode.mode_row code) then mode_code all_terminals code ∷ ask P.address ∷ [] else []

-- Every broadcast, where the terminal has the broadcast option. Without it, it hears none.
abbrev pub broadcasts_tried : Description → List Exchange
broadcasts_tried P = if P.broadcast then each_place (broadcast_receive_tried P) ++ each_code (broadcast_code_tried P) else []

-- wraparound, at each subaddress where words that are received can be transmitted
abbrev pub wraparound_tried : Description → ℕ → List Exchange
wraparound_tried P s = if can_wrap P s then sent_back P s else []

-- the complete test as exchanges
abbrev pub tried : Description → List Exchange
tried P =
    option_tried P
    ++ (each_place (transmit_tried P)
    ++ (each_place (receive_tried P)
    ++ (each_code (own_code_tried P)
    ++ (broadcasts_tried P
    ++ each_subaddress (wraparound_tried P)))))

-- the complete test as events
abbrev pub complete_test : Description → List Event
complete_test P = script_of (tried P)

-- The test consists of events that can come, few enough for one script. A terminal of some `Normal` answers the test of
-- another as that other does, exactly if it is of the same one. For that its words on the bus are enough: it sends the same
-- words, each at the same event, exactly if it is the same terminal. What it hands over need not be seen.
pub record CompleteTestLaw : Type 0 where
  pub proper : (v : Parts) → IsNormal v → AreProper (complete_test (description_in v))
  pub short : (v : Parts) → IsNormal v → length (complete_test (description_in v)) ≤ 60269
  pub complete : (v w : Parts) → IsNormal v → IsNormal w →
      (outs (description_in w) (complete_test (description_in v)) ≡ outs (description_in v) (complete_test (description_in v))) ↔ (v ≡ w)
  pub seen : (v w : Parts) → IsNormal v → IsNormal w →
      (sent (description_in w) (complete_test (description_in v)) ≡ sent (description_in v) (complete_test (description_in v))) ↔ Same (description_in w) (description_in v)
