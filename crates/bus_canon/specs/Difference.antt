-- The first difference between two terminals, by what can be reached of them, and the script that shows it.
use Rattle.std.specs.Prelude.{◌≡◌, ℕ, ◌<◌, ◌⊎◌, true, List}
use Rattle.bus_word.specs.Cell.{is_data_place}
use Rattle.bus_word.specs.Mode.{dynamic_bus_control, vector_word, bit_word}
use Rattle.bus_word.specs.declared.cell.Cell.TheVariants.{OwnReceive, OwnTransmit, BroadReceive, OwnMode, BroadMode}
use Rattle.bus_legal.specs.Description.{Description}
use Rattle.terminal_rules.specs.declared.event.Event.{Event}
use Rattle.terminal_exchanges.specs.Distinguish.{address_script, option_script, own_receive_script, own_transmit_script, broadcast_receive_script, own_code_script, broadcast_code_script, acceptance_script, vector_script, bit_script, initial_script, wraparound_script, shown_subaddress}
use Rattle.bus_canon.specs.declared.difference.Difference.{Difference}
use Rattle.bus_canon.specs.declared.difference.Difference.TheVariants.{Address, BroadcastOption, ReceiveCell, TransmitCell, BroadcastReceiveCell, OwnCode, BroadcastCode, Acceptance, VectorWord, BitWord, InitialWord, Wraparound}

-- The twelve kinds of difference, in their order: words that are held come before wraparound, so that for
-- wraparound both terminals hold the same words at power-up.
abbrev pub rank : Difference → ℕ
rank Address = 1
rank BroadcastOption = 2
rank (ReceiveCell s n) = 3
rank (TransmitCell s n) = 4
rank (BroadcastReceiveCell s n) = 5
rank (OwnCode code) = 6
rank (BroadcastCode code) = 7
rank Acceptance = 8
rank VectorWord = 9
rank BitWord = 10
rank (InitialWord s i) = 11
rank Wraparound = 12

-- Within a kind the subaddress or the mode code comes first; 0 where there is neither.
abbrev pub first_number : Difference → ℕ
first_number (ReceiveCell s n) = s
first_number (TransmitCell s n) = s
first_number (BroadcastReceiveCell s n) = s
first_number (OwnCode code) = code
first_number (BroadcastCode code) = code
first_number (InitialWord s i) = s
first_number _ = 0

-- Then the word count, or the number of the word; 0 where there is neither.
abbrev pub second_number : Difference → ℕ
second_number (ReceiveCell s n) = n
second_number (TransmitCell s n) = n
second_number (BroadcastReceiveCell s n) = n
second_number (InitialWord s i) = i
second_number _ = 0

-- subaddresses, word counts and mode codes are in their ranges
abbrev pub IsInRange : Difference → Type 0
IsInRange (ReceiveCell s n) = is_data_place s n ≡ true
IsInRange (TransmitCell s n) = is_data_place s n ≡ true
IsInRange (BroadcastReceiveCell s n) = is_data_place s n ≡ true
IsInRange (OwnCode code) = code < 32
IsInRange (BroadcastCode code) = code < 32
IsInRange (InitialWord s i) = is_data_place s i ≡ true
IsInRange _ = Unit {0}

-- two numbers come before two others, by the first of them and then by the second
abbrev pub IsLower : ℕ → ℕ → ℕ → ℕ → Type 0
IsLower s n t m = (s < t) ⊎ ((s ≡ t) × (n < m))

-- One possible difference comes before another: of kinds the earlier, and within a kind the lower numbers.
abbrev pub ComesBefore : Difference → Difference → Type 0
ComesBefore c d = (rank c < rank d) ⊎ ((rank c ≡ rank d) × IsLower (first_number c) (second_number c) (first_number d) (second_number d))

-- the two are alike in this
abbrev pub AreAlike : Description → Description → Difference → Type 0
AreAlike P Q Address = P.address ≡ Q.address
AreAlike P Q BroadcastOption = P.broadcast ≡ Q.broadcast
AreAlike P Q (ReceiveCell s n) = P.legal (OwnReceive s n) ≡ Q.legal (OwnReceive s n)
AreAlike P Q (TransmitCell s n) = P.legal (OwnTransmit s n) ≡ Q.legal (OwnTransmit s n)
AreAlike P Q (BroadcastReceiveCell s n) = P.legal (BroadReceive s n) ≡ Q.legal (BroadReceive s n)
AreAlike P Q (OwnCode code) = P.legal (OwnMode code) ≡ Q.legal (OwnMode code)
AreAlike P Q (BroadcastCode code) = P.legal (BroadMode code) ≡ Q.legal (BroadMode code)
AreAlike P Q Acceptance = P.accept ≡ Q.accept
AreAlike P Q VectorWord = P.vector ≡ Q.vector
AreAlike P Q BitWord = P.bit ≡ Q.bit
AreAlike P Q (InitialWord s i) = P.initial s i ≡ Q.initial s i
AreAlike P Q Wraparound = P.wrap ≡ Q.wrap

-- the two differ in this, and in nothing that comes before it
pub record IsFirstDifference (P Q : Description) (d : Difference) : Type 0 where
  pub differ : AreAlike P Q d → ⊥
  pub alike : (c : Difference) → ComesBefore c d → AreAlike P Q c

-- The script that shows the difference between the first terminal and another. The other is asked for its wraparound
-- subaddress alone, where the first has none.
abbrev pub script_for : Description → Description → Difference → List Event
script_for P Q Address = address_script P.address
script_for P Q BroadcastOption = option_script P.address
script_for P Q (ReceiveCell s n) = own_receive_script P.address s n
script_for P Q (TransmitCell s n) = own_transmit_script P.address s n
script_for P Q (BroadcastReceiveCell s n) = broadcast_receive_script P.address s n
script_for P Q (OwnCode code) = own_code_script P.address code
script_for P Q (BroadcastCode code) = broadcast_code_script P.address code
script_for P Q Acceptance = acceptance_script P.address
script_for P Q VectorWord = vector_script P.address
script_for P Q BitWord = bit_script P.address
script_for P Q (InitialWord s i) = initial_script P s
script_for P Q Wraparound = wraparound_script P (shown_subaddress P.wrap Q.wrap)

-- what is received and transmitted at subaddress s is alike, and so is the first word that is held there
pub record AreAlikeAt (s : ℕ) (P Q : Description) : Type 0 where
  pub broadcast : P.broadcast ≡ Q.broadcast
  pub own_receive : (n : ℕ) → P.legal (OwnReceive s n) ≡ Q.legal (OwnReceive s n)
  pub own_transmit : (n : ℕ) → P.legal (OwnTransmit s n) ≡ Q.legal (OwnTransmit s n)
  pub broadcast_receive : (n : ℕ) → P.legal (BroadReceive s n) ≡ Q.legal (BroadReceive s n)
  pub initial : P.initial s 1 ≡ Q.initial s 1

-- Nothing is in the way of a difference, so its script shows it whatever else differs. In the way of all but the address is
-- another address; of commands by broadcast another broadcast option; of acceptance, the vector word and the BIT word a mode
-- code that asks for it and is legal in one alone; of a word that is held a count that can be transmitted of its subaddress
-- in one alone; and of the wraparound subaddress what else differs there.
abbrev pub NothingHides : Description → Description → Difference → Type 0
NothingHides P Q Address = Unit {0}
NothingHides P Q BroadcastOption = P.address ≡ Q.address
NothingHides P Q (ReceiveCell s n) = P.address ≡ Q.address
NothingHides P Q (TransmitCell s n) = P.address ≡ Q.address
NothingHides P Q (BroadcastReceiveCell s n) = (P.address ≡ Q.address) × (P.broadcast ≡ Q.broadcast)
NothingHides P Q (OwnCode code) = P.address ≡ Q.address
NothingHides P Q (BroadcastCode code) = (P.address ≡ Q.address) × (P.broadcast ≡ Q.broadcast)
NothingHides P Q Acceptance = (P.address ≡ Q.address) × (P.legal (OwnMode dynamic_bus_control) ≡ Q.legal (OwnMode dynamic_bus_control))
NothingHides P Q VectorWord = (P.address ≡ Q.address) × (P.legal (OwnMode vector_word) ≡ Q.legal (OwnMode vector_word))
NothingHides P Q BitWord = (P.address ≡ Q.address) × (P.legal (OwnMode bit_word) ≡ Q.legal (OwnMode bit_word))
NothingHides P Q (InitialWord s i) = (P.address ≡ Q.address) × ((n : ℕ) → P.legal (OwnTransmit s n) ≡ Q.legal (OwnTransmit s n))
NothingHides P Q Wraparound = (P.address ≡ Q.address) × AreAlikeAt (shown_subaddress P.wrap Q.wrap) P Q
