-- In what two terminals differ, by what can be reached of them: which of all possible differences are told.
use Rattle.std.specs.Prelude.{ℕ, zero, suc, Bool, not, ◌&&◌, ◌||◌, ◌==◌, nat_le, true, false, List, [], ◌∷◌, ◌++◌}
use Rattle.std.specs.List.{filter}
use Rattle.bus_word.specs.declared.cell.Cell.TheVariants.{OwnReceive, OwnTransmit, BroadReceive, OwnMode, BroadMode}
use Rattle.bus_word.specs.Mode.{dynamic_bus_control, vector_word, bit_word}
use Rattle.bus_legal.specs.declared.tables.Tables.{Tables}
use Rattle.bus_legal.specs.Description.{Description}
use Rattle.bus_legal.specs.Parts.{Parts, description_in}
use Rattle.bus_legal.specs.Tables.{tables_say, largest_in, mask_at, masks_wrap}
use Rattle.bus_canon.specs.declared.difference.Difference.{Difference}
use Rattle.bus_canon.specs.declared.difference.Difference.TheVariants.{Address, BroadcastOption, ReceiveCell, TransmitCell, BroadcastReceiveCell, OwnCode, BroadcastCode, Acceptance, VectorWord, BitWord, InitialWord, Wraparound}
use Rattle.rt1553_differ.specs.declared.differing.PlaceKind.{PlaceKind}
use Rattle.rt1553_differ.specs.declared.differing.PlaceKind.TheVariants.{Receiving, Transmitting, Broadcasting, Holding}

-- two truth values are not the same
abbrev pub unlike : Bool → Bool → Bool
unlike true b = not b
unlike false b = b

-- the two differ in this
abbrev pub differ : Description → Description → Difference → Bool
differ P Q Address = not (P.address == Q.address)
differ P Q BroadcastOption = unlike P.broadcast Q.broadcast
differ P Q (ReceiveCell s n) = unlike (P.legal (OwnReceive s n)) (Q.legal (OwnReceive s n))
differ P Q (TransmitCell s n) = unlike (P.legal (OwnTransmit s n)) (Q.legal (OwnTransmit s n))
differ P Q (BroadcastReceiveCell s n) = unlike (P.legal (BroadReceive s n)) (Q.legal (BroadReceive s n))
differ P Q (OwnCode code) = unlike (P.legal (OwnMode code)) (Q.legal (OwnMode code))
differ P Q (BroadcastCode code) = unlike (P.legal (BroadMode code)) (Q.legal (BroadMode code))
differ P Q Acceptance = unlike P.accept Q.accept
differ P Q VectorWord = not (P.vector == Q.vector)
differ P Q BitWord = not (P.bit == Q.bit)
differ P Q (InitialWord s i) = not (P.initial s i == Q.initial s i)
differ P Q Wraparound = not (P.wrap == Q.wrap)

-- word number i of subaddress s is among those that some legal command makes the terminal of these tables transmit
abbrev pub is_sent : Tables → ℕ → ℕ → Bool
is_sent t s i = nat_le i (largest_in (mask_at t.own_transmit s))

-- one has this wraparound subaddress, and the other none; in the tables of the other no words can come back there
abbrev pub wraps_alone : ℕ → ℕ → Tables → Bool
wraps_alone wrap other t = not (wrap == 0) && ((other == 0) && not (masks_wrap t wrap))

-- A difference follows from another that is told: a broadcast cell from the option; acceptance, the vector word and the
-- BIT word from the mode code that asks for them; a word that is held from the counts that can be transmitted; and the
-- wraparound subaddress of one from what can be received and transmitted there.
abbrev pub follows : Parts → Parts → Difference → Bool
follows v w (BroadcastReceiveCell s n) = unlike v.broadcast w.broadcast
follows v w (BroadcastCode code) = unlike v.broadcast w.broadcast
follows v w Acceptance = unlike (tables_say v.tables (OwnMode dynamic_bus_control)) (tables_say w.tables (OwnMode dynamic_bus_control))
follows v w VectorWord = unlike (tables_say v.tables (OwnMode vector_word)) (tables_say w.tables (OwnMode vector_word))
follows v w BitWord = unlike (tables_say v.tables (OwnMode bit_word)) (tables_say w.tables (OwnMode bit_word))
follows v w (InitialWord s i) = unlike (is_sent v.tables s i) (is_sent w.tables s i)
follows v w Wraparound = wraps_alone v.wrap w.wrap w.tables || wraps_alone w.wrap v.wrap v.tables
follows v w _ = false

-- the kinds of difference that there are at each subaddress and count
abbrev pub at_place : PlaceKind → ℕ → ℕ → Difference
at_place Receiving s n = ReceiveCell s n
at_place Transmitting s n = TransmitCell s n
at_place Broadcasting s n = BroadcastReceiveCell s n
at_place Holding s n = InitialWord s n

-- the difference in a mode code, by broadcast or to the own address
abbrev pub of_code : Bool → ℕ → Difference
of_code true code = BroadcastCode code
of_code false code = OwnCode code

-- k possible differences, from number n on
unfoldable pub in_row : (ℕ → Difference) → ℕ → ℕ → List Difference
in_row kind n zero = []
in_row kind n (suc k) = kind n ∷ in_row kind (suc n) k

-- those of k subaddresses from s on, each with the numbers 1 to 32
unfoldable pub in_rows : (ℕ → ℕ → Difference) → ℕ → ℕ → List Difference
in_rows kind s zero = []
in_rows kind s (suc k) = in_row (kind s) 1 32 ++ in_rows kind (suc s) k

-- they differ in it, and it follows from no other
abbrev pub is_told : Parts → Parts → Difference → Bool
is_told v w d = differ (description_in v) (description_in w) d && not (follows v w d)

-- those of a list that are told
unfoldable pub told_differences : Parts → Parts → List Difference → List Difference
told_differences v w ds = filter (is_told v w) ds

-- all possible differences
unfoldable pub possible : List Difference
possible =
    ((((((((((((Address ∷ [])
    ++ (BroadcastOption ∷ []))
    ++ in_rows (at_place Receiving) 1 30)
    ++ in_rows (at_place Transmitting) 1 30)
    ++ in_rows (at_place Broadcasting) 1 30)
    ++ in_row (of_code false) 0 32)
    ++ in_row (of_code true) 0 32)
    ++ (Acceptance ∷ []))
    ++ (VectorWord ∷ []))
    ++ (BitWord ∷ []))
    ++ in_rows (at_place Holding) 1 30)
    ++ (Wraparound ∷ []))
