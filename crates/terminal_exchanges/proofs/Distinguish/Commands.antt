-- What the commands of the scripts are.
use Rattle.std.proofs.Common.{◌≡◌, ℕ, zero, suc, ◌%◌, ◌^◌, ◌<◌, ◌≤◌, Bool, true, false, not, ◌&&◌, ◌||◌, ◌==◌, nat_le, if◌then◌else◌, Option, Some, None, is_some, List, [], ◌∷◌, length, replicate, refl, ap, sym, ◌∙◌, arith}
use Rattle.std.proofs.lemmas.Bool.{eqb-true, ne_eqb, and_parts}
use Rattle.std.proofs.lemmas.Bool.Decides.{nat_tests}
use Rattle.bus_word.specs.declared.mode.ModeRow.{ModeRow}
use Rattle.bus_word.specs.declared.cell.Cell.{Cell}
use Rattle.bus_word.specs.declared.cell.Cell.TheVariants.{OwnReceive, OwnTransmit, BroadReceive, OwnMode, BroadMode}
use Rattle.bus_word.specs.Command.{Fields, fields_of, address_of, transmits, code_of, count_in, is_mode, is_broadcast}
use Rattle.bus_word.specs.Mode.{ModeEntry, mode_table, mode_row}
use Rattle.bus_word.specs.Cell.{data_cell, same_bool, mode_cell_by, cell_of, is_data_place, allows_broadcast}
use Rattle.bus_word.proofs.WordLaws.{fields_are_unique}
use Rattle.bus_word.proofs.ModeLaws.{passes_in}
use Rattle.bus_word.proofs.CellLaws.{data_by, mode_by}
use Rattle.terminal_exchanges.specs.Exchanges.{Exchange}
use Rattle.terminal_exchanges.specs.ExchangeLaws.{IsWhole}
use Rattle.terminal_exchanges.specs.Distinguish.{all_terminals, slots_for, command_of, receive, transmit, mode_code_with, mode_code}
use Rattle.bus_word.proofs.Places.{place_count}

-- words of 16 bits
abbrev pub AreSmall : List ℕ → Type 0
AreSmall [] = Unit {0}
AreSmall (d ∷ ds) = (d < 2 ^ 16) × AreSmall ds

pub zeros_small : (n : ℕ) → AreSmall (replicate n 0)
zeros_small zero = tt
zeros_small (suc n) = (omega arith, zeros_small n)

-- An exchange whose command goes to this address, and has this cell or none. It is whole, its words are of 16 bits,
-- and its data words are few.
pub record IsTo (to : ℕ) (has : Option Cell) (x : Exchange) : Type 0 where
  pub address : address_of x.command ≡ to
  pub cell : cell_of x.command ≡ has
  pub whole : IsWhole x
  pub small : x.command < 2 ^ 16
  pub words_small : AreSmall x.words
  pub few : length x.words ≤ 32
  pub few_slots : x.slots ≤ 33
  pub no_slots : to ≡ all_terminals → x.slots ≡ 0
  pub some_slots : to ≤ 30 → 1 ≤ x.slots

-- slots after a command to this address
record AreSlots (address slots : ℕ) : Type 0 where
  pub few : slots ≤ 33
  pub none : address ≡ all_terminals → slots ≡ 0
  pub some : address ≤ 30 → 1 ≤ slots

pub slots_for-own : (address n : ℕ) → address ≤ 30 → slots_for address n ≡ n
slots_for-own address n low = ap (λ b. if b then 0 else n) (ne_eqb address 31 (λ e. omega arith))

given_slots : (address n : ℕ) → 1 ≤ n → n ≤ 33 → AreSlots address (slots_for address n)
given_slots address n low high = record {
  few = by_test (address == 31);
  none = λ e. ap (λ a. slots_for a n) e;
  some = λ own. (let e : (address == 31) ≡ false = ne_eqb address 31 (λ e. omega arith) in let s : slots_for address n ≡ n = ap (λ b. if b then 0 else n) e in omega arith);
}
  where
    by_test : (t : Bool) → (if t then 0 else n) ≤ 33
    by_test true = omega arith
    by_test false = high

own_slots : (address n : ℕ) → address ≤ 30 → 1 ≤ n → n ≤ 33 → AreSlots address n
own_slots address n own low high = record { few = high; none = λ e. absurd (omega arith); some = λ o. low }

-- the cell and the data words of a command, by its fields
abbrev cell_by : Fields → Option Cell
cell_by f =
    if (f.subaddress == 0) || (f.subaddress == 31)
    then mode_by (mode_row f.low) (f.tr == 1) (f.address == 31) f.low
    else data_by (f.tr == 1) (f.address == 31) f.subaddress (count_in f.low)

abbrev expected_by : Fields → ℕ
expected_by f =
    if f.tr == 1 then 0
    else if (f.subaddress == 0) || (f.subaddress == 31) then (if nat_le 16 f.low then 1 else 0)
    else count_in f.low

mode_by_fields : (c : ℕ) (o : Option ModeRow) → mode_cell_by c o ≡ mode_by o (transmits c) (is_broadcast c) (code_of c)
mode_by_fields c None = refl
mode_by_fields c (Some row) = refl

cell_by_fields : (c : ℕ) → cell_of c ≡ cell_by (fields_of c)
cell_by_fields c = ap (λ o. if is_mode c then o else data_cell c) (mode_by_fields c (mode_row (code_of c)))

abbrev fields : ℕ → ℕ → ℕ → ℕ → Fields
fields address tr s low = record { address = address; tr = tr; subaddress = s; low = low }

command_law : (address tr s low : ℕ) (words : List ℕ) (slots : ℕ) (cell : Option Cell) → address ≤ 31 → tr ≤ 1 → s ≤ 31 → low ≤ 31 →
    cell_by (fields address tr s low) ≡ cell → length words ≡ expected_by (fields address tr s low) → AreSmall words → length words ≤ 32 → AreSlots address slots →
    IsTo address cell (record { command = command_of address tr s low; words = words; slots = slots })
command_law address tr s low words slots cell ha ht hs hl is n fit few at =
    let law : (command_of address tr s low < 2 ^ 16) × (fields_of (command_of address tr s low) ≡ fields address tr s low) =
    fields_are_unique (fields address tr s low) (record { address = ha; tr = ht; subaddress = hs; low = hl }) in
    record {
      address = ap (λ (f : Fields). f.address) law.1;
      cell = cell_by_fields (command_of address tr s low) ∙ (ap cell_by law.1 ∙ is);
      whole = n ∙ sym (ap expected_by law.1);
      small = law.0;
      words_small = fit;
      few = few;
      few_slots = at.few;
      no_slots = at.none;
      some_slots = at.some;
    }

-- subaddresses of data, and their counts
place_small : (s n : ℕ) → is_data_place s n ≡ true → s ≤ 31
place_small s n e = grind (arith, nat_tests)

place_no_mode : (s n : ℕ) → is_data_place s n ≡ true → (s == 0) || (s == 31) ≡ false
place_no_mode s n e = grind (arith, nat_tests)

place_count_again : (s n : ℕ) → is_data_place s n ≡ true → count_in (n % 32) ≡ n
place_count_again s n e = grind (arith, nat_tests)

not_all : (address : ℕ) → address ≤ 30 → (address == 31) ≡ false
not_all address low = ne_eqb address 31 (λ e. omega arith)

abbrev cell_if : Bool → Bool → Bool → ℕ → ℕ → ℕ → Option Cell
cell_if mode transmit by_broadcast s low n = if mode then mode_by (mode_row low) transmit by_broadcast low else data_by transmit by_broadcast s n

words_few : (s n : ℕ) (words : List ℕ) → is_data_place s n ≡ true → length words ≡ n → length words ≤ 32
words_few s n words place l = let few : n ≤ 32 = place_count s n place in omega arith

pub receive_to_own : (address s n : ℕ) (words : List ℕ) → address ≤ 30 → is_data_place s n ≡ true → length words ≡ n → AreSmall words → IsTo address (Some (OwnReceive s n)) (receive address s n words)
receive_to_own address s n words low place l fit =
    command_law address 0 s (n % 32) words (slots_for address 1) (Some (OwnReceive s n)) (omega arith) (omega arith) (place_small s n place) (omega arith)
    (λ j. cell_if (place_no_mode s n place j) false (not_all address low j) s (n % 32) (place_count_again s n place j))
    (l ∙ sym (λ j. if place_no_mode s n place j then (if nat_le 16 (n % 32) then 1 else 0) else place_count_again s n place j))
    fit
    (words_few s n words place l)
    (given_slots address 1 (omega arith) (omega arith))

pub receive_to_all : (s n : ℕ) (words : List ℕ) → is_data_place s n ≡ true → length words ≡ n → AreSmall words → IsTo all_terminals (Some (BroadReceive s n)) (receive all_terminals s n words)
receive_to_all s n words place l fit =
    command_law all_terminals 0 s (n % 32) words (slots_for all_terminals 1) (Some (BroadReceive s n)) (omega arith) (omega arith) (place_small s n place) (omega arith)
    (λ j. cell_if (place_no_mode s n place j) false true s (n % 32) (place_count_again s n place j))
    (l ∙ sym (λ j. if place_no_mode s n place j then (if nat_le 16 (n % 32) then 1 else 0) else place_count_again s n place j))
    fit
    (words_few s n words place l)
    (given_slots all_terminals 1 (omega arith) (omega arith))

pub transmit_from_own : (address s n slots : ℕ) → address ≤ 30 → is_data_place s n ≡ true → 1 ≤ slots → slots ≤ 33 → IsTo address (Some (OwnTransmit s n)) (transmit address s n slots)
transmit_from_own address s n slots low place first last =
    command_law address 1 s (n % 32) [] slots (Some (OwnTransmit s n)) (omega arith) (omega arith) (place_small s n place) (omega arith)
    (λ j. cell_if (place_no_mode s n place j) true (not_all address low j) s (n % 32) (place_count_again s n place j))
    refl tt (omega arith) (own_slots address slots low first last)

-- of the mode codes of the table just code 17 has T/R 0, and all are below 32
abbrev is_as_scripted : ModeEntry → Bool
is_as_scripted e = nat_le e.code 31 && same_bool (not (e.code == 17)) e.row.transmit

pub scripted : (code : ℕ) (row : ModeRow) → mode_row code ≡ Some row → (nat_le code 31 ≡ true) × (same_bool (not (code == 17)) row.transmit ≡ true)
scripted code row is = and_parts (nat_le code 31) (same_bool (not (code == 17)) row.transmit) (passes_in is_as_scripted mode_table code row refl is)

pub small_code : (code : ℕ) → nat_le code 31 ≡ true → code ≤ 31
small_code code e = grind (arith, nat_tests)

pub row_of : (o : Option ModeRow) → is_some o ≡ true → (row : ModeRow) × (o ≡ Some row)
row_of (Some row) h = (row, refl)
row_of None h = absurd (cc)

-- the cell of a mode code, own or by broadcast
abbrev mode_is : Bool → ℕ → Cell
mode_is by_broadcast code = if by_broadcast then BroadMode code else OwnMode code

mode_chosen : (row : ModeRow) (transmit by_broadcast : Bool) (code : ℕ) → same_bool transmit row.transmit ≡ true → (by_broadcast ≡ true → row.broadcast ≡ true) →
    mode_by (Some row) transmit by_broadcast code ≡ Some (mode_is by_broadcast code)
mode_chosen row transmit true code e f = λ j. if e j then (if f refl j then Some (BroadMode code) else None) else None
mode_chosen row transmit false code e f = λ j. if e j then Some (OwnMode code) else None

code_to : (slots address code : ℕ) (row : ModeRow) (by_broadcast : Bool) → 1 ≤ slots → slots ≤ 33 → address ≤ 31 → (address == 31) ≡ by_broadcast → mode_row code ≡ Some row → (by_broadcast ≡ true → row.broadcast ≡ true) →
    IsTo address (Some (mode_is by_broadcast code)) (mode_code_with slots address code)
code_to slots address code row by_broadcast first last high all is allowed = by_17 (code == 17) refl
  where
    facts : (nat_le code 31 ≡ true) × (same_bool (not (code == 17)) row.transmit ≡ true)
    facts = scripted code row is

    cell_at : (tr : ℕ) → same_bool (tr == 1) row.transmit ≡ true → cell_by (fields address tr 0 code) ≡ Some (mode_is by_broadcast code)
    cell_at tr e = (λ j. mode_by (is j) (tr == 1) (all j) code) ∙ mode_chosen row (tr == 1) by_broadcast code e allowed

    by_17 : (t : Bool) → (code == 17) ≡ t →
        IsTo address (Some (mode_is by_broadcast code)) (if t then (record { command = command_of address 0 0 code; words = 0 ∷ []; slots = slots_for address slots }) else (record { command = command_of address 1 0 code; words = []; slots = slots_for address slots }))
    by_17 true e =
        command_law address 0 0 code (0 ∷ []) (slots_for address slots) (Some (mode_is by_broadcast code)) high (omega arith) (omega arith) (small_code code facts.0)
        (cell_at 0 (ap (λ b. same_bool (not b) row.transmit) (sym e) ∙ facts.1))
        (ap (λ k. if nat_le 16 k then 1 else 0) (sym (eqb-true code 17 e)))
        (zeros_small 1) (omega arith) (given_slots address slots first last)
    by_17 false e =
        command_law address 1 0 code [] (slots_for address slots) (Some (mode_is by_broadcast code)) high (omega arith) (omega arith) (small_code code facts.0)
        (cell_at 1 (ap (λ b. same_bool (not b) row.transmit) (sym e) ∙ facts.1))
        refl tt (omega arith) (given_slots address slots first last)

pub code_to_own_with : (slots address code : ℕ) → 1 ≤ slots → slots ≤ 33 → address ≤ 30 → is_some (mode_row code) ≡ true → IsTo address (Some (OwnMode code)) (mode_code_with slots address code)
code_to_own_with slots address code first last low known =
    let row : (row : ModeRow) × (mode_row code ≡ Some row) = row_of (mode_row code) known in
    code_to slots address code row.0 false first last (omega arith) (not_all address low) row.1 (λ wrong. cc)

pub code_to_own : (address code : ℕ) → address ≤ 30 → is_some (mode_row code) ≡ true → IsTo address (Some (OwnMode code)) (mode_code address code)
code_to_own address code low known = code_to_own_with 1 address code (omega arith) (omega arith) low known

pub known_code : (o : Option ModeRow) → allows_broadcast o ≡ true → is_some o ≡ true
known_code (Some row) e = refl
known_code None e = absurd (cc)

pub code_to_all : (code : ℕ) → allows_broadcast (mode_row code) ≡ true → IsTo all_terminals (Some (BroadMode code)) (mode_code all_terminals code)
code_to_all code allowed =
    let row : (row : ModeRow) × (mode_row code ≡ Some row) = row_of (mode_row code) (known_code (mode_row code) allowed) in
    code_to 1 all_terminals code row.0 true (omega arith) (omega arith) (omega arith) refl row.1 (λ _. ap allows_broadcast (sym row.1) ∙ allowed)

-- broadcast transmit status word has no cell
pub ask_to_all : IsTo all_terminals None (mode_code all_terminals 2)
ask_to_all = command_law all_terminals 1 0 2 [] (slots_for all_terminals 1) None (omega arith) (omega arith) (omega arith) (omega arith) refl refl tt (omega arith) (given_slots all_terminals 1 (omega arith) (omega arith))

pub own_no_broadcast : (address : ℕ) (cell : Option Cell) (x : Exchange) → address ≤ 30 → IsTo address cell x → is_broadcast x.command ≡ false
own_no_broadcast address cell x low to = ap (λ a. a == 31) to.address ∙ not_all address low

-- the same, said of an address that is equal
pub moved : (address other : ℕ) (cell : Option Cell) (x : Exchange) → address ≡ other → IsTo address cell x → IsTo other cell x
moved address other cell x same to = record { address = to.address ∙ same; cell = to.cell; whole = to.whole; small = to.small; words_small = to.words_small; few = to.few; few_slots = to.few_slots; no_slots = λ e. to.no_slots (same ∙ e); some_slots = λ low. to.some_slots (omega arith) }
