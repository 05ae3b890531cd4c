-- The beginnings of later recordings leave just these transmitters shut down.
use Rattle.std.proofs.Common.{◌≡◌, ℕ, ◌<◌, ◌≤◌, ◌^◌, Bool, true, false, ◌&&◌, ◌||◌, ◌==◌, nat_le, if◌then◌else◌, Option, Some, None, List, [], ◌∷◌, ◌++◌, refl, ap, sym, ◌∙◌, subst, arith, eq-eqb}
use Rattle.std.proofs.lemmas.Bool.{ne_eqb}
use Rattle.bus_word.specs.declared.word.Bus.{Bus}
use Rattle.bus_word.specs.declared.word.Bus.TheVariants.{A, B}
use Rattle.bus_word.specs.declared.word.Kind.TheVariants.{Com}
use Rattle.bus_word.specs.declared.word.Raw.{Raw}
use Rattle.bus_word.specs.declared.mode.ModeRow.{ModeRow}
use Rattle.bus_word.specs.declared.cell.Cell.TheVariants.{OwnMode}
use Rattle.bus_word.specs.Word.{ones, low_bits, valid_word}
use Rattle.bus_word.specs.Command.{Fields, command_bits, fields_of, address_of, transmits, code_of, is_mode, is_broadcast, count_of, expected}
use Rattle.bus_word.specs.Mode.{mode_row}
use Rattle.bus_word.specs.Cell.{data_cell, mode_cell_by, cell_of}
use Rattle.bus_word.proofs.Parity.{odd_with_parity}
use Rattle.bus_word.proofs.WordLaws.{fields_are_unique}
use Rattle.bus_word.proofs.CellLaws.{mode_by}
use Rattle.bus_legal.specs.Description.{Description}
use Rattle.terminal_rules.specs.declared.event.Event.{Event}
use Rattle.terminal_rules.specs.Buses.{same_bus, other}
use Rattle.terminal_rules.specs.LookBack.{or_else}
use Rattle.terminal_rules.specs.SinceReset.{inhibited_now, off_now}
use Rattle.terminal_rules.specs.Past.{past, history_after}
use Rattle.terminal_rules.specs.Same.{AreProper}
use Rattle.terminal_recordings.specs.Later.{IsQuiet, ShutDown, shutdown_on, if_shut, shutting}
use Rattle.terminal_recordings.proofs.Law.{proper_join}
use Rattle.terminal_recordings.proofs.Beginnings.{Asks, IsPlain, code_quiet, code_off, code_inhibited}

-- the word of a mode code
abbrev code_bits : ℕ → ℕ → ℕ
code_bits address code = command_bits (record { address = address; tr = 1; subaddress = 0; low = code })

abbrev pub code_word : ℕ → ℕ → Raw
code_word address code = valid_word Com (code_bits address code)

-- what is known of it by its fields
record IsCode (address code c : ℕ) : Type 0 where
  pub small : c < 2 ^ 16
  pub to : address_of c ≡ address
  pub wants : expected c ≡ 0
  pub has : cell_of c ≡ mode_by (mode_row code) true (address == 31) code

mode_by_fields : (c : ℕ) (o : Option ModeRow) → mode_cell_by c o ≡ mode_by o (transmits c) (is_broadcast c) (code_of c)
mode_by_fields c None = refl
mode_by_fields c (Some row) = refl

is_code : (address code : ℕ) → address ≤ 31 → code ≤ 31 → IsCode address code (code_bits address code)
is_code address code ha hc =
    let f : Fields = record { address = address; tr = 1; subaddress = 0; low = code } in
    let c : ℕ = command_bits f in
    let law : (command_bits f < 2 ^ 16) × (fields_of (command_bits f) ≡ f) = fields_are_unique f (record { address = ha; tr = omega arith; subaddress = omega arith; low = hc }) in
    let sends : transmits c ≡ true = ap (λ (g : Fields). g.tr == 1) law.1 in
    let mode : is_mode c ≡ true = ap (λ (g : Fields). (g.subaddress == 0) || (g.subaddress == 31)) law.1 in
    record {
      small = law.0;
      to = ap (λ (g : Fields). g.address) law.1;
      wants = ap (λ t. if t then 0 else if is_mode c then (if nat_le 16 (code_of c) then 1 else 0) else count_of c) sends;
      has =
          (λ j. if mode j then mode_cell_by c (mode_row (code_of c)) else data_cell c)
          ∙ (mode_by_fields c (mode_row (code_of c))
          ∙ (λ j. mode_by (mode_row (law.1 j).low) (sends j) ((law.1 j).address == 31) (law.1 j).low));
    }

-- a mode code to the own address, and one to all terminals
own_no_broadcast : (address : ℕ) → address ≤ 30 → (address == 31) ≡ false
own_no_broadcast address low = ne_eqb address 31 (λ e. omega arith)

asks_own : (P : Description) (code : ℕ) → P.address ≤ 30 → code ≤ 31 → mode_by (mode_row code) true false code ≡ Some (OwnMode code) → P.legal (OwnMode code) ≡ true →
    Asks P (code_word P.address code) (OwnMode code)
asks_own P code low few row l =
    let c : ℕ = code_bits P.address code in
    let is : IsCode P.address code c = is_code P.address code (omega arith) few in
    record {
      meant = (λ j. odd_with_parity (ones (low_bits 16 c)) j && ((is.to j == P.address) || (is_broadcast c && P.broadcast))) ∙ ap (λ t. t || (is_broadcast c && P.broadcast)) (eq-eqb P.address P.address refl);
      has = is.has ∙ ((λ j. mode_by (mode_row code) true (own_no_broadcast P.address low j) code) ∙ row);
      expected = is.wants;
      legal = l;
    }

plain_shutdown : IsPlain (OwnMode 4)
plain_shutdown = record { unblocked = refl; broadcast_reset = λ c. refl; own_reset = λ c. refl; slot = refl; words = refl }

-- a quiet history that leaves these shut down, and the terminal flag not inhibited
abbrev pub is_shut : ShutDown → Bus → Bool
is_shut shut A = shut.a
is_shut shut B = shut.b

pub record Leaves (P : Description) (h : List Event) (shut : ShutDown) : Type 0 where
  pub quiet : IsQuiet P h
  pub off : (b : Bus) → off_now (past P h) b ≡ is_shut shut b
  pub inhibited : inhibited_now (past P h) ≡ false

abbrev these : Bool → Bool → ShutDown
these a b = record { a = a; b = b }

at_power_up : (P : Description) → Leaves P [] (these false false)
at_power_up P = record { quiet = record { message = λ b. refl; run = λ b. refl; reply = refl }; off = all_on; inhibited = refl }
  where
    all_on : (b : Bus) → false ≡ is_shut (these false false) b
    all_on A = refl
    all_on B = refl

leaves_a : (P : Description) (h : List Event) (a b : Bool) → P.address ≤ 30 → P.legal (OwnMode 4) ≡ true → Leaves P h (these a b) → Leaves P (history_after (shutdown_on B P.address) h) (these true b)
leaves_a P h a b low l x =
    let asks : Asks P (code_word P.address 4) (OwnMode 4) = asks_own P 4 low (omega arith) refl l in
    record {
      quiet = code_quiet P h x.quiet B (code_word P.address 4) (OwnMode 4) asks plain_shutdown;
      off = λ c. code_off P h x.quiet B (code_word P.address 4) (OwnMode 4) asks plain_shutdown c ∙ by_bus c (x.off c);
      inhibited = code_inhibited P h x.quiet B (code_word P.address 4) (OwnMode 4) asks plain_shutdown ∙ x.inhibited;
    }
  where
    by_bus : (c : Bus) → off_now (past P h) c ≡ is_shut (these a b) c → or_else (if same_bus (other c) B then Some true else None) (off_now (past P h) c) ≡ is_shut (these true b) c
    by_bus A e = refl
    by_bus B e = e

leaves_b : (P : Description) (h : List Event) (a b : Bool) → P.address ≤ 30 → P.legal (OwnMode 4) ≡ true → Leaves P h (these a b) → Leaves P (history_after (shutdown_on A P.address) h) (these a true)
leaves_b P h a b low l x =
    let asks : Asks P (code_word P.address 4) (OwnMode 4) = asks_own P 4 low (omega arith) refl l in
    record {
      quiet = code_quiet P h x.quiet A (code_word P.address 4) (OwnMode 4) asks plain_shutdown;
      off = λ c. code_off P h x.quiet A (code_word P.address 4) (OwnMode 4) asks plain_shutdown c ∙ by_bus c (x.off c);
      inhibited = code_inhibited P h x.quiet A (code_word P.address 4) (OwnMode 4) asks plain_shutdown ∙ x.inhibited;
    }
  where
    by_bus : (c : Bus) → off_now (past P h) c ≡ is_shut (these a b) c → or_else (if same_bus (other c) A then Some true else None) (off_now (past P h) c) ≡ is_shut (these a true) c
    by_bus A e = e
    by_bus B e = refl

pub history_join : (xs ys h : List Event) → history_after (xs ++ ys) h ≡ history_after ys (history_after xs h)
history_join [] ys h = refl
history_join (x ∷ xs) ys h = history_join xs ys (x ∷ h)

-- what the beginnings leave
pub shutting_leaves : (P : Description) (shut : ShutDown) → P.address ≤ 30 → P.legal (OwnMode 4) ≡ true → Leaves P (history_after (shutting P shut) []) shut
shutting_leaves P shut low l =
    let first : List Event = if_shut shut.a (shutdown_on B P.address) in
    let second : List Event = if_shut shut.b (shutdown_on A P.address) in
    subst (λ (h : List Event). Leaves P h shut) (sym (history_join first second [])) (with_b shut.b (history_after first []) (with_a shut.a))
  where
    with_a : (a : Bool) → Leaves P (history_after (if_shut a (shutdown_on B P.address)) []) (these a false)
    with_a true = leaves_a P [] false false low l (at_power_up P)
    with_a false = at_power_up P

    with_b : (b : Bool) (h : List Event) → Leaves P h (these shut.a false) → Leaves P (history_after (if_shut b (shutdown_on A P.address)) h) (these shut.a b)
    with_b true h x = leaves_b P h shut.a false low l x
    with_b false h x = x

-- the events of the beginnings can come
proper_code : (P : Description) (b : Bus) → P.address ≤ 30 → AreProper (shutdown_on b P.address)
proper_code P b low = ((is_code P.address 4 (omega arith) (omega arith)).small, (tt, (tt, tt)))

proper_if : (t : Bool) (xs : List Event) → AreProper xs → AreProper (if_shut t xs)
proper_if true xs p = p
proper_if false xs p = tt

pub shutting_proper : (P : Description) (shut : ShutDown) → P.address ≤ 30 → AreProper (shutting P shut)
shutting_proper P shut low =
    proper_join (if_shut shut.a (shutdown_on B P.address)) _ (proper_if shut.a (shutdown_on B P.address) (proper_code P B low))
    (proper_if shut.b (shutdown_on A P.address) (proper_code P A low))

-- what is shut down after a history
abbrev pub shut_by : Description → List Event → ShutDown
shut_by P h = these (off_now (past P h) A) (off_now (past P h) B)

pub shut_by_is : (P : Description) (h : List Event) (b : Bus) → off_now (past P h) b ≡ is_shut (shut_by P h) b
shut_by_is P h A = refl
shut_by_is P h B = refl
