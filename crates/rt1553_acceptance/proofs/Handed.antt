-- What is handed over of words that were received: they came at a subaddress of data, and are 1 to 32.
use Rattle.std.proofs.Common.{ℕ, ◌≡◌, ◌∙◌, ◌≤◌, ◌==◌, ◌&&◌, Bool, true, false, nat_le, if◌then◌else◌, List, Option, Some, None, length, refl, sym, ap, subst, arith}
use Rattle.std.proofs.lemmas.Bool.Decides.{nat_tests}
use Rattle.bus_word.specs.declared.word.Bus.{Bus}
use Rattle.bus_word.specs.declared.mode.ModeRow.{ModeRow}
use Rattle.bus_word.specs.declared.cell.Cell.{Cell}
use Rattle.bus_word.specs.declared.cell.Cell.TheVariants.{OwnReceive, OwnTransmit, BroadReceive, OwnMode, BroadMode}
use Rattle.bus_word.specs.Command.{transmits, subaddress_of, code_of, count_of, is_mode, is_broadcast, expected}
use Rattle.bus_word.specs.Mode.{mode_row}
use Rattle.bus_word.specs.Mode as mode
use Rattle.bus_word.specs.Cell.{same_bool, mode_cell_by, cell_of, is_data_place}
use Rattle.bus_legal.specs.Description.{Description}
use Rattle.terminal_rules.specs.declared.event.Event.{Event}
use Rattle.terminal_rules.specs.declared.event.Event.TheVariants as event
use Rattle.terminal_rules.specs.declared.event.Flag.TheVariants.{Busy}
use Rattle.terminal_rules.specs.History.{Noted, Ending, Nothing, Badly, Illegal, Blocked, Done}
use Rattle.terminal_rules.specs.Open.{Open, Idle, Collects, Waits, Resumes, open_now, transfer}
use Rattle.terminal_rules.specs.Flags.{flag_now}
use Rattle.terminal_rules.specs.Reply.{reply_now, ignores}
use Rattle.terminal_rules.specs.Ends.{if_expected, data_words, complete, is_blocked_by_busy, verdict, well, ends_with, at_gap, unless_ignored, ends_now}
use Rattle.terminal_rules.specs.Out.{Handing, HandsReceived, HandsSynchronize, HandsSynchronizeWith, HandsSelfTest, HandsBusControl, code_hands, first_word, hands}
use Rattle.terminal_rules.specs.Past.{past}
use Rattle.terminal_rules.proofs.CellLaw.{is_allowed-cell}

-- ---- a message that is done is whole

-- it has the cell of its command, and as many words as that expects
abbrev IsWhole : Ending → Type 0
IsWhole (Done c cell ds) = (cell_of c ≡ Some cell) × (length ds ≡ expected c)
IsWhole _ = Unit {0}

verdict-whole : (legal : Cell → Bool) (busy : Bool) (c : ℕ) (ds : List ℕ) (o : Option Cell) → cell_of c ≡ o → length ds ≡ expected c → IsWhole (verdict legal busy c ds o)
verdict-whole legal busy c ds None is long = tt
verdict-whole legal busy c ds (Some cell) is long = by_tests (legal cell) (busy && is_blocked_by_busy cell)
  where
    by_tests : (l b : Bool) → IsWhole (if l then (if b then Blocked c cell else Done c cell ds) else Illegal c)
    by_tests true true = tt
    by_tests true false = (is, long)
    by_tests false b = tt

ends_with-whole : (P : Description) (busy : Bool) (c : ℕ) (words read : Option (List ℕ)) (t : Option (ℕ × ℕ)) → if_expected c read ≡ words → IsWhole (ends_with P busy c words t)
ends_with-whole P busy c None read (Some t) is = tt
ends_with-whole P busy c None read None is = tt
ends_with-whole P busy c (Some ds) None t is = absurd (cc)
ends_with-whole P busy c (Some ds) (Some read) t is = by_length (length read == expected c) refl is
  where
    by_length : (b : Bool) → (length read == expected c) ≡ b → (if b then Some read else None) ≡ Some ds → IsWhole (well P busy c ds)
    by_length true e is =
        let same : read ≡ ds = cc in
        let long : length read ≡ expected c = grind (arith, nat_tests, e) in
        verdict-whole P.legal busy c ds (cell_of c) refl (ap length (sym same) ∙ long)
    by_length false e is = absurd (cc)

at_gap-whole : (P : Description) (busy : Bool) (o : Open) → IsWhole (at_gap P busy o)
at_gap-whole P busy Idle = tt
at_gap-whole P busy (Collects c after) = ends_with-whole P busy c (complete c after) (data_words after) (transfer P (Some (c, after))) refl
at_gap-whole P busy (Waits c a) = tt
at_gap-whole P busy (Resumes c after) = ends_with-whole P busy c (complete c after) (data_words after) None refl

gap-whole : (P : Description) (h : List Noted) (b : Bus) → IsWhole (ends_now P h (event.Gap b))
gap-whole P h b = by_ignored (ignores (reply_now h) (event.Gap b))
  where
    by_ignored : (i : Bool) → IsWhole (unless_ignored i (at_gap P (flag_now h Busy) (open_now P h b)))
    by_ignored true = tt
    by_ignored false = at_gap-whole P (flag_now h Busy) (open_now P h b)

-- ---- how many words a command expects

-- a receive command expects the words of its cell
abbrev Expects : ℕ → Option Cell → Type 0
Expects n (Some (OwnReceive s m)) = n ≡ m
Expects n (Some (BroadReceive s m)) = n ≡ m
Expects n _ = Unit {0}

mode-expects : (c n : ℕ) (o : Option ModeRow) → Expects n (mode_cell_by c o)
mode-expects c n None = tt
mode-expects c n (Some row) = by_tests (same_bool (transmits c) row.transmit) (is_broadcast c) row.broadcast
  where
    by_tests : (a b r : Bool) → Expects n (if a then (if b then (if r then Some (BroadMode (code_of c)) else None) else Some (OwnMode (code_of c))) else None)
    by_tests false b r = tt
    by_tests true true true = tt
    by_tests true true false = tt
    by_tests true false r = tt

expects : (c : ℕ) → Expects (expected c) (cell_of c)
expects c = by_tests (is_mode c) (transmits c) (is_broadcast c)
  where
    by_tests : (m t b : Bool) → Expects (if t then 0 else if m then (if nat_le 16 (code_of c) then 1 else 0) else count_of c)
        (if m then mode_cell_by c (mode_row (code_of c)) else (if t then (if b then None else Some (OwnTransmit (subaddress_of c) (count_of c))) else (if b then Some (BroadReceive (subaddress_of c) (count_of c)) else Some (OwnReceive (subaddress_of c) (count_of c)))))
    by_tests true t b = mode-expects c _ (mode_row (code_of c))
    by_tests false true true = tt
    by_tests false true false = tt
    by_tests false false true = refl
    by_tests false false false = refl

-- ---- what is handed over

-- words at a subaddress of data, 1 to 32 of them
abbrev pub AreReceived : ℕ → List ℕ → Type 0
AreReceived s ds = (1 ≤ s) × (s ≤ 30) × (1 ≤ length ds) × (length ds ≤ 32)

abbrev pub IsHandable : Option Handing → Type 0
IsHandable (Some (HandsReceived broadcast s ds)) = AreReceived s ds
IsHandable _ = Unit {0}

received : (s n : ℕ) (ds : List ℕ) → is_data_place s n ≡ true → length ds ≡ n → AreReceived s ds
received s n ds place long = (grind (arith, nat_tests, place), grind (arith, nat_tests, place), grind (arith, nat_tests, place, long), grind (arith, nat_tests, place, long))

code-handable : (code : ℕ) (accepts : Bool) (ds : List ℕ) → IsHandable (code_hands code accepts ds)
code-handable code accepts ds = by_code (code == mode.dynamic_bus_control) accepts (code == mode.synchronize) (code == mode.self_test) (code == mode.synchronize_with_word)
  where
    by_code : (p q r s t : Bool) → IsHandable (if p then (if q then Some HandsBusControl else None) else if r then Some HandsSynchronize else if s then Some HandsSelfTest else if t then Some (HandsSynchronizeWith (first_word ds)) else None)
    by_code true true r s t = tt
    by_code true false r s t = tt
    by_code false q true s t = tt
    by_code false q false true t = tt
    by_code false q false false true = tt
    by_code false q false false false = tt

handable : (P : Description) (x : Ending) → IsWhole x → IsHandable (hands P x)
handable P Nothing whole = tt
handable P (Badly c) whole = tt
handable P (Illegal c) whole = tt
handable P (Blocked c cell) whole = tt
handable P (Done c (OwnReceive s n) ds) whole = received s n ds (is_allowed-cell c (OwnReceive s n) whole.0) (whole.1 ∙ subst (Expects (expected c)) whole.0 (expects c))
handable P (Done c (OwnTransmit s n) ds) whole = tt
handable P (Done c (BroadReceive s n) ds) whole = received s n ds (is_allowed-cell c (BroadReceive s n) whole.0) (whole.1 ∙ subst (Expects (expected c)) whole.0 (expects c))
handable P (Done c (OwnMode code) ds) whole = code-handable code P.accept ds
handable P (Done c (BroadMode code) ds) whole = code-handable code false ds

pub handed : (P : Description) (h : List Event) (b : Bus) → IsHandable (hands P (ends_now P (past P h) (event.Gap b)))
handed P h b = handable P (ends_now P (past P h) (event.Gap b)) (gap-whole P (past P h) b)
