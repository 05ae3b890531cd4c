-- Terminals of two addresses are told apart by asking the one.
use Rattle.std.proofs.Common.{◌≡◌, ◌≤◌, true, false, ◌&&◌, ◌||◌, ◌≢◌, Option, Some, None, List, [], refl, ap, sym, ◌∙◌}
use Rattle.std.proofs.lemmas.Bool.{ne_eqb}
use Rattle.bus_word.specs.declared.cell.Cell.TheVariants.{OwnMode}
use Rattle.bus_word.specs.Command.{address_of}
use Rattle.bus_legal.specs.Description.{Description}
use Rattle.bus_word.specs.declared.word.Bus.TheVariants.{A}
use Rattle.terminal_rules.specs.History.{Noted, Replying}
use Rattle.terminal_rules.specs.Reply.{reply_now}
use Rattle.terminal_rules.specs.SinceReset.{off_now}
use Rattle.terminal_rules.specs.Turn.{is_answered, done_cell}
use Rattle.terminal_rules.specs.Steps.{begun_if}
use Rattle.terminal_rules.specs.Out.{sends}
use Rattle.terminal_rules.specs.Starts.{is_meant}
use Rattle.terminal_exchanges.specs.Exchanges.{Exchange}
use Rattle.terminal_exchanges.specs.ExchangeLaws.{AreAnswered}
use Rattle.terminal_exchanges.proofs.Notes.{notes_before_gap, notes_at_gap, exchange_notes}
use Rattle.terminal_exchanges.specs.Distinguish.{TellsApart, ask, address_script}
use Rattle.terminal_exchanges.proofs.ExchangeLaw.{idle_law, at_gap_reply, unmeant_end}
use Rattle.terminal_exchanges.proofs.Distinguish.Commands.{IsTo, code_to_own, own_no_broadcast}
use Rattle.terminal_exchanges.proofs.Distinguish.Last.{slot_at, apart_by_one, is_sent}
use Rattle.terminal_exchanges.proofs.Distinguish.Own.{own_sent}

-- a command that is not for the terminal is not answered
pub unmeant_silent : (P : Description) (xs : List Exchange) (x : Exchange) → AreAnswered P xs → is_meant P x.command ≡ false → is_sent (slot_at 0 P xs x) ≡ false
unmeant_silent P xs x a unmeant =
    let k : List Noted = notes_before_gap P x (exchange_notes P xs) in
    let quiet : (let none : Option Replying = None in reply_now (notes_at_gap P x (exchange_notes P xs)) ≡ none) =
    at_gap_reply P x (exchange_notes P xs) (idle_law P xs a) ∙ ap (λ y. let none : Option Replying = None in begun_if (is_answered (off_now k A) y) A (done_cell y) none) (unmeant_end P x unmeant) in
    ap (λ r. is_sent (sends P (notes_at_gap P x (exchange_notes P xs)) r)) quiet

-- to ask a terminal of another address is to say nothing that is for this one
pub ask_unmeant : (P Q : Description) → P.address ≤ 30 → P.address ≢ Q.address → is_meant Q (ask P.address).command ≡ false
ask_unmeant P Q low other =
    let x : Exchange = ask P.address in
    let to : IsTo P.address (Some (OwnMode 2)) x = code_to_own P.address 2 low refl in
    (λ j. ne_eqb (address_of x.command) Q.address (λ e. other (sym to.address ∙ e)) j || (own_no_broadcast P.address (Some (OwnMode 2)) x low to j && Q.broadcast))

-- 1: another address
pub address_tells : (P Q : Description) → P.address ≤ 30 → P.legal (OwnMode 2) ≡ true → P.address ≢ Q.address → TellsApart P Q (address_script P.address)
address_tells P Q low legal other =
    let x : Exchange = ask P.address in
    let to : IsTo P.address (Some (OwnMode 2)) x = code_to_own P.address 2 low refl in
    apart_by_one is_sent 0 P Q P.address (Some (OwnMode 2)) x true false to (to.some_slots low)
    (ap is_sent (own_sent P [] x (OwnMode 2) true 0 low to legal tt refl))
    (unmeant_silent Q [] x tt (ask_unmeant P Q low other))
    (λ e. cc)
