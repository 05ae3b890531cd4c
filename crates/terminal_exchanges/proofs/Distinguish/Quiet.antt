-- After exchanges alone no flag stands, bus A has its transmitter, and a command with its data words changes
-- nothing that is looked up.
use Rattle.std.proofs.Common.{◌≡◌, ℕ, zero, suc, Bool, true, false, ◌&&◌, not, if◌then◌else◌, Option, Some, None, List, [], ◌∷◌, refl, ap, ◌∙◌}
use Rattle.bus_word.specs.declared.word.Bus.TheVariants.{A}
use Rattle.bus_word.specs.declared.status.StatusParts.{StatusParts}
use Rattle.bus_word.specs.Command.{is_broadcast}
use Rattle.bus_legal.specs.Description.{Description}
use Rattle.terminal_rules.specs.declared.event.Flag.{Flag}
use Rattle.terminal_rules.specs.declared.event.Flag.TheVariants.{Service, Busy, Subsystem, Terminal}
use Rattle.terminal_rules.specs.LookBack.{latest, since, or_else}
use Rattle.terminal_rules.specs.History.{Noted, Ending}
use Rattle.terminal_rules.specs.Flags.{flag_now}
use Rattle.terminal_rules.specs.SinceReset.{is_reset, since_reset, shuts, off_now}
use Rattle.terminal_rules.specs.Status.{no_parts, formed, kept_now}
use Rattle.terminal_exchanges.specs.Exchanges.{Exchange}
use Rattle.terminal_exchanges.specs.ExchangeLaws.{ending_of_exchange}
use Rattle.terminal_exchanges.proofs.Notes.{word_note, word_notes, slot_note, slot_notes, command_note, gap_note, notes_before_gap, notes_at_gap, exchange_notes}
use Rattle.terminal_exchanges.proofs.ExchangeLaw.{words_flag, slots_flag}
use Rattle.terminal_rules.proofs.KeptLaw.{kept_step}

-- what a terminal that heard exchanges alone looks back over at the gap of one more
abbrev pub notes_at : Description → List Exchange → Exchange → List Noted
notes_at P xs x = notes_before_gap P x (exchange_notes P xs)

no_flag : (P : Description) (f : Flag) (xs : List Exchange) → flag_now (exchange_notes P xs) f ≡ false
no_flag P f [] = refl
no_flag P f (x ∷ xs) = slots_flag f x.slots (notes_at_gap P x (exchange_notes P xs)) ∙ (words_flag f x.words (command_note P x.command ∷ exchange_notes P xs) ∙ no_flag P f xs)

no_flag_at : (P : Description) (f : Flag) (xs : List Exchange) (x : Exchange) → flag_now (notes_at P xs x) f ≡ false
no_flag_at P f xs x = words_flag f x.words (command_note P x.command ∷ exchange_notes P xs) ∙ no_flag P f xs

-- the status formed then has no bit of a flag
abbrev pub plain : Bool → Bool → Bool → StatusParts
plain error broadcast accept = record no_parts { error = error; broadcast = broadcast; accept = accept }

pub formed_plain : (P : Description) (xs : List Exchange) (x : Exchange) (c : ℕ) (error accept inhibited : Bool) → formed (notes_at P xs x) c error accept inhibited ≡ plain error (is_broadcast c) accept
formed_plain P xs x c error accept inhibited = λ j. record {
  error = error;
  service = no_flag_at P Service xs x j;
  broadcast = is_broadcast c;
  busy = no_flag_at P Busy xs x j;
  subsystem = no_flag_at P Subsystem xs x j;
  accept = accept;
  terminal = no_flag_at P Terminal xs x j && not inhibited;
}

words_back : {Y : Type 0} (f : Noted → Option Y) (ds : List ℕ) (h : List Noted) → ((d : ℕ) → f (word_note d) ≡ None) →
    latest f (since_reset (word_notes ds h)) ≡ latest f (since_reset h)
words_back f [] h silent = refl
words_back {Y} f (d ∷ ds) h silent =
    words_back f ds (word_note d ∷ h) silent
    ∙ ap (λ o. elim o as (λ o. Option Y) [ None ↦ latest f (since_reset h) | Some y ↦ Some y ]) (silent d)

-- what neither data words nor a command say anything of, is as it was before them
pub exchange_back : {Y : Type 0} (P : Description) (f : Noted → Option Y) (x : Exchange) (h : List Noted) →
    ((d : ℕ) → f (word_note d) ≡ None) → f (command_note P x.command) ≡ None → latest f (since_reset (notes_before_gap P x h)) ≡ latest f (since_reset h)
exchange_back {Y} P f x h silent command =
    words_back f x.words (command_note P x.command ∷ h) silent
    ∙ ap (λ o. elim o as (λ o. Option Y) [ None ↦ latest f (since_reset h) | Some y ↦ Some y ]) command

-- mode codes on bus A leave the transmitter of bus A alone
gap_on : (h : List Noted) (e : Ending) → off_now h A ≡ false → off_now (gap_note h e ∷ h) A ≡ false
gap_on h e i = by_reset (is_reset (gap_note h e))
  where
    by_reset : (r : Bool) → or_else (latest (shuts A) (if r then [] else gap_note h e ∷ since is_reset h)) false ≡ false
    by_reset true = refl
    by_reset false = i

slot_on : (h : List Noted) → off_now h A ≡ false → off_now (slot_note h ∷ h) A ≡ false
slot_on h i = by_reset (is_reset (slot_note h))
  where
    by_reset : (r : Bool) → or_else (latest (shuts A) (if r then [] else slot_note h ∷ since is_reset h)) false ≡ false
    by_reset true = refl
    by_reset false = i

slots_on : (n : ℕ) (h : List Noted) → off_now h A ≡ false → off_now (slot_notes n h) A ≡ false
slots_on zero h i = i
slots_on (suc n) h i = slots_on n (slot_note h ∷ h) (slot_on h i)

exchange_on : (P : Description) (x : Exchange) (h : List Noted) → off_now h A ≡ false → off_now (notes_before_gap P x h) A ≡ false
exchange_on P x h i = ap (λ o. or_else o false) (exchange_back P (shuts A) x h (λ d. refl) refl) ∙ i

on_after : (P : Description) (xs : List Exchange) → off_now (exchange_notes P xs) A ≡ false
on_after P [] = refl
on_after P (x ∷ xs) = slots_on x.slots (notes_at_gap P x (exchange_notes P xs)) (gap_on (notes_at P xs x) (ending_of_exchange P x) (exchange_on P x (exchange_notes P xs) (on_after P xs)))

pub on_at : (P : Description) (xs : List Exchange) (x : Exchange) → off_now (notes_at P xs x) A ≡ false
on_at P xs x = exchange_on P x (exchange_notes P xs) (on_after P xs)

-- data words leave the kept status as it is
pub words_kept : (P : Description) (ds : List ℕ) (h : List Noted) → kept_now P (word_notes ds h) ≡ kept_now P h
words_kept P [] h = refl
words_kept P (d ∷ ds) h = words_kept P ds (word_note d ∷ h) ∙ kept_step P (word_note d) h
