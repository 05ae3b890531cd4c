-- What an exchange notes and is answered, after exchanges alone.
use Rattle.std.proofs.Common.{◌≡◌, ℕ, zero, suc, ◌+◌, ◌≤◌, Bool, true, false, not, ◌&&◌, ◌||◌, nat_le, if◌then◌else◌, Option, Some, None, List, [], ◌∷◌, ◌++◌, length, refl, ap, sym, ◌∙◌, append_assoc, append-nil, arith}
use Rattle.std.proofs.Math.Bool.{and-true}
use Rattle.std.proofs.lemmas.Bool.{eq-eqb}
use Rattle.std.proofs.lemmas.Bool.Decides.{nat_tests}
use Rattle.bus_word.specs.declared.word.Kind.{Kind}
use Rattle.bus_word.specs.declared.word.Kind.TheVariants.{Com, Dat}
use Rattle.bus_word.specs.declared.word.Bus.{Bus}
use Rattle.bus_word.specs.declared.word.Bus.TheVariants.{A}
use Rattle.bus_word.specs.declared.word.Raw.{Raw}
use Rattle.bus_word.specs.declared.cell.Cell.{Cell}
use Rattle.bus_word.specs.Word.{ones, low_bits, is_valid, valid_word}
use Rattle.bus_word.specs.Command.{expected, is_receive, is_broadcast}
use Rattle.bus_word.proofs.Parity.{odd_with_parity}
use Rattle.bus_legal.specs.Description.{Description}
use Rattle.terminal_rules.specs.declared.event.Event.{Event}
use Rattle.terminal_rules.specs.declared.event.Event.TheVariants.{Gap, Slot}
use Rattle.terminal_rules.specs.declared.event.Flag.{Flag}
use Rattle.terminal_rules.specs.declared.event.Flag.TheVariants.{Busy}
use Rattle.terminal_rules.specs.LookBack.{latest, since}
use Rattle.terminal_rules.specs.History.{Replying, NoTurn, Noted, noted_as, Entry, Ending, Nothing, Badly, Illegal, Blocked, Done}
use Rattle.terminal_rules.specs.Open.{Open, Idle, Collects, Waits, Resumes, is_on, transfer, open_now}
use Rattle.terminal_rules.specs.Reply.{words_after_status, begun, begins_reply, reply_after, reply_of, reply_now, reply_bus}
use Rattle.terminal_rules.specs.Starts.{heard_now, is_free, is_fresh_broadcast, starts_message, is_meant}
use Rattle.terminal_rules.specs.Flags.{flag_now}
use Rattle.terminal_rules.specs.Ends.{data_of, with_word, data_words, if_expected, complete, well, ends_with, at_gap, at_entry, unless_ignored, ends_now}
use Rattle.terminal_rules.specs.SinceReset.{off_now}
use Rattle.terminal_rules.specs.Turn.{is_answered, done_cell, unless_ignored_turn, turn_of_gap, turn_of_slot}
use Rattle.terminal_rules.specs.Past.{note, past}
use Rattle.terminal_rules.specs.Out.{Silence, hands, handing_over, out, outs_from}
use Rattle.terminal_exchanges.specs.Exchanges.{Exchange, command_event, data_event, words_then, slots_then}
use Rattle.terminal_exchanges.specs.ExchangeLaws.{IsWhole, AreWhole, after_words, after_slots, before_its_gap, history_of, ending_of_exchange, slots_needed, AreAnswered, silent_then}
use Rattle.terminal_exchanges.proofs.Notes.{word_note, word_notes, command_note, gap_note, slot_note, slot_notes, notes_before_gap, notes_at_gap, exchange_notes, gap_answer, slot_answer, slots_answered, NotedExchangeLaw}
use Rattle.terminal_rules.specs.Steps.{replies_on, sent_one, begun_if, dropped_if}
use Rattle.terminal_rules.proofs.OpenLaw.{word_law, gap_law, slot_law, after_word, after_gap, after_entry, waits, unheard}
use Rattle.terminal_rules.proofs.ReplyLaw.{no_words, next_of, reply_word_law, reply_gap_law, reply_slot_law}

-- a word that is made valid is valid
pub is_valid-valid_word : (k : Kind) (bits : ℕ) → is_valid (valid_word k bits) ≡ true
is_valid-valid_word k bits = odd_with_parity (ones (low_bits 16 bits))

-- a message that doesn't wait takes data words quietly
abbrev is_steady : Open → Bool
is_steady (Waits c a) = false
is_steady _ = true

abbrev data_raw : ℕ → Option Raw
data_raw d = Some (valid_word Dat d)

abbrev data_entry : ℕ → Entry
data_entry d = unheard (data_raw d)

steady_ends : (w : Option Raw) (o : Open) → is_steady o ≡ true → at_entry w o ≡ Nothing
steady_ends w Idle s = refl
steady_ends w (Collects c xs) s = refl
steady_ends w (Waits c a) s = cc
steady_ends w (Resumes c xs) s = refl

steady_stays : (x : Entry) (o : Open) → is_steady o ≡ true → is_steady (after_entry x o) ≡ true
steady_stays x Idle s = refl
steady_stays x (Collects c xs) s = refl
steady_stays x (Waits c a) s = cc
steady_stays x (Resumes c xs) s = refl

abbrev with_data : List ℕ → Open → Open
with_data [] o = o
with_data (d ∷ ds) o = with_data ds (after_entry (data_entry d) o)

-- a data word is no command, and starts nothing
abbrev data_noted : Bool → ℕ → Ending → Noted
data_noted i d x = noted_as (data_event d) (unless_ignored_turn i NoTurn) (not i && false) (unless_ignored i x)

word_past : (P : Description) (d : ℕ) (h : List Event) → replies_on (past P h) A ≡ false → is_steady (open_now P (past P h) A) ≡ true → past P (data_event d ∷ h) ≡ word_note d ∷ past P h
word_past P d h q s =
    ap (λ i. data_noted i d (at_entry (data_raw d) (open_now P (past P h) A)) ∷ past P h) q
    ∙ ap (λ x. data_noted false d x ∷ past P h) (steady_ends (data_raw d) (open_now P (past P h) A) s)

word_open : (P : Description) (d : ℕ) (h : List Noted) → open_now P (word_note d ∷ h) A ≡ after_entry (data_entry d) (open_now P h A)
word_open P d h = word_law P h A A (valid_word Dat d) false Nothing

word_replies : (d : ℕ) (h : List Noted) → reply_now (word_note d ∷ h) ≡ reply_now h
word_replies d h =
    elim (latest (λ p. begun p.turn) h) as (λ o. reply_of (word_note d ∷ since begins_reply h) o ≡ reply_of (since begins_reply h) o) [ None ↦ refl | Some r ↦ refl ]

-- nothing is replied on bus A
replies_by : (h k : List Noted) → reply_now k ≡ reply_now h → replies_on h A ≡ false → replies_on k A ≡ false
replies_by h k e q = ap (λ r. is_on A (reply_bus r)) e ∙ q

words_past : (P : Description) (ds : List ℕ) (h : List Event) → replies_on (past P h) A ≡ false → is_steady (open_now P (past P h) A) ≡ true → past P (after_words ds h) ≡ word_notes ds (past P h)
words_past P [] h q s = refl
words_past P (d ∷ ds) h q s =
    let one : past P (data_event d ∷ h) ≡ word_note d ∷ past P h = word_past P d h q s in
    words_past P ds (data_event d ∷ h)
    (ap (λ k. replies_on k A) one ∙ replies_by (past P h) (word_note d ∷ past P h) (word_replies d (past P h)) q)
    (ap (λ k. is_steady (open_now P k A)) one ∙ (ap is_steady (word_open P d (past P h)) ∙ steady_stays (data_entry d) _ s))
    ∙ ap (word_notes ds) one

words_open : (P : Description) (ds : List ℕ) (h : List Noted) → open_now P (word_notes ds h) A ≡ with_data ds (open_now P h A)
words_open P [] h = refl
words_open P (d ∷ ds) h = words_open P ds (word_note d ∷ h) ∙ ap (with_data ds) (word_open P d h)

words_replies : (ds : List ℕ) (h : List Noted) → reply_now (word_notes ds h) ≡ reply_now h
words_replies [] h = refl
words_replies (d ∷ ds) h = words_replies ds (word_note d ∷ h) ∙ word_replies d h

abbrev data_entries : List ℕ → List Entry → List Entry
data_entries [] xs = xs
data_entries (d ∷ ds) xs = data_entries ds (data_entry d ∷ xs)

with_data-first : (ds : List ℕ) (c : ℕ) (xs : List Entry) → with_data ds (Collects c xs) ≡ Collects c (data_entries ds xs)
with_data-first [] c xs = refl
with_data-first (d ∷ ds) c xs = with_data-first ds c (data_entry d ∷ xs)

with_data-closed : (ds : List ℕ) → with_data ds Idle ≡ Idle
with_data-closed [] = refl
with_data-closed (d ∷ ds) = with_data-closed ds

data_of-word : (d : ℕ) → data_of (data_raw d) ≡ Some d
data_of-word d = ap (λ b. if b then Some d else None) (is_valid-valid_word Dat d)

data_words-entries : (ds : List ℕ) (xs : List Entry) (es : List ℕ) → data_words xs ≡ Some es → data_words (data_entries ds xs) ≡ Some (es ++ ds)
data_words-entries [] xs es e = e ∙ ap Some (simp append-nil)
data_words-entries (d ∷ ds) xs es e =
    data_words-entries ds (data_entry d ∷ xs) (es ++ d ∷ []) (ap (λ o. with_word o (data_of (data_raw d))) e ∙ ap (with_word (Some es)) (data_of-word d))
    ∙ ap Some (append_assoc es (d ∷ []) ds)

complete-whole : (c : ℕ) (ds : List ℕ) → length ds ≡ expected c → complete c (data_entries ds []) ≡ Some ds
complete-whole c ds l = ap (if_expected c) (data_words-entries ds [] [] refl) ∙ ap (λ b. if b then Some ds else None) (eq-eqb (length ds) (expected c) l)

-- data words are no command to a transmitter
transfer-longer : (P : Description) (c : ℕ) (ds : List ℕ) (x y : Entry) (xs : List Entry) → transfer P (Some (c, data_entries ds (x ∷ y ∷ xs))) ≡ None
transfer-longer P c [] x y xs = refl
transfer-longer P c (d ∷ ds) x y xs = transfer-longer P c ds (data_entry d) x (y ∷ xs)

transfer-data : (P : Description) (c : ℕ) (ds : List ℕ) → transfer P (Some (c, data_entries ds [])) ≡ None
transfer-data P c [] = refl
transfer-data P c (d ∷ []) = elim (is_receive c) as (λ r. let n : Option (ℕ × ℕ) = None in (if r then n else n) ≡ n) [ true ↦ refl | false ↦ refl ]
transfer-data P c (d ∷ e ∷ ds) = transfer-longer P c ds (data_entry e) (data_entry d) []

-- nothing is in progress on bus A, its run is empty, no reply is in progress, and the terminal isn't busy
pub record IsIdle (P : Description) (h : List Noted) : Type 0 where
  pub closed : open_now P h A ≡ Idle
  pub unused : heard_now P h A ≡ false
  pub silent : (let none : Option Replying = None in reply_now h ≡ none)
  pub ready : flag_now h Busy ≡ false

starts_law : (P : Description) (c : ℕ) (h : List Noted) → open_now P h A ≡ Idle → heard_now P h A ≡ false →
    starts_message P (valid_word Com c) (heard_now P h A) (is_free (open_now P h A)) (is_fresh_broadcast (open_now P h A)) ≡ is_meant P c
starts_law P c h o n = rw (n, o, is_valid-valid_word Com c) (and-true (is_meant P c))

quiet_on : (P : Description) (h : List Noted) → IsIdle P h → replies_on h A ≡ false
quiet_on P h i = ap (λ r. is_on A (reply_bus r)) i.silent

abbrev first_if : Bool → ℕ → Open
first_if m c = if m then Collects c [] else Idle

command_is : (P : Description) (c : ℕ) (h : List Noted) → IsIdle P h → note P h (command_event c) ≡ command_note P c
command_is P c h i =
    ap (λ q. noted_as (command_event c) (unless_ignored_turn q NoTurn) (not q && starts_message P (valid_word Com c) (heard_now P h A) (is_free (open_now P h A)) (is_fresh_broadcast (open_now P h A))) (unless_ignored q (at_entry (Some (valid_word Com c)) (open_now P h A)))) (quiet_on P h i)
    ∙ (ap (λ o. noted_as (command_event c) NoTurn (starts_message P (valid_word Com c) (heard_now P h A) (is_free (open_now P h A)) (is_fresh_broadcast (open_now P h A))) (at_entry (Some (valid_word Com c)) o)) i.closed
    ∙ ap (λ s. noted_as (command_event c) NoTurn s Nothing) (starts_law P c h i.closed i.unused))

command_past : (P : Description) (c : ℕ) (h : List Event) → IsIdle P (past P h) → past P (command_event c ∷ h) ≡ command_note P c ∷ past P h
command_past P c h i = ap (λ n. n ∷ past P h) (command_is P c (past P h) i)

command_open : (P : Description) (c : ℕ) (h : List Noted) → IsIdle P h → open_now P (command_note P c ∷ h) A ≡ first_if (is_meant P c) c
command_open P c h i =
    word_law P h A A (valid_word Com c) (is_meant P c) Nothing
    ∙ (ap (after_word A A (valid_word Com c) (is_meant P c)) i.closed
    ∙ elim (is_meant P c) as (λ m. after_word A A (valid_word Com c) m Idle ≡ first_if m c) [ true ↦ refl | false ↦ refl ])

dropped_none : (s : Bool) → (let none : Option Replying = None in dropped_if s none ≡ none)
dropped_none true = refl
dropped_none false = refl

command_replies : (P : Description) (c : ℕ) (h : List Noted) → IsIdle P h → (let none : Option Replying = None in reply_now (command_note P c ∷ h) ≡ none)
command_replies P c h i = reply_word_law h A (valid_word Com c) (is_meant P c) Nothing (quiet_on P h i) ∙ (ap (dropped_if (is_meant P c)) i.silent ∙ dropped_none (is_meant P c))

steady_first : (m : Bool) (c : ℕ) → is_steady (first_if m c) ≡ true
steady_first true c = refl
steady_first false c = refl

abbrev collected : Bool → Exchange → Open
collected m x = if m then Collects x.command (data_entries x.words []) else Idle

collected-if : (m : Bool) (x : Exchange) → with_data x.words (first_if m x.command) ≡ collected m x
collected-if true x = with_data-first x.words x.command []
collected-if false x = with_data-closed x.words

-- an exchange up to its gap: what it notes, and what is in progress
before_past : (P : Description) (x : Exchange) (h : List Event) → IsIdle P (past P h) → past P (before_its_gap x h) ≡ notes_before_gap P x (past P h)
before_past P x h i =
    let one : past P (command_event x.command ∷ h) ≡ command_note P x.command ∷ past P h = command_past P x.command h i in
    words_past P x.words (command_event x.command ∷ h)
    (ap (λ k. replies_on k A) one ∙ ap (λ r. is_on A (reply_bus r)) (command_replies P x.command (past P h) i))
    (ap (λ k. is_steady (open_now P k A)) one ∙ (ap is_steady (command_open P x.command (past P h) i) ∙ steady_first (is_meant P x.command) x.command))
    ∙ ap (word_notes x.words) one

before_open : (P : Description) (x : Exchange) (h : List Noted) → IsIdle P h → open_now P (notes_before_gap P x h) A ≡ collected (is_meant P x.command) x
before_open P x h i =
    words_open P x.words (command_note P x.command ∷ h)
    ∙ (ap (with_data x.words) (command_open P x.command h i) ∙ collected-if (is_meant P x.command) x)

before_replies : (P : Description) (x : Exchange) (h : List Noted) → IsIdle P h → (let none : Option Replying = None in reply_now (notes_before_gap P x h) ≡ none)
before_replies P x h i = words_replies x.words (command_note P x.command ∷ h) ∙ command_replies P x.command h i

-- words change no flag
pub words_flag : (f : Flag) (ds : List ℕ) (h : List Noted) → flag_now (word_notes ds h) f ≡ flag_now h f
words_flag f [] h = refl
words_flag f (d ∷ ds) h = words_flag f ds (word_note d ∷ h)

pub slots_flag : (f : Flag) (n : ℕ) (h : List Noted) → flag_now (slot_notes n h) f ≡ flag_now h f
slots_flag f zero h = refl
slots_flag f (suc n) h = slots_flag f n (slot_note h ∷ h)

before_busy : (P : Description) (x : Exchange) (h : List Noted) → IsIdle P h → flag_now (notes_before_gap P x h) Busy ≡ false
before_busy P x h i = words_flag Busy x.words (command_note P x.command ∷ h) ∙ i.ready

-- the gap ends it as its command says
at_gap-collected : (P : Description) (x : Exchange) (m : Bool) → IsWhole x → at_gap P false (collected m x) ≡ (if m then well P false x.command x.words else Nothing)
at_gap-collected P x true w = ap (λ o. ends_with P false x.command o (transfer P (Some (x.command, data_entries x.words [])))) (complete-whole x.command x.words w)
at_gap-collected P x false w = refl

ends_law : (P : Description) (x : Exchange) (h : List Noted) → IsIdle P h → IsWhole x → ends_now P (notes_before_gap P x h) (Gap A) ≡ ending_of_exchange P x
ends_law P x h i w =
    let k : List Noted = notes_before_gap P x h in
    ap (λ r. unless_ignored (is_on A (reply_bus r)) (at_gap P (flag_now k Busy) (open_now P k A))) (before_replies P x h i)
    ∙ (ap (λ b. at_gap P b (open_now P k A)) (before_busy P x h i)
    ∙ (ap (at_gap P false) (before_open P x h i) ∙ at_gap-collected P x (is_meant P x.command) w))

gap_is : (P : Description) (x : Exchange) (h : List Noted) → IsIdle P h → IsWhole x → note P (notes_before_gap P x h) (Gap A) ≡ gap_note (notes_before_gap P x h) (ending_of_exchange P x)
gap_is P x h i w =
    let k : List Noted = notes_before_gap P x h in
    ap (λ e. noted_as (Gap A) (unless_ignored_turn (replies_on k A) (turn_of_gap A (is_answered (off_now k A) e) (done_cell e))) false e) (ends_law P x h i w)
    ∙ ap (λ r. noted_as (Gap A) (unless_ignored_turn (is_on A (reply_bus r)) (turn_of_gap A (is_answered (off_now k A) (ending_of_exchange P x)) (done_cell (ending_of_exchange P x)))) false (ending_of_exchange P x)) (before_replies P x h i)

pub gap_past : (P : Description) (x : Exchange) (h : List Event) → IsIdle P (past P h) → IsWhole x → past P (Gap A ∷ before_its_gap x h) ≡ notes_at_gap P x (past P h)
gap_past P x h i w = ap (λ k. note P k (Gap A) ∷ k) (before_past P x h i) ∙ ap (λ n. n ∷ notes_before_gap P x (past P h)) (gap_is P x (past P h) i w)

slots_past : (P : Description) (n : ℕ) (h : List Event) → past P (after_slots n h) ≡ slot_notes n (past P h)
slots_past P zero h = refl
slots_past P (suc n) h = slots_past P n (Slot ∷ h)

after_gap-collected : (P : Description) (x : Exchange) (m : Bool) → after_gap P (collected m x) ≡ Idle
after_gap-collected P x true = ap waits (transfer-data P x.command x.words)
after_gap-collected P x false = refl

-- slots leave the message in progress and the run as they are
slots_open : (P : Description) (n : ℕ) (h : List Noted) → open_now P (slot_notes n h) A ≡ open_now P h A
slots_open P zero h = refl
slots_open P (suc n) h = slots_open P n (slot_note h ∷ h) ∙ slot_law P h A (reply_now h) Nothing

slot_heard : (P : Description) (r : Option Replying) (h : List Noted) → heard_now P (noted_as Slot (turn_of_slot r) false Nothing ∷ h) A ≡ heard_now P h A
slot_heard P None h = refl
slot_heard P (Some r) h = refl

slots_heard : (P : Description) (n : ℕ) (h : List Noted) → heard_now P (slot_notes n h) A ≡ heard_now P h A
slots_heard P zero h = refl
slots_heard P (suc n) h = slots_heard P n (slot_note h ∷ h) ∙ slot_heard P (reply_now h) h

-- the reply after slots
abbrev pub sent_many : ℕ → Option Replying → Option Replying
sent_many zero r = r
sent_many (suc n) r = sent_many n (sent_one r)

pub slots_reply : (n : ℕ) (h : List Noted) → reply_now (slot_notes n h) ≡ sent_many n (reply_now h)
slots_reply zero h = refl
slots_reply (suc n) h = slots_reply n (slot_note h ∷ h) ∙ ap (sent_many n) (reply_slot_law h (reply_now h) Nothing)

sent_none : (n : ℕ) → (let none : Option Replying = None in sent_many n none ≡ none)
sent_none zero = refl
sent_none (suc n) = sent_none n

pub sent_after : (n m : ℕ) (b : Bus) (cell : Option Cell) → sent_many n (reply_after b cell false m) ≡ reply_after b cell false (n + m)
sent_after zero m b cell = let e : 0 + m ≡ m = omega arith in ap (reply_after b cell false) (sym e)
sent_after (suc n) m b cell =
    ap (sent_many n) (sym (next_of b cell false m))
    ∙ (sent_after n (suc m) b cell
    ∙ (let e : n + suc m ≡ suc n + m = omega arith in ap (reply_after b cell false) e))

over_after : (b : Bus) (cell : Option Cell) (n : ℕ) → suc (words_after_status cell) ≤ n → (let none : Option Replying = None in sent_many n (reply_after b cell false 0) ≡ none)
over_after b cell n few =
    let at : n + 0 ≡ n = omega arith in
    let past : nat_le n (words_after_status cell) ≡ false = grind (arith, nat_tests) in
    sent_after n 0 b cell
    ∙ (ap (reply_after b cell false) at
    ∙ ap (λ t. if t then Some (record { bus = b; cell = cell; number = n }) else None) past)

-- a reply that begins at the gap, and is over after its slots
begun_over : (a : Bool) (cell : Option Cell) (n : ℕ) → (if a then suc (words_after_status cell) else 0) ≤ n → (let none : Option Replying = None in sent_many n (begun_if a A cell none) ≡ none)
begun_over true cell n few = ap (λ t. sent_many n (if t then Some (record { bus = A; cell = cell; number = 0 }) else None)) (sym (no_words (words_after_status cell))) ∙ over_after A cell n few
begun_over false cell n few = sent_none n

pub at_gap_reply : (P : Description) (x : Exchange) (h : List Noted) → IsIdle P h →
    reply_now (notes_at_gap P x h) ≡ (let none : Option Replying = None in begun_if (is_answered (off_now (notes_before_gap P x h) A) (ending_of_exchange P x)) A (done_cell (ending_of_exchange P x)) none)
at_gap_reply P x h i =
    reply_gap_law (notes_before_gap P x h) A (is_answered (off_now (notes_before_gap P x h) A) (ending_of_exchange P x)) (done_cell (ending_of_exchange P x)) (ending_of_exchange P x)
    ∙ ap (begun_if (is_answered (off_now (notes_before_gap P x h) A) (ending_of_exchange P x)) A (done_cell (ending_of_exchange P x))) (before_replies P x h i)

gap_heard : (P : Description) (h : List Noted) (a : Bool) (x : Ending) → heard_now P (noted_as (Gap A) (turn_of_gap A a (done_cell x)) false x ∷ h) A ≡ false
gap_heard P h true x = refl
gap_heard P h false x = refl

is_answered-less : (off : Bool) (x : Ending) (n : ℕ) → slots_needed x ≤ n → (if is_answered off x then suc (words_after_status (done_cell x)) else 0) ≤ n
is_answered-less false x n few = few
is_answered-less true Nothing n few = few
is_answered-less true (Badly c) n few = few
is_answered-less true (Illegal c) n few = by_all (is_broadcast c)
  where
    by_all : (b : Bool) → (if not (b || true) then 1 else 0) ≤ n
    by_all true = omega arith
    by_all false = omega arith
is_answered-less true (Blocked c cell) n few = by_all (is_broadcast c)
  where
    by_all : (b : Bool) → (if not (b || true) then 1 else 0) ≤ n
    by_all true = omega arith
    by_all false = omega arith
is_answered-less true (Done c cell ds) n few = by_all (is_broadcast c)
  where
    by_all : (b : Bool) → (if not (b || true) then suc (words_after_status (Some cell)) else 0) ≤ n
    by_all true = omega arith
    by_all false = omega arith

idle_after : (P : Description) (x : Exchange) (h : List Noted) → IsIdle P h → slots_needed (ending_of_exchange P x) ≤ x.slots → IsIdle P (slot_notes x.slots (notes_at_gap P x h))
idle_after P x h i few =
    let k : List Noted = notes_before_gap P x h in
    let e : Ending = ending_of_exchange P x in
    record {
      closed =
          slots_open P x.slots (notes_at_gap P x h)
          ∙ (gap_law P k A A (is_answered (off_now k A) e) (done_cell e) e
          ∙ (ap (after_gap P) (before_open P x h i) ∙ after_gap-collected P x (is_meant P x.command)));
      unused = slots_heard P x.slots (notes_at_gap P x h) ∙ gap_heard P k (is_answered (off_now k A) e) e;
      silent =
          slots_reply x.slots (notes_at_gap P x h)
          ∙ (ap (sent_many x.slots) (at_gap_reply P x h i)
          ∙ begun_over (is_answered (off_now k A) e) (done_cell e) x.slots (is_answered-less (off_now k A) e x.slots few));
      ready = slots_flag Busy x.slots (notes_at_gap P x h) ∙ before_busy P x h i;
    }

-- after exchanges alone, with all the slots that their replies need, the terminal is idle
pub idle_law : (P : Description) (xs : List Exchange) → AreAnswered P xs → IsIdle P (exchange_notes P xs)
idle_law P [] a = record { closed = refl; unused = refl; silent = refl; ready = refl }
idle_law P (x ∷ xs) (few, a) = idle_after P x (exchange_notes P xs) (idle_law P xs a) few

pub notes_law : (P : Description) (xs : List Exchange) → AreWhole xs → AreAnswered P xs → past P (history_of xs) ≡ exchange_notes P xs
notes_law P [] w a = refl
notes_law P (x ∷ xs) (w, ws) (few, a) =
    let before : past P (history_of xs) ≡ exchange_notes P xs = notes_law P xs ws a in
    slots_past P x.slots (Gap A ∷ before_its_gap x (history_of xs))
    ∙ ap (slot_notes x.slots)
    (gap_past P x (history_of xs) (idle_moved P (exchange_notes P xs) (past P (history_of xs)) (sym before) (idle_law P xs a)) w
    ∙ ap (notes_at_gap P x) before)
  where
    idle_moved : (P : Description) (k l : List Noted) → k ≡ l → IsIdle P k → IsIdle P l
    idle_moved P k l e i = record {
      closed = sym (ap (λ h. open_now P h A) e) ∙ i.closed;
      unused = sym (ap (λ h. heard_now P h A) e) ∙ i.unused;
      silent = sym (ap reply_now e) ∙ i.silent;
      ready = sym (ap (λ h. flag_now h Busy) e) ∙ i.ready;
    }

pub idle_past : (P : Description) (xs : List Exchange) → AreWhole xs → AreAnswered P xs → IsIdle P (past P (history_of xs))
idle_past P xs ws a =
    let e : past P (history_of xs) ≡ exchange_notes P xs = notes_law P xs ws a in
    let i : IsIdle P (exchange_notes P xs) = idle_law P xs a in
    record {
      closed = ap (λ h. open_now P h A) e ∙ i.closed;
      unused = ap (λ h. heard_now P h A) e ∙ i.unused;
      silent = ap reply_now e ∙ i.silent;
      ready = ap (λ h. flag_now h Busy) e ∙ i.ready;
    }

pub answer_law : (P : Description) (xs : List Exchange) (x : Exchange) → AreWhole (x ∷ xs) → AreAnswered P xs → out P (before_its_gap x (history_of xs)) (Gap A) ≡ gap_answer P x
answer_law P xs x (w, ws) a =
    ap (λ k. handing_over (hands P (ends_now P k (Gap A)))) (before_past P x (history_of xs) (idle_past P xs ws a))
    ∙ ap (λ e. handing_over (hands P e)) (ends_law P x (past P (history_of xs)) (idle_past P xs ws a) w)

pub words_silent : (P : Description) (ds : List ℕ) (h es : List Event) → outs_from P h (words_then ds es) ≡ silent_then ds (outs_from P (after_words ds h) es)
words_silent P [] h es = refl
words_silent P (d ∷ ds) h es = ap (λ os. Silence ∷ os) (words_silent P ds (data_event d ∷ h) es)

slots_law : (P : Description) (n : ℕ) (h es : List Event) → outs_from P h (slots_then n es) ≡ slots_answered P n (past P h) (outs_from P (after_slots n h) es)
slots_law P zero h es = refl
slots_law P (suc n) h es = ap (λ os. slot_answer P (past P h) ∷ os) (slots_law P n (Slot ∷ h) es)

pub exchange_law : NotedExchangeLaw
exchange_law P xs x es (w, ws) a =
    let h : List Event = before_its_gap x (history_of xs) in
    let before : past P (history_of xs) ≡ exchange_notes P xs = notes_law P xs ws a in
    let k : past P (Gap A ∷ h) ≡ notes_at_gap P x (exchange_notes P xs) = gap_past P x (history_of xs) (idle_past P xs ws a) w ∙ ap (notes_at_gap P x) before in
    ap (λ os. Silence ∷ os)
    (words_silent P x.words (command_event x.command ∷ history_of xs) (Gap A ∷ slots_then x.slots es)
    ∙ ap (silent_then x.words)
    ((λ j. answer_law P xs x (w, ws) a j ∷ slots_law P x.slots (Gap A ∷ h) es j)
    ∙ ap (λ n. gap_answer P x ∷ slots_answered P x.slots n (outs_from P (history_of (x ∷ xs)) es)) k))

pub unmeant_end : (P : Description) (x : Exchange) → is_meant P x.command ≡ false → ending_of_exchange P x ≡ Nothing
unmeant_end P x e = ap (λ m. if m then well P false x.command x.words else Nothing) e
