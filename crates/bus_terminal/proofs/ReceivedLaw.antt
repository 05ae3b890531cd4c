-- Data words that a message receives, and the gap that ends it.
use Rattle.std.proofs.Common.{◌≡◌, ℕ, ◌<◌, ◌≤◌, ◌+◌, Bool, true, false, not, ◌&&◌, ◌||◌, ◌==◌, nat_lt, if◌then◌else◌, Option, Some, None, List, [], ◌∷◌, ◌++◌, length, refl, ap, sym, subst, inl, inr, ◌∙◌, arith, append_assoc, append-nil, length-append}
use Rattle.std.proofs.lemmas.Bool.Decides.{nat_tests}
use Rattle.bus_word.specs.declared.word.Bus.{Bus}
use Rattle.bus_word.specs.declared.word.Bus.TheVariants.{A, B}
use Rattle.bus_word.specs.declared.word.Kind.TheVariants.{Dat}
use Rattle.bus_word.specs.declared.word.Raw.{Raw}
use Rattle.bus_word.specs.declared.cell.Cell.{Cell}
use Rattle.bus_word.specs.declared.cell.Cell.TheVariants.{OwnReceive, OwnTransmit, BroadReceive, OwnMode, BroadMode}
use Rattle.bus_word.specs.Word.{valid_word, low_bits, ones, is_data}
use Rattle.bus_word.specs.Command.{expected}
use Rattle.bus_word.specs.Cell.{cell_of}
use Rattle.bus_word.proofs.Parity.{odd_with_parity}
use Rattle.bus_legal.specs.Description.{Description}
use Rattle.terminal_rules.specs.declared.event.Event.{Event}
use Rattle.terminal_rules.specs.declared.event.Event.TheVariants.{Gap}
use Rattle.terminal_rules.specs.declared.event.Flag.TheVariants.{Busy}
use Rattle.terminal_rules.specs.Buses.{same_bus}
use Rattle.terminal_rules.specs.History.{Noted, Illegal, Done}
use Rattle.terminal_rules.specs.Open.{Open, Idle, Collects, Waits, Resumes, open_now, is_on}
use Rattle.terminal_rules.specs.Reply.{reply_now, reply_bus}
use Rattle.terminal_rules.specs.Flags.{flag_now}
use Rattle.terminal_rules.specs.Ends.{data_of, at_gap, verdict, unless_ignored}
use Rattle.terminal_rules.specs.SinceReset.{nth_word, wrapped_at, wrapped, held_now}
use Rattle.terminal_rules.specs.Past.{past, open_at, history_after}
use Rattle.terminal_rules.specs.Out.{handing_over, hands, HandsReceived}
use Rattle.terminal_rules.specs.Steps.{replies_on}
use Rattle.terminal_state.specs.declared.decoded.Decoded.{Decoded}
use Rattle.terminal_state.specs.declared.message.InProgress.{InProgress}
use Rattle.terminal_state.specs.Standing.{Standing, Words, Spoilt, standing_of, next, next_word, gap_end_of, ending_at, gap_ends, gap_leaves, entry_leaves, entry_fails, fresh_in}
use Rattle.terminal_state.specs.Message.{standing_on, command_in}
use Rattle.terminal_state.specs.Registers.{registers_now, failed_by}
use Rattle.terminal_state.proofs.CollectedLaw.{expected-le, gap_ends_law, fresh_open, fresh_law}
use Rattle.bus_terminal.specs.declared.answer.Receiving.{Receiving}
use Rattle.bus_terminal.specs.declared.terminal.Terminal.{Terminal}
use Rattle.bus_terminal.specs.Stands.{StandsAt, heard_on_buses}
use Rattle.bus_terminal.specs.Received.{data_words_on, unless_wrapped, receiving_by, receiving_in, receiving, ReceivedIsHanded}
use Rattle.bus_terminal.specs.inner.Terminal.{collecting, receives_from, receives_in, ends_at_gap, Settles}
use Rattle.terminal_rules.proofs.LatestLaw.{one_message_law}
use Rattle.bus_terminal.proofs.StandsLaw.{entry_event, heard_word_law, standing_word_law, registers_word, reply_word, held_word_law, gap_stands}

pub same_self : (b : Bus) → same_bus b b ≡ true
same_self A = refl
same_self B = refl

valid_data : (d : ℕ) → is_data (valid_word Dat d) ≡ true
valid_data d = odd_with_parity (ones (low_bits 16 d))

-- what was collected, with one data word more
one_more : (xs : List ℕ) (d : ℕ) (a : Option ℕ) → length xs < 32 → next (Words xs) (data_of (Some (valid_word Dat d))) a ≡ Words (xs ++ d ∷ [])
one_more xs d a room =
    let there : nat_lt (length xs) 32 ≡ true = grind (arith, nat_tests) in
    ap (λ t. next_word xs (if t then Some d else None) a) (valid_data d) ∙ ap (λ t. if t then Words (xs ++ d ∷ []) else Spoilt) there

-- where a message is in progress on a bus, none is on the other
alone : (P : Description) (h : List Event) (b d : Bus) (c : ℕ) → standing_of P (open_at P h b) ≡ Collects c (Words []) → standing_of P (open_at P h d) ≡ (if same_bus d b then Collects c (Words []) else Idle)
alone P h A A c e = e
alone P h B B c e = e
alone P h A B c e = elim (one_message_law P h) [ inl i ↦ cc (ap (standing_of P) i, e) | inr i ↦ ap (standing_of P) i ]
alone P h B A c e = elim (one_message_law P h) [ inl i ↦ ap (standing_of P) i | inr i ↦ cc (ap (standing_of P) i, e) ]

-- what looking back gives at g is that at h, but for the message on bus b, which has these words
record Gathered (P : Description) (b : Bus) (c : ℕ) (ds : List ℕ) (h g : List Noted) : Type 0 where
  heard : heard_on_buses P g ≡ heard_on_buses P h
  standing : (d : Bus) → standing_of P (open_now P g d) ≡ (if same_bus d b then Collects c (Words ds) else Idle)
  registers : registers_now P g ≡ registers_now P h
  reply : reply_now g ≡ reply_now h
  held : (s i : ℕ) → held_now P g s i ≡ held_now P h s i

gathered : (P : Description) (b : Bus) (c : ℕ) (ds xs : List ℕ) (h : List Event) → replies_on (past P h) b ≡ false →
    ((q : Bus) → standing_of P (open_now P (past P h) q) ≡ (if same_bus q b then Collects c (Words xs) else Idle)) →
    length xs + length ds ≤ 32 → Gathered P b c (xs ++ ds) (past P h) (past P (history_after (data_words_on b ds) h))
gathered P b c [] xs h e here room = record {
  heard = refl;
  standing = λ q. here q ∙ ap (λ l. if same_bus q b then Collects c (Words l) else Idle) (simp append-nil);
  registers = refl;
  reply = refl;
  held = λ s i. refl;
}
gathered P b c (d ∷ ds) xs h e here room =
    let n : List Noted = past P h in
    let w : Option Raw = Some (valid_word Dat d) in
    let one : length (xs ++ d ∷ []) ≡ length xs + 1 = simp length-append in
    let reply = reply_word P n b w e in
    let i = gathered P b c ds (xs ++ d ∷ []) (entry_event b w ∷ h) (ap (λ r. is_on b (reply_bus r)) reply ∙ e)
    (λ q. standing_word_law P n q b w e ∙ (ap (λ s. if same_bus q b then entry_leaves P.address w s else s) (here q) ∙ more_on (same_bus q b) (omega (arith, room)))) (omega (arith, one, room)) in
    record {
      heard = i.heard ∙ heard_word_law P n b w e;
      standing = λ q. i.standing q ∙ ap (λ l. if same_bus q b then Collects c (Words l) else Idle) (append_assoc xs (d ∷ []) ds);
      registers =
          i.registers
          ∙ (registers_word P n b w e ∙ ap (λ s. failed_by P (entry_fails w s) (registers_now P n)) (here b ∙ ap (λ t. if t then Collects c (Words xs) else Idle) (same_self b)));
      reply = i.reply ∙ reply;
      held = λ s k. i.held s k ∙ held_word_law P n b w s k e;
    }
  where
    more_on : (k : Bool) → length xs < 32 → (let s : Standing = if k then Collects c (Words xs) else Idle in if k then entry_leaves P.address (Some (valid_word Dat d)) s else s)
        ≡ (if k then Collects c (Words (xs ++ d ∷ [])) else Idle)
    more_on true few = ap (Collects c) (one_more xs d _ few)
    more_on false few = refl

-- what is known where a message is to receive words
record Begun (P : Description) (h : List Event) (b : Bus) (it : Receiving) : Type 0 where
  command : ℕ
  cell : Cell
  silent : replies_on (past P h) b ≡ false
  free : flag_now (past P h) Busy ≡ false
  standing : standing_of P (open_now P (past P h) b) ≡ Collects command (Words [])
  is : cell_of command ≡ Some cell
  receives : receiving_by P command (Some cell) ≡ Some it
  legal : P.legal cell ≡ true
  count : expected command ≡ it.count
  hands : (ds : List ℕ) → hands P (Done command cell ds) ≡ Some (HandsReceived it.broadcast it.subaddress ds)
  unwrapped : (s i : ℕ) (ds : List ℕ) → wrapped P.wrap s i (Done command cell ds) ≡ None

heard_alone : (x y : Bool) (o : Option Receiving) (it : Receiving) → (if x || y then None else o) ≡ Some it → (x ≡ false) × (y ≡ false) × (o ≡ Some it)
heard_alone true y o it e = cc
heard_alone false true o it e = cc
heard_alone false false o it e = (refl, refl, e)

passes : (l w : Bool) (x it : Receiving) → (if l && not w then Some x else None) ≡ Some it → (x ≡ it) × (l ≡ true) × (w ≡ false)
passes true false x it e = (cc, refl, refl)
passes true true x it e = cc
passes false w x it e = cc

none_wrapped : (x y : Bool) (o : Option ℕ) → y ≡ false → (if x && y then o else None) ≡ None
none_wrapped true true o e = cc
none_wrapped true false o e = refl
none_wrapped false y o e = refl

begun_at : (P : Description) (h : List Event) (b : Bus) (it : Receiving) (c : ℕ) (cell : Cell) (k : Bool) (s : ℕ) →
    replies_on (past P h) b ≡ false → flag_now (past P h) Busy ≡ false → standing_of P (open_now P (past P h) b) ≡ Collects c (Words []) → cell_of c ≡ Some cell →
    receiving_by P c (Some cell) ≡ Some it → unless_wrapped P cell (record { broadcast = k; subaddress = s; count = expected c }) ≡ Some it →
    ((ds : List ℕ) → hands P (Done c cell ds) ≡ Some (HandsReceived k s ds)) →
    ((m i : ℕ) (ds : List ℕ) → wrapped P.wrap m i (Done c cell ds) ≡ wrapped_at P.wrap m i s ds) → Begun P h b it
begun_at P h b it c cell k s silent free standing is receives e hand wrap =
    let p = passes (P.legal cell) (s == P.wrap) _ it e in
    record {
      command = c;
      cell = cell;
      silent = silent;
      free = free;
      standing = standing;
      is = is;
      receives = receives;
      legal = p.1;
      count = ap (λ x. x.count) p.0;
      hands = λ ds. hand ds ∙ ap (λ x. Some (HandsReceived x.broadcast x.subaddress ds)) p.0;
      unwrapped = λ m i ds. wrap m i ds ∙ none_wrapped (m == s) (s == P.wrap) (nth_word i ds) p.2;
    }

begun_cell : (P : Description) (h : List Event) (b : Bus) (it : Receiving) (c : ℕ) (o : Option Cell) → replies_on (past P h) b ≡ false → flag_now (past P h) Busy ≡ false →
    standing_of P (open_now P (past P h) b) ≡ Collects c (Words []) → cell_of c ≡ o → receiving_by P c o ≡ Some it → Begun P h b it
begun_cell P h b it c (Some (OwnReceive s n)) silent free standing is e = begun_at P h b it c (OwnReceive s n) false s silent free standing is e e (λ ds. refl) (λ m i ds. refl)
begun_cell P h b it c (Some (BroadReceive s n)) silent free standing is e = begun_at P h b it c (BroadReceive s n) true s silent free standing is e e (λ ds. refl) (λ m i ds. refl)
begun_cell P h b it c None silent free standing is e = cc
begun_cell P h b it c (Some (OwnTransmit s n)) silent free standing is e = cc
begun_cell P h b it c (Some (OwnMode code)) silent free standing is e = cc
begun_cell P h b it c (Some (BroadMode code)) silent free standing is e = cc

begun_open : (P : Description) (o : Open) (it : Receiving) → receiving_in P o ≡ Some it → (c : ℕ) × (standing_of P o ≡ Collects c (Words [])) × (receiving_by P c (cell_of c) ≡ Some it)
begun_open P Idle it e = cc
begun_open P (Collects c []) it e = (c, refl, e)
begun_open P (Collects c (x ∷ xs)) it e = cc
begun_open P (Waits c a) it e = cc
begun_open P (Resumes c after) it e = cc

begun : (P : Description) (h : List Event) (b : Bus) (it : Receiving) → receiving P h b ≡ Some it → Begun P h b it
begun P h b it e =
    let heard = heard_alone (replies_on (past P h) b) (flag_now (past P h) Busy) _ it e in
    let there = begun_open P (open_now P (past P h) b) it heard.2 in
    begun_cell P h b it there.0 (cell_of there.0) heard.0 heard.1 there.1 refl there.2

ends_done : (P : Description) (busy : Bool) (c : ℕ) (cell : Cell) (ds : List ℕ) → busy ≡ false → cell_of c ≡ Some cell → P.legal cell ≡ true → length ds ≡ expected c →
    gap_ends P busy (Collects c (Words ds)) ≡ Done c cell ds
ends_done P busy c cell ds e f l count =
    let whole : (length ds == expected c) ≡ true = grind (arith, nat_tests) in
    (λ j. ending_at P (e j) (gap_end_of c (if whole j then Some ds else None) None))
    ∙ (ap (verdict P.legal false c ds) f
    ∙ ap (λ l. if l then Done c cell ds else Illegal c) l)

-- what is kept behind those words
begun_gathers : (P : Description) (h : List Event) (b : Bus) (it : Receiving) (ds : List ℕ) (s : Begun P h b it) → length ds ≡ it.count →
    Gathered P b s.command ds (past P h) (past P (history_after (data_words_on b ds) h))
begun_gathers P h b it ds s count = gathered P b s.command ds [] h s.silent (λ q. alone P h b q s.command s.standing) (let few = expected-le s.command in omega (arith, s.count))

pub received_is_handed : ReceivedIsHanded
received_is_handed P h b it ds e count =
    let s = begun P h b it e in
    let g : List Noted = past P (history_after (data_words_on b ds) h) in
    let q = begun_gathers P h b it ds s count in
    let here : standing_of P (open_now P g b) ≡ Collects s.command (Words ds) =
    q.standing b ∙ ap (λ t. if t then Collects s.command (Words ds) else Idle) (same_self b) in
    ap (λ i. handing_over (hands P (unless_ignored i (at_gap P (flag_now g Busy) (open_now P g b))))) (ap (λ r. is_on b (reply_bus r)) q.reply ∙ s.silent)
    ∙ (ap (λ x. handing_over (hands P x))
    (gap_ends_law P (flag_now g Busy) (open_now P g b)
    ∙ (ap (gap_ends P (flag_now g Busy)) here
    ∙ ends_done P (flag_now g Busy) s.command s.cell ds (ap (λ r. r.flags.busy) q.registers ∙ s.free) s.is s.legal (count ∙ sym s.count)))
    ∙ ap handing_over (s.hands ds))

-- what a terminal tells from what it keeps
received_opens : (P : Description) (o : Open) → receives_from P (fresh_open o) ≡ receiving_in P o
received_opens P Idle = refl
received_opens P (Collects c []) = refl
received_opens P (Collects c (x ∷ xs)) = refl
received_opens P (Waits c a) = refl
received_opens P (Resumes c after) = refl

pub receives_law : {L : Type 0} (is_legal : L → Cell → Bool) (P : Description) (h : List Event) (b : Bus) (t : Terminal L) → StandsAt is_legal P h t → receives_in is_legal t b ≡ receiving P h b
receives_law is_legal P h b t s =
    (λ j. if is_on b (reply_bus (s.reply j)) || (s.registers j).flags.busy then None else receives_from (s.description j) (fresh_in (s.standing b j)))
    ∙ ap (λ o. if is_on b (reply_bus (reply_now (past P h))) || flag_now (past P h) Busy then None else o)
    (ap (receives_from P) (fresh_law P (open_now P (past P h) b)) ∙ received_opens P (open_now P (past P h) b))

gathered_stands : {L : Type 0} (is_legal : L → Cell → Bool) (P : Description) (h g : List Event) (b : Bus) (c : ℕ) (ds : List ℕ) (t : Terminal L) → StandsAt is_legal P h t →
    Gathered P b c ds (past P h) (past P g) → StandsAt is_legal P g (record t { in_progress = collecting b c ds })
gathered_stands is_legal P h g b c ds t s q = record {
  description = s.description;
  heard = s.heard ∙ sym q.heard;
  standing = λ d. sym (q.standing d);
  registers = s.registers ∙ sym q.registers;
  reply = s.reply ∙ sym q.reply;
  held = λ m i low high first last. s.held m i low high first last ∙ sym (q.held m i);
}

pub leaves_none : (k : Bool) (c : ℕ) (ds : List ℕ) → Idle ≡ (if k then gap_leaves (if k then Collects c (Words ds) else Idle) else (if k then Collects c (Words ds) else Idle))
leaves_none true c ds = refl
leaves_none false c ds = refl

-- a terminal that is to receive words keeps their command
pub received_begins : {L : Type 0} (is_legal : L → Cell → Bool) (P : Description) (h : List Event) (b : Bus) (it : Receiving) (t : Terminal L) (r : Option Decoded) →
    receiving P h b ≡ Some it → StandsAt is_legal P h t → command_in r ≡ fresh_in (standing_on b t.in_progress) → (d : Decoded) × (cell : Cell) × (r ≡ Some d) × (d.cell ≡ Some cell) × (receiving_by P d.command (Some cell) ≡ Some it)
received_begins is_legal P h b it t r e stands fresh =
    let s = begun P h b it e in by_command r s (fresh ∙ ap fresh_in (stands.standing b ∙ s.standing))
  where
    by_command : (r : Option Decoded) (s : Begun P h b it) → command_in r ≡ Some s.command →
        (d : Decoded) × (cell : Cell) × (r ≡ Some d) × (d.cell ≡ Some cell) × (receiving_by P d.command (Some cell) ≡ Some it)
    by_command None s f = cc
    by_command (Some d) s f =
        let same : d.command ≡ s.command = cc in
        (d, s.cell, refl, d.of_command ∙ (ap cell_of same ∙ s.is), ap (λ c. receiving_by P c (Some s.cell)) same ∙ s.receives)

pub receives_words : (P : Description) (c : ℕ) (it : Receiving) (cell : Cell) → receiving_by P c (Some cell) ≡ Some it →
    ((x y : ℕ) → cell ≡ OwnReceive x y → ⊥) → ((x y : ℕ) → cell ≡ BroadReceive x y → ⊥) → ⊥
receives_words P c it (OwnReceive s n) e own broad = own s n refl
receives_words P c it (BroadReceive s n) e own broad = broad s n refl
receives_words P c it (OwnTransmit s n) e own broad = cc
receives_words P c it (OwnMode code) e own broad = cc
receives_words P c it (BroadMode code) e own broad = cc

-- its words at once, and the gap
pub received_stands : {L : Type 0} (is_legal : L → Cell → Bool) (P : Description) (h : List Event) (b : Bus) (it : Receiving) (ds ws : List ℕ) (d : Decoded) (cell : Cell) (t u : Terminal L) →
    receiving P h b ≡ Some it → length ds ≡ it.count → StandsAt is_legal P h t →
    fresh_in (standing_on b t.in_progress) ≡ Some d.command → d.cell ≡ Some cell →
    ((ds : List ℕ) (i : InProgress) → ((s n : ℕ) → wrapped t.settings.wrap s n (Done d.command cell ws) ≡ wrapped t.settings.wrap s n (Done d.command cell ds)) →
    Settles is_legal b (Done d.command cell ds) (record t { in_progress = i }) u) → ((q : Bus) → standing_on q u.in_progress ≡ Idle) →
    StandsAt is_legal P (Gap b ∷ history_after (data_words_on b ds) h) u
received_stands is_legal P h b it ds ws d cell t u e count stands fresh is k none =
    let s = begun P h b it e in
    let here : standing_on b t.in_progress ≡ Collects s.command (Words []) = stands.standing b ∙ s.standing in
    let command : d.command ≡ s.command = cc (ap fresh_in here, fresh) in
    let cells : cell ≡ s.cell = cc (ap cell_of command, d.of_command, is, s.is) in
    let done : Done d.command cell ds ≡ Done s.command s.cell ds = (λ j. Done (command j) (cells j) ds) in
    let there = gathered_stands is_legal P h (history_after (data_words_on b ds) h) b s.command ds t stands (begun_gathers P h b it ds s count) in
    let v = record t { in_progress = collecting b s.command ds } in
    let ends : ends_at_gap is_legal v b ≡ Done s.command s.cell ds =
    (λ j. gap_ends (stands.description j) (stands.registers j).flags.busy (if same_self b j then Collects s.command (Words ds) else Idle))
    ∙ ends_done P (flag_now (past P h) Busy) s.command s.cell ds s.free s.is s.legal (count ∙ sym s.count) in
    let unwrapped : (m n : ℕ) (ds : List ℕ) → wrapped t.settings.wrap m n (Done d.command cell ds) ≡ None =
    λ m n ds. (λ j. wrapped (stands.description j).wrap m n (Done (command j) (cells j) ds)) ∙ s.unwrapped m n ds in
    gap_stands is_legal P (history_after (data_words_on b ds) h) b v u (ap (λ r. is_on b (reply_bus r)) stands.reply ∙ s.silent) there
    (record {
      standing = λ q. none q ∙ leaves_none (same_bus q b) s.command ds;
      settles = subst (λ x. Settles is_legal b x v u) (done ∙ sym ends) (k ds (collecting b s.command ds) (λ m n. unwrapped m n ws ∙ sym (unwrapped m n ds)));
    })
