-- The complete test is complete: where two terminals send the same over that of the one, they are alike in all.
use Rattle.std.proofs.Common.{◌≡◌, ℕ, ◌+◌, ◌-◌, ◌<◌, ◌≤◌, ◌==◌, Bool, true, false, ◌||◌, if◌then◌else◌, Some, None, is_some, List, [], ◌∷◌, ◌++◌, map, replicate, refl, ap, sym, ◌∙◌, subst, arith}
use Rattle.std.proofs.lemmas.Bool.{eqb-true}
use Rattle.std.proofs.lemmas.Bool.Decides.{nat_tests}
use Rattle.bus_word.specs.declared.cell.Cell.{Cell}
use Rattle.bus_word.specs.declared.cell.Cell.TheVariants.{OwnReceive, OwnTransmit, BroadReceive, OwnMode, BroadMode}
use Rattle.bus_word.specs.Mode.{mode_row}
use Rattle.bus_word.specs.Cell.{is_data_place, is_allowed, allows_broadcast}
use Rattle.bus_word.specs.Status.{status_word}
use Rattle.bus_legal.specs.Description.{Description}
use Rattle.bus_legal.specs.Reach.{any_count, largest_count, transmits_at, can_wrap, can_transmit}
use Rattle.bus_legal.specs.Parts.{Parts, IsNormal, description_in}
use Rattle.bus_legal.proofs.SameNormals.{same_normals}
use Rattle.terminal_rules.specs.History.{Done}
use Rattle.terminal_rules.specs.Status.{accepts, reports_kept}
use Rattle.terminal_rules.specs.Same.{AreProper, Same}
use Rattle.terminal_rules.specs.Out.{sent_in, outs}
use Rattle.bus_word.proofs.Places.{place_from}
use Rattle.terminal_exchanges.specs.Exchanges.{Exchange}
use Rattle.terminal_exchanges.specs.ExchangeLaws.{AreAnswered, ending_of_exchange}
use Rattle.terminal_exchanges.specs.Sent.{sent}
use Rattle.terminal_exchanges.specs.Distinguish.{all_terminals, receive_zeros, transmit, mode_code, mode_code_with, ask, least_count, receives_own, receives_broadcast, receive_complement, shortest_transmit, sent_back, shown_subaddress}
use Rattle.terminal_exchanges.proofs.Distinguish.Commands.{IsTo, code_to_all, ask_to_all, moved, known_code}
use Rattle.terminal_exchanges.proofs.Distinguish.Last.{slot_at, bits_in, is_sent}
use Rattle.terminal_exchanges.proofs.Distinguish.Own.{is_reset_cell, ended, own_ends, own_sent, parts_by, status_told, last_command_sent}
use Rattle.terminal_exchanges.proofs.Distinguish.Address.{unmeant_silent, ask_unmeant}
use Rattle.terminal_exchanges.proofs.Distinguish.Broadcast.{is_of_broadcast, parts_after, broadcast_ends, status_after, status_heard, option_told}
use Rattle.terminal_exchanges.proofs.Distinguish.Cells.{own_told, broadcast_told}
use Rattle.terminal_exchanges.proofs.Distinguish.Words.{acceptance_told, vector_sent, bit_sent}
use Rattle.terminal_exchanges.proofs.Distinguish.Held.{word_sent, is_wordless, initial_held, IsReceived, held_first, word_back, wrap_told, complement_to_own, complement_to_all}
use Rattle.terminal_exchanges.proofs.Distinguish.Said.{any, all_any}
use Rattle.terminal_exchanges.proofs.Distinguish.Reached.{IsReached, normal-reached, same_number, Longest, longest, can_alike, ComeBack, come_back, Shows, shows, unallowed, legal_heard, acceptance_asked, vector_unasked, bit_unasked, initial_unsent, equal_where_alike}
use Rattle.bus_complete_test.specs.CompleteTest.{each_place, each_code, each_subaddress, option_tried, transmit_tried, receive_tried, code_slots, own_code_tried, broadcast_receive_tried, broadcast_code_tried, broadcasts_tried, wraparound_tried, tried, complete_test, CompleteTestLaw}
use Rattle.bus_complete_test.proofs.SlotWalk.{IsSound, AreSound, answered_more, sound_proper, AlikeInEach, walk}
use Rattle.bus_complete_test.proofs.Played.{Played, alike_left, played_left, played_right, played_next, played_anyhow, played_each, played_place}
use Rattle.bus_complete_test.proofs.Sound.{ask_to, option_sound, transmit_to, transmit_sound, transmits_sound, receive_zeros_to, receive_sound, receives_sound, own_code_to, own_code_slots, own_code_sound, own_codes_sound, zeros_to_all, broadcast_receive_sound, broadcast_receives_sound, broadcast_code_sound, broadcasts_sound, code_below, own_back_sound, broadcast_back_sound, wraparound_sound, tried_sound}
use Rattle.bus_complete_test.proofs.Length.{test_length}

module _ (P Q : Description) (p : IsReached P) (q : IsReached Q) (e : sent P (complete_test P) ≡ sent Q (complete_test P)) where
  all : AlikeInEach P Q [] (tried P)
  all = walk P Q [] (tried P) tt tt tt (tried_sound P p) e

  abbrev after_option : List Exchange
  after_option = each_place (transmit_tried P) ++ (each_place (receive_tried P) ++ (each_code (own_code_tried P) ++ (broadcasts_tried P ++ each_subaddress (wraparound_tried P))))

  abbrev option_asked : Exchange
  option_asked = mode_code all_terminals 2

  opening : AlikeInEach P Q [] (option_tried P)
  opening = alike_left P Q [] (option_tried P) after_option all

  answered : (D : Description) → AreAnswered D (option_asked ∷ [])
  answered D = answered_more D [] option_asked (option_sound P p.low).0 tt

  -- 1: the address
  asked : slot_at 0 P (option_asked ∷ []) (ask P.address) ≡ slot_at 0 Q (option_asked ∷ []) (ask P.address)
  asked = opening.1.0 0 ((ask_to P p.low).some_slots p.low)

  address : P.address ≡ Q.address
  address = same_number P.address Q.address (λ other.
      let x : Exchange = ask P.address in
      let to : IsTo P.address (Some (OwnMode 2)) x = ask_to P p.low in
      let wrong : true ≡ false =
      sym (ap is_sent (own_sent P (option_asked ∷ []) x (OwnMode 2) true 0 p.low to p.asks (answered P) refl))
      ∙ (ap is_sent asked ∙ unmeant_silent Q (option_asked ∷ []) x (answered Q) (ask_unmeant P Q p.low other)) in
      cc)

  -- what goes to the address of the one goes to that of the other
  there : (cell : Cell) (x : Exchange) → IsTo P.address (Some cell) x → IsTo Q.address (Some cell) x
  there cell x to = moved P.address Q.address (Some cell) x address to

  -- 2: the broadcast option
  broadcast : P.broadcast ≡ Q.broadcast
  broadcast =
      option_told P.address P.broadcast Q.broadcast
      (sym (status_after P [] option_asked (ask P.address) None p.low p.asks ask_to_all refl (ask_to P p.low) (λ _. refl) tt)
      ∙ (ap bits_in asked
      ∙ (status_after Q [] option_asked (ask P.address) None q.low q.asks ask_to_all refl (there (OwnMode 2) (ask P.address) (ask_to P p.low)) (λ _. refl) tt
      ∙ ap (λ a. status_word a (parts_after Q.broadcast false false)) (sym address))))

  -- a cell is legal alike, where it is if some command has it
  everywhere : (cell : Cell) → (is_allowed cell ≡ true → P.legal cell ≡ Q.legal cell) → P.legal cell ≡ Q.legal cell
  everywhere cell h = by_allowed (is_allowed cell) refl
    where
      by_allowed : (b : Bool) → is_allowed cell ≡ b → P.legal cell ≡ Q.legal cell
      by_allowed true e = h e
      by_allowed false e = unallowed P cell p e ∙ sym (unallowed Q cell q e)

  own_parts : (xs : List Exchange) (x : Exchange) (cell : Cell) → IsTo P.address (Some cell) x → reports_kept cell ≡ false → AreAnswered P xs → AreAnswered Q xs → slot_at 0 P xs x ≡ slot_at 0 Q xs x →
      status_word P.address (parts_by (P.legal cell) (accepts P.accept cell)) ≡ status_word P.address (parts_by (Q.legal cell) (accepts Q.accept cell))
  own_parts xs x cell to forms a b same =
      sym (status_told P xs x cell p.low to (λ reports. (let wrong : true ≡ false = sym reports ∙ forms in cc)) a)
      ∙ (ap bits_in same
      ∙ (status_told Q xs x cell q.low (there cell x to) (λ reports. (let wrong : true ≡ false = sym reports ∙ forms in cc)) b
      ∙ ap (λ a. status_word a (parts_by (Q.legal cell) (accepts Q.accept cell))) (sym address)))

  own_alike : (xs : List Exchange) (x : Exchange) (cell : Cell) → IsTo P.address (Some cell) x → reports_kept cell ≡ false → AreAnswered P xs → AreAnswered Q xs → slot_at 0 P xs x ≡ slot_at 0 Q xs x → P.legal cell ≡ Q.legal cell
  own_alike xs x cell to forms a b same =
      own_told P.address (P.legal cell) (Q.legal cell) (accepts P.accept cell) (accepts Q.accept cell) (own_parts xs x cell to forms a b same)

  -- 4: own transmit cells
  from_transmits : Played is_wordless P Q after_option
  from_transmits =
      played_right is_wordless P Q (option_tried P) after_option (option_sound P p.low) refl
      (record { before = []; first = tt; second = tt; passed = refl; alike = all })

  transmits : (s n : ℕ) → is_data_place s n ≡ true → Played is_wordless P Q (transmit_tried P s n)
  transmits =
      played_place is_wordless P Q (transmit_tried P) (λ s n place. transmit_sound P s n p.low place) (λ s n. refl)
      (played_left is_wordless P Q (each_place (transmit_tried P)) _ from_transmits)

  own_transmit : (s n : ℕ) → P.legal (OwnTransmit s n) ≡ Q.legal (OwnTransmit s n)
  own_transmit s n = everywhere (OwnTransmit s n) (λ place.
      let t : Played is_wordless P Q (transmit_tried P s n) = transmits s n place in
      own_alike t.before (transmit P.address s n (n + 1)) (OwnTransmit s n) (transmit_to P s n p.low place) refl t.first t.second (t.alike.0 0 (omega arith)))

  -- 11: the words held at power-up
  initial : (s i : ℕ) → P.initial s i ≡ Q.initial s i
  initial s i = by_sent (can_transmit P s i) refl
    where
      alike : can_transmit P s i ≡ can_transmit Q s i
      alike = can_alike P Q s i (own_transmit s)

      by_sent : (b : Bool) → can_transmit P s i ≡ b → P.initial s i ≡ Q.initial s i
      by_sent false can = initial_unsent P s i p can ∙ sym (initial_unsent Q s i q (sym alike ∙ can))
      by_sent true can =
          let m : ℕ = largest_count (transmits_at P s) in
          let sends : Longest P s i = longest P s i can in
          let upto : i ≤ m = sends.upto in
          let place : is_data_place s m ≡ true = p.allowed (OwnTransmit s m) sends.legal in
          let t : Played is_wordless P Q (transmit_tried P s m) = transmits s m place in
          let x : Exchange = transmit P.address s m (m + 1) in
          let to : IsTo P.address (Some (OwnTransmit s m)) x = transmit_to P s m p.low place in
          sym (word_sent P t.before x s m i p.low to sends.legal t.first sends.from upto ∙ initial_held P t.before s i t.passed)
          ∙ (ap bits_in (t.alike.0 i (omega arith))
          ∙ (word_sent Q t.before x s m i q.low (there (OwnTransmit s m) x to) (sym (own_transmit s m) ∙ sends.legal) t.second sends.from upto
          ∙ initial_held Q t.before s i t.passed))

  -- 3: own receive cells
  abbrev after_transmits : List Exchange
  after_transmits = each_place (receive_tried P) ++ (each_code (own_code_tried P) ++ (broadcasts_tried P ++ each_subaddress (wraparound_tried P)))

  from_receives : Played any P Q after_transmits
  from_receives = played_next P Q (each_place (transmit_tried P)) after_transmits (transmits_sound P p.low) (played_anyhow is_wordless P Q after_option from_transmits)

  own_receive : (s n : ℕ) → P.legal (OwnReceive s n) ≡ Q.legal (OwnReceive s n)
  own_receive s n = everywhere (OwnReceive s n) (λ place.
      let t : Played any P Q (receive_tried P s n) =
      played_place any P Q (receive_tried P) (λ s n place. receive_sound P s n p.low place) (λ s n. all_any (receive_tried P s n))
      (played_left any P Q (each_place (receive_tried P)) _ from_receives) s n place in
      let to : IsTo P.address (Some (OwnReceive s n)) (receive_zeros P.address s n) = receive_zeros_to P s n p.low place in
      own_alike t.before (receive_zeros P.address s n) (OwnReceive s n) to refl t.first t.second (t.alike.0 0 (to.some_slots p.low)))

  -- 6: own mode codes
  abbrev after_receives : List Exchange
  after_receives = each_code (own_code_tried P) ++ (broadcasts_tried P ++ each_subaddress (wraparound_tried P))

  from_codes : Played any P Q after_receives
  from_codes = played_next P Q (each_place (receive_tried P)) after_receives (receives_sound P p.low) from_receives

  abbrev code_exchange : ℕ → Exchange
  code_exchange code = mode_code_with (code_slots code) P.address code

  codes : (code : ℕ) → is_some (mode_row code) ≡ true → Played any P Q (code_exchange code ∷ [])
  codes code known =
      subst (λ (b : Bool). Played any P Q (if b then code_exchange code ∷ [] else [])) known
      (played_each any P Q 0 32 (own_code_tried P) (λ code from upto. own_code_sound P code p.low) (λ code. all_any (own_code_tried P code))
      (played_left any P Q (each_code (own_code_tried P)) _ from_codes) code (omega arith) (code_below code known))

  code_parts : (code : ℕ) → is_some (mode_row code) ≡ true → reports_kept (OwnMode code) ≡ false →
      status_word P.address (parts_by (P.legal (OwnMode code)) (accepts P.accept (OwnMode code))) ≡ status_word P.address (parts_by (Q.legal (OwnMode code)) (accepts Q.accept (OwnMode code)))
  code_parts code known forms =
      let t : Played any P Q (code_exchange code ∷ []) = codes code known in
      let to : IsTo P.address (Some (OwnMode code)) (code_exchange code) = own_code_to P code p.low known in
      own_parts t.before (code_exchange code) (OwnMode code) to forms t.first t.second (t.alike.0 0 (to.some_slots p.low))

  last_command : P.legal (OwnMode 18) ≡ Q.legal (OwnMode 18)
  last_command =
      let t : Played any P Q (code_exchange 18 ∷ []) = codes 18 refl in
      let to : IsTo P.address (Some (OwnMode 18)) (code_exchange 18) = own_code_to P 18 p.low refl in
      let two : (code_exchange 18).slots ≡ 2 = own_code_slots P 18 p.low in
      sym (last_command_sent P t.before (code_exchange 18) p.low to t.first)
      ∙ (ap is_sent (t.alike.0 1 (omega arith))
      ∙ last_command_sent Q t.before (code_exchange 18) q.low (there (OwnMode 18) (code_exchange 18) to) t.second)

  own_code : (code : ℕ) → P.legal (OwnMode code) ≡ Q.legal (OwnMode code)
  own_code code = everywhere (OwnMode code) (λ known. by_status (code == 2) (code == 18) refl refl known)
    where
      by_status : (s l : Bool) → (code == 2) ≡ s → (code == 18) ≡ l → is_some (mode_row code) ≡ true → P.legal (OwnMode code) ≡ Q.legal (OwnMode code)
      by_status true l is_2 is_18 known = let at : code ≡ 2 = eqb-true code 2 is_2 in ap (λ c. P.legal (OwnMode c)) at ∙ (p.asks ∙ (sym q.asks ∙ ap (λ c. Q.legal (OwnMode c)) (sym at)))
      by_status false true is_2 is_18 known = let at : code ≡ 18 = eqb-true code 18 is_18 in ap (λ c. P.legal (OwnMode c)) at ∙ (last_command ∙ ap (λ c. Q.legal (OwnMode c)) (sym at))
      by_status false false is_2 is_18 known =
          own_told P.address (P.legal (OwnMode code)) (Q.legal (OwnMode code)) (accepts P.accept (OwnMode code)) (accepts Q.accept (OwnMode code))
          (code_parts code known (λ j. is_2 j || is_18 j))

  -- 8: acceptance of dynamic bus control
  acceptance : P.accept ≡ Q.accept
  acceptance = by_legal (P.legal (OwnMode 0)) refl
    where
      unasked : (D : Description) → IsReached D → D.legal (OwnMode 0) ≡ false → D.accept ≡ false
      unasked D d none = by_accept D.accept refl
        where
          by_accept : (b : Bool) → D.accept ≡ b → b ≡ false
          by_accept true e = sym (acceptance_asked D d e) ∙ none
          by_accept false e = refl

      by_legal : (l : Bool) → P.legal (OwnMode 0) ≡ l → P.accept ≡ Q.accept
      by_legal true legal =
          acceptance_told P.address P.accept Q.accept
          (ap (λ l. status_word P.address (parts_by l P.accept)) (sym legal)
          ∙ (code_parts 0 refl refl
          ∙ ap (λ l. status_word P.address (parts_by l Q.accept)) (sym (own_code 0) ∙ legal)))
      by_legal false none = unasked P p none ∙ sym (unasked Q q (sym (own_code 0) ∙ none))

  -- 9: the vector word
  vector : P.vector ≡ Q.vector
  vector = by_legal (P.legal (OwnMode 16)) refl
    where
      by_legal : (l : Bool) → P.legal (OwnMode 16) ≡ l → P.vector ≡ Q.vector
      by_legal true legal =
          let t : Played any P Q (code_exchange 16 ∷ []) = codes 16 refl in
          let to : IsTo P.address (Some (OwnMode 16)) (code_exchange 16) = own_code_to P 16 p.low refl in
          let two : (code_exchange 16).slots ≡ 2 = own_code_slots P 16 p.low in
          sym (vector_sent P t.before (code_exchange 16) p.low to legal t.first)
          ∙ (ap bits_in (t.alike.0 1 (omega arith))
          ∙ vector_sent Q t.before (code_exchange 16) q.low (there (OwnMode 16) (code_exchange 16) to) (sym (own_code 16) ∙ legal) t.second)
      by_legal false none = vector_unasked P p none ∙ sym (vector_unasked Q q (sym (own_code 16) ∙ none))

  -- 10: the BIT word
  bit : P.bit ≡ Q.bit
  bit = by_legal (P.legal (OwnMode 19)) refl
    where
      by_legal : (l : Bool) → P.legal (OwnMode 19) ≡ l → P.bit ≡ Q.bit
      by_legal true legal =
          let t : Played any P Q (code_exchange 19 ∷ []) = codes 19 refl in
          let to : IsTo P.address (Some (OwnMode 19)) (code_exchange 19) = own_code_to P 19 p.low refl in
          let two : (code_exchange 19).slots ≡ 2 = own_code_slots P 19 p.low in
          sym (bit_sent P t.before (code_exchange 19) p.low to legal t.first)
          ∙ (ap bits_in (t.alike.0 1 (omega arith))
          ∙ bit_sent Q t.before (code_exchange 19) q.low (there (OwnMode 19) (code_exchange 19) to) (sym (own_code 19) ∙ legal) t.second)
      by_legal false none = bit_unasked P p none ∙ sym (bit_unasked Q q (sym (own_code 19) ∙ none))

  -- 5 and 7: broadcast cells
  abbrev after_codes : List Exchange
  after_codes = broadcasts_tried P ++ each_subaddress (wraparound_tried P)

  from_broadcasts : Played any P Q after_codes
  from_broadcasts = played_next P Q (each_code (own_code_tried P)) after_codes (own_codes_sound P p.low) from_codes

  heard : P.broadcast ≡ true → Played any P Q (each_place (broadcast_receive_tried P) ++ each_code (broadcast_code_tried P))
  heard hears =
      subst (λ (b : Bool). Played any P Q (if b then each_place (broadcast_receive_tried P) ++ each_code (broadcast_code_tried P) else [])) hears
      (played_left any P Q (broadcasts_tried P) (each_subaddress (wraparound_tried P)) from_broadcasts)

  -- a broadcast, with the status that is asked for after it
  heard_alike : (x : Exchange) (cell : Cell) → P.broadcast ≡ true → IsTo all_terminals (Some cell) x → is_of_broadcast (Some cell) ≡ true → IsSound x → Played any P Q (x ∷ ask P.address ∷ []) → P.legal cell ≡ Q.legal cell
  heard_alike x cell hears to by_broadcast sound t =
      let asks : IsTo P.address (Some (OwnMode 2)) (ask P.address) = ask_to P p.low in
      broadcast_told P.address (P.legal cell) (Q.legal cell) (is_reset_cell cell)
      (sym (status_heard P t.before x (ask P.address) cell p.low hears p.asks to by_broadcast asks t.first)
      ∙ (ap bits_in (t.alike.1.0 0 (asks.some_slots p.low))
      ∙ (status_heard Q t.before x (ask P.address) cell q.low (sym broadcast ∙ hears) q.asks to by_broadcast (there (OwnMode 2) (ask P.address) asks) t.second
      ∙ ap (λ a. status_word a (parts_after true (Q.legal cell) (is_reset_cell cell))) (sym address))))

  unheard : (D : Description) (cell : Cell) → IsReached D → (D.legal cell ≡ true → D.broadcast ≡ true) → D.broadcast ≡ false → D.legal cell ≡ false
  unheard D cell d h none = by_legal (D.legal cell) refl
    where
      by_legal : (l : Bool) → D.legal cell ≡ l → l ≡ false
      by_legal true e = sym (h e) ∙ none
      by_legal false e = refl

  broadcast_receive : (s n : ℕ) → P.legal (BroadReceive s n) ≡ Q.legal (BroadReceive s n)
  broadcast_receive s n = everywhere (BroadReceive s n) (λ place. by_option P.broadcast refl place)
    where
      by_option : (b : Bool) → P.broadcast ≡ b → is_data_place s n ≡ true → P.legal (BroadReceive s n) ≡ Q.legal (BroadReceive s n)
      by_option true hears place =
          heard_alike (receive_zeros all_terminals s n) (BroadReceive s n) hears (zeros_to_all s n place) refl (broadcast_receive_sound P s n p.low place).0
          (played_place any P Q (broadcast_receive_tried P) (λ s n place. broadcast_receive_sound P s n p.low place) (λ s n. all_any (broadcast_receive_tried P s n))
          (played_left any P Q (each_place (broadcast_receive_tried P)) (each_code (broadcast_code_tried P)) (heard hears)) s n place)
      by_option false none place =
          unheard P (BroadReceive s n) p (legal_heard P (BroadReceive s n) p) none
          ∙ sym (unheard Q (BroadReceive s n) q (legal_heard Q (BroadReceive s n) q) (sym broadcast ∙ none))

  broadcast_code : (code : ℕ) → P.legal (BroadMode code) ≡ Q.legal (BroadMode code)
  broadcast_code code = everywhere (BroadMode code) (λ allowed. by_option P.broadcast refl allowed)
    where
      by_option : (b : Bool) → P.broadcast ≡ b → allows_broadcast (mode_row code) ≡ true → P.legal (BroadMode code) ≡ Q.legal (BroadMode code)
      by_option true hears allowed =
          let x : Exchange = mode_code all_terminals code in
          let sound : AreSound (x ∷ ask P.address ∷ []) =
          subst (λ (b : Bool). AreSound (if b then x ∷ ask P.address ∷ [] else [])) allowed (broadcast_code_sound P code p.low) in
          heard_alike x (BroadMode code) hears (code_to_all code allowed) refl sound.0
          (subst (λ (b : Bool). Played any P Q (if b then x ∷ ask P.address ∷ [] else [])) allowed
          (played_each any P Q 0 32 (broadcast_code_tried P) (λ code from upto. broadcast_code_sound P code p.low) (λ code. all_any (broadcast_code_tried P code))
          (played_next P Q (each_place (broadcast_receive_tried P)) (each_code (broadcast_code_tried P))
          (broadcast_receives_sound P p.low) (heard hears))
          code (omega arith) (code_below code (known_code (mode_row code) allowed))))
      by_option false none allowed =
          unheard P (BroadMode code) p (legal_heard P (BroadMode code) p) none
          ∙ sym (unheard Q (BroadMode code) q (legal_heard Q (BroadMode code) q) (sym broadcast ∙ none))

  legal : (cell : Cell) → P.legal cell ≡ Q.legal cell
  legal (OwnReceive s n) = own_receive s n
  legal (OwnTransmit s n) = own_transmit s n
  legal (BroadReceive s n) = broadcast_receive s n
  legal (OwnMode code) = own_code code
  legal (BroadMode code) = broadcast_code code

  -- 12: wraparound
  wraps_at : (s : ℕ) → can_wrap P s ≡ true → Played any P Q (sent_back P s)
  wraps_at s wraps =
      let m : ℕ = least_count (transmits_at P s) in
      let place : is_data_place s m ≡ true = p.allowed (OwnTransmit s m) (come_back P s wraps).sends in
      subst (λ (b : Bool). Played any P Q (if b then sent_back P s else [])) wraps
      (played_each any P Q 1 30 (wraparound_tried P) (λ s from upto. wraparound_sound P s p) (λ s. all_any (wraparound_tried P s))
      (played_next P Q (broadcasts_tried P) (each_subaddress (wraparound_tried P)) (broadcasts_sound P p.low) from_broadcasts)
      s (from s m place) (upto s m place))
    where
      from : (s m : ℕ) → is_data_place s m ≡ true → 1 ≤ s
      from s m place = grind (arith, nat_tests)

      upto : (s m : ℕ) → is_data_place s m ≡ true → s < 1 + 30
      upto s m place = grind (arith, nat_tests)

  -- the word that comes back tells whether this is the wraparound subaddress
  back_alike : (x : Exchange) (s m : ℕ) (cell : Cell) (ds : List ℕ) → IsSound x → IsReceived s cell →
      ending_of_exchange P x ≡ Done x.command cell ((65535 - P.initial s 1) ∷ ds) → ending_of_exchange Q x ≡ Done x.command cell ((65535 - P.initial s 1) ∷ ds) →
      is_data_place s m ≡ true → P.legal (OwnTransmit s m) ≡ true → Played any P Q (x ∷ transmit P.address s m (m + 1) ∷ []) → (s == P.wrap) ≡ (s == Q.wrap)
  back_alike x s m cell ds sound received p_ends q_ends place sends t =
      let y : Exchange = transmit P.address s m (m + 1) in
      let to : IsTo P.address (Some (OwnTransmit s m)) y = transmit_to P s m p.low place in
      let some : 1 ≤ m = place_from s m place in
      wrap_told (s == P.wrap) (s == Q.wrap) (P.initial s 1)
      (sym (word_back P t.before x y s cell m (65535 - P.initial s 1) ds p.low (answered_more P t.before x sound t.first) p_ends received to some sends)
      ∙ (ap bits_in (t.alike.1.0 1 (omega arith))
      ∙ (word_back Q t.before x y s cell m (65535 - P.initial s 1) ds q.low (answered_more Q t.before x sound t.second) q_ends received (there (OwnTransmit s m) y to) some (sym (own_transmit s m) ∙ sends)
      ∙ ap (held_first (s == Q.wrap) (65535 - P.initial s 1)) (sym (initial s 1)))))

  told_at : (s : ℕ) → can_wrap P s ≡ true → (s == P.wrap) ≡ (s == Q.wrap)
  told_at s wraps = by_own (any_count (receives_own P s)) refl (wraps_at s wraps)
    where
      by_own : (b : Bool) → any_count (receives_own P s) ≡ b →
          Played any P Q ((if b then receive_complement P s P.address (least_count (receives_own P s)) else receive_complement P s all_terminals (least_count (receives_broadcast P s))) ∷ shortest_transmit P s ∷ []) →
          (s == P.wrap) ≡ (s == Q.wrap)
      by_own true e t =
          let back : ComeBack P s = come_back P s wraps in
          let n : ℕ = least_count (receives_own P s) in
          let m : ℕ = least_count (transmits_at P s) in
          let x : Exchange = receive_complement P s P.address n in
          let place : is_data_place s n ≡ true = p.allowed (OwnReceive s n) (back.own e) in
          let place_m : is_data_place s m ≡ true = p.allowed (OwnTransmit s m) back.sends in
          let to : IsTo P.address (Some (OwnReceive s n)) x = complement_to_own P s n p.low place in
          back_alike x s m (OwnReceive s n) (replicate (n - 1) 0) (own_back_sound P s n m p.low place place_m).0 refl
          (own_ends P x (OwnReceive s n) to ∙ ap (λ l. ended l x (OwnReceive s n)) (back.own e))
          (own_ends Q x (OwnReceive s n) (there (OwnReceive s n) x to) ∙ ap (λ l. ended l x (OwnReceive s n)) (sym (own_receive s n) ∙ back.own e))
          place_m back.sends t
      by_own false e t =
          let back : ComeBack P s = come_back P s wraps in
          let n : ℕ = least_count (receives_broadcast P s) in
          let m : ℕ = least_count (transmits_at P s) in
          let x : Exchange = receive_complement P s all_terminals n in
          let hears : P.broadcast ≡ true = (back.heard e).0 in
          let receives : P.legal (BroadReceive s n) ≡ true = (back.heard e).1 in
          let place : is_data_place s n ≡ true = p.allowed (BroadReceive s n) receives in
          let place_m : is_data_place s m ≡ true = p.allowed (OwnTransmit s m) back.sends in
          let to : IsTo all_terminals (Some (BroadReceive s n)) x = complement_to_all P s n place in
          back_alike x s m (BroadReceive s n) (replicate (n - 1) 0) (broadcast_back_sound P s n m p.low place place_m).0 refl
          (broadcast_ends P x (BroadReceive s n) p.low hears to ∙ ap (λ l. ended l x (BroadReceive s n)) receives)
          (broadcast_ends Q x (BroadReceive s n) q.low (sym broadcast ∙ hears) to ∙ ap (λ l. ended l x (BroadReceive s n)) (sym (broadcast_receive s n) ∙ receives))
          place_m back.sends t

  wraparound : P.wrap ≡ Q.wrap
  wraparound = same_number P.wrap Q.wrap (λ other.
      let s : ℕ = shown_subaddress P.wrap Q.wrap in
      let shown : Shows P Q s =
      shows P Q p q other
      (record {
        broadcast = broadcast;
        own_receive = own_receive s;
        own_transmit = own_transmit s;
        broadcast_receive = broadcast_receive s;
        initial = initial s 1;
      }) in
      shown.differ (told_at s shown.wraps))

  pub same_where_sent : P ≡ Q
  same_where_sent =
      equal_where_alike P Q p q address broadcast (λ cell allowed. legal cell) acceptance vector bit (λ s i place. initial s i) wraparound

same_parts : (v w : Parts) → IsNormal v → IsNormal w → sent (description_in w) (complete_test (description_in v)) ≡ sent (description_in v) (complete_test (description_in v)) → v ≡ w
same_parts v w p q e = same_normals v w p q (same_where_sent (description_in v) (description_in w) (normal-reached v p) (normal-reached w q) (sym e))

test_proper : (v : Parts) → IsNormal v → AreProper (complete_test (description_in v))
test_proper v p = sound_proper (tried (description_in v)) (tried_sound (description_in v) (normal-reached v p))

same_terminals : (v w : Parts) → v ≡ w → Same (description_in w) (description_in v)
same_terminals v w same es proper = ap (λ u. outs (description_in u) es) (sym same)

-- the law: equal replies over the test make equal what can be reached, and that makes all replies equal
pub complete_test_law : CompleteTestLaw
complete_test_law = record {
  proper = test_proper;
  short = λ v p. test_length (description_in v) (normal-reached v p);
  complete = λ v w p q. (
    (λ e. same_parts v w p q (ap (map sent_in) e)),
    (λ same. ap (λ u. outs (description_in u) (complete_test (description_in v))) (sym same)),
  );
  seen = λ v w p q. (
    (λ e. same_terminals v w (same_parts v w p q e)),
    (λ same. ap (map sent_in) (same (complete_test (description_in v)) (test_proper v p))),
  );
}
