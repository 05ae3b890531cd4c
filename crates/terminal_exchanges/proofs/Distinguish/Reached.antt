-- Two descriptions with nothing in them that can't be reached, alike in what comes before and different in one
-- thing, are told apart by its script.
use Rattle.std.proofs.Common.{◌≡◌, ℕ, zero, suc, ◌≤◌, ◌==◌, Bool, true, false, ◌≢◌, ◌&&◌, ◌||◌, cond, nat_le, if◌then◌else◌, ◌⊎◌, inl, inr, [], ◌∷◌, refl, ap, sym, ◌∙◌, arith, eq-eqb}
use Rattle.std.proofs.lemmas.Bool.{and_parts, eqb-true}
use Rattle.std.proofs.lemmas.Bool.Decides.{nat_tests}
use Rattle.bus_word.specs.declared.cell.Cell.{Cell}
use Rattle.bus_word.specs.declared.cell.Cell.TheVariants.{OwnReceive, OwnTransmit, BroadReceive, OwnMode, BroadMode}
use Rattle.bus_word.specs.Cell.{is_data_place, is_allowed}
use Rattle.bus_legal.specs.Description.{Description}
use Rattle.bus_legal.specs.Reach.{any_to, any_count, largest_count, is_heard, transmits_at, receives_at, can_wrap, can_transmit, reach}
use Rattle.bus_legal.specs.Parts.{Parts, description_in, IsNormal}
use Rattle.bus_legal.proofs.Descriptions.{same_description}
use Rattle.bus_legal.proofs.Counts.{sent_place, largest_to-passes, any_to-or, any_to-and}
use Rattle.bus_legal.proofs.NormalLaws.{reach-normal, required-legal}
use Rattle.terminal_exchanges.specs.Exchanges.{script_of}
use Rattle.terminal_exchanges.specs.Distinguish.{TellsApart, all_terminals, least_to, least_count, address_script, option_script, own_receive_script, own_transmit_script, broadcast_receive_script, own_code_script, broadcast_code_script, acceptance_script, vector_script, bit_script, initial_script, receives_own, receives_broadcast, receive_complement, shortest_transmit, wraparound_script, shown_subaddress}
use Rattle.terminal_exchanges.proofs.Distinguish.Address.{address_tells}
use Rattle.terminal_exchanges.proofs.Distinguish.Broadcast.{option_tells}
use Rattle.terminal_exchanges.proofs.Distinguish.Cells.{own_receive_tells, own_transmit_tells, broadcast_receive_tells, own_code_tells, broadcast_code_tells}
use Rattle.terminal_exchanges.proofs.Distinguish.Words.{acceptance_tells, vector_tells, bit_tells}
use Rattle.terminal_exchanges.proofs.Distinguish.Held.{initial_tells, own_wraparound_tells, broadcast_wraparound_tells}

-- Nothing is in the description that can't be reached, transmit status word is legal, and every legal cell is one
-- that some command has.
pub record IsReached (P : Description) : Type 0 where
  pub low : P.address ≤ 30
  pub all : reach P ≡ P
  pub asks : P.legal (OwnMode 2) ≡ true
  pub allowed : (cell : Cell) → P.legal cell ≡ true → is_allowed cell ≡ true

-- the description of a `Normal` is such a one
pub normal-reached : (v : Parts) → IsNormal v → IsReached (description_in v)
normal-reached v n = record {
  low = n.address;
  all = reach-normal v n;
  asks = required-legal v n 2 refl;
  allowed = λ cell legal. (and_parts (is_allowed cell) _ legal).0;
}

-- numbers that can't differ are equal
pub same_number : (a b : ℕ) → (a ≢ b → ⊥) → a ≡ b
same_number a b h = by_test (a == b) refl
  where
    by_test : (t : Bool) → (a == b) ≡ t → a ≡ b
    by_test true e = eqb-true a b e
    by_test false e = absurd (h (λ same. let wrong : true ≡ false = sym (eq-eqb a b same) ∙ e in cc))

either_true : (a b : Bool) → a ≢ b → (a ≡ true) ⊎ (b ≡ true)
either_true true b other = inl refl
either_true false true other = inr refl
either_true false false other = absurd (other refl)

-- truth values that differ, where each asks for another: the others are true where they are alike
asked_for : (a b x y : Bool) → a ≢ b → x ≡ y → (a ≡ true → x ≡ true) → (b ≡ true → y ≡ true) → x ≡ true
asked_for a b x y other alike f g = by_side (either_true a b other)
  where
    by_side : (a ≡ true) ⊎ (b ≡ true) → x ≡ true
    by_side (inl e) = f e
    by_side (inr e) = alike ∙ g e

-- numbers that differ are not both 0
asked_for_word : (a b : ℕ) (x : Bool) → a ≢ b → (x ≡ false → a ≡ 0) → (x ≡ false → b ≡ 0) → x ≡ true
asked_for_word a b true other f g = refl
asked_for_word a b false other f g = absurd (other (f refl ∙ sym (g refl)))

allowed_cell : (P Q : Description) (cell : Cell) → IsReached P → IsReached Q → P.legal cell ≢ Q.legal cell → is_allowed cell ≡ true
allowed_cell P Q cell p q other = asked_for (P.legal cell) (Q.legal cell) (is_allowed cell) (is_allowed cell) other refl (p.allowed cell) (q.allowed cell)

pub legal_heard : (P : Description) (cell : Cell) → IsReached P → P.legal cell ≡ true → is_heard P.broadcast cell ≡ true
legal_heard P cell p legal = (and_parts (is_heard P.broadcast cell) (P.legal cell) (ap (λ (D : Description). D.legal cell) p.all ∙ legal)).0

pub apart_by_address : (P Q : Description) → IsReached P → IsReached Q → P.address ≢ Q.address → TellsApart P Q (address_script P.address)
apart_by_address P Q p q other = address_tells P Q p.low p.asks other

pub apart_by_option : (P Q : Description) → IsReached P → IsReached Q → P.address ≡ Q.address → P.broadcast ≢ Q.broadcast → TellsApart P Q (option_script P.address)
apart_by_option P Q p q same other = option_tells P Q p.low same p.asks q.asks other

pub apart_by_own_receive : (P Q : Description) (s n : ℕ) → IsReached P → IsReached Q → P.address ≡ Q.address → P.legal (OwnReceive s n) ≢ Q.legal (OwnReceive s n) →
    TellsApart P Q (own_receive_script P.address s n)
apart_by_own_receive P Q s n p q same other = own_receive_tells P Q s n p.low same (allowed_cell P Q (OwnReceive s n) p q other) other

pub apart_by_own_transmit : (P Q : Description) (s n : ℕ) → IsReached P → IsReached Q → P.address ≡ Q.address → P.legal (OwnTransmit s n) ≢ Q.legal (OwnTransmit s n) →
    TellsApart P Q (own_transmit_script P.address s n)
apart_by_own_transmit P Q s n p q same other = own_transmit_tells P Q s n p.low same (allowed_cell P Q (OwnTransmit s n) p q other) other

pub apart_by_broadcast_receive : (P Q : Description) (s n : ℕ) → IsReached P → IsReached Q → P.address ≡ Q.address → P.broadcast ≡ Q.broadcast →
    P.legal (BroadReceive s n) ≢ Q.legal (BroadReceive s n) → TellsApart P Q (broadcast_receive_script P.address s n)
apart_by_broadcast_receive P Q s n p q same option other =
    let cell : Cell = BroadReceive s n in
    let hears : P.broadcast ≡ true = asked_for (P.legal cell) (Q.legal cell) P.broadcast Q.broadcast other option (legal_heard P cell p) (legal_heard Q cell q) in
    broadcast_receive_tells P Q s n p.low same hears (sym option ∙ hears) p.asks q.asks (allowed_cell P Q cell p q other) other

pub apart_by_own_code : (P Q : Description) (code : ℕ) → IsReached P → IsReached Q → P.address ≡ Q.address → P.legal (OwnMode code) ≢ Q.legal (OwnMode code) →
    TellsApart P Q (own_code_script P.address code)
apart_by_own_code P Q code p q same other = own_code_tells P Q code p.low same (allowed_cell P Q (OwnMode code) p q other) other

pub apart_by_broadcast_code : (P Q : Description) (code : ℕ) → IsReached P → IsReached Q → P.address ≡ Q.address → P.broadcast ≡ Q.broadcast →
    P.legal (BroadMode code) ≢ Q.legal (BroadMode code) → TellsApart P Q (broadcast_code_script P.address code)
apart_by_broadcast_code P Q code p q same option other =
    let cell : Cell = BroadMode code in
    let hears : P.broadcast ≡ true = asked_for (P.legal cell) (Q.legal cell) P.broadcast Q.broadcast other option (legal_heard P cell p) (legal_heard Q cell q) in
    broadcast_code_tells P Q code p.low same hears (sym option ∙ hears) p.asks q.asks (allowed_cell P Q cell p q other) other

pub acceptance_asked : (P : Description) → IsReached P → P.accept ≡ true → P.legal (OwnMode 0) ≡ true
acceptance_asked P p e = (and_parts (P.legal (OwnMode 0)) P.accept (ap (λ (D : Description). D.accept) p.all ∙ e)).0

pub apart_by_acceptance : (P Q : Description) → IsReached P → IsReached Q → P.address ≡ Q.address → P.legal (OwnMode 0) ≡ Q.legal (OwnMode 0) → P.accept ≢ Q.accept →
    TellsApart P Q (acceptance_script P.address)
apart_by_acceptance P Q p q same alike other =
    let legal : P.legal (OwnMode 0) ≡ true =
    asked_for P.accept Q.accept (P.legal (OwnMode 0)) (Q.legal (OwnMode 0)) other alike (acceptance_asked P p) (acceptance_asked Q q) in
    acceptance_tells P Q p.low same legal (sym alike ∙ legal) other

pub vector_unasked : (P : Description) → IsReached P → P.legal (OwnMode 16) ≡ false → P.vector ≡ 0
vector_unasked P p e = sym (ap (λ (D : Description). D.vector) p.all) ∙ ap (λ b. cond b P.vector 0) e

pub apart_by_vector : (P Q : Description) → IsReached P → IsReached Q → P.address ≡ Q.address → P.legal (OwnMode 16) ≡ Q.legal (OwnMode 16) → P.vector ≢ Q.vector →
    TellsApart P Q (vector_script P.address)
apart_by_vector P Q p q same alike other =
    let legal : P.legal (OwnMode 16) ≡ true =
    asked_for_word P.vector Q.vector (P.legal (OwnMode 16)) other (vector_unasked P p) (λ e. vector_unasked Q q (sym alike ∙ e)) in
    vector_tells P Q p.low same legal (sym alike ∙ legal) other

pub bit_unasked : (P : Description) → IsReached P → P.legal (OwnMode 19) ≡ false → P.bit ≡ 0
bit_unasked P p e = sym (ap (λ (D : Description). D.bit) p.all) ∙ ap (λ b. cond b P.bit 0) e

pub apart_by_bit : (P Q : Description) → IsReached P → IsReached Q → P.address ≡ Q.address → P.legal (OwnMode 19) ≡ Q.legal (OwnMode 19) → P.bit ≢ Q.bit →
    TellsApart P Q (bit_script P.address)
apart_by_bit P Q p q same alike other =
    let legal : P.legal (OwnMode 19) ≡ true =
    asked_for_word P.bit Q.bit (P.legal (OwnMode 19)) other (bit_unasked P p) (λ e. bit_unasked Q q (sym alike ∙ e)) in
    bit_tells P Q p.low same legal (sym alike ∙ legal) other

pub initial_unsent : (P : Description) (s i : ℕ) → IsReached P → can_transmit P s i ≡ false → P.initial s i ≡ 0
initial_unsent P s i p e = sym (ap (λ (D : Description). D.initial s i) p.all) ∙ ap (λ b. cond b (P.initial s i) 0) e

largest_passes : (p : ℕ → Bool) → 1 ≤ largest_count p → p (largest_count p) ≡ true
unfolding largest_count
largest_passes p some = largest_to-passes 32 p some

-- the longest legal transmit command of a subaddress sends each word that can be sent from it
pub record Longest (P : Description) (s i : ℕ) : Type 0 where
  pub from : 1 ≤ i
  pub upto : i ≤ largest_count (transmits_at P s)
  pub legal : P.legal (OwnTransmit s (largest_count (transmits_at P s))) ≡ true

pub longest : (P : Description) (s i : ℕ) → can_transmit P s i ≡ true → Longest P s i
longest P s i can =
    let from : 1 ≤ i = at_least i (largest_count (transmits_at P s)) can in
    let upto : i ≤ largest_count (transmits_at P s) = at_most i (largest_count (transmits_at P s)) can in
    record { from = from; upto = upto; legal = largest_passes (transmits_at P s) (omega arith) }
  where
    at_least : (i m : ℕ) → nat_le 1 i && nat_le i m ≡ true → 1 ≤ i
    at_least i m e = grind (arith, nat_tests)

    at_most : (i m : ℕ) → nat_le 1 i && nat_le i m ≡ true → i ≤ m
    at_most i m e = grind (arith, nat_tests)

pub can_alike : (P Q : Description) (s i : ℕ) → ((n : ℕ) → P.legal (OwnTransmit s n) ≡ Q.legal (OwnTransmit s n)) → can_transmit P s i ≡ can_transmit Q s i
can_alike P Q s i alike = λ j. nat_le 1 i && nat_le i (largest_count (λ n. alike n j))

pub apart_by_initial : (P Q : Description) (s i : ℕ) → IsReached P → IsReached Q → P.address ≡ Q.address → ((n : ℕ) → P.legal (OwnTransmit s n) ≡ Q.legal (OwnTransmit s n)) →
    P.initial s i ≢ Q.initial s i → TellsApart P Q (initial_script P s)
apart_by_initial P Q s i p q same alike other =
    let can : can_transmit P s i ≡ true =
    asked_for_word (P.initial s i) (Q.initial s i) (can_transmit P s i) other (initial_unsent P s i p) (λ e. initial_unsent Q s i q (sym (can_alike P Q s i alike) ∙ e)) in
    let m : ℕ = largest_count (transmits_at P s) in
    let sends : Longest P s i = longest P s i can in
    initial_tells P Q s m i p.low same (p.allowed (OwnTransmit s m) sends.legal) sends.legal (sym (alike m) ∙ sends.legal) sends.from sends.upto other

-- the least number that passes, passes
least_to-passes : (n : ℕ) (p : ℕ → Bool) → any_to n p ≡ true → p (least_to n p) ≡ true
least_to-passes zero p some = cc
least_to-passes (suc n) p some = by_earlier (any_to n p) (p (suc n)) refl some (least_to-passes n p)
  where
    by_earlier : (earlier here : Bool) → p (suc n) ≡ here → here || earlier ≡ true → (earlier ≡ true → p (least_to n p) ≡ true) →
        p (if earlier then least_to n p else (if here then suc n else 0)) ≡ true
    by_earlier true here e some rest = rest refl
    by_earlier false true e some rest = e
    by_earlier false false e some rest = cc

least_passes : (p : ℕ → Bool) → any_count p ≡ true → p (least_count p) ≡ true
unfolding any_count least_count
least_passes p some = least_to-passes 32 p some

-- words can be received by the own address, or by broadcast
any_received : (P : Description) (s : ℕ) → any_count (receives_at P s) ≡ any_count (receives_own P s) || (P.broadcast && any_count (receives_broadcast P s))
unfolding any_count
any_received P s =
    any_to-or 32 (receives_own P s) (λ n. P.broadcast && receives_broadcast P s n)
    ∙ ap (λ b. any_to 32 (receives_own P s) || b) (any_to-and 32 P.broadcast (receives_broadcast P s))

-- what can be received and transmitted at a subaddress at which words can come back
pub record ComeBack (P : Description) (s : ℕ) : Type 0 where
  pub sends : P.legal (OwnTransmit s (least_count (transmits_at P s))) ≡ true
  pub own : any_count (receives_own P s) ≡ true → P.legal (OwnReceive s (least_count (receives_own P s))) ≡ true
  pub heard : any_count (receives_own P s) ≡ false → (P.broadcast ≡ true) × (P.legal (BroadReceive s (least_count (receives_broadcast P s))) ≡ true)

pub come_back : (P : Description) (s : ℕ) → can_wrap P s ≡ true → ComeBack P s
come_back P s wraps =
    let both : (any_count (receives_at P s) ≡ true) × (any_count (transmits_at P s) ≡ true) = and_parts (any_count (receives_at P s)) (any_count (transmits_at P s)) wraps in
    record {
      sends = least_passes (transmits_at P s) both.1;
      own = λ e. least_passes (receives_own P s) e;
      heard = λ e.
          (let parts : (P.broadcast ≡ true) × (any_count (receives_broadcast P s) ≡ true) =
          and_parts P.broadcast (any_count (receives_broadcast P s)) (ap (λ b. b || (P.broadcast && any_count (receives_broadcast P s))) (sym e) ∙ (sym (any_received P s) ∙ both.0)) in
          (parts.0, least_passes (receives_broadcast P s) parts.1));
    }

wrap_asked : (P : Description) → IsReached P → P.wrap ≢ 0 → can_wrap P P.wrap ≡ true
wrap_asked P p some = by_test (can_wrap P P.wrap) refl
  where
    by_test : (b : Bool) → can_wrap P P.wrap ≡ b → b ≡ true
    by_test true e = refl
    by_test false e = absurd (some (sym (ap (λ (D : Description). D.wrap) p.all) ∙ ap (λ b. cond b P.wrap 0) e))

-- the cells of a subaddress are legal alike
pub record WrapAlike (s : ℕ) (P Q : Description) : Type 0 where
  pub broadcast : P.broadcast ≡ Q.broadcast
  pub own_receive : (n : ℕ) → P.legal (OwnReceive s n) ≡ Q.legal (OwnReceive s n)
  pub own_transmit : (n : ℕ) → P.legal (OwnTransmit s n) ≡ Q.legal (OwnTransmit s n)
  pub broadcast_receive : (n : ℕ) → P.legal (BroadReceive s n) ≡ Q.legal (BroadReceive s n)
  pub initial : P.initial s 1 ≡ Q.initial s 1

can_wrap-alike : (P Q : Description) (s : ℕ) → WrapAlike s P Q → can_wrap P s ≡ can_wrap Q s
can_wrap-alike P Q s a = λ j. any_count (λ n. a.own_receive n j || (a.broadcast j && a.broadcast_receive n j)) && any_count (λ n. a.own_transmit n j)

-- the subaddress that shows it: words can be received at it and transmitted from it, and it is that of one alone
pub record Shows (P Q : Description) (s : ℕ) : Type 0 where
  pub wraps : can_wrap P s ≡ true
  pub differ : (s == P.wrap) ≢ (s == Q.wrap)

pub shows : (P Q : Description) → IsReached P → IsReached Q → P.wrap ≢ Q.wrap → WrapAlike (shown_subaddress P.wrap Q.wrap) P Q → Shows P Q (shown_subaddress P.wrap Q.wrap)
shows P Q p q other alike = by_none (P.wrap == 0) refl alike
  where
    one_alone : (a b s : ℕ) → a ≢ b → (s ≡ a) ⊎ ((a ≡ 0) × (s ≡ b)) → (s == a) ≢ (s == b)
    one_alone a b s ne (inl e) same = ne (sym e ∙ eqb-true s b (sym same ∙ grind (arith, nat_tests)))
    one_alone a b s ne (inr e) same = ne (sym (eqb-true s a (same ∙ grind (arith, nat_tests))) ∙ e.1)

    by_none : (b : Bool) → (P.wrap == 0) ≡ b → WrapAlike (if b then Q.wrap else P.wrap) P Q → Shows P Q (if b then Q.wrap else P.wrap)
    by_none true e alike =
        let none : P.wrap ≡ 0 = eqb-true P.wrap 0 e in record {
          wraps = can_wrap-alike P Q Q.wrap alike ∙ wrap_asked Q q (λ e. other (none ∙ sym e));
          differ = one_alone P.wrap Q.wrap Q.wrap other (inr (none, refl));
        }
    by_none false e alike = record {
      wraps = wrap_asked P p (λ none. (let wrong : true ≡ false = sym (ap (λ n. n == 0) none) ∙ e in cc));
      differ = one_alone P.wrap Q.wrap P.wrap other (inl refl);
    }

pub apart_by_wraparound : (P Q : Description) → IsReached P → IsReached Q → P.address ≡ Q.address → WrapAlike (shown_subaddress P.wrap Q.wrap) P Q → P.wrap ≢ Q.wrap →
    TellsApart P Q (wraparound_script P (shown_subaddress P.wrap Q.wrap))
apart_by_wraparound P Q p q same alike other = apart_at (shown_subaddress P.wrap Q.wrap) alike (shows P Q p q other alike)
  where
    apart_at : (s : ℕ) → WrapAlike s P Q → Shows P Q s → TellsApart P Q (wraparound_script P s)
    apart_at s alike shown = by_own (any_count (receives_own P s)) refl
      where
        back : ComeBack P s
        back = come_back P s shown.wraps

        by_own : (b : Bool) → any_count (receives_own P s) ≡ b →
            TellsApart P Q (script_of ((if b then receive_complement P s P.address (least_count (receives_own P s)) else receive_complement P s all_terminals (least_count (receives_broadcast P s))) ∷ shortest_transmit P s ∷ []))
        by_own true e =
            let n : ℕ = least_count (receives_own P s) in
            let m : ℕ = least_count (transmits_at P s) in
            let legal : P.legal (OwnReceive s n) ≡ true = back.own e in
            own_wraparound_tells P Q s n m p.low same
            (p.allowed (OwnReceive s n) legal) legal (sym (alike.own_receive n) ∙ legal)
            (p.allowed (OwnTransmit s m) back.sends) back.sends (sym (alike.own_transmit m) ∙ back.sends) alike.initial shown.differ
        by_own false e =
            let n : ℕ = least_count (receives_broadcast P s) in
            let m : ℕ = least_count (transmits_at P s) in
            let hears : P.broadcast ≡ true = (back.heard e).0 in
            let legal : P.legal (BroadReceive s n) ≡ true = (back.heard e).1 in
            broadcast_wraparound_tells P Q s n m p.low same hears (sym alike.broadcast ∙ hears)
            (p.allowed (BroadReceive s n) legal) legal (sym (alike.broadcast_receive n) ∙ legal)
            (p.allowed (OwnTransmit s m) back.sends) back.sends (sym (alike.own_transmit m) ∙ back.sends) alike.initial shown.differ

-- where nothing differs that a script tells, the descriptions are equal
pub unallowed : (P : Description) (cell : Cell) → IsReached P → is_allowed cell ≡ false → P.legal cell ≡ false
unallowed P cell p e = by_legal (P.legal cell) refl
  where
    by_legal : (l : Bool) → P.legal cell ≡ l → l ≡ false
    by_legal true l = sym (p.allowed cell l) ∙ e
    by_legal false l = refl

unplaced : (P : Description) (s i : ℕ) → IsReached P → is_data_place s i ≡ false → P.initial s i ≡ 0
unplaced P s i p e = by_sent (can_transmit P s i) refl
  where
    by_sent : (b : Bool) → can_transmit P s i ≡ b → P.initial s i ≡ 0
    by_sent true sent = let wrong : true ≡ false = sym (sent_place P (λ s n legal. p.allowed (OwnTransmit s n) legal) s i sent) ∙ e in cc
    by_sent false sent = initial_unsent P s i p sent

pub equal_where_alike : (P Q : Description) → IsReached P → IsReached Q → P.address ≡ Q.address → P.broadcast ≡ Q.broadcast →
    ((cell : Cell) → is_allowed cell ≡ true → P.legal cell ≡ Q.legal cell) → P.accept ≡ Q.accept → P.vector ≡ Q.vector → P.bit ≡ Q.bit →
    ((s i : ℕ) → is_data_place s i ≡ true → P.initial s i ≡ Q.initial s i) → P.wrap ≡ Q.wrap → P ≡ Q
equal_where_alike P Q p q address broadcast legal accept vector bit initial wrap =
    same_description P Q address broadcast wrap accept vector bit
    (λ s i. by_place s i (is_data_place s i) refl)
    (λ cell. by_allowed cell (is_allowed cell) refl)
  where
    by_place : (s i : ℕ) (b : Bool) → is_data_place s i ≡ b → P.initial s i ≡ Q.initial s i
    by_place s i true e = initial s i e
    by_place s i false e = unplaced P s i p e ∙ sym (unplaced Q s i q e)

    by_allowed : (cell : Cell) (b : Bool) → is_allowed cell ≡ b → P.legal cell ≡ Q.legal cell
    by_allowed cell true e = legal cell e
    by_allowed cell false e = unallowed P cell p e ∙ sym (unallowed Q cell q e)
