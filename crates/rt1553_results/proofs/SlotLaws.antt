-- The words of a reply tell what is sent in each slot of an exchange: a reply is sent from the first slot on without a break.
use Rattle.std.proofs.Common.{◌≡◌, ℕ, zero, suc, Bool, true, false, if◌then◌else◌, nat_le, ◌==◌, ◌⊎◌, inl, inr, Option, Some, None, List, [], ◌∷◌, ◌++◌, length, map, refl, ap, sym, ◌∙◌, arith}
use Rattle.std.proofs.lemmas.Bool.Decides.{nat_tests}
use Rattle.bus_word.specs.declared.word.Bus.TheVariants.{A}
use Rattle.bus_word.specs.declared.word.Kind.{Kind}
use Rattle.bus_word.specs.declared.word.Kind.TheVariants.{Com, Dat}
use Rattle.bus_word.specs.declared.cell.Cell.{Cell}
use Rattle.bus_legal.specs.Description.{Description}
use Rattle.terminal_rules.specs.declared.event.Event.{Event}
use Rattle.terminal_rules.specs.declared.event.Event.TheVariants.{Slot}
use Rattle.terminal_rules.specs.History.{Replying, Ending}
use Rattle.terminal_rules.specs.Reply.{words_after_status, reply_after}
use Rattle.terminal_rules.specs.Turn.{is_answered, done_cell}
use Rattle.terminal_rules.specs.Past.{past}
use Rattle.terminal_rules.specs.Status.{kept_now}
use Rattle.bus_word.specs.Status.{status_word}
use Rattle.terminal_rules.specs.Out.{Out, Silence, SendsWord, sending, reply_word, sends, sending_out, sent_in}
use Rattle.terminal_exchanges.specs.ExchangeLaws.{silent_slots, reply_to, reply_then}
use Rattle.rt1553_results.specs.Rows.{sent_word, words_sent}

-- the kind of word number k of a reply: the status word is number 0
abbrev kind_at : ℕ → Kind
kind_at zero = Com
kind_at (suc k) = Dat

AllSilent : List Out → Type 0
AllSilent [] = Unit {0}
AllSilent (o ∷ os) = (o ≡ Silence) × AllSilent os

-- slots in which a reply goes on with its word number k, or has ended
pub GoesOn : ℕ → List Out → Type 0
unfolding AllSilent
GoesOn k [] = Unit {0}
GoesOn k (o ∷ os) = ((bits : ℕ) × (o ≡ SendsWord (sending A (kind_at k) bits)) × GoesOn (suc k) os) ⊎ ((o ≡ Silence) × AllSilent os)

silent_sent : (os : List Out) → AllSilent os → words_sent os ≡ []
unfolding AllSilent words_sent
silent_sent [] a = refl
silent_sent (o ∷ os) (is, a) = ap (λ o. sent_word o ++ words_sent os) is ∙ silent_sent os a

silent_alike : (os ps : List Out) → length os ≡ length ps → AllSilent os → AllSilent ps → map sent_in os ≡ map sent_in ps
unfolding AllSilent
silent_alike [] [] long a b = refl
silent_alike [] (p ∷ ps) long a b = absurd (omega (arith, long))
silent_alike (o ∷ os) [] long a b = absurd (omega (arith, long))
silent_alike (o ∷ os) (p ∷ ps) long (is, a) (js, b) =
    let later = silent_alike os ps (omega (arith, long)) a b in
    let here : sent_in o ≡ sent_in p = ap sent_in is ∙ sym (ap sent_in js) in (λ j. here j ∷ later j)

-- replies of the same words are sent alike
pub same_slots : (k : ℕ) (os ps : List Out) → length os ≡ length ps → GoesOn k os → GoesOn k ps → words_sent os ≡ words_sent ps → map sent_in os ≡ map sent_in ps
unfolding GoesOn AllSilent words_sent
same_slots k [] [] long a b e = refl
same_slots k [] (p ∷ ps) long a b e = absurd (omega (arith, long))
same_slots k (o ∷ os) [] long a b e = absurd (omega (arith, long))
same_slots k (o ∷ os) (p ∷ ps) long (inl (c, is, a)) (inl (d, js, b)) e =
    let words : (c ∷ words_sent os) ≡ (d ∷ words_sent ps) = sym (ap (λ o. sent_word o ++ words_sent os) is) ∙ e ∙ ap (λ p. sent_word p ++ words_sent ps) js in
    let bits : c ≡ d = cc in
    let rest : words_sent os ≡ words_sent ps = cc in
    let later = same_slots (suc k) os ps (omega (arith, long)) a b rest in
    let here : sent_in o ≡ sent_in p = ap sent_in is ∙ ap (λ x. Some (sending A (kind_at k) x)) bits ∙ sym (ap sent_in js) in (λ j. here j ∷ later j)
same_slots k (o ∷ os) (p ∷ ps) long (inl (c, is, a)) (inr (js, b)) e =
    let no : (c ∷ words_sent os) ≡ [] = sym (ap (λ o. sent_word o ++ words_sent os) is) ∙ e ∙ ap (λ p. sent_word p ++ words_sent ps) js ∙ silent_sent ps b in absurd (cc)
same_slots k (o ∷ os) (p ∷ ps) long (inr (is, a)) (inl (d, js, b)) e =
    let no : [] ≡ d ∷ words_sent ps = sym (ap (λ o. sent_word o ++ words_sent os) is ∙ silent_sent os a) ∙ e ∙ ap (λ p. sent_word p ++ words_sent ps) js in absurd (cc)
same_slots k (o ∷ os) (p ∷ ps) long (inr (is, a)) (inr (js, b)) e = silent_alike (o ∷ os) (p ∷ ps) long (is, a) (js, b)

-- ---- the slots of an exchange are such

-- no slot of a terminal that isn't meant sends
pub unmeant_slots : (n : ℕ) → GoesOn 0 (silent_slots n [])
unfolding GoesOn
unmeant_slots zero = tt
unmeant_slots (suc n) = inr (refl, silent n)
  where
    silent : (n : ℕ) → AllSilent (silent_slots n [])
    silent zero = tt
    silent (suc n) = (refl, silent n)

-- word number k of a reply
sent_by : (P : Description) (h : List Event) (cell : Option Cell) (k : ℕ) (first : Bool) → k == 0 ≡ first
    → (bits : ℕ) × ((if first then sending A Com (status_word P.address (kept_now P (past P h))) else sending A Dat (reply_word P (past P h) cell k)) ≡ sending A (kind_at k) bits)
sent_by P h cell zero true e = (status_word P.address (kept_now P (past P h)), refl)
sent_by P h cell zero false e = absurd (cc)
sent_by P h cell (suc k) true e = let no : suc k ≡ 0 = grind (arith, nat_tests) in absurd (omega (arith, no))
sent_by P h cell (suc k) false e = (reply_word P (past P h) cell (suc k), refl)

-- a reply in progress, or none
abbrev reply_if : Bool → Option Cell → ℕ → Option Replying
reply_if b cell k = if b then Some (record { bus = A; cell = cell; number = k }) else None

nothing_later : (N k : ℕ) (cell : Option Cell) (b : Bool) → nat_le k N ≡ b → reply_if b cell k ≡ None → nat_le (suc k) N ≡ false
nothing_later N k cell true e is = absurd (cc)
nothing_later N k cell false e is = grind (arith, nat_tests)

abbrev reply_by : Bool → Ending → ℕ → Option Replying
reply_by answered x k = if answered then reply_after A (done_cell x) false k else None

-- after its last word a reply is silent
none_later : (x : Ending) (k : ℕ) (b : Bool) → reply_by b x k ≡ None → reply_by b x (suc k) ≡ None
none_later x k true is = ap (λ b. reply_if b (done_cell x) (suc k)) (nothing_later (words_after_status (done_cell x)) k (done_cell x) (nat_le k (words_after_status (done_cell x))) refl is)
none_later x k false is = refl

ended : (P : Description) (x : Ending) (n k : ℕ) (h : List Event) → reply_to x k ≡ None → AllSilent (reply_then P x k n h [])
unfolding AllSilent
ended P x zero k h none = tt
ended P x (suc n) k h none = (ap (λ r. sending_out (sends P (past P h) r)) none, ended P x n (suc k) (Slot ∷ h) (none_later x k (is_answered false x) none))

-- a slot, and those after it
abbrev Goes : Description → ℕ → List Event → List Out → Option Replying → Type 0
Goes P k h later r = ((bits : ℕ) × (sending_out (sends P (past P h) r) ≡ SendsWord (sending A (kind_at k) bits)) × GoesOn (suc k) later)
    ⊎ ((sending_out (sends P (past P h) r) ≡ Silence) × AllSilent later)

goes : (P : Description) (x : Ending) (k : ℕ) (h : List Event) (later : List Out) → GoesOn (suc k) later → (reply_to x k ≡ None → AllSilent later)
    → (answered : Bool) → is_answered false x ≡ answered → Goes P k h later (reply_by answered x k)
goes P x k h later on silent false e = inr (refl, silent (ap (λ b. reply_by b x k) e))
goes P x k h later on silent true e = by_word (nat_le k (words_after_status (done_cell x))) refl
  where
    by_word : (b : Bool) → nat_le k (words_after_status (done_cell x)) ≡ b → Goes P k h later (reply_if b (done_cell x) k)
    by_word true is = let s = sent_by P h (done_cell x) k (k == 0) refl in inl (s.0, ap SendsWord s.1, on)
    by_word false is = inr (refl, silent (ap (λ b. reply_by b x k) e ∙ ap (λ b. reply_if b (done_cell x) k) is))

pub meant_slots : (P : Description) (x : Ending) (n k : ℕ) (h : List Event) → GoesOn k (reply_then P x k n h [])
unfolding GoesOn
meant_slots P x zero k h = tt
meant_slots P x (suc n) k h =
    goes P x k h (reply_then P x (suc k) n (Slot ∷ h) []) (meant_slots P x n (suc k) (Slot ∷ h))
    (λ none. ended P x n (suc k) (Slot ∷ h) (none_later x k (is_answered false x) none)) (is_answered false x) refl
