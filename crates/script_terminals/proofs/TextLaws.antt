-- The text of a step, from what each terminal keeps.
use Rattle.std.proofs.Common.{◌≡◌, ◌∙◌, ◌<◌, ◌≤◌, ◌+◌, ℕ, zero, suc, Bool, Some, None, List, [], ◌∷◌, ◌++◌, length, drop, slice_get, flat_map, unwrap_or, arith, refl, ap, sym, append_assoc, append-nil}
use Rattle.std.specs.Option.{option_map}
use Rattle.std.proofs.lemmas.Option.{none-some}
use Rattle.std.proofs.lemmas.List.{drop_all}
use Rattle.bus_word.specs.declared.cell.Cell.{Cell}
use Rattle.terminal_rules.specs.Out.{Out, Silence, SendsWord, HandsOver}
use Rattle.terminal_bus.specs.declared.event.BusEvent.{BusEvent}
use Rattle.terminal_bus.specs.Members.{Member, events_for, bus_after}
use Rattle.terminal_bus.specs.Alone.{answers_in}
use Rattle.terminal_bus.specs.Transfer.{actions}
use Rattle.terminal_bus.specs.AtMembers.{member_address}
use Rattle.terminal_bus.proofs.CameLaw.{after_at}
use Rattle.script_lines.specs.EventLine.{script_text}
use Rattle.terminal_rules.specs.declared.event.Event.{Event}
use Rattle.script_terminals.specs.declared.playing.BusTold.{BusTold}
use Rattle.script_terminals.specs.declared.playing.BusTold.TheVariants.{CameTo}
use Rattle.script_terminals.specs.BusTexts.{addressed_text, member_text, came_text}
use Rattle.script_terminals.specs.Playing.{text_told}

-- what is silent has no line
same_text : (a : ℕ) (os : List Out) → flat_map (addressed_text a) (actions os) ≡ flat_map (addressed_text a) os
same_text a [] = refl
same_text a (Silence ∷ os) = same_text a os
same_text a (SendsWord sending ∷ os) = ap (λ t. addressed_text a (SendsWord sending) ++ t) (same_text a os)
same_text a (HandsOver handing ∷ os) = ap (λ t. addressed_text a (HandsOver handing) ++ t) (same_text a os)

kept_text : (a : ℕ) (kept : Out) (os : List Out) → actions (kept ∷ []) ≡ actions os → addressed_text a kept ≡ flat_map (addressed_text a) os
kept_text a kept os e = sym (append-nil (addressed_text a kept)) ∙ (sym (same_text a (kept ∷ [])) ∙ (ap (flat_map (addressed_text a)) e ∙ same_text a os))

module _ {L : Type 0} (is_legal : L → Cell → Bool) (members : List Member) (x : BusEvent) where
  address_after : (k : ℕ) (m : Member) → slice_get members k ≡ Some m → member_address (bus_after members x) k ≡ Some m.description.address
  address_after k m at = ap (option_map (λ (n : Member). n.description.address)) (after_at is_legal members x k m at)

  pub place_text : (k : ℕ) (m : Member) (a : ℕ) (o kept : Out) → slice_get members k ≡ Some m → Some a ≡ member_address (bus_after members x) k → o ≡ kept →
      actions (kept ∷ []) ≡ actions (answers_in members x m) → addressed_text a o ≡ member_text members x m
  place_text k m a o kept at address is acts =
      let own : a ≡ m.description.address = ap (λ n. unwrap_or n 0) (address ∙ address_after k m at) in
      (λ j. addressed_text (own j) (is j)) ∙ kept_text m.description.address kept (answers_in members x m) acts

  pub no_place : (k : ℕ) (m : Member) → slice_get members k ≡ Some m → None ≡ member_address (bus_after members x) k → ⊥
  no_place k m at address = none-some m.description.address (address ∙ address_after k m at)

-- an element at its place
pub record At {X : Type 0} (xs : List X) (k : ℕ) : Type 0 where
  pub it : X
  pub at : slice_get xs k ≡ Some it
  pub rest : drop k xs ≡ it ∷ drop (k + 1) xs

pub at_place : {X : Type 0} (xs : List X) (k : ℕ) → k < length xs → At xs k
at_place [] k within = absurd (omega (arith, within))
at_place (x ∷ xs) zero within = record { it = x; at = refl; rest = refl }
at_place (x ∷ xs) (suc k) within = let there = at_place xs k (omega (arith, within)) in let next : suc (k + 1) ≡ suc k + 1 = omega arith in
    record { it = there.it; at = there.at; rest = there.rest ∙ ap (λ i. there.it ∷ drop i (x ∷ xs)) next }

pub nothing_at : {X : Type 0} (xs : List X) (k : ℕ) → length xs ≤ k → slice_get xs k ≡ None
nothing_at [] zero past = refl
nothing_at [] (suc k) past = refl
nothing_at (x ∷ xs) zero past = absurd (omega (arith, past))
nothing_at (x ∷ xs) (suc k) past = nothing_at xs k (omega (arith, past))

-- one element more is written
pub each_on : {X : Type 0} (f : X → List ℕ) (xs : List X) (k : ℕ) (it : X) (old new all : List ℕ) → drop k xs ≡ it ∷ drop (k + 1) xs → new ≡ old ++ f it →
    old ++ flat_map f (drop k xs) ≡ all → new ++ flat_map f (drop (k + 1) xs) ≡ all
each_on f xs k it old new all rest is before =
    ap (λ t. t ++ flat_map f (drop (k + 1) xs)) is ∙ (append_assoc old (f it) (flat_map f (drop (k + 1) xs)) ∙ (ap (λ ys. old ++ flat_map f ys) (sym rest) ∙ before))

-- all are written
pub each_all : {X : Type 0} (f : X → List ℕ) (xs : List X) (k : ℕ) (old all : List ℕ) → length xs ≤ k → old ++ flat_map f (drop k xs) ≡ all → old ≡ all
each_all f xs k old all past before = sym (append-nil old) ∙ (ap (λ ys. old ++ flat_map f ys) (sym (drop_all k xs past)) ∙ before)

-- what came to one terminal
pub came_some : (members : List Member) (x : BusEvent) (k : ℕ) (m : Member) (told : BusTold) (es : List Event) → told ≡ CameTo k → slice_get members k ≡ Some m → es ≡ events_for members x m →
    script_text es ≡ text_told told members x
came_some members x k m told es is at came = ap script_text came ∙ (sym (ap (came_text members x) at) ∙ sym (ap (λ t. text_told t members x) is))

pub came_none : (members : List Member) (x : BusEvent) (k : ℕ) (told : BusTold) → told ≡ CameTo k → length members ≤ k → [] ≡ text_told told members x
came_none members x k told is past = sym (ap (came_text members x) (nothing_at members k past)) ∙ sym (ap (λ t. text_told t members x) is)
