-- What a watch tells of sightings of which no word is left open.
use Rattle.std.proofs.Common.{◌≡◌, ◌∙◌, false, ◌↔◌, Option, Some, None, IfSome, List, [], ◌∷◌, ◌++◌, refl, sym, ap, subst}
use Rattle.bus_legal.specs.Description.{Description}
use Rattle.terminal_recordings.specs.Recordings.{Sighting, IsExplained}
use Rattle.terminal_recordings.specs.Masks.{MaskedSighting, FitsMasked, FitsWord, unmasked, ExplainsSome}
use Rattle.recorded_terminal.specs.declared.watch.Marked.{Marked}
use Rattle.recorded_terminal.specs.declared.watch.Unexplained.{Unexplained}
use Rattle.recorded_terminal.specs.Sightings.{shown_sighting}
use Rattle.recorded_terminal.specs.Marks.{masked_in, plainly, AllCame}
use Rattle.recorded_terminal.specs.Ways.{masked_with}
use Rattle.recorded_terminal.specs.Watched.{IsUnexplainedAt, IsDecidedAt}
use Rattle.recorded_terminal.proofs.CameLaws.{CameUnexplained, came_explained, came_unexplained, masked_append}
use Rattle.rt1553_results.specs.inner.Placed.{NoneIsOpen}

-- no word is left open
abbrev AreClosed : List MaskedSighting → Type 0
AreClosed [] = Unit {0}
AreClosed (m ∷ ms) = (m.any_word ≡ false) × AreClosed ms

closed : (ms : List Marked) → NoneIsOpen ms → AreClosed (masked_in ms)
closed [] are = tt
closed (m ∷ ms) are = (are.0.0, closed ms are.1)

came : (ms : List Marked) → NoneIsOpen ms → AllCame ms
came [] are = tt
came (m ∷ ms) are = (are.0.1, came ms are.1)

closed_more : (ms : List MaskedSighting) (m : MaskedSighting) → AreClosed ms → m.any_word ≡ false → AreClosed (ms ++ m ∷ [])
closed_more [] m are whole = (whole, tt)
closed_more (x ∷ ms) m are whole = (are.0, closed_more ms m are.1 whole)

-- only the recording itself is stated
only : (ms : List MaskedSighting) (xs : List Sighting) → AreClosed ms → FitsMasked ms xs → xs ≡ unmasked ms
only [] [] are fits = refl
only [] (x ∷ xs) are fits = absurd fits
only (m ∷ ms) [] are fits = absurd fits
only (m ∷ ms) (x ∷ xs) are fits =
    let sent : x.sent ≡ m.sighting.sent = subst (λ b. FitsWord b m.sighting.sent x.sent) are.0 fits.0.sent in
    λ j. record { event = fits.0.event j; sent = sent j } ∷ only ms xs are.1 fits.1 j

itself : (ms : List MaskedSighting) → AreClosed ms → FitsMasked ms (unmasked ms)
itself [] are = tt
itself (m ∷ ms) are = (record { event = refl; sent = subst (λ b. FitsWord b m.sighting.sent m.sighting.sent) (sym are.0) refl }, itself ms are.1)

explained : (E : List Sighting → Type 0) (ms : List MaskedSighting) → AreClosed ms → ExplainsSome E ms ↔ E (unmasked ms)
explained E ms are = (λ x. subst E (only ms x.0 are x.1) x.2, λ x. (unmasked ms, itself ms are, x))

-- all is explained, or not
pub whole_decided : (D : Description) (ms : List Marked) (first : Option Unexplained) → NoneIsOpen ms → IsDecidedAt D [] ms first → (first ≡ None) ↔ IsExplained D (plainly ms)
whole_decided D ms first are decided =
    let same = explained (IsExplained D) (masked_in ms) (closed ms are) in
    let all = came_explained (IsExplained D) ms (came ms are) in
    (λ e. same.0 (all.0 (decided.explained.0 e)), λ x. decided.explained.1 (all.1 (same.1 x)))

-- the sightings before one are explained, and with it they are not, but with another word sent in it, or none
pub record IsFirstWhole (D : Description) (ms : List Marked) (it : Unexplained) : Type 0 where
  pub before : List Marked
  pub later : List Marked
  pub all : ms ≡ before ++ it.marked ∷ later
  pub explained : IsExplained D (plainly before)
  pub unexplained : IsExplained D (plainly before ++ shown_sighting it.marked.sighting ∷ []) → ⊥
  pub possible : IsExplained D (plainly before ++ (masked_with it.marked it.sent).sighting ∷ [])

front_whole : (before : List Marked) (m : Marked) (later : List Marked) → NoneIsOpen (before ++ m ∷ later) → NoneIsOpen before × (m.any_word ≡ false)
front_whole [] m later are = (tt, are.0.0)
front_whole (x ∷ before) m later are = let rest = front_whole before m later are.1 in ((are.0, rest.0), rest.1)

unmasked_more : (ms : List MaskedSighting) (m : MaskedSighting) → unmasked (ms ++ m ∷ []) ≡ unmasked ms ++ m.sighting ∷ []
unmasked_more [] m = refl
unmasked_more (x ∷ ms) m = λ j. x.sighting ∷ unmasked_more ms m j

first_whole : (D : Description) (ms : List Marked) (it : Unexplained) → NoneIsOpen ms → IsUnexplainedAt D [] ms it → IsFirstWhole D ms it
first_whole D ms it are u =
    let E = IsExplained D in
    let i : CameUnexplained E ms it = came_unexplained E ms it (came ms are) u in
    let whole = front_whole i.before it.marked i.later (subst NoneIsOpen i.all are) in
    let front = closed i.before whole.0 in
    let instead = masked_in i.before ++ masked_with it.marked it.sent ∷ [] in
    record {
      before = i.before;
      later = i.later;
      all = i.all;
      explained = (explained E (masked_in i.before) front).0 i.explained;
      unexplained = λ x. i.unexplained
          ((explained E (masked_in (i.before ++ it.marked ∷ [])) (subst AreClosed (sym (masked_append i.before (it.marked ∷ []))) (closed_more (masked_in i.before) _ front whole.1))).1
          (subst E (sym (ap unmasked (masked_append i.before (it.marked ∷ [])) ∙ unmasked_more (masked_in i.before) _)) x));
      possible = subst E (unmasked_more (masked_in i.before) (masked_with it.marked it.sent)) ((explained E instead (closed_more (masked_in i.before) (masked_with it.marked it.sent) front refl)).0 i.possible);
    }

pub whole_first : (D : Description) (ms : List Marked) (first : Option Unexplained) → NoneIsOpen ms → IsDecidedAt D [] ms first → IfSome first (IsFirstWhole D ms)
whole_first D ms None are d = tt
whole_first D ms (Some it) are d = first_whole D ms it are d.unexplained
