-- Laws of the messages that are wanted, while messages end.
use Rattle.std.proofs.Common.{ℕ, ◌≡◌, ◌∙◌, List, [], ◌∷◌, ◌++◌, Option, Some, None, refl, sym, ap, append_assoc, append-nil}
use Rattle.std.proofs.lemmas.Grind.{flat_map-append}
use Rattle.std.proofs.lemmas.List.Elements.{filter-append}
use Rattle.drawing_boxes.specs.declared.numbered.Numbered.{Numbered}
use Rattle.rt1553_draw.specs.declared.part.DrawnMessage.{DrawnMessage}
use Rattle.rt1553_draw.specs.inner.Drawn.{drawn_of, drawn_in, stands_in, wanted, AreWanted, AreSoFar, EndsMessages}

wanted-append : (lines : Option (List ℕ)) (xs ys : List DrawnMessage) → wanted lines xs ++ wanted lines ys ≡ wanted lines (xs ++ ys)
wanted-append None xs ys = refl
wanted-append (Some ls) xs ys = sym (filter-append (stands_in ls) xs ys)

-- what is kept of messages, and of those that ended after them
kept-more : (lines : Option (List ℕ)) (all ended old new : List DrawnMessage)
    → old ≡ wanted lines all → new ≡ old ++ wanted lines ended → new ≡ wanted lines (all ++ ended)
kept-more lines all ended old new before now = now ∙ ap (λ ps. ps ++ wanted lines ended) before ∙ wanted-append lines all ended

-- one event more, after which a message may have ended
pub one_more : (lines : Option (List ℕ)) (events : List Numbered) (e : Numbered) (old new : List DrawnMessage) (part now next : DrawnMessage)
    → AreSoFar lines events old part → EndsMessages lines old new part now → drawn_of next ≡ drawn_of now ++ e ∷ [] → AreSoFar lines (events ++ e ∷ []) new next
one_more lines events e old new part now next so ends grown = record {
  all = so.all ++ ends.ended;
  drawn =
      ap (λ xs. xs ++ drawn_of next) (flat_map-append drawn_of so.all ends.ended)
      ∙ append_assoc (drawn_in so.all) (drawn_in ends.ended) (drawn_of next)
      ∙ ap (λ xs. drawn_in so.all ++ (drawn_in ends.ended ++ xs)) grown
      ∙ ap (λ xs. drawn_in so.all ++ xs) (sym (append_assoc (drawn_in ends.ended) (drawn_of now) (e ∷ [])))
      ∙ ap (λ xs. drawn_in so.all ++ (xs ++ e ∷ [])) ends.drawn
      ∙ sym (append_assoc (drawn_in so.all) (drawn_of part) (e ∷ []))
      ∙ ap (λ xs. xs ++ e ∷ []) so.drawn;
  kept = kept-more lines so.all ends.ended old new so.kept ends.kept;
}

-- the last message ended
pub all_ended : (lines : Option (List ℕ)) (events : List Numbered) (old new : List DrawnMessage) (part : DrawnMessage)
    → AreSoFar lines events old part → new ≡ old ++ wanted lines (part ∷ []) → AreWanted lines events new
all_ended lines events old new part so ends = record {
  all = so.all ++ part ∷ [];
  drawn =
      flat_map-append drawn_of so.all (part ∷ [])
      ∙ ap (λ xs. drawn_in so.all ++ xs) (append-nil (drawn_of part))
      ∙ so.drawn;
  kept = kept-more lines so.all (part ∷ []) old new so.kept ends;
}
