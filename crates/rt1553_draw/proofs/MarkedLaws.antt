-- Laws of columns and messages that are marked one by one.
use Rattle.std.proofs.Common.{◌≡◌, ◌∙◌, List, [], ◌∷◌, ◌++◌, map, ap, sym, arith}
use Rattle.std.specs.List.{All, flat_map}
use Rattle.std.proofs.lemmas.List.{map-append}
use Rattle.std.proofs.lemmas.List.Elements.{All-append, All-cons}
use Rattle.std.proofs.lemmas.Grind.{flat_map-append}
use Rattle.rt1553_draw.specs.declared.column.Column.{Column}
use Rattle.drawing_boxes.specs.declared.numbered.Numbered.{Numbered}
use Rattle.rt1553_draw.specs.declared.part.DrawnMessage.{DrawnMessage}
use Rattle.rt1553_draw.specs.inner.Drawn.{drawn_of, drawn_in}

abbrev event_of : Column → Numbered
event_of column = column.of

-- what is true of all of a list, and of one more
pub all_more : {X : Type 0} (P : X → Type 0) (xs : List X) (x : X) → All P xs → P x → All P (xs ++ x ∷ [])
all_more P xs x all one = All-append P xs (x ∷ []) all (All-cons P x [] one (λ k d less. absurd (omega (arith, less))))

-- columns of the same events, and one more of each
pub columns_more : (xs ys : List Column) (x y : Column) → map event_of xs ≡ map event_of ys → x.of ≡ y.of → map event_of (xs ++ x ∷ []) ≡ map event_of (ys ++ y ∷ [])
columns_more xs ys x y same one =
    map-append event_of xs (x ∷ []) ∙ ap (λ zs. zs ++ event_of x ∷ []) same ∙ ap (λ z. map event_of ys ++ z ∷ []) one ∙ sym (map-append event_of ys (y ∷ []))

-- messages of the same events, and one more of each
pub messages_more : (xs ys : List DrawnMessage) (x y : DrawnMessage) → drawn_in xs ≡ drawn_in ys → drawn_of x ≡ drawn_of y → drawn_in (xs ++ x ∷ []) ≡ drawn_in (ys ++ y ∷ [])
messages_more xs ys x y same one =
    flat_map-append drawn_of xs (x ∷ []) ∙ ap (λ zs. zs ++ flat_map drawn_of (x ∷ [])) same ∙ ap (λ z. drawn_in ys ++ (z ++ [])) one ∙ sym (flat_map-append drawn_of ys (y ∷ []))
