-- The statement that is found is where the text gets what is sought.
use Rattle.std.proofs.Common.{◌≡◌, ◌⊎◌, inl, inr, ℕ, ◌-◌, ◌<◌, zero, suc, Bool, true, List, [], ◌∷◌, map, length, get_or, Option, option_map, refl, sym, ap, ◌∙◌, subst, arith}
use Rattle.std.specs.Option.{IsSomeAnd, IsSome}
use Rattle.toml.specs.Data.{Members}
use Rattle.toml_places.specs.declared.statement.Statement.{Statement}
use Rattle.toml_places.specs.Found.{Seen, seen, statement_view}
use Rattle.toml_places.specs.StatementsLaw.{expressions}
use Rattle.toml_places.specs.Parsed.{Placed, statements_of}
use Rattle.toml_places.proofs.TreeLaws.{document_law}
use Rattle.toml_places.specs.Places.{head}
use Rattle.toml_places.specs.Statements.{head_of, IsPlace}
use Rattle.bus_profile.specs.Read.{IsTree}
use Rattle.bus_profile.specs.declared.fault.Key.{Key}
use Rattle.bus_profile.specs.declared.fault.Part.{Part}
use Rattle.bus_profile.specs.declared.fault.ProfileFault.{ProfileFault}
use Rattle.bus_profile.specs.declared.fault.ProfileFault.TheVariants.{WrongKind, OutOfRange, BadRanges}
use Rattle.rt1553_lint.specs.declared.finding.Position.{Position}
use Rattle.rt1553_lint.specs.Places.{AreStatementsOf, IsPositionOf}
use Rattle.rt1553_lint.specs.Positions.{position_in}
use Rattle.rt1553_lint.specs.Standing.{IsAtValue, IsAtFault}

fused : {A B C : Type 0} (f : B → C) (g : A → B) (xs : List A) → map f (map g xs) ≡ map (λ x. f (g x)) xs
fused f g [] = refl
fused f g (x ∷ xs) = ap (λ ys. f (g x) ∷ ys) (fused f g xs)

-- the keys and the kinds of the statements are those of the text
same_heads : (text : List ℕ) (statements : List Statement) → map statement_view statements ≡ map (seen (length text)) (statements_of text)
    → map head (expressions (statements_of text)) ≡ map head_of statements
same_heads text statements same =
    let own : map head (expressions (statements_of text)) ≡ map (λ (p : Placed). head p.0) (statements_of text) = fused head (λ (p : Placed). p.0) (statements_of text) in
    let theirs : map (λ (s : Seen). (s.1, s.2)) (map (seen (length text)) (statements_of text)) ≡ map (λ (p : Placed). head p.0) (statements_of text) =
    fused (λ (s : Seen). (s.1, s.2)) (seen (length text)) (statements_of text) in
    own ∙ (sym theirs ∙ (sym (ap (map (λ (s : Seen). (s.1, s.2))) same) ∙ fused (λ (s : Seen). (s.1, s.2)) statement_view statements))

-- and so are their places
same_places : (text : List ℕ) (statements : List Statement) → map statement_view statements ≡ map (seen (length text)) (statements_of text)
    → map (λ s. s.at) statements ≡ map (λ p. length text - p.1) (statements_of text)
same_places text statements same =
    sym (fused (λ (s : Seen). s.0) statement_view statements)
    ∙ (ap (map (λ (s : Seen). s.0)) same ∙ fused (λ (s : Seen). s.0) (seen (length text)) (statements_of text))

pub found_there : (sought : Members → Bool) (text : List ℕ) (statements : List Statement) (place : Option ℕ) (position : Option Position) → AreStatementsOf text statements → IsPlace sought statements place
    → position ≡ option_map (λ j. position_in text (get_or (map (λ s. s.at) statements) j 0)) place → (tree : Members) → IsTree text tree → sought tree ≡ true
    → IsSomeAnd position (IsPositionOf sought text)
found_there sought text statements place position read is at tree document there =
    let same = read (subst IsSome (sym document.reads) refl) in
    let (final, defined, closed) = document_law text tree document.reads in
    let (j, found, gives) = is (expressions (statements_of text)) final (same_heads text statements same) defined (ap sought (sym closed) ∙ there) in
    subst (λ o. IsSomeAnd o (IsPositionOf sought text)) (sym (at ∙ ap (option_map (λ j. position_in text (get_or (map (λ s. s.at) statements) j 0))) found))
    (record {
      statement = j;
      gives = gives;
      at = ap (λ ks. position_in text (get_or ks j 0)) (same_places text statements same);
    })

-- the position of the statement of an index
pub placed_at : (text : List ℕ) (statements : List Statement) (j : ℕ) (d : Position) → j < length statements
    → get_or (map (λ s. position_in text s.at) statements) j d ≡ position_in text (get_or (map (λ s. s.at) statements) j 0)
placed_at text [] j d within = absurd (omega arith)
placed_at text (s ∷ statements) zero d within = refl
placed_at text (s ∷ statements) (suc j) d within = placed_at text statements j d (omega arith)

-- a fault of a value
pub fault_of_value : (fault : ProfileFault) (part : Part) (key : Key) (text : List ℕ) (position : Option Position)
    → (fault ≡ WrongKind part key) ⊎ ((fault ≡ OutOfRange part key) ⊎ (fault ≡ BadRanges part key)) → IsAtValue part key text position → IsAtFault fault text position
fault_of_value fault part key text position (inl is) at = subst (λ f. IsAtFault f text position) (sym is) at
fault_of_value fault part key text position (inr (inl is)) at = subst (λ f. IsAtFault f text position) (sym is) at
fault_of_value fault part key text position (inr (inr is)) at = subst (λ f. IsAtFault f text position) (sym is) at
