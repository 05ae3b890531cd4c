use Rattle.std.proofs.Common.{true, false, refl, sym, ◌∙◌}
use Rattle.bus_legal.specs.Parts.{parts_of}
use Rattle.bus_legal.proofs.SameParts.{same_by}
use Rattle.bus_legal.proofs.normal.Normal.is_same.Goals as goal

pub returns-then-eq : goal.returns-then-eq
returns-then-eq c =
    same_by (parts_of c.self.inside.setup c.self.inside.tables) (parts_of c.other.inside.setup c.other.inside.tables) _ _ true c.eq-then-eq.result c.self.view_is c.other.view_is (sym c.if-eq.true ∙ c.eq.ensures) c.eq-then-eq.ensures

pub returns-else-eq : goal.returns-else-eq
returns-else-eq c =
    rw c.if-eq.false (same_by (parts_of c.self.inside.setup c.self.inside.tables) (parts_of c.other.inside.setup c.other.inside.tables) _ _ false _ c.self.view_is c.other.view_is (sym c.if-eq.false ∙ c.eq.ensures) refl)
