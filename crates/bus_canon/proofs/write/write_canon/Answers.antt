use Rattle.std.proofs.Common.{◌≡◌, ◌++◌, ℕ, List, subst, sym, ◌∙◌, ap, length, ◌≤◌}
use Rattle.bus_legal.specs.Parts.{parts_of}
use Rattle.bus_canon.proofs.CanonLaws.{text_read, text_size}
use Rattle.bus_canon.proofs.write.write_canon.Goals as goal

pub returns-clause-size : goal.returns-clause-size
returns-clause-size c =
    let written = c.in_ok-put_text.ensures in
    let all : c.put_text.new.out.items ≡ written.0 = written.1 ∙ ap (λ (out : List ℕ). out ++ written.0) c.in_ok-out.ensures.items in
    subst (λ bytes. length bytes ≤ 7618) (sym all) (text_size (parts_of c.setup.result c.tables.result.now) written.0 (text_read (parts_of c.setup.result c.tables.result.now) written.0 written.2)).1
