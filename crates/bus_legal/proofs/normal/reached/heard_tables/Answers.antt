use Rattle.std.proofs.Common.{◌&&◌, ap, sym, ◌∙◌}
use Rattle.bus_legal.specs.Reach.{is_heard}
use Rattle.bus_legal.specs.Tables.{tables_say}
use Rattle.bus_legal.proofs.TablesReach.{unheard-says}
use Rattle.bus_legal.proofs.normal.reached.heard_tables.Goals as goal

pub returns-then-not-profile-clause-legal : goal.returns-then-not-profile-clause-legal
returns-then-not-profile-clause-legal c =
    let p = c.args.profile.now in
    λ cell.
    unheard-says c.of-tables.result cell
    ∙ (ap (λ b. is_heard b cell && tables_say c.of-tables.result cell) (sym c.if-not-profile.true)
    ∙ ap (λ b. is_heard p.broadcast cell && b) (c.of-tables.ensures.legal cell))
