use Rattle.std.proofs.Common.{◌++◌, sym, subst, refl, map, []}
use Rattle.bus_legal.specs.Description.{described}
use Rattle.bus_legal.specs.Tables.{tables_say}
use Rattle.bus_legal.proofs.NormalLaws.{reach-set_up_normal}
use Rattle.script_lines.specs.Text.{lines_of}
use Rattle.bus_script.specs.Reading.{reading}
use Rattle.terminal_rules.specs.Past.{history_after}
use Rattle.terminal_messages.specs.Messages.{closed, still_open}
use Rattle.terminal_messages.specs.Parts.{tell}
use Rattle.terminal_messages.specs.View.{told_view}
use Rattle.rt1553_page.specs.Listed.{line_of_event, rows_told}
use Rattle.rt1553_page.specs.inner.Held.{Holds}
use Rattle.rt1553_page.proofs.ListLaws.{told-append}
use Rattle.rt1553_page.proofs.listing.list_rows.Goals as goal

pub returns-clause-held : goal.returns-clause-held
returns-clause-held c =
    let v = c.args.normal in
    let script = c.args.script.now in
    let P = described c.setup.result (tables_say v.tables) in
    let at = line_of_event script in
    let begun = c.power_up-watch.ensures at in
    let e = c.put_script-fault.ensures in
    let h = history_after (reading 0 (lines_of script)).events [] in
    let listed = e.held P begun (record { whole = λ a. refl; over = λ a. absurd (cc) }) in
    let last = subst (λ xs. Holds (rows_told (map (told_view P at) (closed (tell P h))) ++ rows_told xs) c.put_closed.new.to c.put_closed.new.filled) (c.end.ensures P at h (e.stands P begun))
    (c.put_closed.ensures.held _ listed) in (
      P,
      reach-set_up_normal v c.setup.result c.setup.ensures.normal c.setup.ensures.parts,
      subst (λ rows. Holds rows c.put_closed.new.to c.put_closed.new.filled) (sym (told-append (told_view P at) (closed (tell P h)) (still_open (tell P h)))) last,
    )
