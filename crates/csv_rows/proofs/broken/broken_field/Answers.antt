use Rattle.std.proofs.Common.{◌≡◌, ◌∙◌, ◌+◌, ◌≤◌, ◌==◌, Some, sym, ap, subst, slice_index_or, arith}
use Rattle.csv_rows.specs.declared.field.FieldState.TheVariants.{Start}
use Rattle.csv_rows.specs.inner.Scan.{next_state, line_after}
use Rattle.csv_rows.proofs.ScanLaws.{few_on, place_on, scan, first_place, scan_breaks, scan_goes_on, scan_ends, place_kept, none_at_end, at_end, csv_found, broken_found}
use Rattle.csv_rows.proofs.broken.broken_field.Goals.{in-Start, in_default-next}
use Rattle.csv_rows.proofs.broken.broken_field.Goals as goal

pub returns-in_default : goal.returns-in_default
returns-in_default c =
    let l = c.loop-byte in
    let feed = c.line_end_of-feed.result in
    broken_found c.args.delimiter c.args.text.now l.place
    (subst (λ feed. scan feed c.args.delimiter Start first_place 1 c.args.text.now ≡ Some l.place) c.line_end_of-feed.ensures
    (sym l.invariant.0 ∙ scan_breaks feed c.args.delimiter l.state l.place l.line c.args.text.now l.byte-index c.loop-byte-test.true (sym c.next_state.ensures ∙ c.in_default.is)))

pub loop-byte-preserved : goal.loop-byte-preserved
loop-byte-preserved c =
    let l = c.loop-byte in
    let d = c.args.delimiter in
    let text = c.args.text.now in
    let b = slice_index_or text l.byte-index 0 in
    let line = c.line_after-line in
    let feed = c.line_end_of-feed.result in
    let next : next_state d l.state b ≡ Some c.in-Some.next = sym c.next_state.ensures ∙ c.in-Some.is in
    let few : line_after feed l.line b ≤ l.byte-index + 1 + 1 = few_on (b == feed) l.line l.line (l.byte-index + 1) l.invariant.1 (omega (arith, l.invariant.1)) in
    elim c.match-next.branch [
      | in-Start w ↦ (
        scan_goes_on feed d l.state c.match-next.state l.place c.match-next.place l.line line.result text l.byte-index c.loop-byte-test.true (next ∙ ap Some (sym w.state-is)) line.ensures
            (w.place-is ∙ (w.place_after-place.ensures ∙ ap (λ s. place_on d s l.place line.result b) (sym (w.state-is ∙ w.in-Start.is)))) ∙ l.invariant.0,
        subst (λ n. n ≤ l.byte-index + 1 + 1) (sym line.ensures) few,
        subst (λ p. p.column ≤ l.byte-index + 1 + 1) (sym (w.place-is ∙ w.place_after-place.ensures)) (few_on (b == d) l.place.column 1 (l.byte-index + 1) l.invariant.2 (omega arith)),
      )
      | in_default-next w ↦ (
        scan_goes_on feed d l.state c.match-next.state l.place c.match-next.place l.line line.result text l.byte-index c.loop-byte-test.true (next ∙ ap Some (sym w.state-is)) line.ensures
            (w.place-is ∙ sym (place_kept d c.match-next.state l.place line.result b (λ e. w.in_default-next.not-Start (sym w.state-is ∙ e)))) ∙ l.invariant.0,
        subst (λ n. n ≤ l.byte-index + 1 + 1) (sym line.ensures) few,
        subst (λ p. p.column ≤ l.byte-index + 1 + 1) (sym w.place-is) (omega (arith, l.invariant.2)),
      )
    ]

pub returns-in-Quoted : goal.returns-in-Quoted
returns-in-Quoted c =
    let l = c.loop-byte in
    let feed = c.line_end_of-feed.result in
    broken_found c.args.delimiter c.args.text.now l.place
    (subst (λ feed. scan feed c.args.delimiter Start first_place 1 c.args.text.now ≡ Some l.place) c.line_end_of-feed.ensures
    (sym l.invariant.0 ∙ (scan_ends feed c.args.delimiter l.state l.place l.line c.args.text.now l.byte-index c.loop-byte-test.false ∙ ap (λ s. at_end s l.place) c.in-Quoted.is)))

pub returns-in_default-state : goal.returns-in_default-state
returns-in_default-state c =
    let l = c.loop-byte in
    let feed = c.line_end_of-feed.result in
    csv_found feed c.args.delimiter c.args.text.now
    (sym l.invariant.0 ∙ (scan_ends feed c.args.delimiter l.state l.place l.line c.args.text.now l.byte-index c.loop-byte-test.false ∙ none_at_end l.state l.place c.in_default-state.not-Quoted))
