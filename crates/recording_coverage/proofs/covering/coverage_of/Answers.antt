use Rattle.std.proofs.Common.{[]}
use Rattle.bus_legal.specs.Parts.{description_in}
use Rattle.bus_legal.specs.Reach.{reach}
use Rattle.recording_coverage.specs.declared.table.CoverageTable.{CoverageTable}
use Rattle.recording_coverage.specs.Endings.{ends_of}
use Rattle.recording_coverage.specs.Rows.{covered, tried_illegal}
use Rattle.recording_coverage.proofs.TableLaws.{told_of}
use Rattle.recording_coverage.proofs.covering.coverage_of.Goals as goal

pub returns-clause-legal : goal.returns-clause-legal
returns-clause-legal c = λ P reached.
    told_of (λ (t : CoverageTable). t.legal.items) covered c.of.result (description_in c.args.normal.now) (reach P) (ends_of P c.args.events.now) c.count_events.new.coverage reached
    (c.count_events.ensures P [] reached c.in_ok-coverage.ensures) c.of.ensures.legal

pub returns-clause-illegal : goal.returns-clause-illegal
returns-clause-illegal c = λ P reached.
    told_of (λ (t : CoverageTable). t.illegal.items) tried_illegal c.of.result (description_in c.args.normal.now) (reach P) (ends_of P c.args.events.now) c.count_events.new.coverage reached
    (c.count_events.ensures P [] reached c.in_ok-coverage.ensures) c.of.ensures.illegal
