use Rattle.recording_coverage.proofs.rows.covered_message.Goals as goal

pub returns : goal.returns
returns c = λ ends covers. λ j. record { cell = c.args.cell; counts = c.counts_at.ensures ends covers j }
