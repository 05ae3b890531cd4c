use Rattle.rt1553_report.proofs.TextLaws.{adds, all_written}
use Rattle.rt1553_report.proofs.junit.junit_suite.Goals as goal

pub returns : goal.returns
returns c =
    let stamp = c.in_ok-push_timestamp.ensures in
    let head = c.in_ok-push_head.ensures in (
      _,
      stamp.0,
      head.0,
      stamp.1,
      head.1,
      all_written c.new-text.ensures.bytes
          (adds (adds (adds (adds (adds (adds (adds (adds (adds (adds c.in_ok-push_markup.ensures c.in_ok-push_markup-2.ensures) c.in_ok-push_markup-3.ensures)
          c.in_ok-push_markup-4.ensures) c.in_ok-push_markup-5.ensures) c.in_ok-push_markup-6.ensures) stamp.2) c.in_ok-push_markup-7.ensures) head.2)
          c.in_ok-push_markup-8.ensures) c.in_ok-push_markup-9.ensures),
    )
