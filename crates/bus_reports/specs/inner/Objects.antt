-- The object of a check in JSON.
use Rattle.std.specs.Prelude.{◌≡◌, option_map}
use Rattle.std.specs.String.{string_bytes}
use Rattle.hex.specs.Hex.{encode_lower}
use Rattle.bus_reports.specs.declared.report.CheckReport.{CheckReport}
use Rattle.bus_reports.specs.declared.json.CheckObject.{CheckObject}
use Rattle.bus_reports.specs.Outcomes.{file_fault, file_in_every_order, file_messages, file_passes}

-- it tells whether the file passes, and in every order, how many messages it has, why it is refused, its digest, the versions and the date
pub record IsObjectOf (report : CheckReport) (object : CheckObject) : Type 0 where
  pub passes : object.passes ≡ file_passes report.outcome
  pub every_order : object.every_order ≡ file_in_every_order report.outcome
  pub messages : object.messages ≡ file_messages report.outcome
  pub fault : option_map (λ t. t.now) object.fault ≡ file_fault report.outcome
  pub sha256 : option_map string_bytes object.sha256 ≡ option_map encode_lower report.digest
  pub program : object.program ≡ report.head.program
  pub toolchain : object.toolchain ≡ report.head.toolchain
  pub canonical : object.canonical ≡ report.head.canonical
  pub date : object.date ≡ report.head.date
