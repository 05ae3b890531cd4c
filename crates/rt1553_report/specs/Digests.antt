-- Digests of files.
use Rattle.std.specs.Prelude.{Bool, ◌||◌, is_some}
use Rattle.rt1553_report.specs.declared.head.FileDigests.{FileDigests}

-- there is one
abbrev pub has_digest : FileDigests → Bool
has_digest digests = (is_some digests.script || is_some digests.profile) || is_some digests.canonical
