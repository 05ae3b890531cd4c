use Rattle.std.proofs.Common.{ℕ, ◌≡◌, ◌++◌, List, string_bytes}
use Rattle.std.specs.Str.{encode_utf8_all}
use Rattle.std.specs.Str.Chunks.{utf8_chunks_rest}
use Rattle.rt1553_files.specs.Printable.{ShowsBytes}
use Rattle.rt1553_files.proofs.printable.escaped.Given as goal

-- what was written, with characters that show the bytes which are left, shows all the bytes
abbrev pub invariant-loop-chunk : goal.invariant-loop-chunk
invariant-loop-chunk l = (done : List ℕ) × (string_bytes l.text ≡ encode_utf8_all done)
    × ((tail : List ℕ) → ShowsBytes (utf8_chunks_rest l.chunk-iterator) tail → ShowsBytes l.bytes (done ++ tail))
