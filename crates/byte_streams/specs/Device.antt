-- What a sink does with bytes.
use Rattle.std.specs.Prelude.{ℕ, Bool, true, ◌==◌, ◌&&◌, ◌≡◌, nat_lt, List, ◌++◌, Option, Result, Ok, Err}
use Rattle.std.specs.Io.KnownBytes.{Appends}

-- a write fails: it answers an error, or takes none of a piece that has some
abbrev pub write_fails : {E : Type 0} → Result ℕ E → ℕ → Bool
write_fails (Ok n) len = (n == 0) && nat_lt 0 len
write_fails (Err e) len = true

-- a part of the bytes was written, from the front on
abbrev pub IsPartWritten : Option (List ℕ) → Option (List ℕ) → List ℕ → Type 0
IsPartWritten old new bytes = (part : List ℕ) × (more : List ℕ) × (part ++ more ≡ bytes) × Appends old new part
