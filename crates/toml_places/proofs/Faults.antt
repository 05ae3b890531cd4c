-- Faults that a `?` passes on.
use Rattle.std.proofs.Common.{◌≡◌, Option, Some, None, Result, MatchResult, arith}
use Rattle.std.specs.Result.{IsErrAnd}
use Rattle.toml_parser.specs.declared.error.ParseError.{ParseError}
use Rattle.toml_parser.specs.declared.error.ParseError.TheVariants.{OutOfMemory}
use Rattle.toml_places.specs.declared.fault.StatementsFault.{StatementsFault}
use Rattle.toml_places.specs.declared.fault.StatementsFault.TheVariants.{Memory}
use Rattle.toml_places.specs.Found.{fault_of}

-- where the grammar reads something, the parser gives up for want of memory alone
pub memory_fault : {B : Type 0} (e : ParseError) (expected : Option B) (x : B) → ((e ≡ OutOfMemory → ⊥) → expected ≡ None) → expected ≡ Some x → fault_of e ≡ Memory
memory_fault e expected x h h1 = search arith

-- the fault that a `?` passes on
pub passed_on : {A : Type 0} (r : Result A StatementsFault) (e : StatementsFault) (P : A → Type 0) (Q : StatementsFault → Type 0)
    → IsErrAnd r Q → ((y : StatementsFault) → Q y → y ≡ e) → e ≡ Memory → MatchResult r P (λ fault. fault ≡ Memory)
passed_on r e P Q h h1 h2 = search arith
