-- How a source and a sink over memory give and take bytes, call by call.
use Rattle.std.specs.Prelude.{ℕ, Option}
use Rattle.byte_streams.specs.declared.memory.MemorySource.{MemorySource}
use Rattle.byte_streams.specs.declared.memory.MemorySink.{MemorySink}

-- how many calls of a source are to come before the one that fails, where one does
abbrev pub source_calls : MemorySource → Option ℕ
source_calls s = s.calls

-- how many calls of a sink are to come before the one that fails, where one does
abbrev pub sink_calls : {N : ℕ} → MemorySink N → Option ℕ
sink_calls s = s.calls

-- how many bytes one call of a source gives at most
abbrev pub source_most : MemorySource → ℕ
source_most s = s.most

-- how many bytes one call of a sink takes at most
abbrev pub sink_most : {N : ℕ} → MemorySink N → ℕ
sink_most s = s.most
