use Rattle.rt1553.proofs.RefusalLaws.{only_memory_refuses}
use Rattle.rt1553.proofs.laws.only_memory_refuses_accepted_texts.Goals as goal

pub returns : goal.returns
returns c = only_memory_refuses
