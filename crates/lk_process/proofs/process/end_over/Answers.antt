use Rattle.std.proofs.Common.{inr, refl}
use Rattle.std.specs.Prelude.{None, Err}
use Rattle.lk_cli.specs.declared.answer.Refusal.TheVariants.{NoMemory}
use Rattle.lk_process.proofs.Given.{no_memory}
use Rattle.lk_process.proofs.process.end_over.Goals as goal

pub returns-in_default-clause-ends : goal.returns-in_default-clause-ends
returns-in_default-clause-ends g c = (None, Err NoMemory, no_memory _ _ _ refl, inr refl, inr (c.no_memory.ensures.status, refl), c.no_memory.ensures.told)

pub returns-then-is_err-clause-ends : goal.returns-then-is_err-clause-ends
returns-then-is_err-clause-ends g c = (None, Err NoMemory, no_memory _ _ _ refl, inr refl, inr (c.no_memory-then-is_err.ensures.status, refl), c.no_memory-then-is_err.ensures.told)
