use Rattle.std.proofs.Common.{refl, inl, inr}
use Rattle.keynix.specs.Telling.{no_memory_note}
use Rattle.keynix.specs.declared.ending.Ending.TheVariants.{NoMemory}
use Rattle.keynix.proofs.finish.tell_text.Goals as goal

pub returns-in-Ok-put-clause-tells : goal.returns-in-Ok-put-clause-tells
unfolding no_memory_note
returns-in-Ok-put-clause-tells g c = inr (inr (refl, c.requires.takes, c.in-Ok-put.ensures.grew))

pub returns-in-Err-put-clause-tells : goal.returns-in-Err-put-clause-tells
unfolding no_memory_note
returns-in-Err-put-clause-tells g c = inr (inl (refl, c.in-Err-put.ensures.failed, (NoMemory, no_memory_note, refl, c.in-Err-put.ensures.part)))
