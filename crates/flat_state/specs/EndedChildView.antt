-- The children that those of the plain machine stand for.
use Rattle.unix_model.specs.ProcessCalls as model
use Rattle.flat_state.specs.declared.ended_child.EndedChild.{EndedChild}

abbrev pub ended_child_of : EndedChild → model.EndedChild
ended_child_of ended = record { slot = ended.slot; pid = ended.pid; word = ended.word }
