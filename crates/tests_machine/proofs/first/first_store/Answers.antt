use Rattle.unix_model.specs.Calls.{call_of}
use Rattle.tests_machine.proofs.first.first_store.Goals as goal

pub returns-in-Ok : goal.returns-in-Ok
returns-in-Ok c = (c.first_machine.ensures.first.good call_of).bank
