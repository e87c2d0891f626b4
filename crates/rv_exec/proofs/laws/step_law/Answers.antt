use Rattle.rv_exec.proofs.Steps.{step, fetch, stop}
use Rattle.rv_exec.proofs.laws.step_law.Goals as goal

pub returns : goal.returns
returns c = record { step = step; fetch = fetch; stop = stop }
