-- How the turns of a slot go.
use Rattle.std.specs.Prelude.{Option, Some, None}
use Rattle.unix_model.specs.Process.{Process, Phase, Run, Asked, Sent, Done, Exiting, Zombie}
use Rattle.flat_state.specs.declared.pace.Pace.{Pace}
use Rattle.flat_state.specs.declared.pace.Pace.TheVariants.{Free, Running, Other}

-- by the phase of its process
abbrev pub phase_pace : Phase → Pace
phase_pace Run = Running
phase_pace Asked = Other
phase_pace (Sent sent) = Other
phase_pace (Done value address bytes) = Other
phase_pace (Exiting word) = Other
phase_pace (Zombie word) = Free

-- by what the slot holds
abbrev pub pace_of : Option Process → Pace
pace_of None = Free
pace_of (Some process) = phase_pace process.phase
