-- The definitions, in reading order.

-- Limits, tables, numbers
pub mod Limits
pub mod Tables
pub mod Numbers
-- Memory and instructions
pub mod Memory
pub mod Instructions
pub mod Execution
-- The state: calls and refusals by their numbers, processes, files, the whole, and the room in it
pub mod Calls
pub mod Process
pub mod Files
pub mod State
pub mod Room
-- How the lines of calls are written, and how a path is walked
pub mod Refusals
pub mod Paths
-- Programs: what an ELF file says, and the memory that is made of it
pub mod Elf
pub mod Loading
-- The calls: at the keeper, and then at their servers
pub mod Enter
pub mod TurnRecord
pub mod Effect
pub mod ProcessCalls
pub mod FileCalls
pub mod NameCalls
-- Turns and runs
pub mod Turn
pub mod Machine
pub mod Schedule
-- The start, and what holds from there on
pub mod Boot
pub mod Rules
-- The texts of the program: its input and its notes
pub mod Texts
pub mod Notes
