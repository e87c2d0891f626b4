use Rattle.std.proofs.Common.{take}
use Rattle.std.specs.Prelude.{All}
use Rattle.unix_model.specs.Rules.{IsNameByte}
use Rattle.tests_files.proofs.directories.are_name_bytes.Given as goal

-- the bytes so far are those of names
abbrev pub invariant-loop-byte : goal.invariant-loop-byte
invariant-loop-byte l = All IsNameByte (take l.byte-index l.name)
