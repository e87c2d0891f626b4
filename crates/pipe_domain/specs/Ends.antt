-- The ends of a pipe, in the words of the flat state.
use Rattle.std.specs.Prelude.{ℕ, ◌==◌, if◌then◌else◌, Bool, Option, Some, None}
use Rattle.unix_model.specs.Files.{Files, Description, has_reader, has_writer}
use Rattle.pipe_domain.specs.declared.ends.End.{End}
use Rattle.pipe_domain.specs.declared.ends.End.TheVariants.{Reading, Writing}

-- what is open for reading and for writing as said is open for what is done at an end
abbrev pub is_for : End → Bool → Bool → Bool
is_for Reading readable writable = readable
is_for Writing readable writable = writable

-- whether a description is this end of the pipe, or None where it isn't open on the pipe
abbrev pub end_of : End → ℕ → Option Description → Option Bool
end_of end pipe None = None
end_of end pipe (Some description) = if description.inode == pipe then Some (is_for end description.readable description.writable) else None

-- an end of the pipe is open
abbrev pub has_end : End → Files → ℕ → Bool
has_end Reading files pipe = has_reader files pipe
has_end Writing files pipe = has_writer files pipe
