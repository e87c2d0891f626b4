use Rattle.std.proofs.Common.{arith, refl}
use Rattle.bundle.specs.Lines.{lines_begun}
use Rattle.bundle.specs.Contents.{Directory, made_of}
use Rattle.bundle.proofs.MadeLaws.{user-whole}
use Rattle.bundle.proofs.contents.content.Goals as goal

pub returns-in-Directory-clause-made : goal.returns-in-Directory-clause-made
unfolding made_of
returns-in-Directory-clause-made g c = λ bytes told.
    (record { content = Directory; lines = 0; rest = bytes }, rw c.in-Directory.is refl, told, refl, omega arith)

pub returns-in-Ok-clause-made : goal.returns-in-Ok-clause-made
unfolding made_of
returns-in-Ok-clause-made g c = rw c.in-Part.is c.in-Ok.ensures.made

pub returns-in-Err-clause-fault : goal.returns-in-Err-clause-fault
unfolding made_of
returns-in-Err-clause-fault g c = rw c.in-Part.is c.in-Err.ensures.fault

pub returns-in-Ok-user_file-clause-made : goal.returns-in-Ok-user_file-clause-made
unfolding made_of
returns-in-Ok-user_file-clause-made g c = λ bytes told.
    rw c.in-Program.is (user-whole (lines_begun c.args.lines.now) c.in-Program.source.now c.in-Ok-user_file.file.items bytes (g.S.Source.left c.args.from.now) told c.in-Ok-user_file.ensures.made)

pub returns-in-Err-user_file-clause-fault : goal.returns-in-Err-user_file-clause-fault
unfolding made_of
returns-in-Err-user_file-clause-fault g c = λ bytes told.
    rw c.in-Program.is ((rw c.line.ensures at c.in-Err-user_file.ensures.refused) bytes)
