use Rattle.tests_files.proofs.dropping.drop_one.Goals as goal

pub returns : goal.returns
returns g c =
    let unnamed = c.is_unnamed.ensures c.if-not-is_unnamed.false in
    record { good = (c.drop_file.ensures.dropped unnamed.0 unnamed.1.there).good }
