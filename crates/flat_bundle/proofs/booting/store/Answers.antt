use Rattle.std.proofs.Common.{◌≡◌, ℕ, List, [], ◌∷◌, Ok, Err, false, sym, ap, subst, ◌∙◌}
use Rattle.unix_model.specs.Boot.{BootEntry, NoRoomFor, NewDirectory, NewFile, with_boot_entries}
use Rattle.flat_boot.specs.NewPaths.{is_new_path}
use Rattle.flat_unix.specs.FlatView.{unix_of}
use Rattle.flat_bundle.proofs.StoreLaws.{dir_refused, dir_stores, file_refused, file_stores, not_new}
use Rattle.flat_bundle.proofs.booting.store.Goals as goal

pub returns-then-not-is_new_path-clause-refused : goal.returns-then-not-is_new_path-clause-refused
returns-then-not-is_new_path-clause-refused c =
    let old : is_new_path (unix_of c.args.flat.now).files c.in-Dir.path ≡ false =
    ap (λ path. is_new_path (unix_of c.args.flat.now).files path) (sym c.as_slice.ensures) ∙ sym c.is_new_path.ensures ∙ c.if-not-is_new_path.true in
    let entry : BootEntry = record { path = c.in-Dir.path; node = NewDirectory } in
    dir_refused c.args.entry.now c.in-Dir.path c.in-Dir.line (unix_of c.args.flat.now) c.in-Dir.is (not_new (unix_of c.args.flat.now) entry old)

pub returns-then-not-is_new_path-2-clause-refused : goal.returns-then-not-is_new_path-2-clause-refused
returns-then-not-is_new_path-2-clause-refused c =
    let old : is_new_path (unix_of c.args.flat.now).files c.in-File.path ≡ false =
    ap (λ path. is_new_path (unix_of c.args.flat.now).files path) (sym c.as_slice-in-File.ensures) ∙ sym c.is_new_path-in-File.ensures ∙ c.if-not-is_new_path-2.true in
    let entry : BootEntry = record { path = c.in-File.path; node = NewFile c.in-File.bytes } in
    file_refused c.args.entry.now c.in-File.path c.in-File.bytes c.in-File.line (unix_of c.args.flat.now) c.in-File.is (not_new (unix_of c.args.flat.now) entry old)

pub returns-in-Ok-clause-stored : goal.returns-in-Ok-clause-stored
returns-in-Ok-clause-stored c =
    dir_stores c.args.entry.now c.in-Dir.path c.in-Dir.line (unix_of c.args.flat.now) (unix_of c.add_dir.new.self) c.in-Dir.is
    (subst (λ path. with_boot_entries 0 (unix_of c.args.flat.now) (record { path = path; node = NewDirectory } ∷ []) ≡ Ok (unix_of c.add_dir.new.self)) c.as_slice-in-Dir.ensures (c.in-Ok.ensures.ok 0))

pub returns-in-Err-NoRoom-clause-refused : goal.returns-in-Err-NoRoom-clause-refused
returns-in-Err-NoRoom-clause-refused c =
    dir_refused c.args.entry.now c.in-Dir.path c.in-Dir.line (unix_of c.args.flat.now) c.in-Dir.is
    (subst (λ path. with_boot_entries 0 (unix_of c.args.flat.now) (record { path = path; node = NewDirectory } ∷ []) ≡ Err (NoRoomFor 0)) c.as_slice-in-Dir.ensures (c.add_dir.ensures.no_room 0 (c.in-Err-NoRoom.is ∙ ap (λ fault. Err fault) c.in-Err-NoRoom.field-0-is)))

pub returns-in-Ok-add_file-clause-stored : goal.returns-in-Ok-add_file-clause-stored
returns-in-Ok-add_file-clause-stored c =
    let step : List ℕ → List ℕ → Type 0 = λ path bytes. with_boot_entries 0 (unix_of c.args.flat.now) (record { path = path; node = NewFile bytes } ∷ []) ≡ Ok (unix_of c.add_file.new.self) in
    file_stores c.args.entry.now c.in-File.path c.in-File.bytes c.in-File.line (unix_of c.args.flat.now) (unix_of c.add_file.new.self) c.in-File.is
    (subst (λ path. step path c.in-File.bytes) c.as_slice-in-File-2.ensures (subst (step c.as_slice-in-File-2.result.now) c.as_slice-in-File-3.ensures (c.in-Ok-add_file.ensures.ok 0)))

pub returns-in-Err-NoRoom-add_file-clause-refused : goal.returns-in-Err-NoRoom-add_file-clause-refused
returns-in-Err-NoRoom-add_file-clause-refused c =
    let step : List ℕ → List ℕ → Type 0 = λ path bytes. with_boot_entries 0 (unix_of c.args.flat.now) (record { path = path; node = NewFile bytes } ∷ []) ≡ Err (NoRoomFor 0) in
    file_refused c.args.entry.now c.in-File.path c.in-File.bytes c.in-File.line (unix_of c.args.flat.now) c.in-File.is
    (subst (λ path. step path c.in-File.bytes) c.as_slice-in-File-2.ensures
    (subst (step c.as_slice-in-File-2.result.now) c.as_slice-in-File-3.ensures (c.add_file.ensures.no_room 0 (c.in-Err-NoRoom-add_file.is ∙ ap (λ fault. Err fault) c.in-Err-NoRoom-add_file.field-0-is))))
