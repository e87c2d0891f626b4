use Rattle.std.proofs.Common.{◌⊎◌, ◌+◌, ◌*◌, [], ◌∷◌, arith, refl, ap, ◌∙◌, inl, ⊎_elim, length}
use Rattle.kn_base.proofs.RowLaws.{length-overwritten}
use Rattle.kn_disk.specs.Images.{resized, Scarred}
use Rattle.obj_store.specs.Store.{ram_of}
use Rattle.disk_layout.specs.Sizes.{disk_size}
use Rattle.kn_disk.proofs.RunLaws.{leaves-wider, leaves-joined}
use Rattle.checkpoint.specs.Format.{Blank, NoneOr}
use Rattle.checkpoint.proofs.BlankLaws.{blank_raw}
use Rattle.checkpoint.proofs.FormatLaws.{raw_laid, label-laid, label-torn, laid-steps, length-resized}
use Rattle.checkpoint.proofs.formatting.lay.Goals as goal

pub put-requires-clause-within : goal.put-requires-clause-within
put-requires-clause-within g c told = omega (arith, c.label_bytes-label.ensures.size, (ap length (c.in-Ok.ensures.contents told ∙ ap (λ n. resized n (0 ∷ [])) (ap (λ h. h + 4096 * c.blocks-blocks.result) c.home_of_size-home.ensures.home ∙ ap disk_size c.blocks-blocks.ensures)) ∙ length-resized (disk_size (length (ram_of c.args.store.now).blocks))))

pub put_homes-requires-clause-size : goal.put_homes-requires-clause-size
put_homes-requires-clause-size g c told =
    ap length (c.in-Ok-put.ensures.written told)
    ∙ length-overwritten (g.D.Disk.contents c.begin.new.disk) 1 c.label_bytes-label.result (omega (arith, c.label_bytes-label.ensures.size, (ap length (c.in-Ok.ensures.contents told ∙ ap (λ n. resized n (0 ∷ [])) (ap (λ h. h + 4096 * c.blocks-blocks.result) c.home_of_size-home.ensures.home ∙ ap disk_size c.blocks-blocks.ensures)) ∙ length-resized (disk_size (length (ram_of c.args.store.now).blocks))))) ∙ (ap length (c.in-Ok.ensures.contents told ∙ ap (λ n. resized n (0 ∷ [])) (ap (λ h. h + 4096 * c.blocks-blocks.result) c.home_of_size-home.ensures.home ∙ ap disk_size c.blocks-blocks.ensures)) ∙ length-resized (disk_size (length (ram_of c.args.store.now).blocks)))

pub open_gate-requires : goal.open_gate-requires
open_gate-requires g c = record { within = λ told. omega (arith, (laid-steps (length (ram_of c.args.store.now).blocks) c.args.pages c.args.quantum (ram_of c.args.store.now).blocks c.label_bytes-label.result (g.D.Disk.contents c.begin.new.disk) (g.D.Disk.contents c.put.new.disk) (g.D.Disk.contents c.put_homes.new.disk) (c.in-Ok.ensures.contents told ∙ ap (λ n. resized n (0 ∷ [])) (ap (λ h. h + 4096 * c.blocks-blocks.result) c.home_of_size-home.ensures.home ∙ ap disk_size c.blocks-blocks.ensures)) (c.in-Ok-put.ensures.written told) c.label_bytes-label.ensures (c.in-Ok-put_homes.ensures.laid told) (ap length (c.in-Ok.ensures.contents told ∙ ap (λ n. resized n (0 ∷ [])) (ap (λ h. h + 4096 * c.blocks-blocks.result) c.home_of_size-home.ensures.home ∙ ap disk_size c.blocks-blocks.ensures)) ∙ length-resized (disk_size (length (ram_of c.args.store.now).blocks)))).size) }

pub returns-in-Err-clause-leaves : goal.returns-in-Err-clause-leaves
returns-in-Err-clause-leaves g c told = (leaves-wider g.D.Disk.moment g.D.Disk.image g.D.Disk.since Blank (NoneOr c.args.pages c.args.quantum (ram_of c.args.store.now).blocks) _ _ (λ f b. inl (blank_raw f b)) (c.begin.ensures.leaves told))

pub returns-in-Err-put-clause-leaves : goal.returns-in-Err-put-clause-leaves
returns-in-Err-put-clause-leaves g c told = (leaves-joined g.D.Disk.moment g.D.Disk.image g.D.Disk.since (NoneOr c.args.pages c.args.quantum (ram_of c.args.store.now).blocks) _ _ _ (leaves-wider g.D.Disk.moment g.D.Disk.image g.D.Disk.since Blank (NoneOr c.args.pages c.args.quantum (ram_of c.args.store.now).blocks) _ _ (λ f b. inl (blank_raw f b)) (c.begin.ensures.leaves told)) (leaves-wider g.D.Disk.moment g.D.Disk.image g.D.Disk.since Blank (NoneOr c.args.pages c.args.quantum (ram_of c.args.store.now).blocks) _ _ (λ f b. inl (blank_raw f b)) (c.put.ensures.leaves told)))

pub returns-in-Err-put_homes-clause-leaves : goal.returns-in-Err-put_homes-clause-leaves
returns-in-Err-put_homes-clause-leaves g c told = (leaves-joined g.D.Disk.moment g.D.Disk.image g.D.Disk.since (NoneOr c.args.pages c.args.quantum (ram_of c.args.store.now).blocks) _ _ _ (leaves-joined g.D.Disk.moment g.D.Disk.image g.D.Disk.since (NoneOr c.args.pages c.args.quantum (ram_of c.args.store.now).blocks) _ _ _ (leaves-wider g.D.Disk.moment g.D.Disk.image g.D.Disk.since Blank (NoneOr c.args.pages c.args.quantum (ram_of c.args.store.now).blocks) _ _ (λ f b. inl (blank_raw f b)) (c.begin.ensures.leaves told)) (leaves-wider g.D.Disk.moment g.D.Disk.image g.D.Disk.since Blank (NoneOr c.args.pages c.args.quantum (ram_of c.args.store.now).blocks) _ _ (λ f b. inl (blank_raw f b)) (c.put.ensures.leaves told))) (leaves-wider g.D.Disk.moment g.D.Disk.image g.D.Disk.since Blank (NoneOr c.args.pages c.args.quantum (ram_of c.args.store.now).blocks) _ _ (λ f b. inl (blank_raw f b)) (c.put_homes.ensures.leaves told)))

pub returns-in-Err-open_gate-clause-leaves : goal.returns-in-Err-open_gate-clause-leaves
returns-in-Err-open_gate-clause-leaves g c told =
    leaves-joined g.D.Disk.moment g.D.Disk.image g.D.Disk.since (NoneOr c.args.pages c.args.quantum (ram_of c.args.store.now).blocks) _ _ _ (leaves-joined g.D.Disk.moment g.D.Disk.image g.D.Disk.since (NoneOr c.args.pages c.args.quantum (ram_of c.args.store.now).blocks) _ _ _ (leaves-joined g.D.Disk.moment g.D.Disk.image g.D.Disk.since (NoneOr c.args.pages c.args.quantum (ram_of c.args.store.now).blocks) _ _ _ (leaves-wider g.D.Disk.moment g.D.Disk.image g.D.Disk.since Blank (NoneOr c.args.pages c.args.quantum (ram_of c.args.store.now).blocks) _ _ (λ f b. inl (blank_raw f b)) (c.begin.ensures.leaves told)) (leaves-wider g.D.Disk.moment g.D.Disk.image g.D.Disk.since Blank (NoneOr c.args.pages c.args.quantum (ram_of c.args.store.now).blocks) _ _ (λ f b. inl (blank_raw f b)) (c.put.ensures.leaves told))) (leaves-wider g.D.Disk.moment g.D.Disk.image g.D.Disk.since Blank (NoneOr c.args.pages c.args.quantum (ram_of c.args.store.now).blocks) _ _ (λ f b. inl (blank_raw f b)) (c.put_homes.ensures.leaves told)))
    (leaves-wider g.D.Disk.moment g.D.Disk.image g.D.Disk.since (λ f. g.D.Disk.image c.put_homes.new.disk f ⊎ Scarred 0 1 (g.D.Disk.contents c.put_homes.new.disk) f) (NoneOr c.args.pages c.args.quantum (ram_of c.args.store.now).blocks) _ _
    (λ f. ⊎_elim (λ now. inl (blank_raw f (c.put_homes.ensures.images told f now)))
    (λ torn. label-torn (length (ram_of c.args.store.now).blocks) c.args.pages c.args.quantum (ram_of c.args.store.now).blocks (g.D.Disk.contents c.put_homes.new.disk) f (laid-steps (length (ram_of c.args.store.now).blocks) c.args.pages c.args.quantum (ram_of c.args.store.now).blocks c.label_bytes-label.result (g.D.Disk.contents c.begin.new.disk) (g.D.Disk.contents c.put.new.disk) (g.D.Disk.contents c.put_homes.new.disk) (c.in-Ok.ensures.contents told ∙ ap (λ n. resized n (0 ∷ [])) (ap (λ h. h + 4096 * c.blocks-blocks.result) c.home_of_size-home.ensures.home ∙ ap disk_size c.blocks-blocks.ensures)) (c.in-Ok-put.ensures.written told) c.label_bytes-label.ensures (c.in-Ok-put_homes.ensures.laid told) (ap length (c.in-Ok.ensures.contents told ∙ ap (λ n. resized n (0 ∷ [])) (ap (λ h. h + 4096 * c.blocks-blocks.result) c.home_of_size-home.ensures.home ∙ ap disk_size c.blocks-blocks.ensures)) ∙ length-resized (disk_size (length (ram_of c.args.store.now).blocks)))) c.requires.pages c.requires.pages_in.0 c.requires.pages_in.1 c.requires.pages_in.2 c.requires.quantum_in.0 c.requires.quantum_in.1 refl torn))
    (c.open_gate.ensures.leaves told))

pub returns-in-Ok-open_gate-clause-leaves : goal.returns-in-Ok-open_gate-clause-leaves
returns-in-Ok-open_gate-clause-leaves g c told =
    leaves-joined g.D.Disk.moment g.D.Disk.image g.D.Disk.since (NoneOr c.args.pages c.args.quantum (ram_of c.args.store.now).blocks) _ _ _ (leaves-joined g.D.Disk.moment g.D.Disk.image g.D.Disk.since (NoneOr c.args.pages c.args.quantum (ram_of c.args.store.now).blocks) _ _ _ (leaves-joined g.D.Disk.moment g.D.Disk.image g.D.Disk.since (NoneOr c.args.pages c.args.quantum (ram_of c.args.store.now).blocks) _ _ _ (leaves-wider g.D.Disk.moment g.D.Disk.image g.D.Disk.since Blank (NoneOr c.args.pages c.args.quantum (ram_of c.args.store.now).blocks) _ _ (λ f b. inl (blank_raw f b)) (c.begin.ensures.leaves told)) (leaves-wider g.D.Disk.moment g.D.Disk.image g.D.Disk.since Blank (NoneOr c.args.pages c.args.quantum (ram_of c.args.store.now).blocks) _ _ (λ f b. inl (blank_raw f b)) (c.put.ensures.leaves told))) (leaves-wider g.D.Disk.moment g.D.Disk.image g.D.Disk.since Blank (NoneOr c.args.pages c.args.quantum (ram_of c.args.store.now).blocks) _ _ (λ f b. inl (blank_raw f b)) (c.put_homes.ensures.leaves told)))
    (leaves-wider g.D.Disk.moment g.D.Disk.image g.D.Disk.since (λ f. g.D.Disk.image c.put_homes.new.disk f ⊎ Scarred 0 1 (g.D.Disk.contents c.put_homes.new.disk) f) (NoneOr c.args.pages c.args.quantum (ram_of c.args.store.now).blocks) _ _
    (λ f. ⊎_elim (λ now. inl (blank_raw f (c.put_homes.ensures.images told f now)))
    (λ torn. label-torn (length (ram_of c.args.store.now).blocks) c.args.pages c.args.quantum (ram_of c.args.store.now).blocks (g.D.Disk.contents c.put_homes.new.disk) f (laid-steps (length (ram_of c.args.store.now).blocks) c.args.pages c.args.quantum (ram_of c.args.store.now).blocks c.label_bytes-label.result (g.D.Disk.contents c.begin.new.disk) (g.D.Disk.contents c.put.new.disk) (g.D.Disk.contents c.put_homes.new.disk) (c.in-Ok.ensures.contents told ∙ ap (λ n. resized n (0 ∷ [])) (ap (λ h. h + 4096 * c.blocks-blocks.result) c.home_of_size-home.ensures.home ∙ ap disk_size c.blocks-blocks.ensures)) (c.in-Ok-put.ensures.written told) c.label_bytes-label.ensures (c.in-Ok-put_homes.ensures.laid told) (ap length (c.in-Ok.ensures.contents told ∙ ap (λ n. resized n (0 ∷ [])) (ap (λ h. h + 4096 * c.blocks-blocks.result) c.home_of_size-home.ensures.home ∙ ap disk_size c.blocks-blocks.ensures)) ∙ length-resized (disk_size (length (ram_of c.args.store.now).blocks)))) c.requires.pages c.requires.pages_in.0 c.requires.pages_in.1 c.requires.pages_in.2 c.requires.quantum_in.0 c.requires.quantum_in.1 refl torn))
    (c.open_gate.ensures.leaves told))

pub returns-in-Ok-open_gate-clause-holds : goal.returns-in-Ok-open_gate-clause-holds
returns-in-Ok-open_gate-clause-holds g c told =
    raw_laid (length (ram_of c.args.store.now).blocks) c.args.pages c.args.quantum (ram_of c.args.store.now).blocks (g.D.Disk.contents c.put_homes.new.disk) _ (laid-steps (length (ram_of c.args.store.now).blocks) c.args.pages c.args.quantum (ram_of c.args.store.now).blocks c.label_bytes-label.result (g.D.Disk.contents c.begin.new.disk) (g.D.Disk.contents c.put.new.disk) (g.D.Disk.contents c.put_homes.new.disk) (c.in-Ok.ensures.contents told ∙ ap (λ n. resized n (0 ∷ [])) (ap (λ h. h + 4096 * c.blocks-blocks.result) c.home_of_size-home.ensures.home ∙ ap disk_size c.blocks-blocks.ensures)) (c.in-Ok-put.ensures.written told) c.label_bytes-label.ensures (c.in-Ok-put_homes.ensures.laid told) (ap length (c.in-Ok.ensures.contents told ∙ ap (λ n. resized n (0 ∷ [])) (ap (λ h. h + 4096 * c.blocks-blocks.result) c.home_of_size-home.ensures.home ∙ ap disk_size c.blocks-blocks.ensures)) ∙ length-resized (disk_size (length (ram_of c.args.store.now).blocks)))) (c.in-Ok-open_gate.ensures.written told) c.requires.pages c.requires.pages_in.0 c.requires.pages_in.1 c.requires.pages_in.2 c.requires.quantum_in.0 c.requires.quantum_in.1 refl

pub returns-in-Ok-open_gate-clause-label : goal.returns-in-Ok-open_gate-clause-label
returns-in-Ok-open_gate-clause-label g c told =
    label-laid (length (ram_of c.args.store.now).blocks) c.args.pages c.args.quantum (ram_of c.args.store.now).blocks (g.D.Disk.contents c.put_homes.new.disk) _ (laid-steps (length (ram_of c.args.store.now).blocks) c.args.pages c.args.quantum (ram_of c.args.store.now).blocks c.label_bytes-label.result (g.D.Disk.contents c.begin.new.disk) (g.D.Disk.contents c.put.new.disk) (g.D.Disk.contents c.put_homes.new.disk) (c.in-Ok.ensures.contents told ∙ ap (λ n. resized n (0 ∷ [])) (ap (λ h. h + 4096 * c.blocks-blocks.result) c.home_of_size-home.ensures.home ∙ ap disk_size c.blocks-blocks.ensures)) (c.in-Ok-put.ensures.written told) c.label_bytes-label.ensures (c.in-Ok-put_homes.ensures.laid told) (ap length (c.in-Ok.ensures.contents told ∙ ap (λ n. resized n (0 ∷ [])) (ap (λ h. h + 4096 * c.blocks-blocks.result) c.home_of_size-home.ensures.home ∙ ap disk_size c.blocks-blocks.ensures)) ∙ length-resized (disk_size (length (ram_of c.args.store.now).blocks)))) (c.in-Ok-open_gate.ensures.written told) c.requires.pages c.requires.pages_in.0 c.requires.pages_in.1 c.requires.pages_in.2 c.requires.quantum_in.0 c.requires.quantum_in.1 refl
