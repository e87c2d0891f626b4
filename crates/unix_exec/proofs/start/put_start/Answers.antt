use Rattle.std.proofs.Common.{◌≡◌, ◌≤◌, ◌+◌, ◌-◌, ◌/◌, length, ap, subst, ◌∙◌, arith}
use Rattle.kernel_tables.specs.Kernel.{kernel_of}
use Rattle.kernel_forest.specs.Trees.{forest_of}
use Rattle.unix_model.specs.Loading.{stack_bytes, stack_pointer}
use Rattle.user_copy.specs.SpaceMemory.{space_memory}
use Rattle.user_copy.specs.Writing.{NotOwn, PutsBytes, pages_touched}
use Rattle.user_copy.proofs.Bytes.{all_may}
use Rattle.unix_exec.proofs.Strings.{placed, pointer_is, in_stack_is}
use Rattle.unix_exec.proofs.start.put_start.Goals as goal

pub put_bytes-requires-clause-can_write : goal.put_bytes-requires-clause-can_write
put_bytes-requires-clause-can_write g c =
    let list = c.requires.strings.0 in
    let are = c.requires.strings.1 in
    let few : length (stack_bytes list) ≤ 4187 = (placed c.args.strings.now c.args.count list are c.requires.few c.requires.short).few in
    let long = (placed c.args.strings.now c.args.count list are c.requires.few c.requires.short).long in
    let m : length c.as_slice.result.now ≡ length (stack_bytes list) = ap length (c.as_slice.ensures.value ∙ c.start_bytes-bytes.ensures list are) in
    let n : c.len.result ≡ length (stack_bytes list) = c.len.ensures.value ∙ ap length (c.start_bytes-bytes.ensures list are) in
    all_may (space_memory (kernel_of (g.T.Store.memory c.args.store.now)) c.args.space.0.0) (2147483648 - c.len.result) (length c.as_slice.result.now)
    (λ i below. c.requires.stack (2147483648 - c.len.result + i) (in_stack_is ((2147483648 - c.len.result + i) / 4096) (omega arith) (omega arith)))

pub put_bytes-requires-clause-page_room : goal.put_bytes-requires-clause-page_room
put_bytes-requires-clause-page_room g c taken counts =
    let list = c.requires.strings.0 in
    let are = c.requires.strings.1 in
    let forest = forest_of (kernel_of (g.T.Store.memory c.args.store.now)) in
    let pointer = pointer_is list c.len.result (placed c.args.strings.now c.args.count list are c.requires.few c.requires.short) (c.len.ensures.value ∙ ap length (c.start_bytes-bytes.ensures list are)) in
    c.requires.page_room list are taken
    (subst (λ n. NotOwn forest c.args.space.0.0 (stack_pointer list / 4096) (pages_touched (stack_pointer list) n) taken) (ap length (c.as_slice.ensures.value ∙ c.start_bytes-bytes.ensures list are))
    (subst (λ p. NotOwn forest c.args.space.0.0 (p / 4096) (pages_touched p (length c.as_slice.result.now)) taken) pointer counts))

pub returns-clause-pointer : goal.returns-clause-pointer
returns-clause-pointer g c list are =
    pointer_is list c.len.result (placed c.args.strings.now c.args.count list are c.requires.few c.requires.short) (c.len.ensures.value ∙ ap length (c.start_bytes-bytes.ensures list are))

pub returns-clause-put : goal.returns-clause-put
returns-clause-put g c list are =
    let old = kernel_of (g.T.Store.memory c.args.store.now) in
    let new = kernel_of (g.T.Store.memory c.put_bytes.new.store) in
    let pointer = pointer_is list c.len.result (placed c.args.strings.now c.args.count list are c.requires.few c.requires.short) (c.len.ensures.value ∙ ap length (c.start_bytes-bytes.ensures list are)) in
    subst (λ bytes. PutsBytes old new c.args.space.0.0 (stack_pointer list) bytes) (c.as_slice.ensures.value ∙ c.start_bytes-bytes.ensures list are)
    (subst (λ p. PutsBytes old new c.args.space.0.0 p c.as_slice.result.now) pointer c.put_bytes.ensures.put)
