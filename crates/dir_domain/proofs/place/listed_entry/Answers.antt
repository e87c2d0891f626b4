use Rattle.std.proofs.Common.{◌≡◌, ◌+◌, ◌-◌, take, drop, ap, sym, ◌∙◌, arith}
use Rattle.unix_model.specs.FileCalls.{entry_bytes}
use Rattle.dir_domain.proofs.Entries.{hole-listed, place-listed}
use Rattle.dir_domain.proofs.place.listed_entry.Goals as goal

pub returns-then-eq : goal.returns-then-eq
returns-then-eq c = hole-listed c.args.place.now (sym c.eq.ensures ∙ c.if-eq.true)

pub returns : goal.returns
returns c =
    let n = c.name_length.result in
    let count : 5 + n - 5 ≡ n = omega arith in
    place-listed c.args.place.now c.entry_bytes.result n c.inode_of_place.result (sym c.eq.ensures ∙ c.if-eq.false) c.name_length.ensures.name c.inode_of_place.ensures
    (c.entry_bytes.ensures ∙ ap (λ k. entry_bytes (record { name = take k (drop 5 c.args.place.now); inode = c.inode_of_place.result })) count)
