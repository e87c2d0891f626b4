use Rattle.std.proofs.Common.{◌≡◌, ◌+◌, ◌-◌, arith}
use Rattle.kernel_machine.specs.Contents.{place_in}
use Rattle.dir_domain.proofs.Entries.{written-more, behind-more}
use Rattle.dir_domain.proofs.listing.list_place.Goals as goal

pub returns-in-Some-clause-bytes : goal.returns-in-Some-clause-bytes
returns-in-Some-clause-bytes c = λ rest.
    let room = c.requires.room in
    let left = c.requires.left in
    let k : c.args.listing.done + 32 - c.args.listing.done ≡ 32 = omega arith in
    written-more c.args.into.now c.in-Some.entry c.copy_from_slice.new.self c.args.listing.done _ c.args.listing.left (place_in c.args.place.now) rest
    c.copy_from_slice.ensures.after c.copy_from_slice.ensures.len k (omega arith) c.in-Some.ensures c.requires.left

pub returns-in-Some-clause-behind : goal.returns-in-Some-clause-behind
returns-in-Some-clause-behind c =
    let room = c.requires.room in
    let left = c.requires.left in
    let k : c.args.listing.done + 32 - c.args.listing.done ≡ 32 = omega arith in
    behind-more c.args.into.now c.copy_from_slice.new.self c.args.listing.done (c.args.listing.done + 32 - c.args.listing.done) c.copy_from_slice.ensures.len k (omega arith)
