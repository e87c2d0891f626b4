use Rattle.std.proofs.Common.{◌≡◌, ◌+◌, ◌-◌, Some, take, drop, ap, sym, ◌∙◌, arith}
use Rattle.std.specs.Prelude.{bytes_eq}
use Rattle.dir_domain.proofs.Names.{hole-named, place-named, place-other}
use Rattle.dir_domain.proofs.place.inode_if_named.Goals as goal

pub returns-then-eq : goal.returns-then-eq
returns-then-eq c = hole-named c.args.bytes.now c.args.name.now (sym c.eq.ensures ∙ c.if-eq.true)

pub returns-then-eq-2 : goal.returns-then-eq-2
returns-then-eq-2 c =
    let n = c.name_length.result in
    let count : 5 + n - 5 ≡ n = omega arith in
    ap Some c.inode_of_place.ensures
    ∙ place-named c.args.bytes.now c.args.name.now n (sym c.eq.ensures ∙ c.if-eq.false) c.name_length.ensures.name
    (sym (ap (λ k. bytes_eq (take k (drop 5 c.args.bytes.now)) c.args.name.now) count) ∙ sym c.eq-2.ensures ∙ c.if-eq-2.true)

pub returns-else-eq-2 : goal.returns-else-eq-2
returns-else-eq-2 c =
    let n = c.name_length.result in
    let count : 5 + n - 5 ≡ n = omega arith in
    place-other c.args.bytes.now c.args.name.now n (sym c.eq.ensures ∙ c.if-eq.false) c.name_length.ensures.name
    (sym (ap (λ k. bytes_eq (take k (drop 5 c.args.bytes.now)) c.args.name.now) count) ∙ sym c.eq-2.ensures ∙ c.if-eq-2.false)
