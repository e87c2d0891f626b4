use Rattle.std.proofs.Common.{drop, rules, sym, ◌∙◌, ap}
use Rattle.kn_base.specs.Keys.{spelled_key}
use Rattle.kn_base.proofs.ReadLaws.{spare_read, bytes_read, reads}
use Rattle.kn_base.proofs.key.read_key.Goals as goal

-- the bytes are those of what was read of them
pub returns-then-low-high : goal.returns-then-low-high
unfolding reads
returns-then-low-high c =
    c.key_in.ensures
    ∙ ap spelled_key (bytes_read c.args.bytes c.word_of-word.result c.count_of-count.result (search rules) c.word_of-word.ensures c.count_of-count.ensures c.if-low-high.true)

pub returns-else-low-high : goal.returns-else-low-high
returns-else-low-high c = sym (spare_read c.args.bytes c.if-low-high.false)

pub key_in-requires : goal.key_in-requires
unfolding reads
key_in-requires c =
    c.body_in.ensures
    ∙ sym (ap (drop 4) (bytes_read c.args.bytes c.word_of-word.result c.count_of-count.result (search rules) c.word_of-word.ensures c.count_of-count.ensures c.if-low-high.true))
