use Rattle.std.proofs.Common.{ap, ◌∙◌, ◌++◌, List, ℕ, arith}
use Rattle.kernel_tables.specs.Files.{inode_entry_of}
use Rattle.kernel_tables.proofs.Rows.{inode-spelled, four}
use Rattle.kernel_tables.proofs.inode.used_bytes.Goals as goal

pub returns : goal.returns
returns c =
    let inode = c.args.inode in
    ap inode_entry_of c.joined.ensures
    ∙ ap (λ (first : List ℕ). inode_entry_of (first ++ c.four_words-second.result)) c.four_words-first.ensures
    ∙ ap (λ (second : List ℕ). inode_entry_of (four c.inode_kind_number-kind.result inode.length inode.entries inode.opens ++ second)) c.four_words-second.ensures
    ∙ inode-spelled c.inode_kind_number-kind.result inode (omega arith) c.inode_kind_number-kind.ensures (omega arith) (omega arith) (omega arith) (omega arith) (omega arith) (omega arith)
