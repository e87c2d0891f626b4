use Rattle.std.proofs.Common.{◌∙◌, ◌%◌, ap, rules}
use Rattle.kernel_tables.specs.Kernel.{kernel_of}
use Rattle.kernel_tables.specs.Rows.{domain_rows}
use Rattle.kernel_tables.proofs.BlockLaws.{no_block}
use Rattle.domain.specs.Domains.{words_by}
use Rattle.domain.proofs.Kept.{keys-pages}
use Rattle.domain.proofs.WordLaws.{holds_none, holds_more}
use Rattle.domain.proofs.WordRows.{registers_fit}
use Rattle.domain.proofs.Writing.{writes_none, writes_trans, same_block}
use Rattle.domain.proofs.setters.words.put_registers.Goals as goal

pub loop-place-init : goal.loop-place-init
loop-place-init g c =
    let old = kernel_of (g.T.Store.memory c.args.store.now) in
    record {
      so_far = holds_none (domain_rows old) c.args.node.0 (words_by c.args.regs.now) c.requires.rows (record { by = c.requires.named.0; place = 3; named = c.requires.named.1 });
      rows = c.requires.rows;
      named = c.requires.named;
      others = writes_none old;
      good = c.requires.good;
      blocks = no_block;
      kept = search (g.met.T.Store.keeps_same, rules);
    }

pub put_words-requires-clause-named : goal.put_words-requires-clause-named
put_words-requires-clause-named g c = record { by = c.loop-place.invariant.named.0; place = 3; named = c.loop-place.invariant.named.1 }

pub put_words-requires-clause-words : goal.put_words-requires-clause-words
put_words-requires-clause-words g c =
    registers_fit (domain_rows (kernel_of (g.T.Store.memory c.loop-place.store))) c.args.node.0 c.loop-place.place c.three_registers-key.result c.loop-place.invariant.rows c.loop-place.invariant.named
    (λ e. c.three_registers-key.ensures.zero e ∙ c.requires.zero)
    (λ e. ap (λ w. w % 4) (c.three_registers-key.ensures.pc e) ∙ c.requires.aligned)

pub loop-place-preserved : goal.loop-place-preserved
loop-place-preserved g c =
    let old = kernel_of (g.T.Store.memory c.args.store.now) in
    let mid = kernel_of (g.T.Store.memory c.loop-place.store) in
    let new = kernel_of (g.T.Store.memory c.put_words.new.store) in
    record {
      so_far = holds_more (domain_rows old) (domain_rows mid) (domain_rows new) c.args.node.0 c.loop-place.place (words_by c.args.regs.now) c.three_registers-key.result c.requires.rows
          (record { by = c.requires.named.0; place = 3; named = c.requires.named.1 })
          c.loop-place-test.true c.loop-place.invariant.so_far c.three_registers-key.ensures.number c.three_registers-key.ensures.words c.put_words.ensures.put;
      rows = c.put_words.ensures.rows;
      named = (c.loop-place.invariant.named.0, c.put_words.ensures.names c.loop-place.invariant.named.0 3 ∙ c.loop-place.invariant.named.1);
      others = writes_trans old mid new c.loop-place.invariant.others c.put_words.ensures.others;
      good = c.put_words.ensures.good;
      blocks = same_block old.pages mid.pages c.args.node.0 (keys-pages old mid c.loop-place.invariant.others.rest) c.loop-place.invariant.blocks c.put_words.ensures.blocks;
      kept = g.met.T.Store.keeps_trans c.args.store.now c.loop-place.store c.put_words.new.store c.loop-place.invariant.kept c.put_words.ensures.keeps;
    }
