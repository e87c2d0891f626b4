use Rattle.std.proofs.Common.{◌∙◌, ap, sym, arith, max, false, get_or}
use Rattle.unix_model.specs.declared.elf.Load.{Load}
use Rattle.unix_model.specs.Elf.{last_end, load_end}
use Rattle.elf_read.proofs.BreakLemmas.{last_end_more}
use Rattle.elf_read.proofs.loads.break_start.Goals as goal

pub loop-load-init : goal.loop-load-init
unfolding last_end
loop-load-init c = record { so_far = omega arith; within = omega arith }

pub loop-load-preserved : goal.loop-load-preserved
loop-load-preserved c =
    let empty : Load = record { at = 0; offset = 0; file_bytes = 0; memory_bytes = 0; writable = false } in
    let load = get_or c.args.loads.now c.loop-load.load-index empty in
    let more = last_end_more c.args.loads.now c.loop-load.load-index empty c.loop-load-test.true in
    let here = c.requires c.loop-load.load-index empty c.loop-load-test.true in
    record {
      so_far = c.max-last.ensures ∙ ap (λ e. max e (load_end load)) c.loop-load.invariant.so_far ∙ sym more;
      within = omega (arith, here, c.max-last.ensures, c.loop-load.invariant.within);
    }
