use Rattle.std.proofs.Common.{List, ℕ, ap, sym, add-one, ◌∙◌, ◌+◌, ◌%◌}
use Rattle.obj_store.specs.Ram.{Ram}
use Rattle.tests_disk.specs.Counting.{counted}
use Rattle.tests_disk.proofs.counting.CountingTurns.interval.Goals as goal

pub returns-clause-plan : goal.returns-clause-plan
unfolding counted
returns-clause-plan c n =
    ap (λ (blocks : List (List ℕ)). counted ((c.args.self.now.next + 1) % 256) blocks n)
    (ap (λ (ram : Ram). ram.blocks) c.mark.ensures ∙ ap (λ (ram : Ram). ram.blocks) c.put_block.ensures)
    ∙ sym (ap (counted c.args.self.now.next c.args.store.now.blocks.items) (add-one n))
