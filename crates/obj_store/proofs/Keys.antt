-- The key that stands at a place of a node.
use Rattle.std.proofs.Common.{◌≡◌, ℕ, ◌+◌, ◌-◌, ◌*◌, ◌/◌, ◌%◌, ◌<◌, List, [], length, take, drop, get_or, ap, sym, ◌∙◌, arith}
use Rattle.kn_base.specs.Keys.{spelled_key}
use Rattle.kn_base.specs.Rows.{part_at}
use Rattle.kn_base.specs.Memory.{key_at}
use Rattle.kn_base.proofs.MemoryLaws.{key_at-memory_of}
use Rattle.obj_store.specs.declared.ram.RamStore.{RamStore}
use Rattle.obj_store.specs.Store.{ram_memory}
use Rattle.obj_store.specs.StoreLaws.{node_inside}

-- sixteen bytes of the block of a node spell what its key list has there
pub key_read : (s : RamStore) (node place number at end : ℕ) (bytes : List ℕ) → 16 * node < length (ram_memory s).keys → place < 16 → number ≡ s.pages + node / 16 → at ≡ 256 * (node % 16) + 16 * place → end ≡ at + 16 → bytes ≡ take (end - at) (drop at (get_or s.blocks.items number [])) → spelled_key bytes ≡ key_at (ram_memory s) node place
key_read s node place number at end bytes inside low block offset length e =
    let size : end - at ≡ 16 = omega arith in
    ap spelled_key e
    ∙ ap (λ n. spelled_key (take n (drop at (get_or s.blocks.items number [])))) size
    ∙ ap (λ n. spelled_key (part_at (get_or s.blocks.items n []) at 16)) block
    ∙ ap (λ n. spelled_key (part_at (get_or s.blocks.items (s.pages + node / 16) []) n 16)) offset
    ∙ sym (key_at-memory_of s.pages s.blocks.items node place (node_inside s node inside) low)
