-- What the bytes of inode entries and descriptions spell.
use Rattle.std.proofs.Common.{◌≡◌, ℕ, ◌<◌, ◌^◌, ◌++◌, ◌∷◌, ◌==◌, Bool, List, Option, Some, ap, ◌∙◌}
use Rattle.std.proofs.lemmas.Nat.{from_le_bytes-to_le_bytes_4}
use Rattle.std.proofs.lemmas.Bool.{lt-ltb}
use Rattle.std.specs.Int.{to_le_bytes, w32}
use Rattle.kernel_tables.specs.declared.row.Row.TheVariants.{Used}
use Rattle.kernel_tables.specs.declared.inode.InodeKind.{InodeKind}
use Rattle.kernel_tables.specs.declared.inode.Inode.{Inode}
use Rattle.kernel_tables.specs.declared.description.Description.{Description}
use Rattle.kernel_tables.specs.Files.{IsMode, inode_kind, inode_of_kind, inode_entry_of, description_entry_of}

abbrev pub four : ℕ → ℕ → ℕ → ℕ → List ℕ
four a b c d = (to_le_bytes w32 a ++ to_le_bytes w32 b) ++ (to_le_bytes w32 c ++ to_le_bytes w32 d)

same_inode : (kind : InodeKind) {length length' : ℕ} → length ≡ length' → {entries entries' : ℕ} → entries ≡ entries' → {opens opens' : ℕ} → opens ≡ opens' → {root root' : ℕ} → root ≡ root' → {parent parent' : ℕ} → parent ≡ parent' → {start start' : ℕ} → start ≡ start' → (let i : Inode = record { kind = kind; length = length; entries = entries; opens = opens; root = root; parent = parent; start = start } in i) ≡ record { kind = kind; length = length'; entries = entries'; opens = opens'; root = root'; parent = parent'; start = start' }
same_inode kind a b c d e f = cc

-- eight words that begin with the number of a kind and end with 0 spell an inode
pub inode-spelled : (number : ℕ) (inode : Inode) → number < 2 ^ 32 → inode_kind number ≡ Some inode.kind → inode.length < 2 ^ 32 → inode.entries < 2 ^ 32 → inode.opens < 2 ^ 32 → inode.root < 2 ^ 32 → inode.parent < 2 ^ 32 → inode.start < 2 ^ 32 → inode_entry_of (four number inode.length inode.entries inode.opens ++ four inode.root inode.parent inode.start 0) ≡ Used inode
unfolding inode_entry_of
inode-spelled number inode fits kind length_fits entries_fit opens_fit root_fits parent_fits start_fits =
    ap (λ n. inode_of_kind (inode_kind n) (four number inode.length inode.entries inode.opens ++ four inode.root inode.parent inode.start 0)) (from_le_bytes-to_le_bytes_4 number fits)
    ∙ ap (λ (k : Option InodeKind). inode_of_kind k (four number inode.length inode.entries inode.opens ++ four inode.root inode.parent inode.start 0)) kind
    ∙ ap Used
    (same_inode inode.kind (from_le_bytes-to_le_bytes_4 inode.length length_fits)
    (from_le_bytes-to_le_bytes_4 inode.entries entries_fit) (from_le_bytes-to_le_bytes_4 inode.opens opens_fit)
    (from_le_bytes-to_le_bytes_4 inode.root root_fits) (from_le_bytes-to_le_bytes_4 inode.parent parent_fits)
    (from_le_bytes-to_le_bytes_4 inode.start start_fits))

same_description : {readable readable' : Bool} → readable ≡ readable' → {writable writable' : Bool} → writable ≡ writable' → {append append' : Bool} → append ≡ append' → {inode inode' : ℕ} → inode ≡ inode' → {offset offset' : ℕ} → offset ≡ offset' → {descriptors descriptors' : ℕ} → descriptors ≡ descriptors' → (let d : Description = record { readable = readable; writable = writable; append = append; inode = inode; offset = offset; descriptors = descriptors } in d) ≡ record { readable = readable'; writable = writable'; append = append'; inode = inode'; offset = offset'; descriptors = descriptors' }
same_description a b c d e f = cc

-- 1, a mode, 0 or 1 for append, 0 and three words spell a description
pub description-spelled : (mode append : ℕ) (description : Description) → IsMode mode description.readable description.writable → append < 2 → (append == 1) ≡ description.append → description.inode < 2 ^ 32 → description.offset < 2 ^ 32 → description.descriptors < 2 ^ 32 → description_entry_of (1 ∷ mode ∷ append ∷ 0 ∷ (to_le_bytes w32 description.inode ++ to_le_bytes w32 description.offset ++ to_le_bytes w32 description.descriptors)) ≡ Used description
unfolding description_entry_of
description-spelled mode append description is_mode few appends inode_fits offset_fits descriptors_fit =
    let bytes = 1 ∷ mode ∷ append ∷ 0 ∷ (to_le_bytes w32 description.inode ++ to_le_bytes w32 description.offset ++ to_le_bytes w32 description.descriptors) in
    rw (lt-ltb mode 4 is_mode.few, lt-ltb append 2 few)
    (ap Used
    (same_description is_mode.reads is_mode.writes appends (from_le_bytes-to_le_bytes_4 description.inode inode_fits)
    (from_le_bytes-to_le_bytes_4 description.offset offset_fits)
    (from_le_bytes-to_le_bytes_4 description.descriptors descriptors_fit)))

pub ruleset rows_spelled = (inode-spelled, description-spelled)
