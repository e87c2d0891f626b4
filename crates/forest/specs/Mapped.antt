-- How many pages are mapped.
use Rattle.std.specs.Prelude.{◌^◌, ℕ, zero, suc, if◌then◌else◌, is_some}
use Rattle.kn_base.specs.declared.key.Key.{Key}
use Rattle.unix_model.specs.Tables.{count_below, sum_below}
use Rattle.forest.specs.Walks.{key_below, mapping_of, map_of}

-- the number of mapped pages of a space
unfoldable pub mapped : (ℕ → Key) → ℕ → ℕ
mapped keys space = count_below (λ page. is_some (map_of keys space page)) (2 ^ 19)

-- the number of pages so many levels below a key
abbrev pub pages_below : (ℕ → Key) → Key → ℕ → ℕ
pages_below keys key zero = if is_some (mapping_of key) then 1 else 0
pages_below keys key (suc levels) = sum_below (λ digit. pages_below keys (key_below keys key digit) levels) 16
