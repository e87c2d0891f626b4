-- The strings that those of a program stand for.
use Rattle.std.specs.Prelude.{ℕ, List, map, Vec}
use Rattle.std.specs.Global.{Global}

abbrev pub strings_of : List (Vec ℕ Global) → List (List ℕ)
strings_of strings = map (λ (string : Vec ℕ Global). string.items) strings
