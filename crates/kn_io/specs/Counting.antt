-- The two numbers that a sink keeps of what it gets.
use Rattle.std.specs.Prelude.{◌≡◌, ℕ, ◌+◌, ◌%◌, ◌^◌, ◌<◌, List, [], ◌++◌, length, Some, None}
use Rattle.std.specs.List.{sum}
use Rattle.std.proofs.Common.{ap, sym, ◌∙◌, length-append, add-zero, add_assoc}
use Rattle.std.proofs.lemmas.List.Sums.{sum_by-append}
use Rattle.std.proofs.Math.Nat.{mod-add-mod, mod-eq_of_lt}
use Rattle.kn_io.specs.declared.count_sink.CountSink.{CountSink}

-- How many bytes it got, modulo 2^64, and their sum, modulo 2^32.
abbrev pub counted_bytes : CountSink → ℕ
counted_bytes sink = sink.count

abbrev pub counted_sum : CountSink → ℕ
counted_sum sink = sink.sum

-- A sink got these bytes.
pub record GrewCounted (old : CountSink) (bytes : List ℕ) (new : CountSink) : Type 0 where
  pub count : counted_bytes new ≡ (counted_bytes old + length bytes) % 2 ^ 64
  pub sum_is : counted_sum new ≡ (counted_sum old + sum bytes) % 2 ^ 32

-- a number to which nothing is added
nothing-added : (n m : ℕ) → n < m → n ≡ (n + 0) % m
nothing-added n m small = sym (ap (λ k. k % m) (add-zero n) ∙ mod-eq_of_lt small)

-- a number to which two are added, one after the other
joined-added : (a b c m x y : ℕ) → b ≡ (a + x) % m → c ≡ (b + y) % m → c ≡ (a + (x + y)) % m
joined-added a b c m x y first second =
    second ∙ ap (λ k. (k + y) % m) first ∙ mod-add-mod (a + x) m y ∙ ap (λ k. k % m) (add_assoc a x y)

sum-append : (x y : List ℕ) → sum (x ++ y) ≡ sum x + sum y
sum-append x y = sum_by-append (λ n. n) x y

-- Getting nothing changes nothing.
pub counted-nothing : (sink : CountSink) → GrewCounted sink [] sink
counted-nothing sink = record {
  count = nothing-added sink.count (2 ^ 64) sink.count_small;
  sum_is = nothing-added sink.sum (2 ^ 32) sink.sum_small;
}

-- Two pieces in turn are one.
pub counted-joined : (a b c : CountSink) (x y : List ℕ) → GrewCounted a x b → GrewCounted b y c → GrewCounted a (x ++ y) c
counted-joined a b c x y first second = record {
  count = joined-added a.count b.count c.count (2 ^ 64) (length x) (length y) first.count second.count ∙ ap (λ k. (a.count + k) % 2 ^ 64) (sym (length-append x y));
  sum_is = joined-added a.sum b.sum c.sum (2 ^ 32) (sum x) (sum y) first.sum_is second.sum_is ∙ ap (λ k. (a.sum + k) % 2 ^ 32) (sym (sum-append x y));
}

-- Of the bytes nothing is told.
pub counted-told : (a b : CountSink) (x t : List ℕ) → None ≡ Some t → GrewCounted a x b → None ≡ Some (t ++ x)
counted-told a b x t told grown = let no : None ≡ Some t = told in cc
