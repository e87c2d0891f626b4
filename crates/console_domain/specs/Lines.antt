-- What a line that was taken in part leaves.
use Rattle.std.specs.Prelude.{◌≡◌, ℕ, List, ◌++◌, Option, Some, drop, length}

-- of an input a front of these bytes is gone
pub record TakesFront (input bytes : List ℕ) (now : Option (List ℕ)) : Type 0 where
  pub front : List ℕ
  pub behind : List ℕ
  pub left : List ℕ
  pub front_is : front ++ behind ≡ bytes
  pub input_is : input ≡ front ++ left
  pub left_is : now ≡ Some left

-- a front of a line is gone from the input, and stands at the front of where the line was to go
pub record LosesFront (input line : List ℕ) (now : Option (List ℕ)) (old new : List ℕ) : Type 0 where
  pub taken : TakesFront input line now
  pub into : new ≡ taken.front ++ drop (length taken.front) old
