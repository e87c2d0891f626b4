-- What trees are made of: pages and nodes, and the keys that name them.
use Rattle.std.specs.Prelude.{ℕ, Bool, false, ◌==◌, if◌then◌else◌, Option, Some, None}
use Rattle.kn_base.specs.declared.key.Key.{Key}
use Rattle.kn_base.specs.declared.key.Key.TheVariants.{Page, Segment}

-- a page or a node, by its number
pub data Object : Type 0 where
  PageObject : ℕ → Object
  NodeObject : ℕ → Object

-- whose tree an object belongs to: a process's memory, or a file or directory
pub data Owner : Type 0 where
  OfProcess : Owner
  OfFile : Owner

-- whether two objects are one
abbrev pub same_object : Object → Object → Bool
same_object (PageObject a) (PageObject b) = a == b
same_object (NodeObject a) (NodeObject b) = a == b
same_object _ _ = false

-- the object that a key in a tree names. The page of zeros, page 0, is named by nobody: all may map it, and it is never
-- counted. All other keys name no part of a tree.
abbrev pub named : Key → Option Object
named (Page page writable) = if page.0 == 0 then None else Some (PageObject page.0)
named (Segment node height) = Some (NodeObject node.0)
named _ = None

-- the object is the one that is there, if one is
abbrev pub is_object : Object → Option Object → Bool
is_object object None = false
is_object object (Some other) = same_object object other

-- whether a key names an object
abbrev pub names : Object → Key → Bool
names object key = is_object object (named key)

-- a table of objects, with x at one of them
unfoldable pub with_object : {X : Type 0} → (Object → X) → Object → X → Object → X
with_object table object x = λ other. if same_object other object then x else table other
