-- What the helpers of streams and trees compare and hash, what it is to be the one value of a type,
-- and what is written in turn.
use Rattle.std.specs.Prelude.{◌≡◌, Option, None, Some, Result, OnOk, OnErr}
use Rattle.std.specs.declared.alloc.AllocError.{AllocError}
use Rattle.tok_core.specs.declared.tt.TokenStreamHelper.{TokenStreamHelper}
use Rattle.tok_core.specs.declared.tt.TokenTreeHelper.{TokenTreeHelper}
use Rattle.tok_core.specs.Forest.{AppendsFront, Forest, Tree, concat, no_trees}
use Rattle.tok_core.specs.Seen.{tree_of}
use Rattle.tok_core.specs.Spanless.{spanless, tree_spanless}

-- the stream and the tree of a helper without spans
abbrev pub stream_shown : TokenStreamHelper → Forest
stream_shown helper = spanless helper.0.now

-- the tree that a helper borrows, with the call site for each span
abbrev pub tree_shown : TokenTreeHelper → Tree
tree_shown helper = tree_spanless (tree_of helper.0.now)

-- a value of a type that has no other
abbrev pub IsTheOnly : {A : Type 0} → A → Type 0
IsTheOnly {A} value = (other : A) → other ≡ value

-- the trees of a value, if there is one
abbrev pub optional_trees : {X : Type 0} → (X → Forest) → Option X → Forest
optional_trees printed None = no_trees
optional_trees printed (Some x) = printed x

-- how a call that writes ends
abbrev pub Written : Type 0
Written = Result (Unit {0}) AllocError

-- the trees of a first value, followed by those of a second one
unfoldable pub followed_by : (first second : Forest) → Forest
followed_by first second = concat first second

-- a first value and then a second one are written as the trees of both; if an allocation fails on
-- the way, as some first of them
pub record AreWrittenInTurn : Type 0 where
  pub first_fails : (end : Written) (old first second new : Forest) → AppendsFront old first new
      → OnErr end (AppendsFront old (followed_by first second) new)
  pub second_fails : (end : Written) (old first between second new : Forest)
      → OnErr end (AppendsFront between second new) → between ≡ concat old first
      → OnErr end (AppendsFront old (followed_by first second) new)
  pub both : (end : Written) (old first between second new : Forest)
      → OnOk end (new ≡ concat between second) → between ≡ concat old first
      → OnOk end (new ≡ concat old (followed_by first second))
  pub is_both : (first second : Forest) → followed_by first second ≡ concat first second
