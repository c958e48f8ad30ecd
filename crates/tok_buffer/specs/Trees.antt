-- Visible trees, and the end of a scope.
use Rattle.std.specs.Prelude.{◌≡◌, true, List, map, Option, Some, option_map}
use Rattle.tok_core.specs.Erase.{erase}
use Rattle.tok_core.specs.Forest.{Tree, leaf, group, Forest, no_trees}
use Rattle.tok_buffer.specs.Descent.{descend}
use Rattle.tok_buffer.specs.Place.{Place, is_at_end}
use Rattle.tok_buffer.specs.Reads.{read_tree}
use Rattle.tok_buffer.specs.View.{erased_ahead}

-- the next visible tree, through the invisible groups around it
abbrev pub read_visible : Place → Option (List Tree × Place)
read_visible p = read_tree (descend p)

-- a visible tree without the invisible groups in it
abbrev pub erased_tree : Tree → Tree
erased_tree (leaf l) = leaf l
erased_tree (group d inside span) = group d (erase inside) span

-- the trees of a read and the trees ahead after it, without invisible groups
abbrev pub erased_read : Option (List Tree × Place) → Option (List Tree × Forest)
erased_read r = option_map (λ q. (map erased_tree q.0, erased_ahead q.1)) r

-- reads of whole trees lead from one place to another
pub data PassesTrees (p : Place) : Place → Type 0 where
  here : PassesTrees p p
  further : (q r : Place) (ts : List Tree) → PassesTrees p q → read_tree q ≡ Some (ts, r)
      → PassesTrees p r

-- all trees of the scope have been read, and no visible one is ahead
pub record EndsScope (p q : Place) : Type 0 where
  pub passes : PassesTrees p q
  pub at_end : is_at_end q ≡ true
  pub none_ahead : erased_ahead q ≡ no_trees
