-- Which trees are the tokens of a type, an expression, parameters or predicates, if these trees
-- come after them: "Types", "Expressions", "Generic parameters" and "Where clauses" of the Rust
-- Reference by their `<` and `>` alone. Each `<` that opens has its `>`. In an expression it opens
-- where a value is expected and after `::`, but not in the types of a closure or after `as`.
use Rattle.std.specs.Prelude.{◌≡◌, ◌==◌, ◌+◌, ℕ, false, true}
use Rattle.tok_core.specs.Filled.{has_trees}
use Rattle.tok_core.specs.Forest.{Tree, Forest, concat, no_trees, tree}
use Rattle.syn_parse.specs.Takes.{Taking, found}
use Rattle.syn_parse.specs.TreesAhead.{Ahead}
use Rattle.syn_derive.specs.First.{gt_first}
use Rattle.syn_derive.specs.Runs.{ending, last_after, most_open, next_of, opening, other, pair}
use Rattle.syn_derive.specs.declared.run.Last.{Last}
use Rattle.syn_derive.specs.declared.run.Last.TheVariants.{Operand, Operator}
use Rattle.syn_derive.specs.declared.run.Until.{Until}
use Rattle.syn_derive.specs.declared.run.Until.TheVariants.{Expr, Params, Predicates, Ty}

-- these trees, and then what is ahead
abbrev pub after_these : Forest → Ahead → Ahead
after_these f b = record b { trees = concat f b.trees }

-- nothing is left, or what is left ends a run
pub data IsEnd (u : Until) (last : Last) : Forest → Type 0 where
  of_all : IsEnd u last no_trees
  of_run : (f : Forest) → next_of u last f ≡ ending → IsEnd u last f

-- Trees within so many `<`, after a token, and those that come after them.
pub data AreTokens : ℕ → Until → Last → Forest → Forest → Type 0 where
  -- none
  nothing : (around : ℕ) (u : Until) (last : Last) (rest : Forest) → IsEnd u last rest
      → AreTokens around u last no_trees rest
  -- a token of two characters
  two : (around : ℕ) (u : Until) (last : Last) (s t : Tree) (more rest : Forest)
      → next_of u last (tree s (tree t (concat more rest))) ≡ pair
      → AreTokens around u Operator more rest
      → AreTokens around u last (tree s (tree t more)) rest
  -- `<`, parameters and `>`; at most so many are open as are counted
  angles : (around : ℕ) (u : Until) (last : Last) (s t : Tree) (inside more rest : Forest)
      → next_of u last (tree s (concat inside (tree t (concat more rest)))) ≡ opening
      → (around == most_open) ≡ false
      → AreTokens (around + 1) Params Operator inside (tree t (concat more rest))
      → gt_first (tree t (concat more rest)) ≡ true
      → AreTokens around u Operand more rest
      → AreTokens around u last (tree s (concat inside (tree t more))) rest
  -- any other tree
  one : (around : ℕ) (u : Until) (last : Last) (t : Tree) (more rest : Forest)
      → next_of u last (tree t (concat more rest)) ≡ other
      → AreTokens around u (last_after (tree t (concat more rest))) more rest
      → AreTokens around u last (tree t more) rest

-- What is taken is such trees, before those that are ahead then; and such trees are taken.
abbrev pub AreTaken : (Forest → Forest → Type 0) → Taking Forest → Type 0
AreTaken Are take =
    ((a b : Ahead) (f : Forest) → take a ≡ found f b → Are f b.trees × (a ≡ after_these f b))
    × ((b : Ahead) (f : Forest) → Are f b.trees → take (after_these f b) ≡ found f b)

-- a type, which has at least one token
abbrev pub IsType : (type rest : Forest) → Type 0
IsType type rest = AreTokens 0 Ty Operator type rest × (has_trees type ≡ true)

-- an expression, which has at least one token
abbrev pub IsExpr : (expr rest : Forest) → Type 0
IsExpr expr rest = AreTokens 0 Expr Operator expr rest × (has_trees expr ≡ true)

-- parameters, of which there may be none
abbrev pub AreParams : (params rest : Forest) → Type 0
AreParams params rest = AreTokens 0 Params Operator params rest

-- predicates, of which there may be none
abbrev pub ArePredicates : (predicates rest : Forest) → Type 0
ArePredicates predicates rest = AreTokens 0 Predicates Operator predicates rest
