-- The levels of a builder that keeps the trees of all of them in one list, and where each inner one
-- begins, the innermost first.
use Rattle.std.specs.Prelude.{ℕ, List, [], ◌∷◌, ◌++◌, Bool, true, ◌&&◌, nat_le, take, drop}
use Rattle.tok_core.specs.declared.stream.TokenTree.{TokenTree}
use Rattle.tok_core.specs.Building.{Levels}
use Rattle.tok_core.specs.Seen.{trees_of}

-- the levels of a list of trees in which they begin at these places, the last one first
abbrev pub levels_in : List ℕ → List TokenTree → Levels
levels_in [] trees = record { outer = []; inner = trees_of trees }
levels_in (start ∷ starts) trees =
    let around = levels_in starts (take start trees) in
    record { outer = around.outer ++ around.inner ∷ []; inner = trees_of (drop start trees) }

-- no level begins after the end of the one inside it, and all begin within so many trees
abbrev pub is_in_order : List ℕ → ℕ → Bool
is_in_order [] count = true
is_in_order (start ∷ starts) count = nat_le start count && is_in_order starts start
