-- Runs of trees, by the visible trees ahead.
use Rattle.std.proofs.Common.{◌≡◌, ◌≤◌, arith}
use Rattle.std.specs.Prelude.{Option, None, Some, option_map}
use Rattle.tok_core.specs.Forest.{Tree, Forest, no_trees, tree}
use Rattle.tok_core.specs.Weight.{weight}
use Rattle.tok_buffer.specs.Place.{Place}
use Rattle.tok_buffer.specs.Reads.{place_after}
use Rattle.tok_buffer.specs.Trees.{read_visible}
use Rattle.syn_parse.specs.Lighter.{lessens_bind, lightens_gives}
use Rattle.syn_parse.specs.Takes.{Taking, ◌>>=◌, found, gives}
use Rattle.syn_parse.specs.Takings.{Lightens}

-- a tree and those of the run after it, if the run goes on from this state
abbrev pub onwards : {S : Type 0} → S → Tree → Forest → Option (Forest × Forest × S)
    → Forest × Forest × S
onwards s t f None = (no_trees, tree t f, s)
onwards s t f (Some r) = (tree t r.0, r.1, r.2)

-- The trees of a run, those after it, and the state that it ends in. A step sees all trees that are
-- ahead, and goes past the first of them.
abbrev pub passing : {S : Type 0} → (S → Forest → Option S) → S → Forest → Forest × Forest × S
passing step s no_trees = (no_trees, no_trees, s)
passing step s (tree t f) =
    onwards s t f (option_map (λ r. passing step r f) (step s (tree t f)))

-- the trees of a run, and the state that it ends in
unfoldable pub take_run_with_state : {S : Type 0} → (S → Forest → Option S) → S
    → Taking (Forest × S)
take_run_with_state step s a =
    let r = passing step s a.trees in found (r.0, r.2) (record a { trees = r.1 })

-- the trees of a run
unfoldable pub take_run : {S : Type 0} → (S → Forest → Option S) → S → Taking Forest
take_run step s = do
  r ← take_run_with_state step s
  gives r.0

-- from a place to the one right after so many visible trees
pub data PassesVisible (p : Place) : Place → Type 0 where
  none_passed : PassesVisible p p
  one_more : (q r : Place) → PassesVisible p q → place_after (read_visible q) ≡ Some r
      → PassesVisible p r

-- a run adds nothing to what is ahead
passing-lightens : {S : Type 0} (step : S → Forest → Option S) (s : S) (f : Forest)
    → weight (passing step s f).1 ≤ weight f
passing-lightens {S} step s no_trees = omega arith
passing-lightens {S} step s (tree t f) =
    go (λ r. passing step r f) (λ r. passing-lightens step r f) (step s (tree t f)) where
      go : (rest : S → Forest × Forest × S) → ((r : S) → weight (rest r).1 ≤ weight f)
          → (o : Option S) → weight (onwards s t f (option_map rest o)).1 ≤ weight (tree t f)
      go rest h None = omega arith
      go rest h (Some r) = omega (arith, h r)

-- a parser of a run and its state adds nothing to what is ahead
pub lightens_run_with_state : {S : Type 0} (step : S → Forest → Option S) (s : S)
    → Lightens (take_run_with_state step s)
unfolding take_run_with_state
lightens_run_with_state {S} step s = grind (arith, passing-lightens)

-- a parser of a run adds nothing to what is ahead
pub lightens_run : {S : Type 0} (step : S → Forest → Option S) (s : S)
    → Lightens (take_run step s)
unfolding take_run
lightens_run step s =
    lessens_bind (take_run_with_state step s) _ (lightens_run_with_state step s)
    (λ r. lightens_gives r.0)
