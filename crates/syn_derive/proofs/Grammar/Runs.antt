-- Types, expressions, parameters and predicates are taken exactly.
use Rattle.std.proofs.Common.{◌≡◌, sym, ap, subst, arith, ◌≤◌, ◌<◌, true}
use Rattle.std.proofs.lemmas.Bool.{false≢true}
use Rattle.tok_core.specs.Filled.{has_trees}
use Rattle.tok_core.specs.Forest.{Forest, concat, group, leaf, no_trees, tree}
use Rattle.tok_core.specs.Weight.{weight}
use Rattle.syn_parse.specs.Takes.{Taking, found}
use Rattle.syn_parse.specs.Takings.{Lowers}
use Rattle.syn_parse.specs.TreesAhead.{Ahead, only_trees}
use Rattle.syn_derive.specs.Grammar.{IsRun, run}
use Rattle.syn_derive.specs.RunGrammar.{AreParams, ArePredicates, AreTaken, IsExpr, IsType}
use Rattle.syn_derive.specs.Runs.{take_expr, take_type, take_until}
use Rattle.syn_derive.specs.declared.run.Until.TheVariants.{Params, Predicates}
use Rattle.syn_punctuated.proofs.Exactly.{Exactly, Written, exactly, leaves_unread, trees_of}
use Rattle.syn_punctuated.proofs.Exactly.{unread_of}
use Rattle.syn_derive.proofs.RunTokens.{expr_tokens, run_tokens, type_tokens}

run_exactly : {Are : Forest → Forest → Type 0} {take : Taking Forest} → AreTaken Are take
    → Exactly (IsRun Are) take
run_exactly {Are} {take} h = exactly (leaves_unread all) go where
  all : (a b : Ahead) (v : Forest) → take a ≡ found v b
      → (a.unread ≡ b.unread) × IsRun Are a.trees v b.trees
  all a b v e =
      let t = h.0 a b v e in
      (ap unread_of t.1, subst (λ f. IsRun Are f v b.trees) (sym (ap trees_of t.1)) (run t.0))

  go : Written (IsRun Are) take
  go _ _ _ (run {trees} {rest} i) = h.1 (only_trees rest) trees i

pub type_run : Exactly (IsRun IsType) take_type
type_run = run_exactly type_tokens

pub expression : Exactly (IsRun IsExpr) take_expr
expression = run_exactly expr_tokens

pub plain_params : Exactly (IsRun AreParams) (take_until Params)
plain_params = run_exactly (run_tokens Params)

pub predicates : Exactly (IsRun ArePredicates) (take_until Predicates)
predicates = run_exactly (run_tokens Predicates)

-- a type takes something
no_less : (f g : Forest) → weight g ≤ weight (concat f g)
no_less no_trees g = omega arith
no_less (tree t f) g = omega (arith, no_less f g)

more : (f g : Forest) → has_trees f ≡ true → weight g < weight (concat f g)
more no_trees g e = absurd (false≢true e)
more (tree (leaf l) f) g e = omega (arith, no_less f g)
more (tree (group d inside span) f) g e = omega (arith, no_less f g)

pub lowers_type : Lowers take_type
lowers_type = record {
  less = λ a b v e.
      let t = type_tokens.0 a b v e in
      subst (λ f. weight b.trees < weight f) (sym (ap trees_of t.1))
      (more v b.trees t.0.1);
}
