use Rattle.std.proofs.Common.{◌≡◌, ◌∙◌, List, [], None, refl, rules, sym, ℕ}
use Rattle.std.specs.Str.{chars}
use Rattle.tok_lexical.specs.Errors.{error_kind}
use Rattle.tok_lexical.specs.declared.edition.Edition.TheVariants.{Edition2024}
use Rattle.tok_lexical.specs.declared.rule.Mode.TheVariants.{Source}
use Rattle.tok_leaves.specs.Literals.{IsOneLiteral}
use Rattle.tok_leaves.proofs.Literals.{accepts, by_test, no_rule, one_literal, other_rule, rejected, some_after}
use Rattle.tok_leaves.proofs.literal_fault.is_literal.Goals as goal

pub returns-in_default : goal.returns-in_default
returns-in_default c = no_rule (chars c.args.text.now) (search rules)

pub returns-then-not-is_empty : goal.returns-then-not-is_empty
returns-then-not-is_empty c =
    let (piece, fit) = c.in-Some.ensures.tries in
    some_after (chars c.args.text.now) piece c.in-Some.after.now c.in-Some.rule fit
    c.in-Some.ensures.utf8 (sym c.is_empty.ensures ∙ c.if-not-is_empty.true)

pub returns-then-not-is_literal_rule : goal.returns-then-not-is_literal_rule
returns-then-not-is_literal_rule c =
    let (piece, fit) = c.in-Some.ensures.tries in
    other_rule (chars c.args.text.now) piece c.in-Some.after.now c.in-Some.rule fit
    (sym c.is_literal_rule.ensures ∙ c.if-not-is_literal_rule.true)

pub returns : goal.returns
returns c =
    let (piece, fit) = c.in-Some.ensures.tries in
    let text : List ℕ = chars c.args.text.now in
    by_test (IsOneLiteral text) (error_kind c.in-Some.rule (Source Edition2024) 0 text [] ≡ None)
    c.is_none.result
    (one_literal text piece c.in-Some.after.now c.in-Some.rule fit
    (sym c.is_empty.ensures ∙ c.if-not-is_empty.false)
    (sym c.is_literal_rule.ensures ∙ c.if-not-is_literal_rule.false))
    (rejected text piece c.in-Some.after.now c.in-Some.rule fit)
    (accepts c.in-Some.rule text c.error_kind.result c.is_none.result
    (c.error_kind.ensures (λ _. refl)) c.is_none.ensures)
