use Rattle.std.proofs.Common.{◌≡◌, refl, rules, true}
use Rattle.std.specs.Str.{chars}
use Rattle.tok_leaves.proofs.Literals.{accepts}
use Rattle.tok_lexical.proofs.Texts.{some_left}
use Rattle.tok_entries.proofs.Words.{no_rule, whole_fit, same_rule, nothing_behind, refused_rule}
use Rattle.tok_entries.proofs.texts.rule_of.Goals as goal
use Rattle.tok_entries.proofs.texts.rule_of.Goals.{else-is_empty-via-then-is_empty+else-is_none, else-is_empty-via-else-is_empty}

pub returns-in_default : goal.returns-in_default
returns-in_default c = λ r p. no_rule c.args.text.now r (search rules) p

pub returns-then-is_none : goal.returns-then-is_none
returns-then-is_none c =
    let (piece, fit) = c.in-Some.ensures.tries in
    let is_read : c.is_none.result ≡ true = search rules in (
      (
        (
          piece,
          whole_fit (chars c.args.text.now) c.in-Some.after.now c.is_empty.result
              c.in-Some.rule piece c.is_empty.ensures (search rules) fit,
        ),
        rw is_read at (accepts c.in-Some.rule (chars c.args.text.now) c.error_kind.result
            c.is_none.result (c.error_kind.ensures (λ _. refl)) c.is_none.ensures),
      ),
      λ s p. same_rule c.args.text.now c.in-Some.rule s piece _ fit p,
    )

pub returns-else-is_empty : goal.returns-else-is_empty
returns-else-is_empty c = λ s p.
    let (piece, fit) = c.in-Some.ensures.tries in
    elim c.else-is_empty.branch [
      | else-is_empty-via-then-is_empty+else-is_none w ↦
          refused_rule c.args.text.now c.in-Some.rule s piece _ w.is_none.result fit (search rules)
          (accepts c.in-Some.rule (chars c.args.text.now) w.error_kind.result w.is_none.result
          (w.error_kind.ensures (λ _. refl)) w.is_none.ensures) p
      | else-is_empty-via-else-is_empty w ↦
          some_left c.in-Some.after.now (search rules) (search rules)
          (nothing_behind c.args.text.now (chars c.in-Some.after.now) c.in-Some.rule s piece fit p)
    ]
