use Rattle.std.proofs.Common.{◌≡◌, ap, sym, subst}
use Rattle.tok_core.specs.Building.{add_forest}
use Rattle.tok_core.specs.Private.Attribute.{bang}
use Rattle.tok_core.proofs.Facts.{concat-none}
use Rattle.tok_core.proofs.lexer.attribute.append_bang.Goals as goal

pub returns-else-is_inner : goal.returns-else-is_inner
returns-else-is_inner g c =
    let now = g.B.Build.levels c.args.built.now in
    subst (λ b. now ≡ add_forest (bang c.args.span b) now) (sym c.if-is_inner.false)
    (ap (λ f. record { outer = now.outer; inner = f }) (sym (concat-none now.inner)))
