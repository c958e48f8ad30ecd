-- Erasures compared tree by tree.
use Rattle.std.proofs.Common.{◌≡◌, refl, Bool, Result, Ok, Err}
use Rattle.std.specs.declared.alloc.AllocError.{AllocError}
use Rattle.std.specs.Prelude.{IfOk}
use Rattle.tok_lexical.specs.declared.delimiter.Delimiter.{Delimiter}
use Rattle.tok_lexical.specs.declared.delimiter.Delimiter.TheVariants.{Parenthesis, Brace}
use Rattle.tok_lexical.specs.declared.delimiter.Delimiter.TheVariants.{Bracket, None}
use Rattle.tok_leaves.specs.declared.span.Span.{Span}
use Rattle.tok_core.specs.Erase.{erase}
use Rattle.tok_core.specs.Forest.{group, Forest, no_trees, tree}
use Rattle.tok_core.specs.Private.Pending.{IsVisible}

-- the first two are equal exactly where the others are
pub record SameAs (p q f g : Forest) : Type 0 where
  pub onto : p ≡ q → f ≡ g
  pub back : f ≡ g → p ≡ q

-- two groups with equal edges, which are visible, are equal where their contents are
erased_group : (d : Delimiter) (f : Forest) (s : Span) → IsVisible (group d f s) →
    erase (tree (group d f s) no_trees) ≡ tree (group d (erase f) s) no_trees
erased_group Parenthesis f s v = refl
erased_group Brace f s v = refl
erased_group Bracket f s v = refl
erased_group None f s v = absurd v

module _ (d e : Delimiter) (f g : Forest) (s r : Span) (seen_d : IsVisible (group d f s))
    (seen_e : IsVisible (group e g r)) where
  pub group_content : erase (tree (group d f s) no_trees) ≡ erase (tree (group e g r) no_trees) →
      erase f ≡ erase g
  group_content h = cc (erased_group d f s seen_d, erased_group e g r seen_e)

  pub group_same : d ≡ e → s ≡ r → erase f ≡ erase g → erase (tree (group d f s) no_trees)
      ≡ erase (tree (group e g r) no_trees)
  group_same a b h = cc (erased_group d f s seen_d, erased_group e g r seen_e)

pub if_ok_follows : {P Q : Bool → Type 0} (r : Result Bool AllocError) → ((b : Bool) → P b → Q b) →
    IfOk r P → IfOk r Q
if_ok_follows (Ok b) h p = h b p
if_ok_follows (Err x) h p = p
