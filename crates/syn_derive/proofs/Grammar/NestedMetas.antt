-- Literals and metas in the arguments of attributes are taken exactly.
use Rattle.std.proofs.Common.{arith, ◌≡◌, sym, subst, refl, true, false, List, [], ◌∷◌, ℕ, Ok, Err}
use Rattle.std.specs.Prelude.{Result}
use Rattle.tok_leaves.specs.Leaves.{literal}
use Rattle.tok_leaves.specs.declared.literal.Literal.{Literal}
use Rattle.tok_leaves.specs.declared.span.Span.{Span}
use Rattle.tok_core.specs.Erase.{erase}
use Rattle.tok_core.specs.Forest.{Forest, Tree, concat, forest, leaf, no_trees, tree}
use Rattle.tok_types.specs.Sees.{any_ident_first, literal_first, punctuation_first}
use Rattle.syn_parse.proofs.Shapes.{token_shape}
use Rattle.syn_parse.specs.Lighter.{lowers_token}
use Rattle.syn_parse.specs.Parses.{IsLiteral}
use Rattle.syn_parse.specs.Takes.{TakesAll}
use Rattle.syn_parse.specs.TokenNames.{Comma, Token}
use Rattle.syn_parse.specs.Tokens.{sees_literal, take_literal}
use Rattle.syn_parse.specs.Tokens as token
use Rattle.syn_parse.specs.TreesAhead.{only_trees}
use Rattle.syn_parse.specs.declared.fault.Fault.{Fault}
use Rattle.syn_parse.specs.declared.fault.Fault.TheVariants.{Memory, Refused}
use Rattle.syn_punctuated.specs.Parts.{absent, and_others, any_ident, joint, last, one, present}
use Rattle.syn_punctuated.specs.Parts.{sign}
use Rattle.syn_punctuated.specs.TakeLists.{is_left, list_form}
use Rattle.syn_punctuated.specs.declared.punctuated.Punctuated.{Punctuated}
use Rattle.syn_punctuated.proofs.Exactly.{Exactly, Written, either, ends, exactly, has_grammar}
use Rattle.syn_punctuated.proofs.Exactly.{refused, takes, terminated_exactly, then}
use Rattle.syn_punctuated.proofs.ExactTokens.{by_shape}
use Rattle.syn_derive.specs.Grammar.{IsMetaItemInner, IsMetaSeq, IsNestedMeta, ParsesMetaSeq}
use Rattle.syn_derive.specs.Grammar.{any_word, inner_literal, inner_meta, meta_item}
use Rattle.syn_derive.specs.Grammar.{path_of_words}
use Rattle.syn_derive.specs.Metas.{MetaForm}
use Rattle.syn_derive.specs.NestedMetas.{NestedForm, lightens_nested_form, nested_form, of_literal}
use Rattle.syn_derive.specs.NestedMetas.{sees_nested_path, take_meta_seq, take_nested_form}
use Rattle.syn_derive.specs.declared.nested.NestedMeta.{NestedMeta}
use Rattle.syn_derive.proofs.Grammar.Attributes.{comma_sign, meta_left, nested_meta}

-- literals
data IsLiteralTree : Forest → Literal → Forest → Type 0 where
  literal_tree : {text : List ℕ} {span : Span} {f : Forest}
      → IsLiteralTree (tree (leaf (literal text span)) f) (record { text = text; span = span }) f

literal_exactly : Exactly IsLiteralTree take_literal
literal_exactly = by_shape (token_shape token.literal tt) to from where
  to : (v : Literal) (ts : List Tree) (g : Forest) → IsLiteral v ts
      → IsLiteralTree (concat (forest ts) g) v g
  to v ts g i = subst (λ us. IsLiteralTree (concat (forest us) g) v g) (sym i) literal_tree

  from : (f g : Forest) (v : Literal) → IsLiteralTree f v g
      → (ts : List Tree) × IsLiteral v ts × (f ≡ concat (forest ts) g)
  from f g v (literal_tree {text} {span}) = (leaf (literal text span) ∷ [], refl, refl)

inner_of : {f g : Forest} {l : Literal} → IsLiteralTree f l g → IsMetaItemInner f (of_literal l) g
inner_of literal_tree = inner_literal

-- a meta does not begin with a literal, but with a word or with `::`
not_literal : {f g : Forest} {v : MetaForm} → IsNestedMeta f v g
    → sees_literal (only_trees f) ≡ false
unfolding literal_first
not_literal (meta_item (path_of_words (present (sign (joint last))) s) i) = refl
not_literal (meta_item (path_of_words (absent n) (one (any_word any_ident) e)) i) = refl
not_literal (meta_item (path_of_words (absent n) (and_others (any_word any_ident) p r)) i) = refl

path_next : {f g : Forest} {v : MetaForm} → IsNestedMeta f v g
    → sees_nested_path (only_trees f) ≡ true
unfolding any_ident_first punctuation_first
path_next (meta_item (path_of_words (present (sign (joint last))) s) i) = refl
path_next (meta_item (path_of_words (absent n) (one (any_word any_ident) e)) i) = refl
path_next (meta_item (path_of_words (absent n) (and_others (any_word any_ident) p r)) i) = refl

-- literals and metas
pub meta_item_inner : Exactly IsMetaItemInner take_nested_form
unfolding take_nested_form literal_first
meta_item_inner =
    exactly
    (either sees_literal (then literal_exactly (λ l. ends (λ _ _ l t. inner_of l)))
    (either sees_nested_path (then nested_meta (λ m. ends (λ _ _ m t e. inner_meta m)))
    (refused _))) go where
      go : Written IsMetaItemInner take_nested_form
      go _ _ _ (inner_literal {text} {span} {f}) =
          let l = literal_tree {text = text} {span = span} {f = f} in
          simp (takes literal_exactly l) refl
      go _ _ _ (inner_meta m) = simp (not_literal m, path_next m, takes nested_meta m) refl

inner_left : {f g : Forest} {v : NestedForm} → IsMetaItemInner f v g
    → is_left (only_trees f) ≡ true
inner_left h = grind (arith, meta_left)

pub meta_seq_exactly : Exactly IsMetaSeq take_meta_seq
unfolding take_meta_seq
meta_seq_exactly =
    terminated_exactly meta_item_inner comma_sign (lowers_token _) lightens_nested_form
    (record { begins = inner_left })

pub parses_meta_seq : (f : Forest) (scope : Span)
    (r : Result (Punctuated NestedMeta (Token Comma)) Fault)
    → TakesAll (list_form nested_form (λ p. p)) take_meta_seq f scope r → ParsesMetaSeq f r
parses_meta_seq f scope (Ok list) h =
    (has_grammar meta_seq_exactly (erase f) no_trees (list_form nested_form (λ p. p) list)).0 h
parses_meta_seq f scope (Err (Refused e)) h =
    (λ form i. h.0.0 form (takes meta_seq_exactly i), h.0.1)
parses_meta_seq f scope (Err (Memory e)) h = tt
