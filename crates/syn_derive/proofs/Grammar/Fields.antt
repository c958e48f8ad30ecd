-- Fields and variants are taken exactly.
use Rattle.std.proofs.Common.{arith, ◌≡◌, refl, true, false}
use Rattle.tok_lexical.specs.declared.delimiter.Delimiter.TheVariants.{Brace, Parenthesis}
use Rattle.tok_leaves.specs.declared.span.DelimSpan.{DelimSpan}
use Rattle.tok_core.specs.Forest.{Forest}
use Rattle.tok_types.specs.Sees.{group_first}
use Rattle.syn_parse.specs.After.{take_after}
use Rattle.syn_parse.specs.Lighter.{lowers_token}
use Rattle.syn_parse.specs.Sequences.{lowers_then}
use Rattle.syn_parse.specs.Takings.{Lowers}
use Rattle.syn_parse.specs.TokenNames.{Colon, Comma, Eq, sees, take}
use Rattle.syn_parse.specs.Tokens.{sees_group}
use Rattle.syn_parse.specs.TreesAhead.{only_trees}
use Rattle.syn_punctuated.specs.TakeLists.{take_terminated}
use Rattle.syn_derive.specs.Fields.{lightens_fields, lightens_named_field, lightens_unnamed_field}
use Rattle.syn_derive.specs.Fields.{lightens_variant, take_fields, take_named, take_named_field}
use Rattle.syn_derive.specs.Fields.{take_named_fields, take_unnamed, take_unnamed_field}
use Rattle.syn_derive.specs.Fields.{take_unnamed_fields, take_variant, weighing_parts}
use Rattle.syn_derive.specs.Runs.{take_expr}
use Rattle.syn_derive.specs.Grammar.{AreEnumVariants, AreStructFields, AreTupleFields}
use Rattle.syn_derive.specs.Grammar.{AreVariantFields, IsColon, IsDiscriminant, IsEnumVariant, IsEq}
use Rattle.syn_derive.specs.Grammar.{IsStructField, IsTupleField, discriminant, enum_variant}
use Rattle.syn_derive.specs.Grammar.{enum_variant_struct, enum_variant_tuple, no_variant_fields}
use Rattle.syn_derive.specs.Grammar.{struct_field, tuple_field}
use Rattle.syn_punctuated.specs.Parts.{InGroup, Optional, Part, absent, in_group, present}
use Rattle.syn_punctuated.proofs.Exactly.{Exactly, Written, begins_left, either, ends, exactly}
use Rattle.syn_punctuated.proofs.Exactly.{group_exactly, not_next, takes, terminated_exactly}
use Rattle.syn_punctuated.proofs.Exactly.{then, unseen}
use Rattle.syn_punctuated.proofs.ExactTokens.{group_tells, identifier_exactly, sign_exactly}
use Rattle.syn_derive.proofs.Grammar.Attributes.{attributes, comma_sign, eq_sign, eq_tells}
use Rattle.syn_derive.proofs.Grammar.Runs.{expression, lowers_type, type_run}
use Rattle.syn_derive.proofs.Grammar.Visibilities.{visibility}

colon_sign : Exactly IsColon (take Colon)
colon_sign = sign_exactly Colon refl

-- what a field and a variant begin with
ruleset parts = (attributes, visibility)

pub named_field : Exactly IsStructField take_named_field
unfolding take_named_field
named_field =
    exactly
    (then attributes (λ a. then visibility (λ v. then identifier_exactly (λ n. then colon_sign
    (λ c. then type_run (λ t. ends (λ _ _ t _ c _ n _ v _ a. struct_field a v n c t)))))))
    (λ f g v i. grind (arith, takes, parts, identifier_exactly, colon_sign, type_run))

pub unnamed_field : Exactly IsTupleField take_unnamed_field
unfolding take_unnamed_field
unnamed_field =
    exactly (then attributes (λ a. then visibility (λ v. then type_run
    (λ t. ends (λ _ _ t _ v _ a. tuple_field a v t)))))
    (λ f g v i. grind (arith, takes, parts, type_run))

lowers_named_field : Lowers take_named_field
unfolding take_named_field
lowers_named_field = search (weighing_parts, lowers_then) depth 60

lowers_unnamed_field : Lowers take_unnamed_field
unfolding take_unnamed_field
lowers_unnamed_field = search (weighing_parts, lowers_then, lowers_type) depth 60

named : Exactly AreStructFields take_named
unfolding take_named
named =
    terminated_exactly named_field comma_sign (lowers_token _) lightens_named_field
    (begins_left named_field lowers_named_field)

unnamed : Exactly AreTupleFields take_unnamed
unfolding take_unnamed
unnamed =
    terminated_exactly unnamed_field comma_sign (lowers_token _) lightens_unnamed_field
    (begins_left unnamed_field lowers_unnamed_field)

pub named_fields : Exactly (InGroup Brace AreStructFields) take_named_fields
unfolding take_named_fields
named_fields =
    exactly (then (group_exactly Brace named) (λ x. ends (λ _ _ i. i)))
    (λ f g v i. simp (takes (group_exactly Brace named) i) refl)

pub unnamed_fields : Exactly (InGroup Parenthesis AreTupleFields) take_unnamed_fields
unfolding take_unnamed_fields
unnamed_fields =
    exactly (then (group_exactly Parenthesis unnamed) (λ x. ends (λ _ _ i. i)))
    (λ f g v i. simp (takes (group_exactly Parenthesis unnamed) i) refl)

-- what a group begins with
pub braces_seen : {A : Type 0} {Is : Part A} {f g : Forest} {v : DelimSpan × A}
    → InGroup Brace Is f v g
    → (sees_group Brace (only_trees f) ≡ true) × (sees_group Parenthesis (only_trees f) ≡ false)
unfolding group_first
braces_seen (in_group i) = (refl, refl)

pub parentheses_seen : {A : Type 0} {Is : Part A} {f g : Forest} {v : DelimSpan × A}
    → InGroup Parenthesis Is f v g
    → (sees_group Parenthesis (only_trees f) ≡ true) × (sees_group Brace (only_trees f) ≡ false)
unfolding group_first
parentheses_seen (in_group i) = (refl, refl)

pub variant_fields : Exactly AreVariantFields take_fields
unfolding take_fields
variant_fields =
    exactly
    (either (sees_group Brace) (then named_fields (λ n. ends (λ _ _ n t. enum_variant_struct n)))
    (either (sees_group Parenthesis)
    (then unnamed_fields (λ u. ends (λ _ _ u t b. enum_variant_tuple u)))
    (ends (λ _ p b. no_variant_fields (not_next (group_tells Parenthesis) p)
    (not_next (group_tells Brace) b))))) go where
      go : Written AreVariantFields take_fields
      go _ _ _ (enum_variant_struct n) = simp ((braces_seen n).0, takes named_fields n) refl
      go _ _ _ (enum_variant_tuple u) =
          let s = parentheses_seen u in simp (s.0, s.1, takes unnamed_fields u) refl
      go _ _ _ (no_variant_fields p b) =
          simp (unseen (group_tells Parenthesis) p, unseen (group_tells Brace) b) refl

value_after : Exactly (Optional IsEq IsDiscriminant) (take_after (sees Eq) (take Eq) take_expr)
unfolding take_after
value_after =
    exactly (either (sees Eq)
    (then eq_sign (λ e. then expression (λ v. ends (λ _ _ v _ e t. present (discriminant e v)))))
    (ends (λ _ t. absent (not_next eq_tells t)))) go where
      go : Written (Optional IsEq IsDiscriminant) (take_after (sees Eq) (take Eq) take_expr)
      go _ _ _ (present (discriminant e v)) =
          simp (eq_tells.seen e, takes eq_sign e, takes expression v) refl
      go _ _ _ (absent n) = simp (unseen eq_tells n) refl

pub variant : Exactly IsEnumVariant take_variant
unfolding take_variant
variant =
    exactly
    (then attributes (λ a. then visibility (λ v. then identifier_exactly (λ n.
    then variant_fields (λ w. then value_after
    (λ d. ends (λ _ _ d _ w _ n _ v _ a. enum_variant a v n w d)))))))
    (λ f g v i. grind (arith, takes, parts, identifier_exactly, variant_fields, value_after))

lowers_variant : Lowers take_variant
unfolding take_variant
lowers_variant = search (weighing_parts, lowers_then, lightens_fields) depth 60

pub variants : Exactly AreEnumVariants (take_terminated take_variant (take Comma))
variants =
    terminated_exactly variant comma_sign (lowers_token _) lightens_variant
    (begins_left variant lowers_variant)
