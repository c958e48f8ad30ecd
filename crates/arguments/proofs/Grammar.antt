-- What is taken as arguments is what the grammar has, and what it has is taken.
use Rattle.std.specs.Prelude.{None, Option}
use Rattle.std.proofs.Common.{arith, ◌≡◌, ◌∙◌, refl, List}
use Rattle.tok_leaves.specs.declared.ident.Ident.{Ident}
use Rattle.tok_leaves.specs.declared.punct.Spacing.{Spacing}
use Rattle.tok_leaves.specs.declared.span.Span.{Span}
use Rattle.tok_core.specs.Forest.{Tree, Forest, no_trees, tree}
use Rattle.tok_types.specs.Sees.{group_first, punctuation_first}
use Rattle.syn_parse.proofs.Shapes.{IsSign, Shape, before, group_ahead, ident_ahead, literal_ahead}
use Rattle.syn_parse.proofs.Shapes.{sign_ahead, sign_shape, step, token_shape}
use Rattle.syn_parse.proofs.TakenTrees.{Sound, SoundToEnd, after, choice, ends, given, group_sound}
use Rattle.syn_parse.proofs.TakenTrees.{nested_sound, of_shape}
use Rattle.syn_parse.specs.Takes.{found}
use Rattle.syn_parse.specs.TokenNames.{Comma, Eq, Token, take}
use Rattle.syn_parse.specs.Tokens as token
use Rattle.syn_parse.specs.TreesAhead.{Ahead, all_taken, only_trees}
use Rattle.syn_punctuated.proofs.ListShapes.{last_taken, list_sound, more_taken, none_taken}
use Rattle.arguments.specs.Forms.{Form, flag}
use Rattle.arguments.specs.Grammar.{AreForms, AreListed, IsArgument, and_more, comma, equals_sign}
use Rattle.arguments.specs.Grammar.{is_assigned, is_flag, is_list, last, nothing, sign}
use Rattle.arguments.specs.Reading.{argument_again, argument_step, lowers_argument, take_argument}
use Rattle.arguments.specs.Reading.{take_arguments, take_value}

comma_shape : Shape (IsSign comma) (take Comma)
comma_shape = sign_shape Comma comma refl refl

eq_shape : Shape (IsSign equals_sign) (take Eq)
eq_shape = sign_shape Eq equals_sign refl refl

argument_sound : Sound take_argument (λ f ts. IsArgument ts f)
argument_sound =
    nested_sound argument_step
    (λ m h. after (of_shape (token_shape token.ident tt)) (λ name. choice _
    (after (of_shape eq_shape) (λ equals. given _ (of_shape (token_shape token.literal tt))
    (λ l ls i es e ns n. simp (n.0, e.2, e.3, i) (is_assigned name e.0 e.1 l n.1))))
    (choice _
    (given _ (group_sound (list_sound h (of_shape comma_shape) nothing last and_more))
    (λ v gs g ns n. simp (n.0, g.1) (is_list name g.0 v.0.join v.1.0 v.1.1 n.1 g.2)))
    (ends (λ ns n. simp n.0 (is_flag name n.1))))))

-- arguments are taken to the end, and are what the grammar has
pub sound : SoundToEnd take_arguments (λ x f. AreForms f x)
sound = list_sound argument_sound (of_shape comma_shape) nothing last and_more

-- nothing is left after an argument, or a comma is next
data Ends : Ahead → Type 0 where
  at_end : (c : Option Span) → Ends (record { trees = no_trees; unread = c })
  at_comma : (spacing : Spacing) (span : Span) (f : Forest) (c : Option Span)
      → Ends (record { trees = tree (sign comma spacing span) f; unread = c })

alone : (name : Ident) (b : Ahead) → Ends b → take_value take_arguments name b ≡ found (flag name) b
unfolding punctuation_first group_first
alone name b h = grind arith

mutual
  unfolding punctuation_first group_first

  argument_taken : {ts : List Tree} {f : Form} → IsArgument ts f → (b : Ahead) → Ends b
      → take_argument (before ts b) ≡ found f b
  argument_taken (is_flag name n) b e =
      argument_again _ ∙ step _ (ident_ahead name n) (alone name b e)
  argument_taken (is_assigned name spacing span text n) b e =
      argument_again _
      ∙ step _ (ident_ahead name n) (step _ (sign_ahead eq_shape spacing span)
      (step _ (literal_ahead text) refl))
  argument_taken (is_list name inside span inner commas n l) b e =
      argument_again _
      ∙ step _ (ident_ahead name n) (step _ (group_ahead _ _ (arguments_taken l)) refl)

  -- the arguments that the grammar has are taken, to the end
  pub arguments_taken : {f : Forest} {vs : List Form} {ps : List (Token Comma)} → AreListed f vs ps
      → take_arguments (only_trees f) ≡ found (vs, ps) all_taken
  arguments_taken nothing = none_taken lowers_argument comma_shape
  arguments_taken (last ts argument i) =
      last_taken lowers_argument comma_shape ts (argument_taken i all_taken (at_end None))
  arguments_taken (and_more ts argument spacing span rest others commas i l) =
      more_taken lowers_argument comma_shape ts
      (argument_taken i (only_trees (tree (sign comma spacing span) rest))
      (at_comma spacing span rest None)) (arguments_taken l)
