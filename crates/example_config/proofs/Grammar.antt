-- What is taken as settings is what the grammar has, and what it has is taken.
use Rattle.std.proofs.Common.{arith, ◌≡◌, ◌∙◌, sym, refl, ℕ, ◌<◌, ◌^◌, Bool, true, false}
use Rattle.std.proofs.Common.{List, [], ◌∷◌, ◌++◌, Option, Some, None, eqb-true}
use Rattle.std.proofs.Common.{subst}
use Rattle.std.proofs.lemmas.Bool.{false≢true, lt-ltb, ltb-true}
use Rattle.std.proofs.lemmas.Slice.Eq.{bytes_eq-Decides}
use Rattle.std.specs.Prelude.{codes, if◌then◌else◌, nat_lt}
use Rattle.std.specs.Str.{chars}
use Rattle.tok_leaves.specs.Leaves.{ident, ident_of}
use Rattle.tok_leaves.specs.declared.ident.Ident.{Ident}
use Rattle.tok_leaves.specs.declared.literal.Literal.{Literal}
use Rattle.tok_leaves.specs.declared.span.Span.{Span}
use Rattle.tok_values.specs.Values.{integer_value, string_value}
use Rattle.tok_core.specs.Forest.{Tree, leaf, Forest, tree}
use Rattle.tok_types.specs.Sees.{any_ident_first, group_first, literal_first}
use Rattle.syn_parse.proofs.Shapes.{IsSign, Shape, before, group_ahead, ident_ahead, literal_ahead}
use Rattle.syn_parse.proofs.Shapes.{past, sign_ahead, sign_shape, step, token_shape}
use Rattle.syn_parse.proofs.TakenTrees.{Sound, SoundToEnd, after, choice, either, ends, given}
use Rattle.syn_parse.proofs.TakenTrees.{group_sound, nested_sound, of_shape, refused, refused_at}
use Rattle.syn_parse.specs.Owned.{own_first, sees_own}
use Rattle.syn_parse.specs.Parses.{IsLiteral}
use Rattle.syn_parse.specs.Takes.{Taking, found, refuses_at}
use Rattle.syn_parse.specs.TokenNames.{Colon, Comma, Token, take}
use Rattle.syn_parse.specs.Tokens as token
use Rattle.syn_parse.specs.Tokens.{take_token}
use Rattle.syn_parse.specs.TreesAhead.{Ahead, all_taken, only_trees}
use Rattle.syn_punctuated.proofs.ListShapes.{last_taken, list_sound, more_taken, none_taken}
use Rattle.syn_punctuated.specs.TakeLists.{take_terminated}
use Rattle.example_config.specs.Forms.{Form, SettingForm, number, text, truth}
use Rattle.example_config.specs.Grammar.{AreForms, AreSettings, AreValues, IsNumber, IsSetting, IsText}
use Rattle.example_config.specs.Grammar.{IsValue, and_settings, and_values, colon, comma, is_false}
use Rattle.example_config.specs.Grammar.{is_list, is_map, is_number, is_setting, is_text, is_true}
use Rattle.example_config.specs.Grammar.{last_setting, last_value, no_setting, no_value, sign}
use Rattle.example_config.specs.Nesting.{lowers_setting, lowers_value, value_again}
use Rattle.example_config.specs.Reading.{in_integer, in_number, in_text, meaning, setting_step}
use Rattle.example_config.specs.Reading.{take_key, take_list_value, take_literal_value, take_map_value}
use Rattle.example_config.specs.Reading.{take_plain, take_setting, take_settings, take_value, value_step}

comma_shape : Shape (IsSign comma) (take Comma)
comma_shape = sign_shape Comma comma refl refl

colon_shape : Shape (IsSign colon) (take Colon)
colon_shape = sign_shape Colon colon refl refl

-- a literal that means a value is the value's text or number
module _ (literal : Literal) where
  abbrev IsMeaning : Form → List Tree → Type 0
  IsMeaning v us = (ts : List Tree) → IsLiteral literal ts → IsValue v (ts ++ us)

  by_suffix : (n : ℕ) (suffix : List ℕ) → integer_value (chars literal.text) ≡ Some (n, suffix)
      → n < 2 ^ 64 → Sound (in_number literal.span n suffix) IsMeaning
  by_suffix n suffix i w = grind (arith, ends, is_number, refused_at)

  by_size : (i : ℕ × List ℕ) (t : Bool) → integer_value (chars literal.text) ≡ Some i
      → nat_lt i.0 (2 ^ 64) ≡ t
      → Sound (if t then in_number literal.span i.0 i.1
      else refuses_at literal.span (codes "expected an integer below 2^64")) IsMeaning
  by_size i true k w = by_suffix i.0 i.1 k (ltb-true i.0 (2 ^ 64) w)
  by_size i false k w = refused_at _ _

  by_integer : (o : Option (ℕ × List ℕ)) → integer_value (chars literal.text) ≡ o
      → Sound (in_integer literal.span o) IsMeaning
  by_integer o k = grind (arith, refused_at, by_size)

  by_text : (o : Option (List ℕ)) → string_value (chars literal.text) ≡ o
      → Sound (in_text literal o) IsMeaning
  by_text o k = grind (arith, ends, is_text, by_integer)

  meaning_sound : Sound (meaning literal) IsMeaning
  unfolding meaning
  meaning_sound = by_text (string_value (chars literal.text)) refl

plain_sound : Sound take_plain IsValue
unfolding take_plain take_literal_value
plain_sound =
    choice _
    (given _ (of_shape (token_shape (token.own (codes "true")) (116, codes "rue", refl)))
    (λ span ts i. simp i (is_true span))) (choice _
    (given _ (of_shape (token_shape (token.own (codes "false")) (102, codes "alse", refl)))
    (λ span ts i. simp i (is_false span)))
    (choice _ (after (of_shape (token_shape token.literal tt)) meaning_sound) (refused _)))

include_seen : (key : Ident) (ts : List Tree) (b : Ahead) → key.text ≡ codes "include"
    → sees_own (codes "include") (before (leaf (ident_of key) ∷ ts) b) ≡ true
unfolding own_first
include_seen key ts b e = grind arith

module _ {m : Taking Form} (h : Sound m IsValue) where
  setting_sound : Sound (setting_step m) IsSetting
  unfolding setting_step take_key
  setting_sound =
      either (sees_own (codes "include")) (refused _)
      (after (choice _ (of_shape (token_shape token.ident tt)) (refused _))
      (λ key. after (of_shape colon_shape)
      (λ colon. given _ h (λ v ts i cs c ks k b unseen. simp (k.0, c.2, c.3)
      (is_setting key c.0 c.1 v ts (
        k.1,
        λ e. false≢true
            (sym (subst (λ us. sees_own (codes "include") (before (us ++ (cs ++ ts)) b) ≡ false) k.0
            unseen) ∙ include_seen key (cs ++ ts) b e),
      ) i)))))

  settings_sound : SoundToEnd (take_terminated (setting_step m) (take Comma)) (λ x f. AreForms f x)
  settings_sound =
      list_sound setting_sound (of_shape comma_shape) no_setting last_setting and_settings

  value_level : Sound (value_step m) IsValue
  unfolding take_list_value take_map_value
  value_level =
      choice _
      (given _ (group_sound (list_sound h (of_shape comma_shape) no_value last_value and_values))
      (λ v ts g. simp g.1 (is_list g.0 v.0.join v.1.0 v.1.1 g.2)))
      (choice _
      (given _ (group_sound settings_sound)
      (λ v ts g. simp g.1 (is_map g.0 v.0.join v.1.0 v.1.1 g.2)))
      plain_sound)

-- settings are taken to the end, and are what the grammar has
pub sound : SoundToEnd take_settings (λ x f. AreForms f x)
sound = settings_sound (nested_sound value_step (λ m h. value_level h))

-- an integer is no string
no_string : (t : List ℕ) (i : ℕ × List ℕ) → integer_value t ≡ Some i → string_value t ≡ None
unfolding string_value integer_value
no_string t i e = grind (arith, eqb-true)

module _ (literal : Literal) (b : Ahead) where
  text_meant : (t : List ℕ) → IsText literal t → meaning literal b ≡ found (text literal.span t) b
  unfolding meaning
  text_meant t h = grind arith

  number_meant : (n : ℕ) → IsNumber literal n → meaning literal b ≡ found (number literal.span n) b
  unfolding meaning
  number_meant n h = grind (arith, no_string, lt-ltb)

not_include : (key : Ident) (f : Forest) (c : Option Span) → (key.text ≡ codes "include" → ⊥)
    → sees_own (codes "include") (record { trees = tree (leaf (ident_of key)) f; unread = c })
    ≡ false
unfolding own_first
not_include key f c differs = grind (arith, bytes_eq-Decides)

-- a truth value is its word
truth_taken : (b : Bool) (span : Span) (a : Ahead)
    → value_step take_value
    (before (leaf (ident (if b then codes "true" else codes "false") span) ∷ []) a)
    ≡ found (truth span b) a
unfolding any_ident_first group_first literal_first own_first take_list_value take_literal_value
    take_map_value take_plain take_token
truth_taken b span a = grind arith

mutual
  unfolding any_ident_first group_first literal_first own_first setting_step take_key
      take_list_value take_literal_value take_map_value take_plain

  value_taken : {v : Form} {ts : List Tree} → IsValue v ts → (b : Ahead)
      → take_value (before ts b) ≡ found v b
  value_taken (is_text literal t h) b =
      value_again _ ∙ step _ (literal_ahead literal) (text_meant literal b t h)
  value_taken (is_number literal n h) b =
      value_again _ ∙ step _ (literal_ahead literal) (number_meant literal b n h)
  value_taken (is_true span) b = value_again _ ∙ truth_taken true span b
  value_taken (is_false span) b = value_again _ ∙ truth_taken false span b
  value_taken (is_list inside span vs ps l) b =
      value_again _ ∙ step _ (group_ahead _ _ (values_taken l)) refl
  value_taken (is_map inside span vs ps l) b =
      value_again _ ∙ step _ (group_ahead _ _ (settings_taken l)) refl

  setting_taken : {v : SettingForm} {ts : List Tree} → IsSetting v ts → (b : Ahead)
      → take_setting (before ts b) ≡ found v b
  setting_taken (is_setting key spacing span value ts k i) b =
      past _ (not_include key (before (sign colon spacing span ∷ ts) b).trees b.unread k.1)
      (step _ (ident_ahead key k.0) (step _ (sign_ahead colon_shape spacing span)
      (step _ (value_taken i b) refl)))

  values_taken : {f : Forest} {vs : List Form} {ps : List (Token Comma)} → AreValues f vs ps
      → take_terminated take_value (take Comma) (only_trees f) ≡ found (vs, ps) all_taken
  values_taken no_value = none_taken lowers_value comma_shape
  values_taken (last_value ts v i) =
      last_taken lowers_value comma_shape ts (value_taken i all_taken)
  values_taken (and_values ts v spacing span rest vs ps i l) =
      more_taken lowers_value comma_shape ts
      (value_taken i (only_trees (tree (sign comma spacing span) rest))) (values_taken l)

  -- the settings that the grammar has are taken, to the end
  pub settings_taken : {f : Forest} {vs : List SettingForm} {ps : List (Token Comma)}
      → AreSettings f vs ps → take_settings (only_trees f) ≡ found (vs, ps) all_taken
  settings_taken no_setting = none_taken lowers_setting comma_shape
  settings_taken (last_setting ts v i) =
      last_taken lowers_setting comma_shape ts (setting_taken i all_taken)
  settings_taken (and_settings ts v spacing span rest vs ps i l) =
      more_taken lowers_setting comma_shape ts
      (setting_taken i (only_trees (tree (sign comma spacing span) rest))) (settings_taken l)
