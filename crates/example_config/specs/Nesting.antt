-- A level of a value takes less than the one around it, so a value is taken level by level.
use Rattle.std.specs.Prelude.{◌≡◌, ◌^◌, ℕ, Bool, true, false, List, [], ◌∷◌, codes, nat_lt}
use Rattle.std.specs.Prelude.{Option, None, Some, if◌then◌else◌}
use Rattle.std.specs.Str.{chars}
use Rattle.tok_leaves.specs.declared.literal.Literal.{Literal}
use Rattle.tok_leaves.specs.declared.span.Span.{Span}
use Rattle.tok_values.specs.Values.{integer_value, string_value}
use Rattle.syn_parse.specs.Lighter.{lessens_refuses_at, lightens_gives, lightens_lower, lowering}
use Rattle.syn_parse.specs.Nested.{Descends, lowers_nested, nested_again}
use Rattle.syn_parse.specs.Takes.{refuses_at}
use Rattle.syn_parse.specs.Takings.{Lightens, Lowers, Takings, lower, told_filled}
use Rattle.syn_parse.specs.TreesAhead.{Ahead}
use Rattle.syn_punctuated.specs.NestedLists.{descending_lists}
use Rattle.example_config.specs.Forms.{setting_form, value_form}
use Rattle.example_config.specs.Reading.{in_integer, in_number, in_text, meaning, setting_step}
use Rattle.example_config.specs.Reading.{take_key, take_list_value, take_literal_value, take_map_value}
use Rattle.example_config.specs.Reading.{take_plain, take_setting, take_value, value_step}
use Rattle.example_config.specs.declared.value.Setting.{Setting}
use Rattle.example_config.specs.declared.value.Value.{Value}

-- the value of a number adds nothing to what is ahead
lightens_number : (span : Span) (n : ℕ) (suffix : List ℕ) → Lightens (in_number span n suffix)
lightens_number span n [] = lightens_gives _
lightens_number span n (c ∷ cs) = lessens_refuses_at span _

-- the value of an integer, or its error, adds nothing to what is ahead
lightens_integer : (span : Span) (o : Option (ℕ × List ℕ)) → Lightens (in_integer span o)
lightens_integer span None = lessens_refuses_at span _
lightens_integer span (Some i) = below (nat_lt i.0 (2 ^ 64)) where
  below : (b : Bool) → Lightens (if b
      then in_number span i.0 i.1
      else refuses_at span (codes "expected an integer below 2^64"))
  below true = lightens_number span i.0 i.1
  below false = lessens_refuses_at span _

-- the value of a string, or else of an integer, adds nothing to what is ahead
lightens_text : (literal : Literal) (o : Option (List ℕ)) → Lightens (in_text literal o)
lightens_text literal (Some t) = lightens_gives _
lightens_text literal None =
    lightens_integer literal.span (integer_value (chars literal.text))

-- the value of a literal adds nothing to what is ahead
lightens_meaning : (literal : Literal) → Lightens (meaning literal)
unfolding meaning
lightens_meaning literal = lightens_text literal (string_value (chars literal.text))

-- a plain value, which has no others in it, takes something
lowers_plain : Lowers take_plain
unfolding take_plain take_literal_value
lowers_plain = search (lowering, lightens_meaning) depth 40

-- so it adds nothing to what is ahead
lightens_plain : Lightens take_plain
lightens_plain = lightens_lower take_plain lowers_plain

-- each level of a value takes less than the one around it
value_descends : Descends 0 value_step
unfolding take_list_value take_map_value setting_step take_key
value_descends = search (descending_lists, lightens_plain) depth 60

-- a value is one level around values
pub value_again : (a : Ahead) → take_value a ≡ value_step take_value a
value_again = nested_again value_step value_descends

-- a value takes something
pub lowers_value : Lowers take_value
unfolding take_list_value take_map_value
lowers_value =
    lowers_nested value_step value_descends (λ m light. search (lowering, lowers_plain) depth 20)

-- so it adds nothing to what is ahead
lightens_value : Lightens take_value
lightens_value = lightens_lower take_value lowers_value

-- a setting takes something
pub lowers_setting : Lowers take_setting
unfolding setting_step take_key
lowers_setting = search (lowering, lightens_value) depth 40

-- the parse of a value, if no invisible group is empty
abbrev pub value : Takings Value
value = told_filled value_form take_value (lower lowers_value)

-- the parse of a setting, if no invisible group is empty
abbrev pub setting : Takings Setting
setting = told_filled setting_form take_setting (lower lowers_setting)
