-- What settings are, but for how the program stores a list of them.
use Rattle.std.specs.Prelude.{ℕ, Bool, List, [], ◌∷◌, string_bytes}
use Rattle.tok_leaves.specs.declared.ident.Ident.{Ident}
use Rattle.tok_leaves.specs.declared.span.Span.{Span}
use Rattle.tok_leaves.specs.Spans.{whole_span}
use Rattle.syn_parse.specs.TokenNames.{Colon, Comma, Token}
use Rattle.syn_punctuated.specs.Lists.{values_of, separators_of}
use Rattle.example_config.specs.declared.value.Setting.{Setting}
use Rattle.example_config.specs.declared.value.Value.{Value}
use Rattle.example_config.specs.declared.value.Value.TheFolds.{fold-Setting, fold-Value}
use Rattle.example_config.specs.declared.value.Value.TheOpen.{Setting-F, Value-F}

mutual
  -- a text, a number or a truth value; or, between delimiters, values or settings and their commas
  pub data Form : Type 0 where
    text : Span → List ℕ → Form
    number : Span → ℕ → Form
    truth : Span → Bool → Form
    list : Span → Forms → List (Token Comma) → Form
    map : Span → SettingForms → List (Token Comma) → Form

  -- no value, or a first one and the others
  pub data Forms : Type 0 where
    no_values : Forms
    one_value : Form → Forms → Forms

  -- no setting, or a first one and the others
  pub data SettingForms : Type 0 where
    no_settings : SettingForms
    one_setting : Ident → Token Colon → Form → SettingForms → SettingForms

-- a key, a colon and a value
abbrev pub SettingForm : Type 0
SettingForm = Ident × Token Colon × Form

-- a list of forms as its own type
abbrev pub forms : List Form → Forms
forms [] = no_values
forms (f ∷ fs) = one_value f (forms fs)

-- a list of settings as its own type
abbrev pub setting_forms : List SettingForm → SettingForms
setting_forms [] = no_settings
setting_forms (s ∷ ss) = one_setting s.0 s.1 s.2 (setting_forms ss)

-- values in brackets of this span
abbrev pub listed : Span → List Form × List (Token Comma) → Form
listed span values = list span (forms values.0) values.1

-- settings in braces of this span
abbrev pub mapped : Span → List SettingForm × List (Token Comma) → Form
mapped span settings = map span (setting_forms settings.0) settings.1

-- a value, with the forms of those that it holds in their place
abbrev pub value_level : Value-F Form SettingForm → Form
value_level (Value-F.Text span s) = text span (string_bytes s)
value_level (Value-F.Number span n) = number span n
value_level (Value-F.Truth span b) = truth span b
value_level (Value-F.List bracket values) =
    listed (whole_span bracket.span) (values_of values, separators_of values)
value_level (Value-F.Map brace settings) =
    mapped (whole_span brace.span) (values_of settings, separators_of settings)

-- a setting, with the form of its value in its place
abbrev pub setting_level : Setting-F Form SettingForm → SettingForm
setting_level s = (s.key, s.colon, s.value)

-- a value as contracts see it
abbrev pub value_form : Value → Form
value_form = fold-Value Form SettingForm value_level setting_level

-- a setting as contracts see it
abbrev pub setting_form : Setting → SettingForm
setting_form = fold-Setting Form SettingForm value_level setting_level
