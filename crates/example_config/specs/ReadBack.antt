-- What is read from the text of settings: the settings that were printed.
use Rattle.std.specs.Prelude.{◌≡◌, ◌≤◌, ◌<◌, ◌^◌, ℕ, suc, max, false, List, [], map}
use Rattle.std.specs.Prelude.{IfOk, MatchResult, Result}
use Rattle.std.specs.Str.{IsUtf8, chars}
use Rattle.tok_lexical.specs.Words.{IsName, is_missing_raw}
use Rattle.tok_leaves.specs.declared.ident.Ident.{Ident}
use Rattle.tok_leaves.specs.Spans.{call_site}
use Rattle.tok_core.specs.Lexical.Items.{most_levels}
use Rattle.syn_parse.specs.Faults.{IsMemory}
use Rattle.syn_parse.specs.TokenNames.{Comma, Token}
use Rattle.syn_parse.specs.declared.fault.Fault.{Fault}
use Rattle.syn_punctuated.specs.Lists.{values_of}
use Rattle.syn_punctuated.specs.declared.punctuated.Punctuated.{Punctuated}
use Rattle.example_config.specs.Forms.{Form, Forms, SettingForm, SettingForms, list}
use Rattle.example_config.specs.Forms.{no_settings, no_values, number, one_setting, one_value}
use Rattle.example_config.specs.Forms.{setting_form, setting_forms, text, truth}
use Rattle.example_config.specs.Forms as forms
use Rattle.example_config.specs.Grammar.{IsKey, sign_at}
use Rattle.example_config.specs.Printed.{settings_text}
use Rattle.example_config.specs.Reading.{ReadsText}
use Rattle.example_config.specs.declared.value.Setting.{Setting}

-- a key that a text can have: it is an identifier, plain or raw
abbrev pub IsKeyOfText : Ident → Type 0
IsKeyOfText key =
    IsKey key × IsUtf8 key.text × IsName (chars key.text)
    × (is_missing_raw (chars key.text) ≡ false)

abbrev mutual
  -- a value that a text can have: strings are UTF-8, numbers below 2^64, and keys those of texts
  pub IsOfText : Form → Type 0
  IsOfText (text span t) = IsUtf8 t
  IsOfText (number span n) = n < 2 ^ 64
  IsOfText (truth span b) = Unit {0}
  IsOfText (list span values commas) = AreOfText values
  IsOfText (forms.map span settings commas) = AreSettingsOfText settings

  -- each value is one that a text can have
  pub AreOfText : Forms → Type 0
  AreOfText no_values = Unit {0}
  AreOfText (one_value value others) = IsOfText value × AreOfText others

  -- each key and each value is one that a text can have
  pub AreSettingsOfText : SettingForms → Type 0
  AreSettingsOfText no_settings = Unit {0}
  AreSettingsOfText (one_setting key colon value others) =
      IsKeyOfText key × IsOfText value × AreSettingsOfText others

abbrev mutual
  -- how many lists and maps lie within one another
  pub value_depth : Form → ℕ
  value_depth (list span values commas) = suc (values_depth values)
  value_depth (forms.map span settings commas) = suc (settings_depth settings)
  value_depth form = 0

  -- the depth of the deepest value
  pub values_depth : Forms → ℕ
  values_depth no_values = 0
  values_depth (one_value value others) = max (value_depth value) (values_depth others)

  -- the depth of the deepest value of a setting
  pub settings_depth : SettingForms → ℕ
  settings_depth no_settings = 0
  settings_depth (one_setting key colon value others) =
      max (value_depth value) (settings_depth others)

-- settings that a text can have: their lists and maps have at most 256 levels
abbrev pub IsConfigOfText : List SettingForm → Type 0
IsConfigOfText settings =
    AreSettingsOfText (setting_forms settings)
    × (settings_depth (setting_forms settings) ≤ most_levels)

-- a key at the call site
abbrev pub key_spanless : Ident → Ident
key_spanless key = record { text = key.text; span = call_site }

abbrev mutual
  -- a value with the call site in place of each span, and without its commas
  pub value_spanless : Form → Form
  value_spanless (text span t) = text call_site t
  value_spanless (number span n) = number call_site n
  value_spanless (truth span b) = truth call_site b
  value_spanless (list span values commas) = list call_site (values_spanless values) []
  value_spanless (forms.map span settings commas) =
      forms.map call_site (settings_spanless settings) []

  -- each value with the call site in place of each span, and without its commas
  pub values_spanless : Forms → Forms
  values_spanless no_values = no_values
  values_spanless (one_value value others) =
      one_value (value_spanless value) (values_spanless others)

  -- each setting with the call site in place of each span, and without its commas
  pub settings_spanless : SettingForms → SettingForms
  settings_spanless no_settings = no_settings
  settings_spanless (one_setting key colon value others) =
      one_setting (key_spanless key) (sign_at call_site) (value_spanless value)
      (settings_spanless others)

-- the same keys and values in the same order, whatever their spans and commas
abbrev pub SameSettings : List SettingForm → List SettingForm → Type 0
SameSettings settings others =
    settings_spanless (setting_forms settings) ≡ settings_spanless (setting_forms others)

-- settings that are read from a text are ones that a text can have
abbrev pub AreReadFromTexts : Type 0
AreReadFromTexts =
    (source : ℕ) (text : List ℕ) (result : Result (Punctuated Setting (Token Comma)) Fault)
    → IsUtf8 text → ReadsText source (chars text) result
    → IfOk result (λ config. IsConfigOfText (map setting_form (values_of config)))

-- What is read from the text of settings is the same settings. The only error is an allocation
-- failure.
abbrev pub AreReadBack : Type 0
AreReadBack =
    (settings : List SettingForm) (source : ℕ)
    (result : Result (Punctuated Setting (Token Comma)) Fault) → IsConfigOfText settings
    → ReadsText source (chars (settings_text settings)) result
    → MatchResult result (λ config. SameSettings (map setting_form (values_of config)) settings)
    IsMemory
