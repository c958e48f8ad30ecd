-- How settings are printed.
use Rattle.std.specs.Prelude.{List, [], ◌∷◌, ◌++◌, ℕ, codes, if◌then◌else◌}
use Rattle.std.specs.Fmt.{decimal}
use Rattle.std.specs.List.{flat_map, join_by}
use Rattle.std.specs.Str.{chars}
use Rattle.tok_leaves.specs.Quoting.{in_quotes}
use Rattle.example_config.specs.Forms.{Form, Forms, SettingForm, SettingForms, list, map}
use Rattle.example_config.specs.Forms.{no_settings, no_values, number, one_setting, one_value}
use Rattle.example_config.specs.Forms.{text, truth}

-- a key, a colon, a space, and the text of a value
abbrev pub after_key : (key value : List ℕ) → List ℕ
after_key key value = key ++ (codes ": " ++ value)

-- texts with a comma and a space between each two
abbrev pub in_a_row : List (List ℕ) → List ℕ
in_a_row = join_by (λ t. t) (codes ", ")

-- texts in a row, in brackets
abbrev pub in_brackets : List (List ℕ) → List ℕ
in_brackets texts = codes "[" ++ (in_a_row texts ++ codes "]")

-- texts in a row, in braces
abbrev pub in_braces : List (List ℕ) → List ℕ
in_braces texts = codes "{" ++ (in_a_row texts ++ codes "}")

abbrev mutual
  -- the text of a value: a string literal, a decimal number, a keyword, a list or a map
  pub value_text : Form → List ℕ
  value_text (text span t) = in_quotes (chars t)
  value_text (number span n) = decimal n
  value_text (truth span b) = if b then codes "true" else codes "false"
  value_text (list span values commas) = in_brackets (value_texts values)
  value_text (map span settings commas) = in_braces (setting_texts settings)

  -- the text of each value
  pub value_texts : Forms → List (List ℕ)
  value_texts no_values = []
  value_texts (one_value value others) = value_text value ∷ value_texts others

  -- the text of each setting
  pub setting_texts : SettingForms → List (List ℕ)
  setting_texts no_settings = []
  setting_texts (one_setting key colon value others) =
      after_key key.text (value_text value) ∷ setting_texts others

-- the text of a setting: its key, a colon, a space, and its value
abbrev pub setting_text : SettingForm → List ℕ
setting_text setting = after_key setting.0.text (value_text setting.2)

-- the text of settings: each with a comma, in a line of its own
abbrev pub settings_text : List SettingForm → List ℕ
settings_text = flat_map (λ setting. setting_text setting ++ codes ",\n")
