-- The settings that are read from a text are settings that a text can have.
use Rattle.std.proofs.Common.{◌≤◌, ℕ, List, arith, inl, inr, map}
use Rattle.std.proofs.Common.{Ok, Err}
use Rattle.std.specs.Prelude.{IfOk, Result}
use Rattle.std.specs.Str.{IsUtf8, chars}
use Rattle.std.proofs.lemmas.Str.{scalars-chars}
use Rattle.tok_values.specs.Values.{StringsHaveOneValue}
use Rattle.tok_core.specs.Forest.{Forest, Tree, forest, tree}
use Rattle.tok_core.specs.Lexical.Items.{depth}
use Rattle.syn_parse.specs.TokenNames.{Comma, Token}
use Rattle.syn_parse.specs.declared.fault.Fault.{Fault}
use Rattle.syn_punctuated.specs.Lists.{values_of}
use Rattle.syn_punctuated.specs.declared.punctuated.Punctuated.{Punctuated}
use Rattle.example_config.specs.Forms.{Form, SettingForm, forms, setting_form, setting_forms}
use Rattle.example_config.specs.Grammar.{AreSettings, AreValues, IsSetting, IsValue, and_settings}
use Rattle.example_config.specs.Grammar.{and_values, comma, is_false, is_list, is_map, is_number}
use Rattle.example_config.specs.Grammar.{is_setting, is_text, is_true, last_setting, last_value}
use Rattle.example_config.specs.Grammar.{no_setting, no_value, sign}
use Rattle.example_config.specs.ReadBack.{AreOfText, AreSettingsOfText, IsConfigOfText, IsKeyOfText}
use Rattle.example_config.specs.ReadBack.{IsOfText, settings_depth, value_depth, values_depth}
use Rattle.example_config.specs.Reading.{ReadsText}
use Rattle.example_config.specs.declared.value.Setting.{Setting}
use Rattle.example_config.proofs.Characters.{value_utf8}
use Rattle.example_config.proofs.OfText.{ForestOfText, both_are, first_depth, read_is, second_depth}

-- a value, and its depth
abbrev Kept : Form → ℕ → Type 0
Kept v n = IsOfText v × (value_depth v ≤ n)

abbrev KeptSetting : SettingForm → ℕ → Type 0
KeptSetting s n = IsKeyOfText s.0 × Kept s.2 n

module _ (one : StringsHaveOneValue) where
  mutual
    value_kept : (v : Form) (ts : List Tree) → IsValue v ts → ForestOfText (forest ts)
        → Kept v (depth (forest ts))
    value_kept _ _ (is_text l t h) f =
        (value_utf8 one (chars l.text) t (scalars-chars l.text f.0) h, omega arith)
    value_kept _ _ (is_number l n h) f = (h.1, omega arith)
    value_kept _ _ (is_true span) f = (tt, omega arith)
    value_kept _ _ (is_false span) f = (tt, omega arith)
    value_kept _ _ (is_list inside span vs ps l) f =
        let k = values_kept inside vs ps l f.0 in (k.0, omega (arith, k.1))
    value_kept _ _ (is_map inside span ss ps l) f =
        let k = settings_kept inside ss ps l f.0 in (k.0, omega (arith, k.1))

    setting_kept : (s : SettingForm) (ts : List Tree) → IsSetting s ts → ForestOfText (forest ts)
        → KeptSetting s (depth (forest ts))
    setting_kept _ _ (is_setting key spacing span v ts k i) f =
        ((k, f.0.0, f.0.1, f.0.2), value_kept v ts i f.1.1)

    values_kept : (inside : Forest) (vs : List Form) (ps : List (Token Comma))
        → AreValues inside vs ps → ForestOfText inside
        → AreOfText (forms vs) × (values_depth (forms vs) ≤ depth inside)
    values_kept _ _ _ no_value f = (tt, omega arith)
    values_kept _ _ _ (last_value ts v i) f =
        let k = value_kept v ts i f in ((k.0, tt), omega (arith, k.1))
    values_kept _ _ _ (and_values ts v spacing span rest vs ps i l) f =
        let parts = both_are (forest ts) (tree (sign comma spacing span) rest) f in
        let k = value_kept v ts i parts.0 in
        let m = values_kept rest vs ps l parts.1.1 in (
          (k.0, m.0),
          omega (
            arith,
            k.1,
            m.1,
            first_depth (forest ts) (tree (sign comma spacing span) rest),
            second_depth (forest ts) (tree (sign comma spacing span) rest),
          ),
        )

    settings_kept : (inside : Forest) (ss : List SettingForm) (ps : List (Token Comma))
        → AreSettings inside ss ps → ForestOfText inside
        → AreSettingsOfText (setting_forms ss) × (settings_depth (setting_forms ss) ≤ depth inside)
    settings_kept _ _ _ no_setting f = (tt, omega arith)
    settings_kept _ _ _ (last_setting ts s i) f =
        let k = setting_kept s ts i f in ((k.0, k.1.0, tt), omega (arith, k.1.1))
    settings_kept _ _ _ (and_settings ts s spacing span rest ss ps i l) f =
        let parts = both_are (forest ts) (tree (sign comma spacing span) rest) f in
        let k = setting_kept s ts i parts.0 in
        let m = settings_kept rest ss ps l parts.1.1 in (
          (k.0, k.1.0, m.0),
          omega (
            arith,
            k.1.1,
            m.1,
            first_depth (forest ts) (tree (sign comma spacing span) rest),
            second_depth (forest ts) (tree (sign comma spacing span) rest),
          ),
        )

  pub are_of_text : (source : ℕ) (text : List ℕ)
      (r : Result (Punctuated Setting (Token Comma)) Fault) → IsUtf8 text
      → ReadsText source (chars text) r
      → IfOk r (λ config. IsConfigOfText (map setting_form (values_of config)))
  are_of_text source text (Ok config) u (inl (f, reads, takes, p)) =
      let k = settings_kept f _ _ p (read_is source (chars text) f (scalars-chars text u) reads) in
      (k.0, omega (arith, k.1, reads.0))
  are_of_text source text (Ok config) u (inr (inl (e, rejected, fails))) = absurd fails
  are_of_text source text (Ok config) u (inr (inr memory)) = absurd memory
  are_of_text source text (Err f) u reads = tt
