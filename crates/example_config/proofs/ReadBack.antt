-- What is printed is read as the settings that were printed.
use Rattle.std.proofs.Common.{◌≡◌, ◌∙◌, ◌≤◌, ◌<◌, ◌^◌, ◌+◌, ℕ, suc, List, [], ◌∷◌, ◌++◌, refl, sym, ap, subst}
use Rattle.std.proofs.Common.{append_assoc, arith, inl, inr, map, Bool, true, false, Ok, Err}
use Rattle.std.specs.Prelude.{Result, MatchResult, ◌==◌, ◌||◌, codes, cond}
use Rattle.std.specs.Fmt.{decimal}
use Rattle.std.specs.Str.{IsUtf8, chars}
use Rattle.std.proofs.lemmas.Str.{IsUtf8-append, chars-append, encodes-chars}
use Rattle.unicode_ident.proofs.IdentLemmas.{is_xid_start-ascii}
use Rattle.tok_lexical.specs.Fits.{IsFirstFit, here}
use Rattle.tok_lexical.specs.Rules.{rules_of}
use Rattle.tok_lexical.specs.Widths.{width}
use Rattle.tok_lexical.specs.Words.{IsIdentifier, IsName, is_missing_raw}
use Rattle.tok_lexical.specs.declared.delimiter.Delimiter.TheVariants.{Brace, Bracket}
use Rattle.tok_lexical.specs.declared.rule.Mode.TheVariants.{Plain}
use Rattle.tok_lexical.specs.declared.rule.Rule.TheVariants.{Closing, Opening}
use Rattle.tok_lexical.specs.declared.start.Start.TheVariants as start
use Rattle.tok_lexical.proofs.First.{decides_begun}
use Rattle.tok_lexical.proofs.Identifiers.{all_continue}
use Rattle.tok_lexical.proofs.Longest.{takes_one}
use Rattle.tok_leaves.specs.Leaves.{ident, literal}
use Rattle.tok_leaves.specs.Quoting.{in_quotes}
use Rattle.tok_leaves.specs.Spans.{call_site}
use Rattle.tok_leaves.specs.declared.ident.Ident.{Ident}
use Rattle.tok_leaves.specs.declared.span.Span.{Span}
use Rattle.tok_values.specs.Laws.{StringsAreRead, StringsKeepText}
use Rattle.tok_values.specs.Values.{IntegersHaveOneValue, StringsHaveOneValue}
use Rattle.tok_core.specs.Forest.{forest, group, leaf, no_trees, tree}
use Rattle.tok_core.specs.Lexical.Items.{most_levels}
use Rattle.tok_core.specs.Lexical.Reading.{ReadsForest}
use Rattle.tok_core.proofs.Lexical.Laws.{forest_once, never_both}
use Rattle.syn_parse.proofs.Shapes.{found_first}
use Rattle.syn_parse.specs.Faults.{IsMemory}
use Rattle.syn_parse.specs.Parsers.{OnMemory}
use Rattle.syn_parse.specs.TokenNames.{Colon, Comma, Token}
use Rattle.syn_parse.specs.declared.fault.Fault.{Fault}
use Rattle.syn_punctuated.specs.Lists.{values_of}
use Rattle.syn_punctuated.specs.declared.punctuated.Punctuated.{Punctuated}
use Rattle.example_config.specs.Forms.{Form, Forms, SettingForm, SettingForms, forms}
use Rattle.example_config.specs.Forms.{list, no_settings, no_values, number, one_setting, one_value}
use Rattle.example_config.specs.Forms.{setting_form, setting_forms, text, truth}
use Rattle.example_config.specs.Forms as form
use Rattle.example_config.specs.Grammar.{AreSettings, AreValues, IsSetting, IsValue, Parses}
use Rattle.example_config.specs.Grammar.{and_settings, and_values, is_false, is_list, is_map}
use Rattle.example_config.specs.Grammar.{is_number, is_setting, is_text, is_true, last_setting}
use Rattle.example_config.specs.Grammar.{last_value, no_setting, no_value, sign, sign_at}
use Rattle.example_config.specs.Printed.{after_key, in_a_row, in_braces, in_brackets, setting_text}
use Rattle.example_config.specs.Printed.{setting_texts, settings_text, value_text, value_texts}
use Rattle.example_config.specs.ReadBack.{AreOfText, AreSettingsOfText, IsConfigOfText, IsKeyOfText}
use Rattle.example_config.specs.ReadBack.{IsOfText, SameSettings, key_spanless}
use Rattle.example_config.specs.ReadBack.{settings_depth, settings_spanless, value_depth}
use Rattle.example_config.specs.ReadBack.{value_spanless, values_depth, values_spanless}
use Rattle.example_config.specs.Reading.{ReadsText}
use Rattle.example_config.specs.declared.value.Setting.{Setting}
use Rattle.example_config.proofs.Ascii.{chars_after, is_low, low_chars, low_utf8}
use Rattle.example_config.proofs.Ends.{ends}
use Rattle.example_config.proofs.Grammar.{settings_taken}
use Rattle.example_config.proofs.Literals.{number_means, number_read, number_utf8, quoted_utf8}
use Rattle.example_config.proofs.Literals.{string_means, string_read}
use Rattle.example_config.proofs.Pieces.{Reads, group_read, name_read, reads_then, sign_read}
use Rattle.example_config.proofs.Pieces.{space_read}
use Rattle.example_config.proofs.Rows.{AreReadAs, IsReadAs, ReadsAll, in_lines, lines_read}
use Rattle.example_config.proofs.Rows.{row_utf8, rows_read}

-- a setting without its spans
abbrev setting_spanless : SettingForm → SettingForm
setting_spanless s = (key_spanless s.0, sign_at call_site, value_spanless s.2)

-- values and settings without their spans, as lists
abbrev bare_values : Forms → List Form
bare_values no_values = []
bare_values (one_value value others) = value_spanless value ∷ bare_values others

abbrev bare_settings : SettingForms → List SettingForm
bare_settings no_settings = []
bare_settings (one_setting key colon value others) =
    setting_spanless (key, colon, value) ∷ bare_settings others

bare_forms : (vs : Forms) → forms (bare_values vs) ≡ values_spanless vs
bare_forms no_values = refl
bare_forms (one_value value others) = ap (one_value (value_spanless value)) (bare_forms others)

bare_setting_forms : (ss : SettingForms) → setting_forms (bare_settings ss) ≡ settings_spanless ss
bare_setting_forms no_settings = refl
bare_setting_forms (one_setting key colon value others) = grind (arith, bare_setting_forms others)

spanless_forms : (vs : List Form) → values_spanless (forms vs) ≡ forms (map value_spanless vs)
spanless_forms [] = refl
spanless_forms (v ∷ vs) = ap (one_value (value_spanless v)) (spanless_forms vs)

spanless_settings : (ss : List SettingForm)
    → settings_spanless (setting_forms ss) ≡ setting_forms (map setting_spanless ss)
spanless_settings [] = refl
spanless_settings (s ∷ ss) = grind (arith, spanless_settings ss)

-- the two words of truth values
true_word : IsIdentifier (codes "true")
true_word = (
  ap (λ b. b || (116 == 95)) (is_xid_start-ascii 116 (omega arith)),
  all_continue (codes "rue") refl,
)

false_word : IsIdentifier (codes "false")
false_word = (
  ap (λ b. b || (102 == 95)) (is_xid_start-ascii 102 (omega arith)),
  all_continue (codes "alse") refl,
)

-- a name by its bytes
text_name_read : (source at : ℕ) (name after : List ℕ) → IsUtf8 name → IsName (chars name)
    → is_missing_raw (chars name) ≡ false → ends after ≡ true → (span : Span)
    × Reads source at (chars name ++ after) (tree (leaf (ident name span)) no_trees) after
text_name_read source at name after u is exists e =
    let r = name_read source at (chars name) after is exists e in (
      r.0,
      subst (λ w. Reads source at (chars name ++ after) (tree (leaf (ident w r.0)) no_trees) after)
          (encodes-chars name u) r.1,
    )

word_read : (source at : ℕ) (word after : List ℕ) → is_low word ≡ true → IsIdentifier word
    → is_missing_raw word ≡ false → ends after ≡ true → (span : Span)
    × Reads source at (chars word ++ after) (tree (leaf (ident word span)) no_trees) after
word_read source at word after low is exists e = grind (arith, text_name_read, low_utf8, low_chars)

-- a text between two delimiters
abbrev between : (left right : ℕ) → List ℕ → List ℕ
between left right inner = (left ∷ []) ++ (inner ++ right ∷ [])

between_utf8 : (left right : ℕ) (inner : List ℕ) → is_low (left ∷ []) ≡ true
    → is_low (right ∷ []) ≡ true → IsUtf8 inner → IsUtf8 (between left right inner)
between_utf8 left right inner h k u = search (IsUtf8-append, low_utf8)

between_chars : (left right : ℕ) (inner after : List ℕ) → is_low (left ∷ []) ≡ true
    → is_low (right ∷ []) ≡ true → IsUtf8 inner
    → chars (between left right inner) ++ after ≡ left ∷ (chars inner ++ right ∷ after)
between_chars left right inner after h k u =
    search (chars_after, chars-append, low_chars, append_assoc)

-- the delimiters
opens_bracket : (more : List ℕ)
    → IsFirstFit (91 ∷ more) (rules_of Plain) (Opening Bracket) (91 ∷ []) more
opens_bracket more =
    decides_begun Plain 91 more (start.Opening Bracket) refl refl
    (here (takes_one (λ c. c == 91) (91 ∷ more) more 91 refl refl))

closes_bracket : (more : List ℕ)
    → IsFirstFit (93 ∷ more) (rules_of Plain) (Closing Bracket) (93 ∷ []) more
closes_bracket more =
    decides_begun Plain 93 more (start.Closing Bracket) refl refl
    (here (takes_one (λ c. c == 93) (93 ∷ more) more 93 refl refl))

opens_brace : (more : List ℕ)
    → IsFirstFit (123 ∷ more) (rules_of Plain) (Opening Brace) (123 ∷ []) more
opens_brace more =
    decides_begun Plain 123 more (start.Opening Brace) refl refl
    (here (takes_one (λ c. c == 123) (123 ∷ more) more 123 refl refl))

closes_brace : (more : List ℕ)
    → IsFirstFit (125 ∷ more) (rules_of Plain) (Closing Brace) (125 ∷ []) more
closes_brace more =
    decides_begun Plain 125 more (start.Closing Brace) refl refl
    (here (takes_one (λ c. c == 125) (125 ∷ more) more 125 refl refl))

key_chars : (key value after : List ℕ) → IsUtf8 key
    → chars (after_key key value) ++ after ≡ chars key ++ 58 ∷ 32 ∷ (chars value ++ after)
key_chars key value after u = search (chars-append, chars_after, append_assoc)

module _ (source : ℕ) (keep : StringsKeepText) (are_read : StringsAreRead)
    (one_string : StringsHaveOneValue) (one_integer : IntegersHaveOneValue) where
  -- texts that are read as a value, and as a setting
  abbrev ReadsValue : ℕ → List ℕ → Form → Type 0
  ReadsValue = IsReadAs value_spanless IsValue source

  abbrev ReadsSetting : ℕ → List ℕ → SettingForm → Type 0
  ReadsSetting = IsReadAs setting_spanless IsSetting source

  abbrev ReadValues : ℕ → List (List ℕ) → List Form → Type 0
  ReadValues = AreReadAs value_spanless IsValue source

  abbrev ReadSettings : ℕ → List (List ℕ) → List SettingForm → Type 0
  ReadSettings = AreReadAs setting_spanless IsSetting source

  text_read : (n : ℕ) (t : List ℕ) → IsUtf8 t
      → ReadsValue n (in_quotes (chars t)) (text call_site t)
  text_read n t u = (
    quoted_utf8 t u,
    λ at after e. let r = string_read are_read source at t after u e in record {
      value = text r.0 t;
      trees = leaf (literal (in_quotes (chars t)) r.0) ∷ [];
      is = is_text (record { text = in_quotes (chars t); span = r.0 }) t
          (string_means keep one_string t u);
      same = refl;
      low = omega arith;
      reads = r.1;
    },
  )

  decimal_read : (n m : ℕ) → m < 2 ^ 64 → ReadsValue n (decimal m) (number call_site m)
  decimal_read n m small = (
    number_utf8 m small,
    λ at after e. let r = number_read source at m after small e in record {
      value = number r.0 m;
      trees = leaf (literal (decimal m) r.0) ∷ [];
      is = is_number (record { text = decimal m; span = r.0 }) m
          (number_means one_integer m small, small);
      same = refl;
      low = omega arith;
      reads = r.1;
    },
  )

  truth_read : (n : ℕ) (b : Bool)
      → ReadsValue n (cond b (codes "true") (codes "false")) (truth call_site b)
  truth_read n true = (
    low_utf8 (codes "true") refl,
    λ at after e.
        let r = word_read source at (codes "true") after refl true_word refl e in record {
          value = truth r.0 true;
          trees = leaf (ident (codes "true") r.0) ∷ [];
          is = is_true r.0;
          same = refl;
          low = omega arith;
          reads = r.1;
        },
  )
  truth_read n false = (
    low_utf8 (codes "false") refl,
    λ at after e.
        let r = word_read source at (codes "false") after refl false_word refl e in record {
          value = truth r.0 false;
          trees = leaf (ident (codes "false") r.0) ∷ [];
          is = is_false r.0;
          same = refl;
          low = omega arith;
          reads = r.1;
        },
  )

  list_read : (m n : ℕ) (vs : Forms) → suc m ≤ n → ReadValues m (value_texts vs) (bare_values vs)
      → ReadsValue n (in_brackets (value_texts vs)) (list call_site (values_spanless vs) [])
  list_read m n vs l h =
      let u = row_utf8 value_spanless IsValue source m (value_texts vs) (bare_values vs) h in (
        between_utf8 91 93 (in_a_row (value_texts vs)) refl refl u,
        λ at after e.
            let k = rows_read value_spanless IsValue source AreValues no_value last_value and_values
            m (at + width (Opening Bracket) (91 ∷ [])) (value_texts vs) (bare_values vs) h
            (93 ∷ after) refl in
            let g = group_read source at Bracket 91 93 (chars (in_a_row (value_texts vs))) after
            k.inside opens_bracket closes_bracket k.reads in record {
              value = list g.0 (forms k.values) k.commas;
              trees = group Bracket k.inside g.0 ∷ [];
              is = is_list k.inside g.0 k.values k.commas k.are;
              same = ap (λ f. list call_site f [])
                  (spanless_forms k.values ∙ ap forms k.same ∙ bare_forms vs);
              low = omega (arith, k.low);
              reads = subst
                  (λ w. Reads source at w (tree (group Bracket k.inside g.0) no_trees) after)
                  (sym (between_chars 91 93 (in_a_row (value_texts vs)) after refl refl u)) g.1;
            },
      )

  map_read : (m n : ℕ) (ss : SettingForms) → suc m ≤ n
      → ReadSettings m (setting_texts ss) (bare_settings ss)
      → ReadsValue n (in_braces (setting_texts ss)) (form.map call_site (settings_spanless ss) [])
  map_read m n ss l h =
      let u = row_utf8 setting_spanless IsSetting source m (setting_texts ss) (bare_settings ss) h
      in (
        between_utf8 123 125 (in_a_row (setting_texts ss)) refl refl u,
        λ at after e.
            let k = rows_read setting_spanless IsSetting source AreSettings no_setting last_setting
            and_settings m (at + width (Opening Brace) (123 ∷ [])) (setting_texts ss)
            (bare_settings ss) h (125 ∷ after) refl in
            let g = group_read source at Brace 123 125 (chars (in_a_row (setting_texts ss))) after
            k.inside opens_brace closes_brace k.reads in record {
              value = form.map g.0 (setting_forms k.values) k.commas;
              trees = group Brace k.inside g.0 ∷ [];
              is = is_map k.inside g.0 k.values k.commas k.are;
              same = ap (λ f. form.map call_site f [])
                  (spanless_settings k.values ∙ ap setting_forms k.same ∙ bare_setting_forms ss);
              low = omega (arith, k.low);
              reads = subst
                  (λ w. Reads source at w (tree (group Brace k.inside g.0) no_trees) after)
                  (sym (between_chars 123 125 (in_a_row (setting_texts ss)) after refl refl u)) g.1;
            },
      )

  setting_read : (n : ℕ) (key : Ident) (colon : Token Colon) (v : Form) → IsKeyOfText key
      → ReadsValue n (value_text v) (value_spanless v)
      → ReadsSetting n (after_key key.text (value_text v)) (setting_spanless (key, colon, v))
  setting_read n key colon v is h = (
    IsUtf8-append key.text (codes ": " ++ value_text v) is.1
        (IsUtf8-append (codes ": ") (value_text v) (low_utf8 (codes ": ") refl) h.0),
    λ at after e.
        let next = chars (value_text v) ++ after in
        let r = text_name_read source at key.text (58 ∷ 32 ∷ next) is.1 is.2 is.3 refl in
        let s = sign_read source r.1.0 58 (32 ∷ next) refl in
        let w = space_read source s.2.0 32 next refl refl in
        let k = h.1 w.0 after e in
        let name : Ident = record { text = key.text; span = r.0 } in record {
          value = (name, sign_at s.1, k.value);
          trees = leaf (ident key.text r.0) ∷ sign 58 s.0 s.1 ∷ k.trees;
          is = is_setting name s.0 s.1 k.value k.trees is.0 k.is;
          same = ap (λ f. (key_spanless key, sign_at call_site, f)) k.same;
          low = k.low;
          reads = subst (λ t. Reads source at t
              (forest (leaf (ident key.text r.0) ∷ sign 58 s.0 s.1 ∷ k.trees)) after)
              (sym (key_chars key.text (value_text v) after is.1))
              (reads_then r.1 (reads_then s.2 (reads_then w k.reads)));
        },
  )

  mutual
    value_read : (n : ℕ) (v : Form) → IsOfText v → value_depth v ≤ n
        → ReadsValue n (value_text v) (value_spanless v)
    value_read n (text span t) u l = text_read n t u
    value_read n (number span m) small l = decimal_read n m small
    value_read n (truth span b) u l = truth_read n b
    value_read n (list span vs commas) us l =
        list_read (values_depth vs) n vs l (values_read (values_depth vs) vs us (omega arith))
    value_read n (form.map span ss commas) us l =
        map_read (settings_depth ss) n ss l (settings_read (settings_depth ss) ss us (omega arith))

    values_read : (n : ℕ) (vs : Forms) → AreOfText vs → values_depth vs ≤ n
        → ReadValues n (value_texts vs) (bare_values vs)
    values_read n no_values us l = tt
    values_read n (one_value v vs) us l =
        (value_read n v us.0 (omega arith), values_read n vs us.1 (omega arith))

    settings_read : (n : ℕ) (ss : SettingForms) → AreSettingsOfText ss → settings_depth ss ≤ n
        → ReadSettings n (setting_texts ss) (bare_settings ss)
    settings_read n no_settings us l = tt
    settings_read n (one_setting key colon v ss) us l = (
      setting_read n key colon v us.0 (value_read n v us.1 (omega arith)),
      settings_read n ss us.2 (omega arith),
    )

  lines_are : (ss : List SettingForm)
      → in_lines (setting_texts (setting_forms ss)) ≡ settings_text ss
  lines_are [] = refl
  lines_are (s ∷ ss) = ap (λ w. (setting_text s ++ codes ",\n") ++ w) (lines_are ss)

  -- what a text of settings is read as
  abbrev AllRead : List SettingForm → Type 0
  AllRead ss =
      ReadsAll setting_spanless IsSetting source AreSettings most_levels 0
      (chars (settings_text ss)) (bare_settings (setting_forms ss)) []

  all_read : (ss : List SettingForm) → IsConfigOfText ss → AllRead ss
  all_read ss h =
      subst (λ t. ReadsAll setting_spanless IsSetting source AreSettings most_levels 0 (chars t)
      (bare_settings (setting_forms ss)) []) (lines_are ss)
      (lines_read setting_spanless IsSetting source AreSettings no_setting last_setting and_settings
      most_levels 0 (setting_texts (setting_forms ss)) (bare_settings (setting_forms ss))
      (settings_read most_levels (setting_forms ss) h.0 h.1))

  -- what the reader returns
  parsed_back : (ss : List SettingForm) (k : AllRead ss)
      (r : Result (Punctuated Setting (Token Comma)) Fault) → Parses k.inside r
      → MatchResult r (λ config. SameSettings (map setting_form (values_of config)) ss) IsMemory
  parsed_back ss k (Ok config) p =
      let once = found_first (sym (settings_taken p) ∙ settings_taken k.are) in
      ap (λ x. settings_spanless (setting_forms x.0)) once
      ∙ spanless_settings k.values ∙ ap setting_forms k.same ∙ bare_setting_forms (setting_forms ss)
  parsed_back ss k (Err f) (inl memory) = memory
  parsed_back ss k (Err f) (inr none) = absurd (none (k.values, k.commas) k.are)

  no_value_read : (ss : List SettingForm) (r : Result (Punctuated Setting (Token Comma)) Fault)
      → OnMemory r
      → MatchResult r (λ config. SameSettings (map setting_form (values_of config)) ss) IsMemory
  no_value_read ss r h = grind arith

  pub are_read_back : (ss : List SettingForm) (r : Result (Punctuated Setting (Token Comma)) Fault)
      → IsConfigOfText ss → ReadsText source (chars (settings_text ss)) r
      → MatchResult r (λ config. SameSettings (map setting_form (values_of config)) ss) IsMemory
  are_read_back ss r h reads = go reads
    where
      k : AllRead ss
      k = all_read ss h

      read : ReadsForest Plain source (chars (settings_text ss)) k.inside
      read = (k.low, (k.reads.1, k.reads.2, (k.reads.0, k.reads.3)))

      go : ReadsText source (chars (settings_text ss)) r
          → MatchResult r (λ config. SameSettings (map setting_form (values_of config)) ss) IsMemory
      go (inl (f, other, takes, p)) =
          parsed_back ss k r
          (subst (λ g. Parses g r) (forest_once 0 Plain source (chars (settings_text ss)) f k.inside
          other read) p)
      go (inr (inl (e, rejected, fails))) =
          absurd (never_both 0 Plain source (chars (settings_text ss)) k.inside e read rejected)
      go (inr (inr memory)) = no_value_read ss r memory
