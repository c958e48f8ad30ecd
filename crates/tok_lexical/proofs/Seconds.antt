-- What the second character tells.
use Rattle.std.proofs.Common.{◌≡◌, ◌∙◌, ◌++◌, refl, sym, ℕ, inl, inr, ◌⊎◌, List, [], ◌∷◌, ap}
use Rattle.std.proofs.Common.{arith, append_assoc}
use Rattle.std.proofs.lemmas.Bool.{false≢true, eqb-true}
use Rattle.std.specs.Prelude.{◌==◌, ◌||◌, Bool, true, false, cond, not}
use Rattle.std.specs.List.{list_all}
use Rattle.unicode_ident.specs.Ident.{is_xid_continue}
use Rattle.unicode_ident.proofs.IdentLemmas.{is_xid_start-ascii}
use Rattle.tok_lexical.specs.Fits.{IsFirstFit, here, later}
use Rattle.tok_lexical.specs.Pieces.{After, HasPrefix, IsLongestPrefix, IsOne, Skips}
use Rattle.tok_lexical.specs.Rules.{among, based_rules, decimal_rules, last_rules}
use Rattle.tok_lexical.specs.Private.Starts.{beginning}
use Rattle.tok_lexical.specs.Rules.{has_raw_lifetimes, literal_rules, rules_of, Spells}
use Rattle.tok_lexical.specs.Strings.{IsEscapedChar, IsPrefixed, IsQuoted, is_char}
use Rattle.tok_lexical.specs.Private.Starts.{start_of, names_base, opens_string, opens_literal}
use Rattle.tok_lexical.specs.Starts.{is_prefix}
use Rattle.tok_lexical.specs.Words.{is_identifier_start, IsIdentifier, IsName, IsRawIdentifier}
use Rattle.tok_lexical.specs.declared.contents.Contents.TheVariants.{Text, Bytes, C}
use Rattle.tok_lexical.specs.declared.numbers.Base.TheVariants.{Hexadecimal, Octal, Binary}
use Rattle.tok_lexical.specs.declared.rule.Mode.{Mode}
use Rattle.tok_lexical.specs.declared.rule.Rule.{Rule}
use Rattle.tok_lexical.specs.declared.rule.Rule.TheVariants.{ByteChar, BadByteChar, StringPrefix}
use Rattle.tok_lexical.specs.declared.rule.Rule.TheVariants.{QuotedString, RawString}
use Rattle.tok_lexical.specs.declared.rule.Rule.TheVariants.{BadPrefixed, Based, BadBased}
use Rattle.tok_lexical.specs.declared.rule.Rule.TheVariants.{RawIdentifier, Identifier}
use Rattle.tok_lexical.specs.declared.rule.Rule.TheVariants.{EscapedChar, BadEscapedChar, PlainChar}
use Rattle.tok_lexical.specs.declared.rule.Rule.TheVariants.{Lifetime, PlainLifetime, Apostrophe}
use Rattle.tok_lexical.specs.declared.start.Start.TheVariants as start
use Rattle.tok_lexical.proofs.First.{decides_begun, fits_before, skip_all, told}
use Rattle.tok_lexical.proofs.Identifiers.{takes_identifier}
use Rattle.tok_lexical.proofs.Longest.{takes_one}
use Rattle.tok_lexical.proofs.Digits.{head_passes, tail_passes}

-- a rule of a number in another base
abbrev is_based : Rule → Bool
is_based (Based base) = true
is_based (BadBased base) = true
is_based rule = false

based_names : (rule : Rule) (rest : List ℕ) → is_based rule ≡ true →
    HasPrefix (Spells rule) (48 ∷ rest) → names_base rest ≡ true
based_names (Based Hexadecimal) rest h (piece, after, cut, (m, e, (n, f, s))) =
    let second : rest ≡ 120 ∷ (n ++ after) = cc in rw second refl
based_names (Based Octal) rest h (piece, after, cut, (m, e, (n, f, s))) =
    let second : rest ≡ 111 ∷ (n ++ after) = cc in rw second refl
based_names (Based Binary) rest h (piece, after, cut, (m, e, (n, f, s))) =
    let second : rest ≡ 98 ∷ (n ++ after) = cc in rw second refl
based_names (BadBased Hexadecimal) rest h (piece, after, cut, e) =
    let second : rest ≡ 120 ∷ after = cc in rw second refl
based_names (BadBased Octal) rest h (piece, after, cut, e) =
    let second : rest ≡ 111 ∷ after = cc in rw second refl
based_names (BadBased Binary) rest h (piece, after, cut, e) =
    let second : rest ≡ 98 ∷ after = cc in rw second refl
based_names rule rest h fits = absurd (false≢true h)

module _ (mode : Mode) (c : ℕ) (text more piece rest : List ℕ) (rule : Rule) (e : text ≡ c ∷ more)
    (d : IsFirstFit text (among mode decimal_rules) rule piece rest) where
  pub decides_digit : start_of c ≡ start.Digit → IsFirstFit text (rules_of mode) rule piece rest
  decides_digit is =
      decides_begun mode c more start.Digit e is (fits_before mode decimal_rules last_rules d)

  pub decides_zero : start_of c ≡ start.Zero → names_base more ≡ false →
      IsFirstFit text (rules_of mode) rule piece rest
  decides_zero is n =
      let zero : c ≡ 48 = eqb-true c 48 (told c start.Zero is) in
      let whole : text ≡ 48 ∷ more = cc in
      decides_begun mode c more start.Zero e is
      (skip_all mode is_based
      (λ r h fits. false≢true
      (sym n ∙ based_names r more h (rw whole at fits))) based_rules
      (decimal_rules ++ last_rules) refl (fits_before mode decimal_rules last_rules d))

hashes_open : (hashes more : List ℕ) → list_all (λ c. c == 35) hashes ≡ true →
    opens_string (hashes ++ 34 ∷ more) ≡ true
hashes_open [] more a = refl
hashes_open (c ∷ hashes) more a =
    rw (eqb-true c 35 (head_passes (λ d. d == 35) c hashes a)) refl

-- hashes and a quote after the letter, or after the letter and an r
raw_opens : (rest hashes more : List ℕ) → rest ≡ hashes ++ 34 ∷ more →
    list_all (λ c. c == 35) hashes ≡ true → opens_literal rest ≡ true
raw_opens rest hashes more e a = let opens = hashes_open hashes more a in rw e (grind arith)

-- a rule of a literal with a prefix, or of what begins as one
abbrev is_literal : Rule → Bool
is_literal ByteChar = true
is_literal BadByteChar = true
is_literal StringPrefix = true
is_literal (QuotedString Bytes) = true
is_literal (QuotedString C) = true
is_literal (RawString contents) = true
is_literal (BadPrefixed contents) = true
is_literal rule = false

-- `r`, hashes and a quote
abbrev IsRawHead : List ℕ → Type 0
IsRawHead piece =
    (hashes : List ℕ) × (more : List ℕ) × (piece ≡ 114 ∷ (hashes ++ 34 ∷ more))
    × (list_all (λ c. c == 35) hashes ≡ true)

-- `b` or `c`, and an apostrophe, a quote, or what begins a raw string
abbrev IsLetterHead : List ℕ → Type 0
IsLetterHead piece =
    (k : ℕ) × (more : List ℕ) × (piece ≡ k ∷ more) × ((k == 114) ≡ false)
    × ((after : List ℕ) → opens_literal (more ++ after) ≡ true)

hashed : (k : ℕ) (piece hashes more : List ℕ) → (k == 114) ≡ false →
    piece ≡ k ∷ 114 ∷ (hashes ++ 34 ∷ more) → list_all (λ c. c == 35) hashes ≡ true →
    IsLetterHead piece
hashed k piece hashes more other e a = (
  k,
  114 ∷ (hashes ++ 34 ∷ more),
  e,
  other,
  λ after. rw (append_assoc hashes (34 ∷ more) after) (hashes_open hashes (more ++ after) a),
)

prefixed : (k : ℕ) (piece m : List ℕ) → (k == 114) ≡ false → piece ≡ k ∷ m → IsPrefixed m →
    IsLetterHead piece
prefixed k piece m other e (inl f) =
    (k, 34 ∷ [], cc, other, λ after. refl)
prefixed k piece m other e (inr (n, f, (hashes, g, a))) = hashed k piece hashes [] other (cc) a

-- how a literal with a prefix begins
literal_head : (rule : Rule) (piece : List ℕ) → is_literal rule ≡ true → Spells rule piece →
    IsRawHead piece ⊎ IsLetterHead piece
literal_head ByteChar piece h (m, e, (inner, suffix, f, i, k)) =
    inr (98, 39 ∷ (inner ++ 39 ∷ suffix), cc, refl, λ after. refl)
literal_head BadByteChar piece h e = inr (98, 39 ∷ [], e, refl, λ after. refl)
literal_head StringPrefix piece h (inl (m, e, (hashes, f, a))) = inl (hashes, [], cc, a)
literal_head StringPrefix piece h (inr (inl (m, e, s))) = inr (prefixed 98 piece m refl e s)
literal_head StringPrefix piece h (inr (inr (m, e, s))) = inr (prefixed 99 piece m refl e s)
literal_head (QuotedString Text) piece h s = absurd (false≢true h)
literal_head (QuotedString Bytes) piece h (m, e, (body, suffix, f, u, k)) =
    inr (98, 34 ∷ (body ++ 34 ∷ suffix), cc, refl, λ after. refl)
literal_head (QuotedString C) piece h (m, e, (body, suffix, f, u, k)) =
    inr (99, 34 ∷ (body ++ 34 ∷ suffix), cc, refl, λ after. refl)
literal_head (RawString Text) piece h (m, e, (hashes, body, suffix, f, a, l, ends, k)) =
    inl (hashes, body ++ suffix, cc, a)
literal_head (RawString Bytes) piece h (m, e, (n, g, (hashes, body, suffix, f, a, l, ends, k))) =
    inr (hashed 98 piece hashes (body ++ suffix) refl (cc) a)
literal_head (RawString C) piece h (m, e, (n, g, (hashes, body, suffix, f, a, l, ends, k))) =
    inr (hashed 99 piece hashes (body ++ suffix) refl (cc) a)
literal_head (BadPrefixed Text) piece h (m, e, (hashes, f, a)) = inl (hashes, [], cc, a)
literal_head (BadPrefixed Bytes) piece h (m, e, s) = inr (prefixed 98 piece m refl e s)
literal_head (BadPrefixed C) piece h (m, e, s) = inr (prefixed 99 piece m refl e s)
literal_head rule piece h s = absurd (false≢true h)

literal_opens : (rule : Rule) (c : ℕ) (rest : List ℕ) → is_literal rule ≡ true →
    HasPrefix (Spells rule) (c ∷ rest) → opens_literal rest ≡ true
literal_opens rule c rest h (piece, after, cut, s) = go (literal_head rule piece h s)
  where
    go : IsRawHead piece ⊎ IsLetterHead piece → opens_literal rest ≡ true
    go (inl (hashes, more, e, a)) =
        raw_opens rest hashes (more ++ after) (cc (append_assoc hashes (34 ∷ more) after)) a
    go (inr (k, more, e, other, opens)) =
        let second : rest ≡ more ++ after = cc in rw second (opens after)

-- a raw identifier does too
raw_name_opens : (c : ℕ) (rest : List ℕ) → HasPrefix IsRawIdentifier (c ∷ rest) →
    opens_literal rest ≡ true
raw_name_opens c rest (piece, after, cut, (m, e, (n, f, s))) =
    let second : rest ≡ 35 ∷ (n ++ after) = cc in rw second refl

letter : (c : ℕ) → is_prefix c ≡ true → is_identifier_start c ≡ true
letter c h =
    let b = is_xid_start-ascii 98 (omega arith) in
    let d = is_xid_start-ascii 99 (omega arith) in
    let r = is_xid_start-ascii 114 (omega arith) in
    grind arith

no_start : (d k : ℕ) → is_identifier_start d ≡ true → d ≡ k → is_identifier_start k ≡ false → ⊥
no_start d k h e n = false≢true (sym n ∙ rw e at h)

-- after a number sign and the start of an identifier
no_quote : (d : ℕ) (more after hashes : List ℕ) → is_identifier_start d ≡ true →
    list_all (λ c. c == 35) hashes ≡ true → 35 ∷ d ∷ more ≡ hashes ++ 34 ∷ after → ⊥
no_quote d more after [] h a e = grind arith
no_quote d more after (c ∷ []) h a e =
    no_start d 34 h (cc) (ap (λ x. x || (34 == 95)) (is_xid_start-ascii 34 (omega arith)))
no_quote d more after (c ∷ b ∷ hashes) h a e =
    let sign = eqb-true b 35
    (head_passes (λ x. x == 35) b hashes (tail_passes (λ x. x == 35) c (b ∷ hashes) a)) in
    no_start d 35 h (cc) (ap (λ x. x || (35 == 95)) (is_xid_start-ascii 35 (omega arith)))

-- a raw identifier begins no literal
raw_misses : (rule : Rule) (text piece rest : List ℕ) → is_literal rule ≡ true →
    IsLongestPrefix IsRawIdentifier text piece rest → HasPrefix (Spells rule) text → ⊥
raw_misses rule text piece rest l t fits = go t.spelled
  where
    other : (d : ℕ) (more front after : List ℕ) → is_identifier_start d ≡ true →
        114 ∷ 35 ∷ d ∷ more ≡ front ++ after → IsRawHead front ⊎ IsLetterHead front → ⊥
    other d more front after h cut (inl (hashes, tail, e, a)) =
        no_quote d more (tail ++ after) hashes h a (cc (append_assoc hashes (34 ∷ tail) after))
    other d more front after h cut (inr (k, tail, e, n, opens)) =
        let same : k ≡ 114 = cc in false≢true (sym n ∙ rw same refl)

    go : IsRawIdentifier piece → ⊥
    go (m, e, ([], f, w)) = w
    go (m, e, (d ∷ name, f, w)) = other d (name ++ rest) fits.0 fits.1 w.0
        (cc (t.cut, fits.2))
        (literal_head rule fits.0 l fits.3)

module _ (mode : Mode) (c : ℕ) (text more : List ℕ) (e : text ≡ c ∷ more)
    (is : start_of c ≡ start.Prefix) where
  -- `b`, `c` or `r`, and no more than an identifier
  pub decides_prefix : (rest : List ℕ) → opens_literal more ≡ false → (front : List ℕ)
      × Skips is_xid_continue more front rest → (piece : List ℕ)
      × IsFirstFit text (rules_of mode) Identifier piece rest
  decides_prefix rest n s =
      let t = takes_identifier text more rest c e (letter c (told c start.Prefix is)) s in (
        t.0,
        decides_begun mode c more start.Prefix e is
            (skip_all mode is_literal
            (λ q h fits. false≢true
            (sym n ∙ literal_opens q c more h (rw e at fits)))
            literal_rules (RawIdentifier ∷ last_rules) refl
            (later (λ fits. false≢true
            (sym n ∙ raw_name_opens c more (rw e at fits)))
            (here t.1))),
      )

  pub decides_raw : (piece rest : List ℕ) → IsLongestPrefix IsRawIdentifier text piece rest →
      IsFirstFit text (rules_of mode) RawIdentifier piece rest
  decides_raw piece rest t = decides_begun mode c more start.Prefix e is
      (skip_all mode is_literal (λ q l fits. raw_misses q text piece rest l t fits) literal_rules
      (RawIdentifier ∷ last_rules) refl (here t))

-- what begins with an apostrophe
module _ (mode : Mode) (text more : List ℕ) (e : text ≡ 39 ∷ more) where
  fits_quoted : (piece rest : List ℕ) (rule : Rule) →
      IsFirstFit text (among mode (beginning start.Apostrophe)) rule piece rest →
      IsFirstFit text (rules_of mode) rule piece rest
  fits_quoted piece rest rule d = decides_begun mode 39 more start.Apostrophe e refl d

  pub decides_escaped : (rest : List ℕ) → (piece : List ℕ)
      × IsLongestPrefix (IsQuoted IsEscapedChar) text piece rest → (piece : List ℕ)
      × IsFirstFit text (rules_of mode) EscapedChar piece rest
  decides_escaped rest t = (t.0, fits_quoted t.0 rest EscapedChar (here t.1))

  pub decides_bad_escaped : (rest : List ℕ) → (HasPrefix (IsQuoted IsEscapedChar) text → ⊥) →
      (piece : List ℕ) × IsLongestPrefix (Spells BadEscapedChar) text piece rest →
      (piece : List ℕ) × IsFirstFit text (rules_of mode) BadEscapedChar piece rest
  decides_bad_escaped rest misses t =
      (t.0, fits_quoted t.0 rest BadEscapedChar (later misses (here t.1)))

  -- with no backslash after it
  module _ (n : (after : List ℕ) → more ≡ 92 ∷ after → ⊥) where
    no_escape : (piece after tail : List ℕ) → text ≡ piece ++ after → piece ≡ 39 ∷ 92 ∷ tail → ⊥
    no_escape piece after tail cut f = n (tail ++ after) (cc)

    no_escaped : HasPrefix (IsQuoted IsEscapedChar) text → ⊥
    no_escaped (piece, after, cut, (inner, suffix, f, (tail, g, k), s)) =
        no_escape piece after (tail ++ 39 ∷ suffix) cut (cc)

    no_bad_escaped : HasPrefix (Spells BadEscapedChar) text → ⊥
    no_bad_escaped (piece, after, cut, f) = no_escape piece after [] cut f

    pub decides_char : (rest : List ℕ) → (piece : List ℕ)
        × IsLongestPrefix (IsQuoted (IsOne is_char)) text piece rest → (piece : List ℕ)
        × IsFirstFit text (rules_of mode) PlainChar piece rest
    decides_char rest t =
        let d = later no_escaped (later no_bad_escaped (here t.1)) in
        (t.0, fits_quoted t.0 rest PlainChar d)

    module _ (misses : HasPrefix (IsQuoted (IsOne is_char)) text → ⊥) where
      -- raw lifetimes, or plain ones, and else the apostrophe alone
      abbrev after_char : Bool → List Rule
      after_char raw =
          let others = Apostrophe ∷ last_rules in
          let plain = cond (not raw) (PlainLifetime ∷ others) others in
          cond raw (Lifetime ∷ plain) plain

      fits_after : (raw : Bool) (piece rest : List ℕ) (rule : Rule) → has_raw_lifetimes mode ≡ raw →
          IsFirstFit text (after_char raw) rule piece rest →
          IsFirstFit text (rules_of mode) rule piece rest
      fits_after raw piece rest rule h d =
          fits_quoted piece rest rule
          (later no_escaped (later no_bad_escaped (later misses (rw h d))))

      lone : (raw : Bool) → (HasPrefix (Spells (cond raw Lifetime PlainLifetime)) text → ⊥) →
          IsFirstFit text (after_char raw) Apostrophe (39 ∷ []) more
      lone true misses = later misses (here (takes_one (λ d. d == 39) text more 39 e refl))
      lone false misses = later misses (here (takes_one (λ d. d == 39) text more 39 e refl))

      pub decides_lifetime : (rest : List ℕ) → has_raw_lifetimes mode ≡ true → (piece : List ℕ)
          × IsLongestPrefix (After 39 IsName) text piece rest → (piece : List ℕ)
          × IsFirstFit text (rules_of mode) Lifetime piece rest
      decides_lifetime rest raw t = (t.0, fits_after true t.0 rest Lifetime raw (here t.1))

      pub decides_plain_lifetime : (rest : List ℕ) → has_raw_lifetimes mode ≡ false →
          (piece : List ℕ) × IsLongestPrefix (After 39 IsIdentifier) text piece rest →
          (piece : List ℕ) × IsFirstFit text (rules_of mode) PlainLifetime piece rest
      decides_plain_lifetime rest raw t =
          (t.0, fits_after false t.0 rest PlainLifetime raw (here t.1))

      pub decides_lone_quote : (raw : Bool) → has_raw_lifetimes mode ≡ raw →
          (HasPrefix (Spells (cond raw Lifetime PlainLifetime)) text → ⊥) → (piece : List ℕ)
          × IsFirstFit text (rules_of mode) Apostrophe piece more
      decides_lone_quote raw h misses =
          (39 ∷ [], fits_after raw (39 ∷ []) more Apostrophe h (lone raw misses))
