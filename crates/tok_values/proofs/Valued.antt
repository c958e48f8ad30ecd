-- A string by the grammar in which nothing is wrong has a value.
use Rattle.std.proofs.Common.{◌≡◌, ◌∙◌, ◌⊎◌, ◌≤◌, ℕ, zero, suc, List, [], ◌∷◌, ◌++◌, Bool}
use Rattle.std.proofs.Common.{Option, Some, true, false, ap, append_assoc, arith, inl, inr}
use Rattle.std.proofs.Common.{length, length-append, refl, sym}
use Rattle.std.specs.Prelude.{◌==◌, ◌≢◌, ◌&&◌, encode_utf8_all, nat_le, not}
use Rattle.std.specs.List.{list_all}
use Rattle.std.proofs.lemmas.Bool.{and_from, and_parts, eqb-true, false_from_ne_true, false≢true, not-false, not-true}
use Rattle.std.proofs.lemmas.Bool.{or_parts}
use Rattle.tok_lexical.specs.Contents.{has_bare_return, has_misfit, is_wrong}
use Rattle.tok_lexical.specs.Pieces.{After, Skips, begins_with}
use Rattle.tok_lexical.specs.Raw.{IsRaw, IsRawString}
use Rattle.tok_lexical.specs.Strings.{AreUnits, EscapeOf, IsEscape, IsString, code, escape, hex}
use Rattle.tok_lexical.specs.Strings.{line_end, no_unit, plain, simple, unit as one_more}
use Rattle.tok_lexical.specs.Words.{IsSuffix}
use Rattle.tok_lexical.specs.declared.contents.Contents.{Contents}
use Rattle.tok_lexical.specs.declared.contents.Contents.TheVariants.{Text, Bytes}
use Rattle.tok_lexical.proofs.Longest.{all_after}
use Rattle.tok_lexical.proofs.RawQuotes.{quotes_read}
use Rattle.tok_values.specs.Strings.{IsStringValue, MeansBy, is_blank, more}
use Rattle.tok_values.specs.Strings.{InQuotes, nothing, unit, without_blanks}
use Rattle.tok_values.specs.Suffixed.{InRaw, IsByteStrValue, IsStrValue}
use Rattle.tok_values.specs.Suffixes.{literal_suffix}
use Rattle.tok_values.proofs.Endings.{quoted_have_their_suffix}
use Rattle.tok_values.proofs.Escaped.{Names, code_names, hex_names, named_unit, simple_names}
use Rattle.tok_values.proofs.Zeros.{quote_found}
use Rattle.tok_values.proofs.Quoted.{plain_unit}

-- no U+000D stands alone in what is left
kept_after : (front rest : List ℕ) → has_bare_return (front ++ rest) ≡ false →
    has_bare_return rest ≡ false
kept_after [] rest h = h
kept_after (c ∷ front) rest h = kept_after front rest (or_parts _ _ h).1

-- units are read so; a fact on a text and its meaning
module _ (unit_of : List ℕ → Option (List ℕ × List ℕ)) (Fact : (text meaning : List ℕ) → Type 0)
  where
    -- a unit at the front of a text, and the fact if it holds of the text after it
    abbrev pub Begins : (text after : List ℕ) → Type 0
    Begins text after =
        (front : List ℕ) × (unit_of text ≡ Some (front, after))
        × ((meaning : List ℕ) → Fact after meaning → Fact text (front ++ meaning))

    -- an escape is one character, or the end of a line and the blanks after it
    abbrev pub Escapes : (text rest : List ℕ) → Type 0
    Escapes text rest =
        Begins (92 ∷ (text ++ rest)) rest ⊎ Begins (92 ∷ (text ++ rest)) (without_blanks rest)

    -- strings of this kind are read so
    pub record Reads (kind : Contents) (is_fit : ℕ → Bool) : Type 0 where
      pub plain : (c : ℕ) (rest : List ℕ) → (c == 34) ≡ false → (c == 92) ≡ false →
          (c == 13) ≡ false → is_fit c ≡ true → Begins (c ∷ rest) rest
      pub feed : (rest : List ℕ) → Begins (13 ∷ 10 ∷ rest) rest
      pub escaped : (text rest : List ℕ) → EscapeOf kind text → Escapes text rest

-- such a string, up to its closing quote and the suffix after it
module _ (kind : Contents) (unit_of : List ℕ → Option (List ℕ × List ℕ)) (is_fit : ℕ → Bool)
    (Fact : (text meaning : List ℕ) → Type 0) (reads : Reads unit_of Fact kind is_fit)
    (suffix : List ℕ) where
  -- the closing quote and the suffix
  abbrev end : List ℕ
  end = 34 ∷ suffix

  -- a text whose units mean something, of which the fact holds
  abbrev HasMeaning : List ℕ → Type 0
  HasMeaning text = (meaning : List ℕ) × MeansBy unit_of text end meaning × Fact text meaning

  next : (text after : List ℕ) → Begins unit_of Fact text after → HasMeaning after → HasMeaning text
  next text after (front, e, keeps) (meaning, means, fact) =
      (front ++ meaning, more text after end front meaning e means, keeps meaning fact)

  -- what is left of units after the blanks at their front
  record Stripped (body : List ℕ) : Type 0 where
    pub front : List ℕ
    pub left : List ℕ
    pub cut : body ≡ front ++ left
    pub is : without_blanks (body ++ end) ≡ left ++ end
    pub units : AreUnits kind left

  strip : (c : ℕ) (rest : List ℕ) (b : Bool) → is_blank c ≡ b → AreUnits kind (c ∷ rest) →
      Stripped rest → Stripped (c ∷ rest)
  strip c rest true e us s = record {
    front = c ∷ s.front;
    left = s.left;
    cut = cc (s.cut);
    is = cc (s.is);
    units = s.units;
  }
  strip c rest false e us s =
      record { front = []; left = c ∷ rest; cut = refl; is = simp e; units = us }

  stripped : {body : List ℕ} → AreUnits kind body → Stripped body
  stripped no_unit = record { front = []; left = []; cut = refl; is = refl; units = no_unit }
  stripped (one_more {rest = rest} (plain c quote slash) us) =
      strip c rest (is_blank c) refl (one_more (plain c quote slash) us) (stripped us)
  stripped (one_more {rest = rest} (escape {text = text} e) us) = record {
    front = [];
    left = (92 ∷ text) ++ rest;
    cut = refl;
    is = refl;
    units = one_more (escape e) us;
  }

  -- nothing is wrong in units
  pub record IsSound (body : List ℕ) : Type 0 where
    pub fit : list_all is_fit body ≡ true
    pub kept : has_bare_return (body ++ 34 ∷ suffix) ≡ false

  sound_after : (front left : List ℕ) → IsSound (front ++ left) → IsSound left
  sound_after front left s = record {
    fit = all_after is_fit front left s.fit;
    kept = kept_after front (left ++ end) (rw append_assoc at s.kept);
  }

  -- a U+000D is followed by a line feed
  line_feed_next : {body : List ℕ} → AreUnits kind body → begins_with 10 (body ++ end) ≡ true →
      (rest : List ℕ) × (body ≡ 10 ∷ rest) × AreUnits kind rest
  line_feed_next no_unit h = absurd (false≢true h)
  line_feed_next (one_more {rest = rest} (plain c quote slash) us) h =
      (rest, ap (λ d. d ∷ rest) (eqb-true c 10 h), us)
  line_feed_next (one_more (escape e) us) h = absurd (false≢true h)

  -- shorter units have a meaning
  abbrev Shorter : ℕ → Type 0
  Shorter most =
      (body : List ℕ) → length body ≤ most → AreUnits kind body → IsSound body →
      HasMeaning (body ++ end)

  module _ (most : ℕ) (again : Shorter most) where
    -- a character
    plain_means : (c : ℕ) (rest : List ℕ) (b : Bool) → (c == 13) ≡ b → c ≢ 34 → c ≢ 92 →
        length (c ∷ rest) ≤ suc most → AreUnits kind rest → IsSound (c ∷ rest) →
        HasMeaning (c ∷ (rest ++ end))
    plain_means c rest true e quote slash few us s =
        let same : c ≡ 13 = eqb-true c 13 e in
        let kept = rw same at s.kept in
        let (after, cut, units) = line_feed_next us (not-false _ (or_parts _ _ kept).0) in
        let sound = sound_after (c ∷ 10 ∷ []) after (rw cut at s) in
        let l = ap length cut in
        let whole : 13 ∷ 10 ∷ (after ++ end) ≡ c ∷ (rest ++ end) = cc in
        next (c ∷ (rest ++ end)) (after ++ end) (rw whole at (reads.feed (after ++ end)))
        (again after (omega (arith, few, l)) units sound)
    plain_means c rest false e quote slash few us s =
        next (c ∷ (rest ++ end)) (rest ++ end)
        (reads.plain c (rest ++ end) (false_from_ne_true _ (λ h. quote (eqb-true c 34 h)))
        (false_from_ne_true _ (λ h. slash (eqb-true c 92 h))) e (and_parts (is_fit c) _ s.fit).0)
        (again rest (omega (arith, few)) us (sound_after (c ∷ []) rest s))

    -- an escape, which means a character, or the end of a line, which means nothing, nor do the
    -- blanks after it
    escape_means : (text rest : List ℕ) → length (92 ∷ (text ++ rest)) ≤ suc most →
        EscapeOf kind text → AreUnits kind rest → IsSound (92 ∷ (text ++ rest)) →
        HasMeaning (92 ∷ (text ++ (rest ++ end)))
    escape_means text rest few e us s =
        let l = length-append text rest in
        let after = sound_after (92 ∷ text) rest s in
        elim (reads.escaped text (rest ++ end) e) [
          | inl begins ↦
              next (92 ∷ (text ++ (rest ++ end))) (rest ++ end) begins
              (again rest (omega (arith, few, l)) us after)
          | inr begins ↦
              let w = stripped us in
              let m = ap length w.cut ∙ length-append w.front w.left in
              next (92 ∷ (text ++ (rest ++ end))) (w.left ++ end) (rw w.is at begins)
              (again w.left (omega (arith, few, l, m)) w.units
              (sound_after w.front w.left (rw w.cut at after)))
        ]

    units_mean : Fact end [] → {body : List ℕ} → length body ≤ suc most → AreUnits kind body →
        IsSound body → HasMeaning (body ++ end)
    units_mean ends few no_unit s = ([], nothing end, ends)
    units_mean ends few (one_more {rest = rest} (plain c quote slash) us) s =
        plain_means c rest (c == 13) refl quote slash few us s
    units_mean ends few (one_more {rest = rest} (escape {text = text} e) us) s =
        rw append_assoc (escape_means text rest few e us s)

  module _ (ends : Fact end []) where
    nothing_means : {body : List ℕ} → length body ≤ 0 → AreUnits kind body →
        HasMeaning (body ++ end)
    nothing_means few no_unit = ([], nothing end, ends)
    nothing_means few (one_more (plain c quote slash) us) = absurd (omega (arith, few))
    nothing_means few (one_more (escape e) us) = absurd (omega (arith, few))

    all_mean : (most : ℕ) → Shorter most
    all_mean zero body few us s = nothing_means few us
    all_mean (suc most) body few us s = units_mean most (all_mean most) ends few us s

  -- the literal, if its fact begins with nothing
  pub quoted_value : Fact end [] → (text body : List ℕ) → text ≡ 34 ∷ (body ++ 34 ∷ suffix) →
      AreUnits kind body → IsSuffix suffix → IsSound body → (meaning : List ℕ)
      × MeansBy unit_of (body ++ 34 ∷ suffix) (34 ∷ suffix) meaning
      × InQuotes IsSuffix unit_of text meaning × Fact (body ++ 34 ∷ suffix) meaning
  quoted_value ends text body e us s sound =
      let (meaning, means, fact) = all_mean ends (length body) body (omega arith) us sound in
      (meaning, means, (body ++ end, e, (end, means, (suffix, refl, s))), fact)

-- of characters and bytes no fact is wanted
abbrev NoFact : (text meaning : List ℕ) → Type 0
NoFact text meaning = Unit {0}

-- a character that a string of this kind may have: in bytes, ASCII
abbrev is_narrow : (wide : Bool) → ℕ → Bool
is_narrow wide c = not (wide && nat_le 128 c)

any_escape : (wide : Bool) (text rest : List ℕ) → IsEscape true wide text →
    Escapes (unit wide) NoFact text rest
any_escape wide text rest (simple c h) =
    let n = simple_names wide c rest h in inl (n.char ∷ [], named_unit n, λ m f. tt)
any_escape wide text rest (hex {text = digits} h) =
    let n = hex_names wide digits rest h in inl (n.char ∷ [], named_unit n, λ m f. tt)
any_escape wide text rest (code {text = braced} e h) =
    let n : Names wide (117 ∷ braced) rest = rw e (code_names braced rest h) in
    inl (n.char ∷ [], named_unit n, λ m f. tt)
any_escape wide text rest (line_end e (inl f)) = inr ([], rw f, λ m g. tt)
any_escape wide text rest (line_end e (inr f)) = inr ([], rw f, λ m g. tt)

by_units : (kind : Contents) (wide : Bool) →
    ((text : List ℕ) → EscapeOf kind text → IsEscape true wide text) →
    Reads (unit wide) NoFact kind (is_narrow wide)
by_units kind wide same = record {
  plain = λ c rest quote slash return narrow.
      (c ∷ [], plain_unit wide c rest slash quote return (not-true _ narrow), λ m f. tt);
  feed = λ rest. (10 ∷ [], refl, λ m f. tt);
  escaped = λ text rest e. any_escape wide text rest (same text e);
}

text_units : Reads (unit false) NoFact Text (is_narrow false)
text_units = by_units Text false (λ text e. e)

byte_units : Reads (unit true) NoFact Bytes (is_narrow true)
byte_units = by_units Bytes true (λ text e. e)

-- what is between the quotes of a raw string
pub raw_value : (text : List ℕ) → After 114 IsRaw text → (value : List ℕ) × InRaw text value
raw_value text (quoted, e, (hashes, body, suffix, f, all, few, closes, ends)) =
    let s : Skips (λ c. c == 35) (hashes ++ 34 ∷ body) hashes (34 ∷ body) =
    record { cut = refl; pass = all; stops = refl } in
    let (contents, is, read) = quotes_read (hashes ++ 34 ∷ body) (34 ∷ body) hashes body body s
    refl closes few refl in (
      encode_utf8_all contents,
      (
        114 ∷ (hashes ++ 34 ∷ body),
        suffix,
        e ∙ ap (λ w. 114 ∷ w) (f ∙ sym (append_assoc hashes (34 ∷ body) suffix)),
        (hashes ++ 34 ∷ body, refl, (contents, read, refl)),
        ends,
      ),
    )

all_wide : (body : List ℕ) → list_all (λ c. not (false && nat_le 128 c)) body ≡ true
all_wide [] = refl
all_wide (c ∷ body) = all_wide body

text_sound : (text body suffix : List ℕ) → text ≡ 34 ∷ (body ++ 34 ∷ suffix) →
    is_wrong Text text ≡ false →
    IsSound Text (unit false) (is_narrow false) NoFact text_units suffix body
text_sound text body suffix e right =
    record {
      fit = all_wide body;
      kept = (or_parts _ _ (ap (is_wrong Text) (sym e) ∙ right)).0;
    }

quoted_text : (text body suffix : List ℕ) → text ≡ 34 ∷ (body ++ 34 ∷ suffix) →
    AreUnits Text body → IsSuffix suffix → is_wrong Text text ≡ false → (meaning : List ℕ)
    × MeansBy (unit false) (body ++ 34 ∷ suffix) (34 ∷ suffix) meaning
    × InQuotes IsSuffix (unit false) text meaning × NoFact (body ++ 34 ∷ suffix) meaning
quoted_text text body suffix e us ends right =
    quoted_value Text (unit false) (is_narrow false) NoFact text_units suffix tt text body e us ends
    (text_sound text body suffix e right)

pub strings_have_values : (text : List ℕ) →
    (IsString Text text × (is_wrong Text text ≡ false)) ⊎ IsRawString Text text →
    (value : List ℕ) × IsStrValue text value
strings_have_values text (inl ((body, suffix, e, us, ends), right)) =
    let (meaning, means, read, fact) = quoted_text text body suffix e us ends right in
    (encode_utf8_all meaning, inl (meaning, read, refl))
strings_have_values text (inr raw) = let (value, read) = raw_value text raw in (value, inr read)

pub plain_strings_have_values : (text : List ℕ) → IsString Text text → is_wrong Text text ≡ false →
    literal_suffix text ≡ [] → (value : List ℕ) × IsStringValue text value
plain_strings_have_values text (body, suffix, e, us, ends) right none =
    let (meaning, means, read, fact) = quoted_text text body suffix e us ends right in
    let empty : suffix ≡ [] =
    sym (quoted_have_their_suffix (34 ∷ body) 34 suffix refl ends refl)
    ∙ ap literal_suffix (sym e) ∙ none in (
      encode_utf8_all meaning,
      (
        meaning,
        (
          body ++ 34 ∷ suffix,
          e,
          (34 ∷ suffix, means, (suffix, refl, empty)),
        ),
        refl,
      ),
    )

-- before a quote, each character of bytes is ASCII
narrow_before : (front rest : List ℕ) → has_misfit Bytes (front ++ 34 ∷ rest) ≡ false →
    list_all (is_narrow true) front ≡ true
narrow_before [] rest h = refl
narrow_before (c ∷ front) rest h =
    let found = quote_found front rest in
    let low : nat_le 128 c ≡ false = false_from_ne_true _ (λ e. absurd (cc)) in
    and_from _ _ (cc) (narrow_before front rest (cc))

pub byte_strings_have_values : (text : List ℕ) →
    (After 98 (IsString Bytes) text × (is_wrong Bytes text ≡ false)) ⊎ IsRawString Bytes text →
    (value : List ℕ) × IsByteStrValue text value
byte_strings_have_values text (inl ((string, e, (body, suffix, f, us, ends)), right)) =
    let parts = or_parts _ _ (ap (is_wrong Bytes) (sym (e ∙ ap (λ w. 98 ∷ w) f)) ∙ right) in
    let (meaning, means, read, fact) = quoted_value Bytes (unit true) (is_narrow true) NoFact
    byte_units suffix tt string body f us ends
    (record { fit = narrow_before body suffix parts.1; kept = parts.0 }) in
    (meaning, (string, e, inl read))
byte_strings_have_values text (inr (raw, e, rest)) =
    let (value, read) = raw_value raw rest in (value, (raw, e, inr read))
