-- The rule that decides, from what each try answered.
use Rattle.std.proofs.Common.{rules, tests, ◌≡◌, ◌∙◌, ◌++◌, refl, sym, ℕ, zero, suc, ◌+◌, ◌<◌, ◌≤◌}
use Rattle.std.proofs.Common.{inl, inr, List, [], ◌∷◌, length, get_or, ap, arith, length-append}
use Rattle.std.proofs.lemmas.List.{get_or_default}
use Rattle.std.proofs.lemmas.List.Elements.{filter-append}
use Rattle.std.proofs.lemmas.Bool.{cases_eq, cond_both, false≢true, and_parts}
use Rattle.std.specs.Prelude.{◌==◌, Bool, true, false, cond, filter}
use Rattle.std.specs.Char.{is_digit}
use Rattle.std.specs.List.{list_all}
use Rattle.tok_lexical.specs.Pieces.{HasPrefix, IsLongestPrefix, IsOne, Skips}
use Rattle.tok_lexical.specs.Fits.{NoneBefore, IsFirstFit, here, later}
use Rattle.tok_lexical.specs.Private.Starts.{start_of, beginning}
use Rattle.tok_lexical.specs.Starts.{is_prefix}
use Rattle.tok_lexical.specs.Rules.{all_rules, among, is_in, last_rules, rules_of, Spells}
use Rattle.tok_lexical.specs.declared.rule.Mode.{Mode}
use Rattle.tok_lexical.specs.declared.rule.Rule.{Rule}
use Rattle.tok_lexical.specs.declared.rule.Rule.TheVariants.{Opening, Closing, Identifier}
use Rattle.tok_lexical.specs.declared.rule.Rule.TheVariants.{LineComment, Punct, QuotedString}
use Rattle.tok_lexical.specs.declared.rule.Rule.TheVariants.{BadString, Other}
use Rattle.tok_lexical.specs.declared.contents.Contents.TheVariants.{Text}
use Rattle.tok_lexical.specs.Comments.{IsLineComment}
use Rattle.tok_lexical.specs.Strings.{IsString}
use Rattle.tok_lexical.specs.Characters.{is_punct, opening_mark, closing_mark}
use Rattle.tok_lexical.specs.Words.{is_identifier_start, IsIdentifier}
use Rattle.tok_lexical.specs.declared.start.Start.{Start}
use Rattle.tok_lexical.specs.declared.start.Start.TheVariants as start
use Rattle.tok_lexical.specs.declared.delimiter.Delimiter.TheVariants as delimiter
use Rattle.unicode_ident.specs.Ident.{is_xid_continue}
use Rattle.tok_lexical.proofs.Identifiers.{takes_identifier}
use Rattle.tok_lexical.proofs.Longest.{takes_one}
use Rattle.tok_lexical.proofs.Heads.{may_begin, begins, spelled_one}

pub decides_at : (rules : List Rule) (text piece rest : List ℕ) (i : ℕ) (d : Rule) →
    i < length rules → NoneBefore rules text i → IsLongestPrefix (Spells (get_or rules i d)) text
    piece rest → IsFirstFit text rules (get_or rules i d) piece rest
decides_at [] text piece rest i d l before t = absurd (omega arith)
decides_at (r ∷ rules) text piece rest zero d l before t = here t
decides_at (r ∷ rules) text piece rest (suc i) d l before t =
    later (before.none 0 r (omega arith) (omega arith))
    (decides_at rules text piece rest i d (omega arith)
    (record { none = λ j q k m. before.none (suc j) q (omega arith) (omega arith) }) t)

pub none_more : (rules : List Rule) (text : List ℕ) (i : ℕ) (d : Rule) → i < length rules →
    NoneBefore rules text i → (HasPrefix (Spells (get_or rules i d)) text → ⊥) →
    NoneBefore rules text (i + 1)
none_more rules text i d l before misses = record {
  none = λ j q k m fits.
      elim (cases_eq j i) [
        | inl same ↦ misses (rw (same, get_or_default rules i q d l) at fits)
        | inr other ↦ before.none j q (omega arith) m fits
      ];
}

none_at_all : (rules : List Rule) (text : List ℕ) (i : ℕ) → length rules ≤ i →
    NoneBefore rules text i → NoneBefore rules text (length rules)
none_at_all rules text i l before =
    record { none = λ j q k m fits. before.none j q (omega arith) m fits }

-- no rule fits where nothing is left
pub none_fits : (rules : List Rule) (text : List ℕ) (n : ℕ) → text ≡ [] → NoneBefore rules text n
none_fits rules text n e =
    record {
      none = λ j d k m fits.
          let some = spelled_one (get_or rules j d) fits.0 fits.3 in
          let whole = ap length (sym e ∙ fits.2) in
          absurd (omega (arith, some, whole, length-append fits.0 fits.1));
    }

-- the rules behind a list of others
pub fits_front : (those others : List Rule) (text piece rest : List ℕ) (rule : Rule) →
    IsFirstFit text those rule piece rest → IsFirstFit text (those ++ others) rule piece rest
fits_front [] others text piece rest rule d = elim d [ ]
fits_front (r ∷ those) others text piece rest rule (here t) = here t
fits_front (r ∷ those) others text piece rest rule (later misses d) =
    later misses (fits_front those others text piece rest rule d)

fits_behind : (those others : List Rule) (text piece rest : List ℕ) (rule : Rule) →
    NoneBefore those text (length those) → IsFirstFit text others rule piece rest →
    IsFirstFit text (those ++ others) rule piece rest
fits_behind [] others text piece rest rule none d = d
fits_behind (r ∷ those) others text piece rest rule none d =
    later (none.none 0 r (omega arith) (omega arith))
    (fits_behind those others text piece rest rule
    (record { none = λ j q k m. none.none (suc j) q (omega arith) (omega arith) }) d)

one_misses : (p : ℕ → Bool) (text more : List ℕ) (c : ℕ) → text ≡ c ∷ more → p c ≡ false →
    HasPrefix (IsOne p) text → ⊥
one_misses p text more c e h (piece, after, cut, (d, pass, f)) =
    let same : c ≡ d = cc in false≢true (sym h ∙ ap p same ∙ pass)

-- those that may begin so
begun_are : (k : Start) → filter (λ r. may_begin r k) all_rules ≡ beginning k
unfolding all_rules
begun_are k = grind arith

-- by the rules of a mode
module _ (mode : Mode) {text piece rest : List ℕ} {rule : Rule} where
  -- one more rule in front, that doesn't fit
  skip : (r : Rule) (those : List Rule) → (HasPrefix (Spells r) text → ⊥) →
      IsFirstFit text (among mode those) rule piece rest →
      IsFirstFit text (among mode (r ∷ those)) rule piece rest
  skip r those misses d = cond_both (is_in mode r) (r ∷ among mode those) (among mode those)
      (λ w. IsFirstFit text w rule piece rest) (λ e. later misses d) (λ e. d)

  -- rules that pass a test, of which none fits
  pub skip_all : (p : Rule → Bool) → ((r : Rule) → p r ≡ true → HasPrefix (Spells r) text → ⊥) →
      (those others : List Rule) → list_all p those ≡ true →
      IsFirstFit text (among mode others) rule piece rest →
      IsFirstFit text (among mode (those ++ others)) rule piece rest
  skip_all p misses [] others a d = d
  skip_all p misses (r ∷ those) others a d =
      let both = and_parts (p r) (list_all p those) a in
      skip r (those ++ others) (misses r both.0) (skip_all p misses those others both.1 d)

  pub fits_before : (those others : List Rule) →
      IsFirstFit text (among mode those) rule piece rest →
      IsFirstFit text (among mode (those ++ others)) rule piece rest
  fits_before those others d =
      rw (filter-append (is_in mode) those others)
      (fits_front (among mode those) (among mode others) text piece rest rule d)

  pick : (r : Rule) (some those : List Rule) (b : Bool) →
      (IsFirstFit text some rule piece rest → IsFirstFit text those rule piece rest) →
      IsFirstFit text (cond b (r ∷ some) some) rule piece rest →
      IsFirstFit text (cond b (r ∷ those) those) rule piece rest
  pick r some those true more (here t) = here t
  pick r some those true more (later misses d) = later misses (more d)
  pick r some those false more d = more d

  keep : (r : Rule) (some those : List Rule) (b : Bool) →
      (b ≡ false → HasPrefix (Spells r) text → ⊥) →
      (IsFirstFit text (among mode some) rule piece rest →
      IsFirstFit text (among mode those) rule piece rest) →
      IsFirstFit text (among mode (cond b (r ∷ some) some)) rule piece rest →
      IsFirstFit text (among mode (r ∷ those)) rule piece rest
  keep r some those true misses more d =
      pick r (among mode some) (among mode those) (is_in mode r) more d
  keep r some those false misses more d = skip r those (misses refl) (more d)

  -- those that may begin so are enough
  fits_among : (k : Start) (those : List Rule) →
      ((r : Rule) → HasPrefix (Spells r) text → may_begin r k ≡ true) →
      IsFirstFit text (among mode (filter (λ r. may_begin r k) those)) rule piece rest →
      IsFirstFit text (among mode those) rule piece rest
  fits_among k [] begun d = d
  fits_among k (r ∷ those) begun d =
      keep r (filter (λ q. may_begin q k) those) those (may_begin r k)
      (λ e fits. false≢true (sym e ∙ begun r fits)) (fits_among k those begun) d

  pub decides_begun : (c : ℕ) (more : List ℕ) (k : Start) → text ≡ c ∷ more → start_of c ≡ k →
      IsFirstFit text (among mode (beginning k)) rule piece rest →
      IsFirstFit text (rules_of mode) rule piece rest
  decides_begun c more k e is d = fits_among k all_rules (λ r fits.
      rw (← is) (begins r c more (rw e at fits))) (rw (begun_are k) d)

  -- the same of a list that is theirs
  pub decides_listed : (c : ℕ) (more : List ℕ) (k : Start) (those : List Rule) → text ≡ c ∷ more →
      start_of c ≡ k → those ≡ among mode (beginning k) → IsFirstFit text those rule piece rest →
      IsFirstFit text (rules_of mode) rule piece rest
  decides_listed c more k those e is listed d =
      decides_begun c more k e is (rw listed at d)

-- one of the last three rules, where none of the others fits
pub decides_last : (mode : Mode) (c : ℕ) (text more rest : List ℕ) (rule : Rule) (k : Start)
    (those : List Rule) (i : ℕ) → text ≡ c ∷ more → start_of c ≡ k →
    those ++ last_rules ≡ among mode (beginning k) → length those ≤ i → NoneBefore those text i →
    (piece : List ℕ) × IsFirstFit text last_rules rule piece rest → (piece : List ℕ)
    × IsFirstFit text (rules_of mode) rule piece rest
decides_last mode c text more rest rule k those i e is listed l before (piece, d) = (
  piece,
  decides_listed mode c more k (those ++ last_rules) e is listed
      (fits_behind those last_rules text piece rest rule (none_at_all those text i l before) d),
)

-- a text that none of the others takes, by the last three rules
module _ (c : ℕ) (text more : List ℕ) (e : text ≡ c ∷ more) where
  pub last_identifier : (rest : List ℕ) → (piece : List ℕ) × IsLongestPrefix IsIdentifier text
      piece rest → (piece : List ℕ) × IsFirstFit text last_rules Identifier piece rest
  last_identifier rest (piece, t) = (piece, here t)

  pub last_punct : (HasPrefix IsIdentifier text → ⊥) → is_punct c ≡ true → (piece : List ℕ)
      × IsFirstFit text last_rules Punct piece more
  last_punct misses h = (c ∷ [], later misses (here (takes_one is_punct text more c e h)))

  pub last_other : (HasPrefix IsIdentifier text → ⊥) → is_punct c ≡ false → (piece : List ℕ)
      × IsFirstFit text last_rules Other piece more
  last_other misses h = (
    c ∷ [],
    later misses
        (later (one_misses is_punct text more c e h)
        (here (takes_one (λ d. true) text more c e refl))),
  )

-- what a start says of the character
abbrev agrees : ℕ → Start → Bool
agrees c start.Zero = c == 48
agrees c start.Digit = is_digit c 10
agrees c start.Prefix = is_prefix c
agrees c start.Letter = is_identifier_start c
agrees c start.Slash = c == 47
agrees c start.Quote = c == 34
agrees c start.Apostrophe = c == 39
agrees c (start.Opening delimiter.None) = false
agrees c (start.Opening d) = c == opening_mark d
agrees c (start.Closing delimiter.None) = false
agrees c (start.Closing d) = c == closing_mark d
agrees c start.Punct = is_punct c
agrees c other = true

pub told : (c : ℕ) (k : Start) → start_of c ≡ k → agrees c k ≡ true
told c k is = rw (← is) (search (rules, tests))

-- the rule that a start tells alone, of a piece of one character
abbrev pub told_rule : Start → Rule
told_rule start.Punct = Punct
told_rule (start.Opening d) = Opening d
told_rule (start.Closing d) = Closing d
told_rule k = Other

-- the character tells its piece, which is this character alone
abbrev tells_one : Start → Bool
tells_one start.Punct = true
tells_one (start.Opening d) = true
tells_one (start.Closing d) = true
tells_one k = false

-- the character tells the piece
module _ (mode : Mode) (c : ℕ) (text more : List ℕ) (e : text ≡ c ∷ more) where
  pub decides_letter : (rest : List ℕ) → start_of c ≡ start.Letter → (front : List ℕ)
      × Skips is_xid_continue more front rest → (piece : List ℕ)
      × IsFirstFit text (rules_of mode) Identifier piece rest
  decides_letter rest is s =
      let t = takes_identifier text more rest c e (told c start.Letter is) s in
      (t.0, decides_begun mode c more start.Letter e is (here t.1))

  -- the first of the rules that may begin so
  pub decides_line : (rest : List ℕ) → start_of c ≡ start.Slash → (piece : List ℕ)
      × IsLongestPrefix IsLineComment text piece rest → (piece : List ℕ)
      × IsFirstFit text (rules_of mode) LineComment piece rest
  decides_line rest is t = (t.0, decides_begun mode c more start.Slash e is (here t.1))

  pub decides_string : (rest : List ℕ) → start_of c ≡ start.Quote → (piece : List ℕ)
      × IsLongestPrefix (IsString Text) text piece rest → (piece : List ℕ)
      × IsFirstFit text (rules_of mode) (QuotedString Text) piece rest
  decides_string rest is t = (t.0, decides_begun mode c more start.Quote e is (here t.1))

  -- where it isn't a whole string, the quote is one that is bad
  pub decides_quote : start_of c ≡ start.Quote → (HasPrefix (IsString Text) text → ⊥) →
      (piece : List ℕ) × IsFirstFit text (rules_of mode) BadString piece more
  decides_quote is misses = (
    c ∷ [],
    decides_begun mode c more start.Quote e is
        (later misses (here (takes_one (λ x. x == 34) text more c e (told c start.Quote is)))),
  )

  pub decides_one : (k : Start) → tells_one k ≡ true → start_of c ≡ k → (piece : List ℕ)
      × IsFirstFit text (rules_of mode) (told_rule k) piece more
  decides_one k h is = (c ∷ [], decides_begun mode c more k e is (go k h (told c k is)))
    where
      go : (k : Start) → tells_one k ≡ true → agrees c k ≡ true →
          IsFirstFit text (among mode (beginning k)) (told_rule k) (c ∷ []) more
      go start.Punct h a = here (takes_one is_punct text more c e a)
      go (start.Opening delimiter.Parenthesis) h a = here (takes_one (λ x. x == 40) text more c e a)
      go (start.Opening delimiter.Brace) h a = here (takes_one (λ x. x == 123) text more c e a)
      go (start.Opening delimiter.Bracket) h a = here (takes_one (λ x. x == 91) text more c e a)
      go (start.Opening delimiter.None) h a = absurd (false≢true a)
      go (start.Closing delimiter.Parenthesis) h a = here (takes_one (λ x. x == 41) text more c e a)
      go (start.Closing delimiter.Brace) h a = here (takes_one (λ x. x == 125) text more c e a)
      go (start.Closing delimiter.Bracket) h a = here (takes_one (λ x. x == 93) text more c e a)
      go (start.Closing delimiter.None) h a = absurd (false≢true a)
      go k h a = absurd (false≢true h)
