-- The place after more text of the same line.
use Rattle.std.proofs.Common.{◌≡◌, ◌∙◌, ℕ, ◌+◌, ◌<◌, ◌≤◌, get_or, set, inl, inr, List, [], ◌∷◌, ◌++◌, length, drop, take}
use Rattle.std.proofs.Common.{true, append_assoc, length-append, refl, sym, ap, arith}
use Rattle.std.specs.Prelude.{not}
use Rattle.std.specs.List.{list_all}
use Rattle.std.specs.Str.{chars, IsUtf8}
use Rattle.std.proofs.lemmas.Bool.{and_from, not-true, or_parts}
use borrow.Author.Count.{below_more}
use Rattle.std.proofs.lemmas.Grind.{drop_more_same}
use Rattle.std.proofs.lemmas.List.{append-nil, drop-set-lt, get_or-set_other, nil_from_length}
use Rattle.std.proofs.lemmas.List.{get_or-set_same, length-take, take-append-drop, take-take}
use Rattle.std.proofs.lemmas.List.Folds.{list_all-append}
use Rattle.std.proofs.lemmas.List.Sums.{AllPass-from_list_all, list_all-from_AllPass, sum_by-append}
use Rattle.std.proofs.lemmas.Str.{chars-append, chars-nil, encodes-chars, length-le-encodes}
use Rattle.memchr.specs.Find.{is_byte}
use Rattle.tok_lexical.specs.Comments.{is_not_line_feed}
use Rattle.tok_lexical.specs.Pieces.{Skips, is_neither}
use Rattle.tok_carets.specs.Lines.{IsLastLine, IsLineColumn, IsPlaceAt, IsStretch, line_feeds, nowhere}
use Rattle.tok_carets.specs.declared.line.LineColumn.{LineColumn}
use Rattle.tok_carets.proofs.Feeds.{none_fed, one}

both_clear : (xs ys : List ℕ) → list_all is_not_line_feed xs ≡ true
    → list_all is_not_line_feed ys ≡ true → list_all is_not_line_feed (xs ++ ys) ≡ true
both_clear xs ys h k = list_all-append is_not_line_feed xs ys ∙ and_from _ _ h k

-- a line goes on with characters without a line feed
more_of_line : (text more line : List ℕ) → IsLastLine text line
    → list_all is_not_line_feed more ≡ true → IsLastLine (text ++ more) (line ++ more)
more_of_line text more line (clear, inl whole) none =
    (both_clear line more clear none, inl (ap (λ x. x ++ more) whole))
more_of_line text more line (clear, inr (front, whole)) none = (
  both_clear line more clear none,
  inr (front, ap (λ x. x ++ more) whole ∙ append_assoc front (10 ∷ line) more),
)

-- a text has no more characters than bytes
few_chars : (text : List ℕ) → IsUtf8 text → length (chars text) ≤ length text
few_chars text u =
    omega (arith, length-le-encodes (chars text), ap (λ x. length x) (encodes-chars text u))

short_line : (text line : List ℕ) → IsLastLine text line → length line ≤ length text
short_line text line (clear, inl whole) = omega (arith, ap (λ x. length x) whole)
short_line text line (clear, inr (front, whole)) =
    omega (arith, ap (λ x. length x) whole, length-append front (10 ∷ line))

-- a text between two bytes, of which all is skipped
pub stretch_of : (text before between over rest : List ℕ) (from at : ℕ) → before ≡ take at text
    → between ≡ drop from before → from ≤ length before
    → Skips (is_neither 10 10) (chars between) over (chars rest) → length rest ≡ 0
    → IsStretch text from at between
stretch_of text before between over rest from at front back low skips none =
    let short : from ≤ at = omega (arith, low, ap (λ x. length x) front, length-take at text) in
    let cut = take-append-drop from before in
    let inside = take-take from at text short in
    let empty = chars-nil in
    let left = nil_from_length rest none in
    let whole = append-nil over in
    let all : chars between ≡ over = cc skips.cut in (
      cc,
      rw all (list_all-from_AllPass is_not_line_feed over
          (λ k d high.
          let pass = AllPass-from_list_all (is_neither 10 10) over skips.pass k d high in
          ap not (or_parts _ _ (not-true _ pass)).0)),
    )

module _ (text between : List ℕ) (from at : ℕ) (known : LineColumn) (u : IsUtf8 (take from text))
    (stretch : IsStretch text from at between) (is : IsLineColumn (take from text) known) where
  -- a column is not after the end of the text
  pub column_fits : known.column + length between ≤ 1 + length text
  column_fits =
      omega (
        arith,
        is.1.2,
        short_line (chars (take from text)) is.1.0 is.1.1,
        few_chars (take from text) u,
        ap (λ x. length x) stretch.0,
        length-append (take from text) between,
        length-take at text,
      )

  pub place_further : (place : LineColumn) → place.line ≡ known.line
      → place.column ≡ known.column + length (chars between) → IsLineColumn (take at text) place
  place_further place line column =
      let front = take from text in
      let cut : front ++ between ≡ take at text = sym stretch.0 in
      let parts : chars (take at text) ≡ chars front ++ chars between =
      ap chars (sym cut) ∙ chars-append front between u in (
        omega (
          arith,
          line,
          is.0,
          ap line_feeds parts ∙ sum_by-append (one (is_byte 10)) (chars front) (chars between),
          none_fed (chars between) stretch.1,
        ),
        (
          is.1.0 ++ chars between,
          rw parts (more_of_line (chars front) (chars between) is.1.0 is.1.1 stretch.1),
          omega (arith, column, is.1.2, length-append is.1.0 (chars between)),
        ),
      )

-- the place before a text
pub first_place : (text : List ℕ) (place : LineColumn) → place.line ≡ 1 → place.column ≡ 1
    → IsLineColumn (take 0 text) place
first_place text place line column = (
  omega (arith, line, ap line_feeds chars-nil),
  ([], (refl, inl chars-nil), omega (arith, column)),
)

-- one more place is written
module _ (text bytes : List ℕ) (mid : List LineColumn) (n : ℕ) (place : LineColumn)
    (low : n < length mid) where
  pub one_more : ((k : ℕ) → k < n → IsPlaceAt text (get_or bytes k 0) (get_or mid k nowhere))
      → IsPlaceAt text (get_or bytes n 0) place → (k : ℕ) → k < n + 1
      → IsPlaceAt text (get_or bytes k 0) (get_or (set mid n place) k nowhere)
  one_more before here =
      below_more (λ k. IsPlaceAt text (get_or bytes k 0) (get_or (set mid n place) k nowhere)) n
      (λ k under.
      rw (get_or-set_other mid n k place nowhere (omega (arith, under))) (before k under))
      (rw (get_or-set_same mid n place nowhere low) here)

  pub rest_stays : (old : List LineColumn) → drop n mid ≡ drop n old
      → drop (n + 1) (set mid n place) ≡ drop (n + 1) old
  rest_stays old same =
      drop-set-lt (n + 1) mid n place (omega arith) ∙ drop_more_same mid old n same
