-- What is between the quotes of a raw string, by the search for the quote that ends it.
use Rattle.std.proofs.Common.{◌≡◌, ◌∙◌, ◌+◌, ◌-◌, ◌≤◌, ◌∷◌, ◌++◌, [], arith}
use Rattle.std.proofs.Common.{inl, length, List, refl, suc, sym, take, true, zero, ℕ}
use Rattle.std.specs.Prelude.{◌==◌}
use Rattle.std.specs.Str.{chars, IsAscii, IsCharBoundary, IsUtf8}
use Rattle.std.proofs.lemmas.List.{append-nil}
use Rattle.std.proofs.lemmas.Str.{IsUtf8-append, IsUtf8-from_ascii}
use Rattle.tok_lexical.specs.Pieces.{HasPrefix, Skips}
use Rattle.tok_lexical.specs.Raw.{EndsAt, closed, further, IsRaw, most_signs}
use Rattle.tok_lexical.specs.RawQuotes.{InRawQuotes}
use Rattle.tok_lexical.proofs.Digits.{all_stops}
use Rattle.tok_lexical.proofs.RawStrings.{free_ends, signs, signs_length}
use Rattle.tok_lexical.proofs.Texts.{ascii_first, cut_boundary, cut_chars, cut_length, front_chars}
use Rattle.tok_lexical.proofs.Texts.{nothing_left}

-- a raw string without a suffix is a raw string
pub quotes_raw : (text contents : List ℕ) → InRawQuotes text contents → HasPrefix IsRaw text
quotes_raw text contents (hashes, e, a, l, m) =
    let body : List ℕ = contents ++ 34 ∷ hashes in (
      text,
      [],
      sym (append-nil text),
      (hashes, body, [], rw (append-nil body) e, a, l, m, inl refl),
    )

-- a text that ends at a closing ends with it
ends_with : {closing text : List ℕ} → EndsAt closing text → (front : List ℕ)
    × (text ≡ front ++ closing)
ends_with closed = ([], refl)
ends_with (further {c = c} misses m) =
    let (front, e) = ends_with m in (c ∷ front, cc)

module _ (text mid hashes start body : List ℕ) (s : Skips (λ c. c == 35) text hashes mid)
    (q : mid ≡ 34 ∷ start) (m : EndsAt (34 ∷ hashes) body) where
  -- nothing is left after the closing of one without a suffix
  pub quotes_end : (end contents : List ℕ) → start ≡ body ++ end → InRawQuotes text contents →
      end ≡ []
  quotes_end end contents cut (hs, e, a, l, n) =
      let w = all_stops (λ c. c == 35) hashes hs mid (34 ∷ (contents ++ 34 ∷ hs)) s.pass a s.stops
      refl (sym s.cut ∙ e) in
      let same : start ≡ contents ++ 34 ∷ hs = cc (w.1) in
      (free_ends (34 ∷ hashes) body (contents ++ 34 ∷ hs) m (rw w.0 n) end []
      (sym cut ∙ same ∙ sym (append-nil (contents ++ 34 ∷ hs)))).1

  -- and what comes before the closing is between the quotes
  pub quotes_read : length hashes ≤ most_signs → start ≡ body → (contents : List ℕ)
      × (start ≡ contents ++ 34 ∷ hashes) × InRawQuotes text contents
  quotes_read l cut =
      let (front, e) = ends_with m in
      let whole : start ≡ front ++ 34 ∷ hashes = cut ∙ e in (
        front,
        whole,
        (
          hashes,
          rw (← whole, ← q) s.cut,
          s.pass,
          l,
          rw e at m,
        ),
      )

-- a quote and some bytes
ascii_quote : IsAscii (34 ∷ [])
ascii_quote zero = omega arith
ascii_quote (suc i) = omega arith

quote_utf8 : (bytes : List ℕ) → IsUtf8 bytes → IsUtf8 (34 ∷ bytes)
quote_utf8 bytes u =
    IsUtf8-append (34 ∷ []) bytes (IsUtf8-from_ascii (34 ∷ []) ascii_quote) u

quote_chars : (bytes : List ℕ) → IsUtf8 bytes → chars (34 ∷ bytes) ≡ 34 ∷ chars bytes
quote_chars bytes u =
    ascii_first (34 ∷ bytes) bytes 34 (quote_utf8 bytes u) (omega arith) refl (omega arith) refl

-- the bytes before the closing
module _ (start hashes contents : List ℕ) (u : IsUtf8 start) (v : IsUtf8 hashes)
    (e : chars start ≡ contents ++ 34 ∷ chars hashes) where
  cut : chars start ≡ contents ++ chars (34 ∷ hashes)
  cut = rw (quote_chars hashes v) e

  closing_length : length hashes + 1 ≤ length start
  closing_length =
      let l = cut_length start (34 ∷ hashes) contents u (quote_utf8 hashes v) cut in omega arith

  closing_boundary : IsCharBoundary start (length start - (length hashes + 1))
  closing_boundary =
      let n : length start - length (34 ∷ hashes) ≡ length start - (length hashes + 1) =
      omega arith in
      rw (← n) (cut_boundary start (34 ∷ hashes) contents u (quote_utf8 hashes v) cut)

  contents_chars : (taken : List ℕ) → taken ≡ take (length start - (length hashes + 1)) start →
      chars taken ≡ contents
  contents_chars taken is =
      let n : length start - (length hashes + 1) ≡ length start - length (34 ∷ hashes) =
      omega arith in
      front_chars start (34 ∷ hashes) contents taken cut
      (cut_chars start (34 ∷ hashes) contents taken u (quote_utf8 hashes v) cut (rw (← n) is))

-- a closing that was found, with nothing after it: it fits into the text after the quote, and what
-- is before it is between the quotes
pub record IsWhole (text start hashes : List ℕ) : Type 0 where
  pub fits : length hashes + 1 ≤ length start
  pub boundary : IsCharBoundary start (length start - (length hashes + 1))
  pub reads : (taken : List ℕ) → taken ≡ take (length start - (length hashes + 1)) start →
      InRawQuotes text (chars taken)

pub quotes_found : (text mid hashes start end : List ℕ) →
    (front : List ℕ) × Skips (λ c. c == 35) text front mid →
    ((front : List ℕ) → text ≡ front ++ mid → chars hashes ≡ front) → IsUtf8 hashes →
    IsUtf8 start → length hashes ≤ most_signs → mid ≡ 34 ∷ chars start → (length end == 0) ≡ true →
    (body : List ℕ) × (chars start ≡ body ++ chars end) × EndsAt (34 ∷ chars hashes) body →
    IsWhole text start hashes
quotes_found text mid hashes start end passed is u v few q none (body, cut, m) =
    let s = signs text mid hashes passed is in
    let l = signs_length hashes u s.pass in
    let (contents, e, read) = quotes_read text mid (chars hashes) (chars start) body s q m
    (omega arith) (cc (nothing_left end none, append-nil body)) in
    record {
      fits = closing_length start hashes contents v u e;
      boundary = closing_boundary start hashes contents v u e;
      reads = λ taken t. rw (contents_chars start hashes contents v u e taken t) read;
    }
