-- The byte of a text at which an error is explained, and that it is explained in one way.
use Rattle.std.proofs.Common.{◌≡◌, ◌∙◌, ◌<◌, ℕ, List, [], ◌∷◌, ◌++◌, Option, length, take, drop}
use Rattle.std.proofs.Common.{ap, arith, inl, inr, length-append, sym, subst, refl, true}
use Rattle.std.specs.Prelude.{encode_utf8, encode_utf8_all}
use Rattle.std.specs.Str.{chars, IsCharBoundary, IsUtf8}
use lib.Utf8.{scalars}
use Rattle.std.proofs.lemmas.Bool.{and_parts}
use Rattle.std.proofs.lemmas.List.{take-append-drop}
use Rattle.std.proofs.lemmas.Str.{chars-append, encodes-append, encodes-chars, IsCharBoundary-at_seam}
use Rattle.std.proofs.lemmas.Str.{IsUtf8-take, len_utf8_bounds, length-encode, scalars-chars}
use Rattle.tok_lexical.specs.Widths.{bytes}
use Rattle.tok_lexical.specs.declared.lex_error_kind.LexErrorKind.{LexErrorKind}
use Rattle.tok_lexical.specs.declared.lex_error_kind.LexErrorKind.TheVariants.{MalformedQuoted}
use Rattle.tok_lexical.specs.declared.quoted.QuotedFault.{QuotedFault}
use Rattle.tok_lexical.proofs.QuotedFaults.{fault_once}
use Rattle.tok_core.specs.Lexical.Errors.{IsFaultOfKindAt, IsQuotedFaultAt, explained}
use Rattle.tok_core.specs.Lexical.Laws.{IsExplainedOnce}

-- a text from a byte on, at which a character begins
pub from_boundary : (text before after : List ℕ) (at : ℕ) → IsUtf8 text → IsCharBoundary text at
    → before ≡ take at text → after ≡ drop at text → length before ≡ at → (front : List ℕ)
    × (chars text ≡ front ++ chars after) × (bytes front ≡ at)
from_boundary text before after at u b e f l =
    let v : IsUtf8 before = subst IsUtf8 (sym e) (IsUtf8-take text at u b) in
    let whole : text ≡ before ++ after = cc (take-append-drop at text) in
    (chars before, rw whole (chars-append before after v), cc (encodes-chars before v))

back_scalars : (front rest : List ℕ) → scalars (front ++ rest) ≡ true → scalars rest ≡ true
back_scalars [] rest h = h
back_scalars (c ∷ front) rest h =
    back_scalars front rest (and_parts _ (scalars (front ++ rest)) h).1

-- where no character begins, nothing ends
pub no_boundary : (text front rest : List ℕ) (at : ℕ) → IsUtf8 text →
    (IsCharBoundary text at → ⊥) → chars text ≡ front ++ rest → bytes front ≡ at → ⊥
no_boundary text front rest at u misses e l =
    let whole : text ≡ encode_utf8_all front ++ encode_utf8_all rest =
    cc (encodes-chars text u, encodes-append front rest) in
    let v : IsUtf8 (encode_utf8_all rest) =
    (rest, (back_scalars front rest (rw e at (scalars-chars text u)), refl)) in
    misses (rw l at (IsCharBoundary-at_seam text (encode_utf8_all front) _ whole v))

-- a character takes a byte at least
some_bytes : (c : ℕ) (cs : List ℕ) → bytes cs < bytes (c ∷ cs)
some_bytes c cs =
    let all = length-append (encode_utf8 c) (encode_utf8_all cs) in
    let one = length-encode c in
    let least = (len_utf8_bounds c).0 in omega (arith, all, one, least)

-- one byte of a text is at one place of it
place_once : (front rest before after : List ℕ) → front ++ rest ≡ before ++ after →
    bytes front ≡ bytes before → rest ≡ after
place_once [] rest [] after e l = e
place_once [] rest (c ∷ before) after e l =
    let some = some_bytes c before in absurd (omega (arith, l, some))
place_once (c ∷ front) rest [] after e l =
    let some = some_bytes c front in absurd (omega (arith, l, some))
place_once (c ∷ front) rest (d ∷ before) after e l =
    let left = length-append (encode_utf8 c) (encode_utf8_all front) in
    let right = length-append (encode_utf8 d) (encode_utf8_all before) in
    let same : c ≡ d = cc in
    let one = ap (λ x. length (encode_utf8 x)) same in
    place_once front rest before after (cc) (omega (arith, l, left, right, one))

-- of the quoted literal at one byte one thing is wrong at most
quoted_once : (text : List ℕ) (at : ℕ) (one other : Option (QuotedFault × ℕ)) →
    IsQuotedFaultAt text at one → IsQuotedFaultAt text at other → one ≡ other
quoted_once text at one other (inl (front, rest, e, l, p)) (inl (before, after, f, m, q)) =
    fault_once rest one other p (rw (place_once front rest before after (sym e ∙ f) (l ∙ sym m)) q)
quoted_once text at one other (inl (front, rest, e, l, p)) (inr (none, q)) =
    absurd (none front rest e l)
quoted_once text at one other (inr (none, p)) (inl (before, after, f, m, q)) =
    absurd (none before after f m)
quoted_once text at one other (inr (none, p)) (inr (never, q)) = p ∙ sym q

fault_of_kind_once : (kind : LexErrorKind) (text : List ℕ) (at : ℕ)
    (one other : Option (QuotedFault × ℕ)) → IsFaultOfKindAt kind text at one →
    IsFaultOfKindAt kind text at other → one ≡ other
fault_of_kind_once MalformedQuoted text at one other p q = quoted_once text at one other p q
fault_of_kind_once kind text at one other p q = p ∙ sym q

pub explained_once : IsExplainedOnce
explained_once text error one other (found, p, e) (also, q, f) =
    e ∙ ap (explained error) (fault_of_kind_once error.kind text error.at found also p q) ∙ sym f
