-- A literal has at most one value.
use Rattle.std.proofs.Common.{◌≡◌, ap, Bool, false, inl, inr, true}
use Rattle.tok_lexical.specs.Pieces.{begins_with}
use Rattle.tok_lexical.specs.Words.{IsSuffix}
use Rattle.tok_values.specs.CStrings.{c_unit}
use Rattle.tok_values.specs.Strings.{InApostrophes, unit}
use Rattle.tok_values.specs.Suffixed.{IsByteCharacterValue, IsByteStrValue}
use Rattle.tok_values.specs.Suffixed.{IsCStrValue, IsCharacterValue, IsStrValue, IsStringBy}
use Rattle.tok_values.specs.Values.{HasOneValue}
use Rattle.tok_values.proofs.RawStrings.{no_raw, raw_once}
use Rattle.tok_values.proofs.Suffixed.{c_quote_stops, quote_stops, quotes_once, string_once}
use Rattle.std.proofs.lemmas.Option.{some_pair_parts}
use Rattle.tok_values.proofs.Letters.{after_once}

pub strings : HasOneValue IsStrValue
strings text a b (inl (cs, p, is)) (inl (ds, q, so)) =
    let same = quotes_once (unit false) (quote_stops false) text cs ds p q in cc
strings text a b (inl (cs, p, is)) (inr q) = absurd (no_raw text (ap (begins_with 114) p.1) b q)
strings text a b (inr p) (inl (ds, q, so)) = absurd (no_raw text (ap (begins_with 114) q.1) a p)
strings text a b (inr p) (inr q) = raw_once text a b p q

pub byte_strings : HasOneValue IsByteStrValue
byte_strings = after_once 98 (IsStringBy (unit true)) (string_once (unit true) (quote_stops true))

pub c_strings : HasOneValue IsCStrValue
c_strings text a b p q =
    after_once 99 (IsStringBy c_unit) (string_once c_unit c_quote_stops) text a b p.0 q.0

between : (wide : Bool) → HasOneValue (InApostrophes IsSuffix wide)
between wide text a b (inner, e, (rest, h, s)) (other, f, (left, k, t)) =
    let same : inner ≡ other = cc in (some_pair_parts a b rest left (cc)).0

pub characters : HasOneValue IsCharacterValue
characters = between false

pub bytes : HasOneValue IsByteCharacterValue
bytes = after_once 98 (InApostrophes IsSuffix true) (between true)
