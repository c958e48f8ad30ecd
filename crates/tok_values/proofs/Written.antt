-- A string literal that is written character by character is read as one, and its value is the
-- text.
use Rattle.std.proofs.Common.{◌≡◌, ◌∙◌, ℕ, List, [], ◌∷◌, ◌++◌, None, Some, false, refl}
use Rattle.std.proofs.Common.{sym, arith, append_assoc, inl, true}
use Rattle.std.specs.Prelude.{◌==◌, codes, encode_utf8_all}
use Rattle.std.specs.List.{flat_map}
use Rattle.std.specs.Str.{IsUtf8, chars}
use lib.Utf8.{scalars}
use Rattle.std.proofs.lemmas.Bool.{and_from, and_parts}
use Rattle.std.proofs.lemmas.List.{append-nil}
use Rattle.std.proofs.lemmas.List.Folds.{list_any-append}
use Rattle.std.proofs.lemmas.Str.{chars-encodes, encodes-append, encodes-chars, scalars-chars}
use Rattle.tok_lexical.specs.Contents.{has_return, is_wrong}
use Rattle.tok_lexical.specs.Errors.{error_kind}
use Rattle.tok_lexical.specs.Fits.{here}
use Rattle.tok_lexical.specs.Pieces.{IsLongestPrefix}
use Rattle.tok_lexical.specs.Rules.{Spells}
use Rattle.tok_lexical.specs.Strings.{AreUnits, IsUnit, no_unit, unit as one_more}
use Rattle.tok_lexical.specs.declared.contents.Contents.TheVariants.{Text}
use Rattle.tok_lexical.specs.declared.rule.Mode.{Mode}
use Rattle.tok_lexical.specs.declared.rule.Mode.TheVariants.{Plain, Marked, Source}
use Rattle.tok_lexical.specs.declared.rule.Rule.TheVariants.{QuotedString}
use Rattle.tok_lexical.specs.declared.start.Start.TheVariants as start
use Rattle.tok_lexical.proofs.BareReturns.{none_bare, text_unfit}
use Rattle.tok_lexical.proofs.First.{decides_begun}
use Rattle.tok_values.specs.Laws.{IsOnePiece}
use Rattle.tok_values.specs.Strings.{IsStringValue, Means, more, nothing, unit}
use Rattle.tok_values.proofs.Quoted.{one_byte, scalars-append}
use Rattle.tok_lexical.proofs.Longest.{front_nil}

-- a whole text is the longest front of itself
pub whole : (S : List ℕ → Type 0) (text : List ℕ) → S text → IsLongestPrefix S text text []
whole S text s = record {
  cut = sym (append-nil text);
  spelled = s;
  longest = λ extra after e spelled. front_nil extra after e;
}

-- no U+000D is in the text
abbrev pub NoReturn : List ℕ → Type 0
NoReturn text = has_return text ≡ false

pub both_kept : (xs ys : List ℕ) → NoReturn xs → NoReturn ys → NoReturn (xs ++ ys)
both_kept xs ys h k = rw (list_any-append (λ c. c == 13) xs ys, h) k

unrejected : (mode : Mode) (at : ℕ) (piece : List ℕ) → NoReturn piece →
    error_kind (QuotedString Text) mode at piece [] ≡ None
unrejected Plain at piece h = refl
unrejected Marked at piece h = refl
unrejected (Source edition) at piece h =
    let fits : is_wrong Text piece ≡ false =
    sym (text_unfit piece) ∙ none_bare piece (has_return piece) (λ e. e) h in
    rw fits

quote_bytes : encode_utf8_all (34 ∷ []) ≡ codes "\""
quote_bytes = one_byte 34 (omega arith)

-- how each character is written, as characters and as bytes
pub record IsWriting (write bytes : ℕ → List ℕ) : Type 0 where
  pub encoded : (c : ℕ) → encode_utf8_all (write c) ≡ bytes c
  pub scalar : (c : ℕ) → scalars (c ∷ []) ≡ true → scalars (write c) ≡ true
  pub means : (c : ℕ) (rest : List ℕ) → scalars (c ∷ []) ≡ true →
      unit false (write c ++ rest) ≡ Some (c ∷ [], rest)
  pub is_unit : (c : ℕ) → scalars (c ∷ []) ≡ true → IsUnit Text (write c)
  pub kept : (c : ℕ) → scalars (c ∷ []) ≡ true → NoReturn (write c)

module _ (write bytes : ℕ → List ℕ) (w : IsWriting write bytes) where
  first_scalar : (c : ℕ) (cs : List ℕ) → scalars (c ∷ cs) ≡ true → scalars (c ∷ []) ≡ true
  first_scalar c cs h = and_from _ true (and_parts _ (scalars cs) h).0 refl

  all_encoded : (cs : List ℕ) → encode_utf8_all (flat_map write cs) ≡ flat_map bytes cs
  all_encoded [] = refl
  all_encoded (c ∷ cs) =
      cc (encodes-append (write c) (flat_map write cs), w.encoded c, all_encoded cs)

  all_scalars : (cs : List ℕ) → scalars cs ≡ true → scalars (flat_map write cs) ≡ true
  all_scalars [] h = refl
  all_scalars (c ∷ cs) h =
      scalars-append (write c) (flat_map write cs) (w.scalar c (first_scalar c cs h))
      (all_scalars cs (and_parts _ (scalars cs) h).1)

  all_mean : (cs : List ℕ) → scalars cs ≡ true →
      Means false (flat_map write cs ++ 34 ∷ []) (34 ∷ []) cs
  all_mean [] h = nothing (34 ∷ [])
  all_mean (c ∷ cs) h =
      more ((write c ++ flat_map write cs) ++ 34 ∷ []) (flat_map write cs ++ 34 ∷ []) (34 ∷ [])
      (c ∷ []) cs
      (rw append_assoc (w.means c (flat_map write cs ++ 34 ∷ []) (first_scalar c cs h)))
      (all_mean cs (and_parts _ (scalars cs) h).1)

  all_units : (cs : List ℕ) → scalars cs ≡ true → AreUnits Text (flat_map write cs)
  all_units [] h = no_unit
  all_units (c ∷ cs) h =
      one_more (w.is_unit c (first_scalar c cs h)) (all_units cs (and_parts _ (scalars cs) h).1)

  all_kept : (cs : List ℕ) → scalars cs ≡ true → NoReturn (flat_map write cs)
  all_kept [] h = refl
  all_kept (c ∷ cs) h =
      both_kept (write c) (flat_map write cs) (w.kept c (first_scalar c cs h))
      (all_kept cs (and_parts _ (scalars cs) h).1)

  -- the bytes of the literal
  abbrev literal : List ℕ → List ℕ
  literal cs = codes "\"" ++ (flat_map bytes cs ++ codes "\"")

  literal_chars : (cs : List ℕ) → scalars cs ≡ true
      → chars (literal cs) ≡ 34 ∷ (flat_map write cs ++ 34 ∷ [])
  literal_chars cs h =
      let inner = flat_map write cs ++ 34 ∷ [] in
      let front = encodes-append (34 ∷ []) inner in
      let back = encodes-append (flat_map write cs) (34 ∷ []) in
      let same : encode_utf8_all ((34 ∷ []) ++ inner) ≡ literal cs =
      cc (quote_bytes, all_encoded cs) in
      rw (← same) (chars-encodes (34 ∷ inner)
      (scalars-append (34 ∷ []) inner refl
      (scalars-append (flat_map write cs) (34 ∷ []) (all_scalars cs h) refl)))

  pub keeps_text : (text : List ℕ) → IsUtf8 text → IsStringValue (chars (literal (chars text))) text
  keeps_text text u =
      let h = scalars-chars text u in (
        chars text,
        (
          flat_map write (chars text) ++ 34 ∷ [],
          literal_chars (chars text) h,
          (34 ∷ [], all_mean (chars text) h, ([], refl, refl)),
        ),
        sym (encodes-chars text u),
      )

  pub is_read : (mode : Mode) (text : List ℕ) → IsUtf8 text →
      IsOnePiece mode (QuotedString Text) (chars (literal (chars text)))
  is_read mode text u =
      let h = scalars-chars text u in
      let inner : List ℕ = flat_map write (chars text) ++ 34 ∷ [] in
      let kept : NoReturn (34 ∷ inner) =
      both_kept (flat_map write (chars text)) (34 ∷ []) (all_kept (chars text) h) refl in
      rw (literal_chars (chars text) h) (
        decides_begun mode 34 inner start.Quote refl refl
            (here (whole (Spells (QuotedString Text)) (34 ∷ inner)
            (flat_map write (chars text), [], refl, all_units (chars text) h, inl refl))),
        λ at. unrejected mode at (34 ∷ inner) kept,
      )
