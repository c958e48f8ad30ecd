-- Of a literal without a suffix, the values that any suffix may follow are those that none follows.
use Rattle.std.proofs.Common.{◌≡◌, ◌∙◌, ℕ, List, [], ◌∷◌, ◌++◌, Bool, false, true}
use Rattle.std.proofs.Common.{append_assoc, inl, inr, refl, sym}
use Rattle.std.proofs.lemmas.List.{append-nil}
use Rattle.tok_lexical.specs.Numbers.{starts_digit}
use Rattle.tok_lexical.specs.Words.{IsSuffix}
use Rattle.tok_values.specs.Laws.{BytesAgree, ByteStringsAgree, CharactersAgree, StringsAgree}
use Rattle.tok_values.specs.Strings.{InApostrophes, IsNothing}
use Rattle.tok_values.specs.Suffixes.{is_mark, literal_suffix, without_minus}
use Rattle.tok_values.proofs.Endings.{quoted_have_their_suffix}
use Rattle.tok_values.proofs.Fronts.{EndsWith}
use Rattle.tok_values.proofs.RawStrings.{raw_ends, raw_suffix}
use Rattle.tok_values.proofs.Ends.{char_ends, means_end}

-- a suffix after a mark is that of the literal, and so there is none
bare : (before inner rest suffix text : List ℕ) (mark : ℕ) → is_mark mark ≡ true →
    ((w : List ℕ) → starts_digit (without_minus (before ++ w)) ≡ false) → text ≡ before ++ inner →
    EndsWith rest inner → rest ≡ mark ∷ suffix → IsSuffix suffix → literal_suffix text ≡ [] →
    suffix ≡ []
bare before inner rest suffix text mark m plain e (front, cut) f s none =
    let all : text ≡ (before ++ front) ++ mark ∷ suffix =
    cc (append_assoc before front (mark ∷ suffix)) in
    let first = rw (← append_assoc) at (plain (front ++ mark ∷ suffix)) in
    let has = quoted_have_their_suffix (before ++ front) mark suffix m s first in
    cc

pub strings_agree : StringsAgree
strings_agree text value none = (
  λ read. elim read [
    | inl (characters, (inner, e, (rest, means, (suffix, f, s))), is) ↦
        let empty = bare (34 ∷ []) inner rest suffix text 34 refl (λ w. refl) e
        (means_end false means) f s none in
        inl (characters, (inner, e, (rest, means, (suffix, f, empty))), is)
    | inr (raw, suffix, cut, h, s) ↦
        let empty : suffix ≡ [] = sym (raw_suffix text raw suffix value cut h s) ∙ none in
        let same : text ≡ raw = cc (append-nil raw) in
        inr (rw same h)
  ],
  λ read. elim read [
    | inl (characters, (inner, e, (rest, means, (suffix, f, empty))), is) ↦
        inl (characters, (inner, e, (rest, means, (suffix, f, inl empty))), is)
    | inr h ↦ inr (text, [], sym (append-nil text), h, inl refl)
  ],
)

pub byte_strings_agree : ByteStringsAgree
byte_strings_agree text value none = (
  λ (string, e, read). elim read [
    | inl (inner, f, (rest, means, (suffix, g, s))) ↦
        let empty = bare (98 ∷ 34 ∷ []) inner rest suffix text 34 refl (λ w. refl)
        (cc) (means_end true means) g s none in
        inl (string, e, (inner, f, (rest, means, (suffix, g, empty))))
    | inr (raw, suffix, cut, h, s) ↦
        let (front, mark, is, k) = raw_ends raw value h in
        let empty : suffix ≡ [] =
        bare (98 ∷ 114 ∷ []) (front ++ mark ∷ suffix) (mark ∷ suffix) suffix text mark is
        (λ w. refl) (cc (append_assoc (114 ∷ front) (mark ∷ []) suffix))
        (front, refl) refl s none in
        let same : string ≡ raw = cc (append-nil raw) in
        inr (string, e, rw same h)
  ],
  λ read. elim read [
    | inl (quoted, e, (inner, f, (rest, means, (suffix, g, empty)))) ↦
        (quoted, e, inl (inner, f, (rest, means, (suffix, g, inl empty))))
    | inr (raw, e, h) ↦ (raw, e, inr (raw, [], sym (append-nil raw), h, inl refl))
  ],
)

-- between apostrophes
quoted_char : (wide : Bool) (before text quoted : List ℕ) (c : ℕ) →
    ((w : List ℕ) → starts_digit (without_minus ((before ++ 39 ∷ []) ++ w)) ≡ false) →
    text ≡ before ++ quoted → literal_suffix text ≡ [] →
    InApostrophes IsSuffix wide quoted c → InApostrophes IsNothing wide quoted c
quoted_char wide before text quoted c plain e none (inner, f, (rest, reads, (suffix, g, s))) =
    let empty = bare (before ++ 39 ∷ []) inner rest suffix text 39 refl plain
    (cc (append_assoc before (39 ∷ []) inner)) (rw reads at (char_ends wide inner)) g s none in
    (inner, f, (rest, reads, (suffix, g, empty)))

any_char : (wide : Bool) (quoted : List ℕ) (c : ℕ) → InApostrophes IsNothing wide quoted c →
    InApostrophes IsSuffix wide quoted c
any_char wide quoted c (inner, f, (rest, reads, (suffix, g, empty))) =
    (inner, f, (rest, reads, (suffix, g, inl empty)))

pub characters_agree : CharactersAgree
characters_agree text c none =
    (quoted_char false [] text text c (λ w. refl) refl none, any_char false text c)

pub bytes_agree : BytesAgree
bytes_agree text byte none = (
  λ (quoted, e, h).
      (quoted, e, quoted_char true (98 ∷ []) text quoted byte (λ w. refl) e none h),
  λ (quoted, e, h). (quoted, e, any_char true quoted byte h),
)
