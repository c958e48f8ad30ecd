-- The names of lifetimes, and why a text is none.
use Rattle.std.proofs.Common.{◌≡◌, ◌∙◌, sym, refl, ℕ, Bool, true, false, List, [], ◌∷◌}
use Rattle.std.proofs.Common.{length, None, Some, ◌⊎◌, inl, inr, arith, eqb-true}
use Rattle.std.specs.Prelude.{◌==◌}
use Rattle.std.specs.Str.{chars, IsUtf8}
use Rattle.std.proofs.lemmas.Bool.{and_parts, cond-true, cond-false, false≢true}
use Rattle.std.proofs.lemmas.Str.{chars-nil}
use Rattle.tok_lexical.specs.Words.{IsIdentifier, HasRaw, has_no_raw}
use Rattle.tok_leaves.specs.declared.ident.MakeFault.{MakeFault}
use Rattle.tok_leaves.specs.declared.ident.MakeFault.TheVariants.{Refused, Memory}
use Rattle.tok_leaves.specs.Lifetimes.{is_identifier, plain_error, raw_error, name_fault}
use Rattle.tok_leaves.specs.Lifetimes.{error_in}
use Rattle.tok_leaves.specs.declared.lifetime.LifetimeFault.TheVariants.{Empty, NotIdentifier}
use Rattle.tok_lexical.proofs.Texts.{some_left}

pub no_text : (bs : List ℕ) → (length bs == 0) ≡ true → bs ≡ []
no_text [] h = refl
no_text (b ∷ bs) h = absurd (omega (arith, eqb-true (length (b ∷ bs)) 0 h))

-- no name at all
pub empty_plain : (bs : List ℕ) → (length bs == 0) ≡ true → plain_error (chars bs) ≡ Some Empty
empty_plain bs h = rw (no_text bs h, chars-nil)

pub empty_raw : (bs : List ℕ) → has_no_raw (chars bs) ≡ false → (length bs == 0) ≡ true →
    raw_error (chars bs) ≡ Some Empty
empty_raw bs q h = rw q (empty_plain bs h)

-- a test and the fact that it tells
tells : (cs : List ℕ) → is_identifier cs ≡ true → IsIdentifier cs
tells [] h = absurd (false≢true h)
tells (c ∷ cs) h = and_parts _ _ h

tells_identifier : (cs : List ℕ) → IsIdentifier cs → is_identifier cs ≡ true
tells_identifier [] h = absurd h
tells_identifier (c ∷ cs) h = rw h.0 h.1

identifier_or_not : (cs : List ℕ) (b : Bool) → is_identifier cs ≡ b → (is_identifier cs ≡ true)
    ⊎ (IsIdentifier cs → ⊥)
identifier_or_not cs true e = inl e
identifier_or_not cs false e = inr (λ h. false≢true (sym e ∙ tells_identifier cs h))

plain_made : (cs : List ℕ) → is_identifier cs ≡ true → plain_error cs ≡ None
plain_made [] h = absurd (false≢true h)
plain_made (c ∷ cs) h = cond-true (is_identifier (c ∷ cs)) None (Some NotIdentifier) h

plain_refused : (cs : List ℕ) → (cs ≡ [] → ⊥) → is_identifier cs ≡ false → plain_error cs
    ≡ Some NotIdentifier
plain_refused [] some h = absurd (some refl)
plain_refused (c ∷ cs) some h = cond-false (is_identifier (c ∷ cs)) None (Some NotIdentifier) h

not_told : (cs : List ℕ) (b : Bool) → is_identifier cs ≡ b → (IsIdentifier cs → ⊥) →
    is_identifier cs ≡ false
not_told cs true e never = absurd (never (tells cs e))
not_told cs false e never = e

-- the maker's fault says what is wrong with a name
pub plain_fault : (bs : List ℕ) (fault : MakeFault) → IsUtf8 bs → (length bs == 0) ≡ false
    → (IsIdentifier (chars bs) → fault ≡ Memory) → ((IsIdentifier (chars bs) → ⊥) → fault ≡ Refused)
    → plain_error (chars bs) ≡ error_in (name_fault fault)
plain_fault bs Refused u h takes refuses =
    plain_refused (chars bs) (some_left bs u h)
    (not_told (chars bs) (is_identifier (chars bs)) refl
    (λ i. let wrong : Refused ≡ Memory = takes i in cc))
plain_fault bs Memory u h takes refuses =
    elim (identifier_or_not (chars bs) (is_identifier (chars bs)) refl) [
      | inl e ↦ plain_made (chars bs) e
      | inr never ↦ let wrong : Memory ≡ Refused = refuses never in cc
    ]

pub raw_fault : (bs : List ℕ) (fault : MakeFault) → IsUtf8 bs → (length bs == 0) ≡ false →
    has_no_raw (chars bs) ≡ false
    → (HasRaw (chars bs) → fault ≡ Memory) → ((HasRaw (chars bs) → ⊥) → fault ≡ Refused)
    → raw_error (chars bs) ≡ error_in (name_fault fault)
raw_fault bs fault u h raw takes refuses =
    rw raw (plain_fault bs fault u h (λ i. takes (i, raw)) (λ never. refuses (λ r. never r.0)))
