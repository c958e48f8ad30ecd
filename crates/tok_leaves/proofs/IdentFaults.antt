-- What the reasons why a text is no identifier tell.
use Rattle.std.proofs.Common.{◌≡◌, ◌∙◌, ◌&&◌, ◌||◌, ◌++◌, ◌∷◌, ◌+◌, ◌≤◌, [], arith, ap, eqb-true}
use Rattle.std.proofs.Common.{Bool, false, true, inl, inr, length, length-append, List, ℕ, None, refl, rules}
use Rattle.std.proofs.Common.{Some, sym, tests}
use Rattle.std.specs.Char.{is_ascii_alphabetic, is_ascii_digit}
use Rattle.std.specs.List.{list_all}
use Rattle.std.specs.Prelude.{◌==◌, ◌⊎◌, Option, cond, encode_utf8, encode_utf8_all, not}
use Rattle.std.proofs.lemmas.Bool.{false≢true}
use Rattle.std.proofs.lemmas.List.Folds.{list_all-append}
use Rattle.std.proofs.lemmas.Option.{none-some, same_Some}
use Rattle.unicode_ident.specs.Ident.{is_xid_continue}
use Rattle.unicode_ident.proofs.IdentLemmas.{is_xid_continue-ascii}
use Rattle.tok_lexical.specs.Pieces.{Stops, Skips}
use Rattle.tok_lexical.specs.Words.{IsIdentifier, HasRaw, has_no_raw, is_identifier_start, is_plain}
use Rattle.tok_lexical.proofs.Digits.{head_passes, tail_passes}
use Rattle.tok_lexical.proofs.Identifiers.{letter_start}
use Rattle.tok_leaves.specs.declared.ident_fault.IdentFault.{IdentFault}
use Rattle.tok_leaves.specs.declared.ident_fault.IdentFault.TheVariants.{Character, Empty, NoRaw}
use Rattle.tok_leaves.specs.declared.ident_fault.IdentFault.TheVariants.{Number, Raw}
use Rattle.tok_leaves.specs.IdentFaults.{FaultsTellCharacters, FaultsTellIdentifiers}
use Rattle.tok_leaves.specs.IdentFaults.{FaultsTellRawForms, ident_fault, plain_fault}
use Rattle.tok_leaves.specs.IdentFaults.{raw_ident_fault, rest_fault}
use Rattle.tok_leaves.specs.Private.Front.{front_fault}

-- after characters that go on, the next one is named
pub rest_front : (at : ℕ) (front rest : List ℕ) → list_all is_xid_continue front ≡ true →
    Stops is_xid_continue rest →
    rest_fault at (front ++ rest) ≡ front_fault (at + length (encode_utf8_all front)) rest
rest_front at [] [] h s = refl
rest_front at [] (c ∷ rest) h s =
    let n : at ≡ at + 0 = omega arith in
    rw s (ap (λ m. front_fault m (c ∷ rest)) n)
rest_front at (c ∷ front) rest h s =
    let n : at + length (encode_utf8 c) + length (encode_utf8_all front)
    ≡ at + length (encode_utf8_all (c ∷ front)) =
    let l = length-append (encode_utf8 c) (encode_utf8_all front) in omega arith in
    let more = rest_front (at + length (encode_utf8 c)) front rest
    (tail_passes is_xid_continue c front h) s in
    rw (head_passes is_xid_continue c front h) (cc)

-- a text that begins as an identifier
pub begun : (text rest after : List ℕ) (c : ℕ) → text ≡ c ∷ rest → is_ascii_digit c ≡ false →
    is_identifier_start c ≡ true → is_plain text ≡ true → (front : List ℕ)
    × Skips is_xid_continue rest front after → (found : List ℕ) × (text ≡ found ++ after)
    × (ident_fault text ≡ front_fault (length (encode_utf8_all found)) after)
begun text rest after c e digit start plain (front, s) =
    let whole : text ≡ (c ∷ front) ++ after = cc s.cut in
    let n : length (encode_utf8 c) + length (encode_utf8_all front)
    ≡ length (encode_utf8_all (c ∷ front)) =
    sym (length-append (encode_utf8 c) (encode_utf8_all front)) in
    let parts : rest_fault (length (encode_utf8 c)) rest
    ≡ front_fault (length (encode_utf8_all (c ∷ front))) after =
    cc (rest_front (length (encode_utf8 c)) front after s.pass s.stops) in (
      c ∷ front,
      whole,
      rw (plain, e, digit, start) parts,
    )

-- and one that doesn't
pub unbegun : (text rest : List ℕ) (c : ℕ) → text ≡ c ∷ rest → is_ascii_digit c ≡ false →
    is_identifier_start c ≡ false → is_plain text ≡ true → ident_fault text ≡ front_fault 0 text
unbegun text rest c e digit start plain =
    rw (plain, e, digit, start)

-- nothing is wrong with characters that go on
rest_passes : (at : ℕ) (cs : List ℕ) → rest_fault at cs ≡ None → list_all is_xid_continue cs ≡ true
rest_passes at [] h = refl
rest_passes at (c ∷ cs) h =
    step (is_xid_continue c) (rest_passes (at + length (encode_utf8 c)) cs) h
  where
    step : (b : Bool) → (rest_fault (at + length (encode_utf8 c)) cs ≡ None →
        list_all is_xid_continue cs ≡ true) →
        cond b (rest_fault (at + length (encode_utf8 c)) cs) (Some (Character at c)) ≡ None →
        (b && list_all is_xid_continue cs) ≡ true
    step true more h = more h
    step false more h = absurd (none-some (Character at c) (sym h))

passes_rest : (at : ℕ) (cs : List ℕ) → list_all is_xid_continue cs ≡ true → rest_fault at cs ≡ None
passes_rest at [] h = refl
passes_rest at (c ∷ cs) h =
    rw (head_passes is_xid_continue c cs h)
    (passes_rest (at + length (encode_utf8 c)) cs (tail_passes is_xid_continue c cs h))

-- a digit begins no identifier
digit_no_start : (c : ℕ) (b : Bool) → is_ascii_digit c ≡ b → is_identifier_start c ≡ true →
    b ≡ false
digit_no_start c false e h = refl
digit_no_start c true e h =
    let high : c ≤ 57 = search (rules, tests) in
    let low : 48 ≤ c = search (rules, tests) in
    let letter : (is_ascii_alphabetic c || (c == 95)) ≡ true =
    letter_start c (omega arith) (is_ascii_alphabetic c) refl ∙ h in
    let none : (is_ascii_alphabetic c || (c == 95)) ≡ false = search (rules, tests) in
    absurd (false≢true (sym none ∙ letter))

-- nor does an identifier begin with `r#`
identifier_plain : (text : List ℕ) → IsIdentifier text → is_plain text ≡ true
identifier_plain [] h = absurd h
identifier_plain (c ∷ []) h = refl
identifier_plain (c ∷ d ∷ word) h = step (c == 114) (d == 35) refl
  where
    step : (a b : Bool) → (d == 35) ≡ b → not (a && b) ≡ true
    step false b e = refl
    step true false e = refl
    step true true e =
        absurd (false≢true (sym (is_xid_continue-ascii 35 (omega arith))
        ∙ ap is_xid_continue (sym (eqb-true d 35 e)) ∙ head_passes is_xid_continue d word h.1))

tells : (text : List ℕ) (b : Bool) → cond b (plain_fault text) (Some Raw) ≡ None →
    IsIdentifier text
tells text false h = absurd (none-some Raw (sym h))
tells [] true h = absurd (none-some Empty (sym h))
tells (c ∷ cs) true h = step (is_ascii_digit c) (is_identifier_start c) refl h
  where
    step : (d s : Bool) → is_identifier_start c ≡ s →
        cond d (Some Number) (cond s (rest_fault (length (encode_utf8 c)) cs)
        (Some (Character 0 c))) ≡ None → IsIdentifier (c ∷ cs)
    step true s e h = absurd (none-some Number (sym h))
    step false true e h = (e, rest_passes (length (encode_utf8 c)) cs h)
    step false false e h = absurd (none-some (Character 0 c) (sym h))

told : (text : List ℕ) → IsIdentifier text → ident_fault text ≡ None
told [] h = absurd h
told (c ∷ cs) h =
    rw (identifier_plain (c ∷ cs) h, digit_no_start c (is_ascii_digit c) refl h.0, h.0)
    (passes_rest (length (encode_utf8 c)) cs h.1)

pub tell_identifiers : FaultsTellIdentifiers
tell_identifiers text = (tells text (is_plain text), told text)

pub tell_raw_forms : FaultsTellRawForms
tell_raw_forms text = (there (has_no_raw text) refl, back)
  where
    there : (b : Bool) → has_no_raw text ≡ b → cond b (Some NoRaw) (ident_fault text) ≡ None →
        HasRaw text
    there true e h = absurd (none-some NoRaw (sym h))
    there false e h = (tells text (is_plain text) h, e)

    back : HasRaw text → raw_ident_fault text ≡ None
    back (h, e) = rw e (told text h)

-- what a reason names
abbrev place : Option IdentFault → ℕ
place (Some (Character at c)) = at
place fault = 0

abbrev named : Option IdentFault → ℕ
named (Some (Character at c)) = c
named fault = 0

-- the character that is named among those that may go on
abbrev Found : ℕ → List ℕ → ℕ → ℕ → Type 0
Found n cs at c =
    (front : List ℕ) × (rest : List ℕ) × (cs ≡ front ++ c ∷ rest)
    × (list_all is_xid_continue front ≡ true) × (is_xid_continue c ≡ false)
    × (at ≡ n + length (encode_utf8_all front))

found : (n : ℕ) (cs : List ℕ) (at c : ℕ) → rest_fault n cs ≡ Some (Character at c) →
    Found n cs at c
found n [] at c h = absurd (none-some (Character at c) h)
found n (d ∷ cs) at c h =
    step (is_xid_continue d) (found (n + length (encode_utf8 d)) cs at c) refl h
  where
    step : (b : Bool) → (rest_fault (n + length (encode_utf8 d)) cs ≡ Some (Character at c) →
        Found (n + length (encode_utf8 d)) cs at c) → is_xid_continue d ≡ b →
        cond b (rest_fault (n + length (encode_utf8 d)) cs) (Some (Character n d))
        ≡ Some (Character at c) → Found n (d ∷ cs) at c
    step false more e h =
        let same : d ≡ c = ap named h in
        let there : n ≡ at = ap place h in (
          [],
          cs,
          cc,
          refl,
          cc,
          omega arith,
        )
    step true more e h =
        let (front, rest, cut, pass, stops, is) = more h in
        let l = length-append (encode_utf8 d) (encode_utf8_all front) in (
          d ∷ front,
          rest,
          cc,
          rw e pass,
          stops,
          omega arith,
        )

-- a character that doesn't go on ends an identifier
ends : (front : List ℕ) (c : ℕ) → list_all is_xid_continue front ≡ true →
    is_xid_continue c ≡ false → list_all is_xid_continue (front ++ c ∷ []) ≡ true → ⊥
ends front c pass stops h =
    false≢true (rw (list_all-append, pass, stops) at h)

-- what a reason that names a character says of a text
abbrev Told : ℕ → ℕ → List ℕ → Type 0
Told at c text =
    (front : List ℕ) × (rest : List ℕ) × (text ≡ front ++ c ∷ rest)
    × (at ≡ length (encode_utf8_all front)) × ((front ≡ []) ⊎ IsIdentifier front)
    × (IsIdentifier (front ++ c ∷ []) → ⊥)

pub tell_characters : FaultsTellCharacters
tell_characters text at c h = by_plain text (is_plain text) h
  where
    by_plain : (text : List ℕ) (b : Bool) → cond b (plain_fault text) (Some Raw)
        ≡ Some (Character at c) → Told at c text
    by_plain text false h = let other : Raw ≡ Character at c = same_Some _ _ h in cc
    by_plain [] true h = let other : Empty ≡ Character at c = same_Some _ _ h in cc
    by_plain (d ∷ cs) true h = step (is_ascii_digit d) (is_identifier_start d) refl h
      where
        step : (a b : Bool) → is_identifier_start d ≡ b →
            cond a (Some Number) (cond b (rest_fault (length (encode_utf8 d)) cs)
            (Some (Character 0 d))) ≡ Some (Character at c) → Told at c (d ∷ cs)
        step true b e h = let other : Number ≡ Character at c = same_Some _ _ h in cc
        step false true e h =
            let (front, rest, cut, pass, stops, is) = found (length (encode_utf8 d)) cs at c h in (
              d ∷ front,
              rest,
              cc,
              cc (length-append (encode_utf8 d) (encode_utf8_all front)),
              inr (e, pass),
              λ i. ends front c pass stops i.1,
            )
        step false false e h =
            let same : d ≡ c = ap named h in
            let there : 0 ≡ at = ap place h in (
              [],
              cs,
              cc,
              sym there,
              inl refl,
              λ i. absurd (cc (i.0)),
            )
