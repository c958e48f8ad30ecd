-- Lines, one character further, and their ends.
use Rattle.std.proofs.Common.{◌≡◌, ◌∙◌, ℕ, ◌-◌, ◌<◌, List, [], ◌∷◌, ◌++◌, length, refl, take}
use Rattle.std.proofs.Common.{sym, ap, append_assoc, arith, eqb-true, get_or, subst}
use Rattle.std.proofs.Common.{true, false, ⊎_elim}
use Rattle.std.specs.Prelude.{◌==◌, encode_utf8, encode_utf8_all}
use Rattle.std.specs.Char.{len_utf8}
use Rattle.std.specs.List.{flat_map, list_all}
use Rattle.std.specs.Str.{chars, IsUtf8}
use Rattle.std.proofs.lemmas.Bool.{and_parts, ne_eqb, not-false, not-true, or_cases, or_parts}
use Rattle.std.proofs.lemmas.Grind.{flat_map-append}
use Rattle.std.proofs.lemmas.List.{append-nil, get_or_push, length_push, take_at}
use Rattle.std.proofs.lemmas.Str.{chars-append, encodes-chars}
use Rattle.std.proofs.lemmas.Str.{IsCharBoundary-before_ascii, IsUtf8-take}
use Rattle.tok_lexical.specs.Pieces.{Skips, Stops, is_neither}
use Rattle.tok_carets.specs.Lines.{shown_character, within, without_return}

abbrev Longer : (text after whole : List ℕ) → (rest : List ℕ) → Type 0
Longer text after whole rest = (front : List ℕ) × (text ≡ front ++ after) × (whole ≡ front ++ rest)

pub within_more : (text rest after front whole : List ℕ) (left less c : ℕ) → text ≡ front ++ rest
    → whole ≡ front ++ within left rest → rest ≡ c ∷ after → (left ≡ 0 → ⊥)
    → less ≡ left - len_utf8 c
    → Longer text after whole (within less after)
within_more text rest after front whole left less c e w h some l =
    let begun : within left rest ≡ c ∷ within less after = rw (h, ne_eqb left 0 some, l) refl in
    (front ++ c ∷ [], rw append_assoc (cc), rw append_assoc (cc))

-- the carriage return at the end of a line is left out
return_dropped : (line : List ℕ) → without_return (line ++ 13 ∷ []) ≡ line
return_dropped [] = refl
return_dropped (c ∷ []) = refl
return_dropped (c ∷ (d ∷ line)) = ap (λ x. c ∷ x) (return_dropped (d ∷ line))

-- no other is
others_kept : (line : List ℕ) → ((front : List ℕ) → line ≡ front ++ 13 ∷ [] → ⊥)
    → without_return line ≡ line
others_kept [] other = refl
others_kept (c ∷ []) other = rw (ne_eqb c 13 (λ e. other [] (cc))) refl
others_kept (c ∷ (d ∷ line)) other =
    let rest = others_kept (d ∷ line) (λ front e. other (c ∷ front) (cc)) in
    cc

-- the same of bytes
pub stripped : (line front : List ℕ) → IsUtf8 line → line ≡ front ++ 13 ∷ []
    → chars front ≡ without_return (chars line)
unfolding chars
stripped line front u e =
    let at = length front in
    let here : get_or line at 0 ≡ 13 = ap (λ x. get_or x at 0) e ∙ get_or_push front 13 0 at refl in
    let high : at < length line = omega (arith, ap length e, length_push front 13) in
    let cut : take at line ≡ front = ap (take at) e ∙ take_at front (13 ∷ []) at refl in
    let seam = IsCharBoundary-before_ascii line at high (omega arith) in
    let v : IsUtf8 front = subst IsUtf8 cut (IsUtf8-take line at u seam) in
    sym
    (ap without_return (ap chars e ∙ chars-append front (13 ∷ []) v)
    ∙ return_dropped (chars front))

pub unstripped : (line : List ℕ) → IsUtf8 line
    → ((front : List ℕ) → line ≡ front ++ encode_utf8 13 → ⊥)
    → chars line ≡ without_return (chars line)
unstripped line u other =
    sym
    (others_kept (chars line)
    (λ front e. other (encode_utf8_all front)
    (sym (encodes-chars line u) ∙ ap encode_utf8_all e
    ∙ flat_map-append encode_utf8 front (13 ∷ [])
    ∙ ap (λ x. encode_utf8_all front ++ x) (append-nil (encode_utf8 13)))))

-- what has no tab is shown as it is
as_it_is : (front : List ℕ) → list_all (is_neither 9 9) front ≡ true
    → flat_map shown_character front ≡ encode_utf8_all front
as_it_is [] h = refl
as_it_is (c ∷ front) h =
    let p = and_parts (is_neither 9 9 c) (list_all (is_neither 9 9) front) h in
    let more = as_it_is front p.1 in
    let other : (c == 9) ≡ false = (or_parts (c == 9) (c == 9) (not-true _ p.0)).0 in
    rw other (ap (λ x. encode_utf8 c ++ x) more)

pub run_shown : (text front after : List ℕ) → Skips (is_neither 9 9) text front after
    → flat_map shown_character text ≡ encode_utf8_all front ++ flat_map shown_character after
run_shown text front after skips =
    ap (flat_map shown_character) skips.cut
    ∙ flat_map-append shown_character front after
    ∙ ap (λ x. x ++ flat_map shown_character after) (as_it_is front skips.pass)

-- a text that stops there and doesn't go on with a tab is at its end
pub ends_there : (after : List ℕ) → Stops (is_neither 9 9) after
    → ((more : List ℕ) → after ≡ 9 ∷ more → ⊥) → after ≡ []
ends_there [] stops other = refl
ends_there (c ∷ more) stops other =
    let either = or_cases (c == 9) (c == 9) (not-false _ stops) in
    let tab : c ≡ 9 = eqb-true c 9 (⊎_elim (λ t. t) (λ t. t) either) in
    absurd (other more (cc))

-- the characters up to the next tab are pushed as they are
module _ (rest front tab to piece pushed : List ℕ) (skips : Skips (is_neither 9 9) rest front tab)
    (p : piece ≡ encode_utf8_all front) (q : pushed ≡ to ++ piece) where
  -- and that is all if there is none
  pub all_pushed : ((more : List ℕ) → tab ≡ 9 ∷ more → ⊥)
      → pushed ≡ to ++ flat_map shown_character rest
  all_pushed none =
      let shown = run_shown rest front tab skips in
      let nothing = ap (flat_map shown_character) (ends_there tab skips.stops none) in
      let whole = append-nil (encode_utf8_all front) in
      cc

  -- and then four spaces for it
  pub tab_pushed : (spaced after : List ℕ) → spaced ≡ pushed ++ 32 ∷ 32 ∷ 32 ∷ 32 ∷ []
      → tab ≡ 9 ∷ after
      → spaced ++ flat_map shown_character after ≡ to ++ flat_map shown_character rest
  tab_pushed spaced after s t =
      let shown = run_shown rest front tab skips in
      let spaces = ap (flat_map shown_character) t in
      let one = append_assoc to piece (flat_map shown_character tab) in
      let two = append_assoc pushed (32 ∷ 32 ∷ 32 ∷ 32 ∷ []) (flat_map shown_character after) in
      cc
