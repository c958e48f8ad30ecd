-- What ends a name or a number: the character after it goes on with neither.
use Rattle.std.proofs.Common.{◌≡◌, ◌<◌, ◌≤◌, ℕ, List, [], ◌∷◌, ◌++◌, refl, arith}
use Rattle.std.proofs.Common.{rules, tests}
use Rattle.std.specs.Prelude.{Bool, true, false, ◌==◌, ◌||◌}
use Rattle.std.specs.List.{list_all}
use Rattle.std.proofs.lemmas.List.{append_cancel_right}
use Rattle.unicode_ident.specs.Ident.{is_xid_continue}
use Rattle.unicode_ident.proofs.IdentLemmas.{is_xid_continue-ascii, is_xid_start-ascii}
use Rattle.tok_lexical.specs.Fits.{IsFirstFit}
use Rattle.tok_lexical.specs.Numbers.{is_digit_or_underscore}
use Rattle.tok_lexical.specs.Pieces.{Stops, begins_with}
use Rattle.tok_lexical.specs.Rules.{rules_of}
use Rattle.tok_lexical.specs.Words.{is_identifier_start}
use Rattle.tok_lexical.specs.declared.rule.Mode.TheVariants.{Plain}
use Rattle.tok_lexical.specs.declared.rule.Rule.{Rule}
use Rattle.tok_lexical.proofs.Digits.{head_passes}
use Rattle.tok_lexical.proofs.Fits.{fits_longest}
use Rattle.example_config.proofs.Choices.{differs}

-- the piece is known by what follows it
pub known : (rule : Rule) (taken after : List ℕ)
    → (found : List ℕ) × IsFirstFit (taken ++ after) (rules_of Plain) rule found after
    → IsFirstFit (taken ++ after) (rules_of Plain) rule taken after
known rule taken after h = grind (arith, append_cancel_right, fits_longest)

-- a character that ends what is before it: `,`, `:`, `]` or `}`
abbrev pub is_end : ℕ → Bool
is_end c = (c == 44) || ((c == 58) || ((c == 93) || (c == 125)))

-- a text that begins with one
abbrev pub ends : List ℕ → Bool
ends [] = false
ends (c ∷ after) = is_end c

low_end : (c : ℕ) → is_end c ≡ true → c < 128
low_end c h = let l : c ≤ 125 = search (rules, tests) in omega arith

-- it goes on with no identifier, and with no digit
no_word : (c : ℕ) → is_end c ≡ true → is_xid_continue c ≡ false
no_word c h = grind (arith, is_xid_continue-ascii, low_end)

pub no_start : (c : ℕ) → is_end c ≡ true → is_identifier_start c ≡ false
no_start c h = grind (arith, is_xid_start-ascii, low_end)

no_digit : (c : ℕ) → is_end c ≡ true → is_digit_or_underscore 10 c ≡ false
no_digit c h = search (rules, tests)

pub word_stops : (after : List ℕ) → ends after ≡ true → Stops is_xid_continue after
word_stops after h = grind (arith, no_word)

pub digits_stop : (after : List ℕ) → ends after ≡ true → Stops (is_digit_or_underscore 10) after
digits_stop after h = grind (arith, no_digit)

-- characters that pass, and an end, begin with no other character
pub begins_no : (k : ℕ) (p : ℕ → Bool) (word after : List ℕ) → p k ≡ false → is_end k ≡ false
    → list_all p word ≡ true → ends after ≡ true → begins_with k (word ++ after) ≡ false
begins_no k p [] [] a b h e = refl
begins_no k p [] (c ∷ after) a b h e = differs is_end c k e b
begins_no k p (c ∷ word) after a b h e = differs p c k (head_passes p c word h) a
