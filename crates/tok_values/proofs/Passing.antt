-- Texts of which each character passes a test.
use Rattle.std.proofs.Common.{◌≡◌, ◌<◌, ℕ, List, [], ◌∷◌, Bool, refl, true}
use Rattle.std.specs.List.{list_all}
use Rattle.std.specs.Str.{IsAscii}
use Rattle.std.proofs.lemmas.Bool.{and_from, and_parts}
use Rattle.std.proofs.lemmas.Str.Ascii.{IsAscii-cons, IsAscii-nil}

-- they pass another, if what passes the one passes the other
pub all_pass : (p q : ℕ → Bool) → ((c : ℕ) → p c ≡ true → q c ≡ true) → (text : List ℕ) →
    list_all p text ≡ true → list_all q text ≡ true
all_pass p q one [] h = refl
all_pass p q one (c ∷ text) h =
    let both = and_parts (p c) _ h in and_from _ _ (one c both.0) (all_pass p q one text both.1)

-- they are ASCII, if what passes is
pub all_ascii : (p : ℕ → Bool) → ((c : ℕ) → p c ≡ true → c < 128) → (text : List ℕ) →
    list_all p text ≡ true → IsAscii text
all_ascii p low [] h = IsAscii-nil
all_ascii p low (c ∷ text) h =
    let both = and_parts (p c) _ h in
    IsAscii-cons c text (low c both.0) (all_ascii p low text both.1)
