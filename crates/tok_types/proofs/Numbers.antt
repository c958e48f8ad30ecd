-- A text that is searched for in a table.
use Rattle.std.proofs.Common.{◌≡◌, ℕ, ◌+◌, ◌<◌, ◌≤◌, Bool, true, false, cond, List, [], length, ◌∷◌}
use Rattle.std.proofs.Common.{get_or, Some, None, ap, refl, ◌∙◌, arith, Option}
use Rattle.std.proofs.Common.{suc}
use Rattle.std.proofs.lemmas.Iterator.Adapters.{position_from-zero}
use Rattle.std.proofs.lemmas.List.Folds.{find_at}
use Rattle.std.proofs.lemmas.List.Sums.{position_or_len_is}
use Rattle.std.proofs.lemmas.Option.{slice_get-get_or, slice_get_past}
use Rattle.std.specs.List.{find, position_from, position_or_len}
use Rattle.std.specs.Prelude.{bytes_eq, slice_get, MatchOption}
use Rattle.tok_types.specs.Texts.{begins_with, number_in, numbers_beginning}

-- a word begins with its first byte
begins_itself : (b : ℕ) (word : List ℕ) → begins_with b (b ∷ word) ≡ true
begins_itself b word = grind arith

pub first_begins : (word : List ℕ) (first : Option ℕ) → first ≡ slice_get word 0 →
    MatchOption first (word ≡ []) (λ b. begins_with b word ≡ true)
first_begins [] first e = rw e refl
first_begins (c ∷ word) first e = rw e (begins_itself c word)

-- only a text that begins alike is this word
differs : (b : ℕ) (text word : List ℕ) → begins_with b word ≡ true → begins_with b text ≡ false →
    bytes_eq text word ≡ false
differs b text word first other = grind arith

-- a number whose text begins alike is found, and another is passed over
among_more : (at : ℕ → List ℕ) (word text : List ℕ) (b k : ℕ) (numbers : List ℕ) (found : Option ℕ)
    → begins_with b word ≡ true → at k ≡ text → find (λ n. bytes_eq (at n) word) numbers ≡ found
    → find (λ n. bytes_eq (at n) word) (cond (begins_with b text) (k ∷ numbers) numbers)
    ≡ cond (bytes_eq text word) (Some k) found
among_more at word text b k numbers found first here more = grind (arith, differs)

-- so the first of the numbers whose text is this word is the first of all
among : (at : ℕ → List ℕ) (word : List ℕ) (b k : ℕ) (texts : List (List ℕ)) →
    begins_with b word ≡ true → ((i : ℕ) → at (k + i) ≡ get_or texts i []) →
    find (λ n. bytes_eq (at n) word) (numbers_beginning b k texts)
    ≡ position_from (λ text. bytes_eq text word) k texts
among at word b k [] first same = refl
among at word b k (text ∷ texts) first same =
    among_more at word text b k _ _ first (ap at (omega arith) ∙ same 0)
    (among at word b (k + 1) texts first (λ i. ap at (omega arith) ∙ same (suc i)))

-- none of the texts of the first n numbers is this word
abbrev pub PassedOver : List (List ℕ) → List ℕ → List ℕ → ℕ → Type 0
PassedOver texts numbers word n =
    (j : ℕ) → j < n → bytes_eq (get_or texts (get_or numbers j 0) []) word ≡ false

finds_among_numbers : (texts : List (List ℕ)) (numbers word : List ℕ) (b : ℕ) →
    begins_with b word ≡ true → numbers ≡ numbers_beginning b 0 texts →
    number_in texts word ≡ find (λ n. bytes_eq (get_or texts n []) word) numbers
finds_among_numbers texts numbers word b first e =
    let at : ℕ → List ℕ = λ n. get_or texts n [] in
    rw (e, among at word b 0 texts first (λ i. ap at (omega arith)))
    (position_from-zero (λ text. bytes_eq text word) texts)

pub found_at : (texts : List (List ℕ)) (numbers word : List ℕ) (b n : ℕ) →
    begins_with b word ≡ true → numbers ≡ numbers_beginning b 0 texts →
    PassedOver texts numbers word n → n < length numbers →
    bytes_eq (get_or texts (get_or numbers n 0) []) word ≡ true →
    Some (get_or numbers n 0) ≡ number_in texts word
found_at texts numbers word b n first e h small is =
    let test : ℕ → Bool = λ k. bytes_eq (get_or texts k []) word in
    let at : position_or_len test numbers ≡ n =
    position_or_len_is test numbers n 0 (omega arith) h (λ _. is) in
    let whole = finds_among_numbers texts numbers word b first e in
    let found = find_at test numbers in
    let read = slice_get-get_or numbers n 0 small in
    cc

pub not_found : (texts : List (List ℕ)) (numbers word : List ℕ) (b n : ℕ) →
    begins_with b word ≡ true → numbers ≡ numbers_beginning b 0 texts →
    PassedOver texts numbers word n → length numbers ≤ n → None ≡ number_in texts word
not_found texts numbers word b n first e h over =
    let test : ℕ → Bool = λ k. bytes_eq (get_or texts k []) word in
    let at : position_or_len test numbers ≡ length numbers =
    position_or_len_is test numbers (length numbers) 0 (omega arith)
    (λ k small. h k (omega (arith, small, over))) (λ past. absurd (omega arith)) in
    let whole = finds_among_numbers texts numbers word b first e in
    let found = find_at test numbers in
    let read = slice_get_past numbers (length numbers) (omega arith) in
    cc
