-- A text is cut to one list of items at most, or is refused in one way at most, and never both.
use Rattle.std.proofs.Common.{◌≡◌, ◌∙◌, ◌+◌, ◌<◌, length, ℕ, inl, inr, List, [], ◌∷◌, ◌++◌, refl}
use Rattle.std.proofs.Common.{sym, ap, arith, reverse}
use Rattle.std.specs.Prelude.{None, Bool, true, false}
use Rattle.std.proofs.lemmas.List.{append-nil}
use Rattle.tok_core.specs.Lexical.Items.{Item, IsForest, most_levels, Opens, inside}
use Rattle.tok_lexical.specs.Errors.{error_kind}
use Rattle.tok_core.specs.Lexical.Meaning.{items, doc_items, opens_group}
use Rattle.tok_lexical.specs.Widths.{bytes}
use Rattle.tok_lexical.specs.Docs.{is_inner_doc, line_doc_text, block_doc_text}
use Rattle.std.proofs.lemmas.Bool.{false≢true}
use Rattle.tok_lexical.specs.declared.delimiter.Delimiter.TheVariants.{Bracket}
use Rattle.tok_lexical.specs.Fits.{IsFirstFit}
use Rattle.tok_core.specs.Lexical.Reading.{Cut, stop, piece, RejectsAt, by_rule, unclosed, unopened}
use Rattle.tok_core.specs.Lexical.Reading.{too_deep}
use Rattle.tok_lexical.specs.declared.delimiter.Delimiter.{Delimiter}
use Rattle.tok_lexical.specs.declared.lex_error_kind.LexErrorKind.{LexErrorKind}
use Rattle.tok_lexical.specs.Rules.{rules_of}
use Rattle.tok_lexical.specs.declared.rule.Mode.{Mode}
use Rattle.tok_lexical.specs.declared.rule.Rule.{Rule}
use Rattle.tok_lexical.specs.declared.rule.Rule.TheVariants.{Opening, Closing, LineComment}
use Rattle.tok_lexical.specs.declared.rule.Rule.TheVariants.{BlockComment}
use Rattle.tok_core.proofs.Lexical.Runs.{Run, leaf_passed, first_opens, after_front, one_left_open}
use Rattle.tok_core.proofs.Lexical.Runs.{first_closes}
use Rattle.tok_lexical.proofs.Fits.{decides_unique, decides_nothing}
use Rattle.tok_core.proofs.Lexical.Unique.{cuts}
use Rattle.tok_core.proofs.Levels.{one_end}

cut_nil : {mode : Mode} {number at end : ℕ} {rest : List ℕ} {all : List Item} →
    Cut mode number at [] all end rest → (all ≡ []) × (rest ≡ [])
cut_nil stop = (refl, refl)
cut_nil (piece d m c) = absurd (decides_nothing d)

-- what a rule means, seen at another decision of the same text
same_kind : (mode : Mode) {text p r q s : List ℕ} {rule other : Rule} (at : ℕ) →
    IsFirstFit text (rules_of mode) rule p r → IsFirstFit text (rules_of mode) other q s →
    error_kind rule mode at p r ≡ error_kind other mode at q s
same_kind mode at d e = let w = decides_unique d e in cc

same_items : (mode : Mode) {text p r q s : List ℕ} {rule other : Rule} (number at : ℕ) →
    IsFirstFit text (rules_of mode) rule p r → IsFirstFit text (rules_of mode) other q s →
    items number rule mode at p r ≡ items number other mode at q s
same_items mode number at d e = let w = decides_unique d e in cc

-- a piece that opens a group comes only where one more may be open
doc_opens : (number start end : ℕ) (inner : Bool) (text : List ℕ)
    (levels last : List (Delimiter × ℕ)) (more : List Item) →
    Run (reverse levels) (doc_items number start end inner text ++ more) last →
    length levels < most_levels
doc_opens number start end true text levels last more run = first_opens levels last Bracket start
    _ (leaf_passed (leaf_passed run))
doc_opens number start end false text levels last more run = first_opens levels last Bracket
    start _ (leaf_passed run)

group_opens : (rule : Rule) (mode : Mode) (number at : ℕ) (taken after : List ℕ)
    (levels last : List (Delimiter × ℕ)) (more : List Item) → opens_group rule taken ≡ true →
    Run (reverse levels) (items number rule mode at taken after ++ more) last →
    length levels < most_levels
group_opens (Opening delimiter) mode number at taken after levels last more is run =
    first_opens levels last delimiter at more run
group_opens LineComment mode number at taken after levels last more is run =
    doc_opens number at (at + bytes taken) (is_inner_doc taken) (line_doc_text taken) levels last
    more (rw is at run)
group_opens BlockComment mode number at taken after levels last more is run =
    doc_opens number at (at + bytes taken) (is_inner_doc taken) (block_doc_text taken) levels last
    more (rw is at run)
group_opens rule mode number at taken after levels last more is run = absurd (false≢true is)

closes_none : (rule : Rule) (delimiter : Delimiter) (taken : List ℕ) → Closing delimiter ≡ rule →
    opens_group rule taken ≡ true → ⊥
closes_none rule delimiter taken e is = false≢true (rw (← e) at is)

-- where a text is refused, no piece follows that would nest
no_piece : {mode : Mode} {levels : List (Delimiter × ℕ)} {at byte : ℕ} {why : LexErrorKind}
    {rest p r : List ℕ} {rule : Rule} (number : ℕ) (others : List (Delimiter × ℕ))
    (more : List Item) → RejectsAt mode levels at rest why byte →
    IsFirstFit rest (rules_of mode) rule p r →
    error_kind rule mode at p r ≡ None →
    Run (reverse levels) (items number rule mode at p r ++ more)
    (reverse others) → ⊥
no_piece {mode = mode} {at = at} number others more (by_rule e n) d m run =
    let same = same_kind mode at d e in cc
no_piece number others more (unclosed delimiter outer e l) d m run = decides_nothing (rw e at d)
no_piece {mode = mode} {levels = levels} {at = at} number others more
    (unopened delimiter q s e misfit) d m run =
    misfit (first_closes levels (reverse others) delimiter _ more
    (rw (same_items mode number at d e) at run))
no_piece {mode = mode} {levels = levels} {at = at} number others more
    (too_deep {rule = rule} q s e n is l) d m run =
    let few = group_opens rule mode number at q s levels (reverse others) more is
    (rw (same_items mode number at d e) at run) in
    absurd (omega arith)

no_further : {mode : Mode} {levels others : List (Delimiter × ℕ)} {number at end byte : ℕ}
    {why : LexErrorKind} {rest after : List ℕ} {some more : List Item} →
    RejectsAt mode levels at rest why byte → Opens number most_levels levels some →
    Cut mode number at rest more end after → Opens number most_levels others (some ++ more) →
    (more ≡ []) × (rest ≡ after) × (at ≡ end)
no_further f o stop p = (refl, refl, refl)
no_further {others = others} {number = number} f o (piece {more = more} d m c) p =
    absurd (no_piece number others more f d m (after_front o p))

one_error : {mode : Mode} {levels : List (Delimiter × ℕ)} {at b c : ℕ} {n m : LexErrorKind}
    {rest : List ℕ} → RejectsAt mode levels at rest n b → RejectsAt mode levels at rest m c →
    (n ≡ m) × (b ≡ c)
one_error {mode = mode} {at = at} (by_rule d f) (by_rule e g) =
    let same = same_kind mode at d e in (cc, refl)
one_error (by_rule d f) (unclosed delimiter outer e l) = absurd (decides_nothing (rw e at d))
one_error {mode = mode} {at = at} (by_rule d f) (unopened delimiter q s e misfit) =
    absurd (let same = same_kind mode at d e in cc)
one_error {mode = mode} {at = at} (by_rule d f) (too_deep q s e n is l) =
    absurd (let same = same_kind mode at d e in cc)
one_error (unclosed delimiter outer e l) (by_rule d f) = absurd (decides_nothing (rw e at d))
one_error (unclosed delimiter outer e l) (unclosed delimiter' outer' e' l') =
    let same = one_end outer outer' _ _ (sym l ∙ l') in (refl, ap (λ w. w.1) same.1)
one_error (unclosed delimiter outer e l) (unopened delimiter' q s d misfit) =
    absurd (decides_nothing (rw e at d))
one_error (unclosed delimiter outer e l) (too_deep q s d n is k) =
    absurd (decides_nothing (rw e at d))
one_error {mode = mode} {at = at} (unopened delimiter q s e misfit) (by_rule d f) =
    absurd (let same = same_kind mode at e d in cc)
one_error (unopened delimiter' q s d misfit) (unclosed delimiter outer e l) =
    absurd (decides_nothing (rw e at d))
one_error (unopened delimiter' q s d misfit) (unopened delimiter q' s' d' misfit') = (refl, refl)
one_error (unopened delimiter' q s d misfit) (too_deep {rule = rule} q' s' d' n is l) =
    absurd (closes_none rule delimiter' q' (decides_unique d d').0 is)
one_error {mode = mode} {at = at} (too_deep q s e n is l) (by_rule d f) =
    absurd (let same = same_kind mode at e d in cc)
one_error (too_deep q s d n is k) (unclosed delimiter outer e l) =
    absurd (decides_nothing (rw e at d))
one_error (too_deep {rule = rule} q' s' d' n is l) (unopened delimiter' q s d misfit) =
    absurd (closes_none rule delimiter' q' (sym (decides_unique d' d).0) is)
one_error (too_deep q s d n is l) (too_deep q' s' d' n' is' l') = (refl, refl)

at_end : {mode : Mode} {at b : ℕ} {n : LexErrorKind} → RejectsAt mode [] at [] n b → ⊥
at_end (by_rule d f) = decides_nothing d
at_end (unclosed delimiter [] e l) = cc
at_end (unclosed delimiter (p ∷ outer) e l) = cc
at_end (unopened delimiter q s d misfit) = decides_nothing d
at_end (too_deep q s d n is l) = decides_nothing d

pub one_cut : {mode : Mode} {number at end to : ℕ} {text : List ℕ}
    {all others : List Item} → Cut mode number at text all end [] →
    Cut mode number at text others to [] → all ≡ others
one_cut {all = all} {others = others} c d = elim (cuts c d) [
  | inl (more, same, n) ↦ let none = cut_nil n in cc (append-nil all)
  | inr (more, same, n) ↦ let none = cut_nil n in cc (append-nil others)
]

-- two fronts where the text is refused are one
same_place : {mode : Mode} {number at b c end : ℕ} {n m : LexErrorKind} {rest after : List ℕ}
    {levels others : List (Delimiter × ℕ)} {some all more : List Item}
    → RejectsAt mode levels at rest n b → RejectsAt mode others end after m c →
    Opens number most_levels levels some → Opens number most_levels others all →
    all ≡ some ++ more → Cut mode number at rest more end after → (n ≡ m) × (b ≡ c)
same_place {some = some} f g o p same k =
    let none = no_further f o k (rw same at p) in
    let here = append-nil some in
    let level = one_left_open (rw (same, none.0, here) at p) o in
    one_error f (rw (none.2, none.1, ← level) g)

-- a front of the text is cut, with these groups open, and the rest is refused there
abbrev IsRefusedAs : ℕ → Mode → ℕ → List ℕ → LexErrorKind → ℕ → Type 0
IsRefusedAs begin mode number text why byte = (all : List Item) × (end : ℕ) × (rest : List ℕ)
    × (levels : List (Delimiter × ℕ))
    × Cut mode number begin text all end rest × Opens number most_levels levels all
    × RejectsAt mode levels end rest why byte

pub one_way : (begin : ℕ) (mode : Mode) (number : ℕ) (text : List ℕ) (n m : LexErrorKind)
    (b c : ℕ) → IsRefusedAs begin mode number text n b → IsRefusedAs begin mode number text m
    c → (n ≡ m) × (b ≡ c)
one_way begin mode number text n m b c (some, end, rest, levels, k, o, f)
    (all, to, after, others, k', p, g) =
    elim (cuts k k') [
      | inl (more, same, j) ↦ same_place f g o p same j
      | inr (more, same, j) ↦ let w = same_place g f p o same j in (sym w.0, sym w.1)
    ]

pub not_both : {mode : Mode} {begin number end byte : ℕ} {text : List ℕ} {some : List Item}
    {why : LexErrorKind} → IsForest number most_levels some →
    Cut mode number begin text some end [] → IsRefusedAs begin mode number text why byte → ⊥
not_both {some = some} f c (all, to, after, others, k, p, g) = elim (cuts c k) [
  | inl (more, same, j) ↦
      let none = cut_nil j in
      let level = one_left_open (rw (same, none.0, append-nil some) at p) (inside f) in
      at_end (rw (none.1, level) at g)
  | inr (more, same, j) ↦
      let none = no_further g p j (rw same at (inside f)) in
      let here : some ≡ all = cc (append-nil all) in
      let level = one_left_open (rw (← here) at p) (inside f) in
      at_end (rw (none.1, level) at g)
]
