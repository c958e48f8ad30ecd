-- White space and comments mean nothing, unless they are doc comments.
use Rattle.std.proofs.Common.{◌≡◌, ◌∙◌, ◌+◌, ◌-◌, ◌<◌, ◌≤◌, refl, sym, inl, inr, ℕ, List, [], ◌∷◌}
use Rattle.std.proofs.Common.{◌++◌, ap, length, length-append, append_assoc, arith}
use Rattle.std.proofs.lemmas.List.{append-nil}
use Rattle.std.proofs.lemmas.Str.{length-le-encodes}
use Rattle.std.specs.Borrow.{Bor}
use Rattle.std.specs.Str.{chars, IsUtf8}
use Rattle.tok_lexical.proofs.Heads.{spelled_one}
use Rattle.tok_lexical.specs.Characters.{is_whitespace}
use Rattle.tok_core.specs.Lexical.Items.{Item}
use Rattle.tok_lexical.specs.Pieces.{HasPrefix, Skips, ReadsLongest, IsLongestPrefix}
use Rattle.tok_lexical.specs.Fits.{IsFirstFit, here, later}
use Rattle.tok_core.specs.Lexical.Reading.{Cut, stop, piece}
use Rattle.tok_lexical.specs.declared.rule.Mode.{Mode}
use Rattle.tok_lexical.specs.declared.rule.Mode.TheVariants.{Plain}
use Rattle.tok_lexical.proofs.Slashes.{decides_line, decides_block}
use Rattle.tok_lexical.proofs.Fits.{fits_longest}
use Rattle.tok_lexical.proofs.Longest.{takes_one, list_all_push}
use Rattle.tok_lexical.proofs.Texts.{cut_length}
use Rattle.std.proofs.lemmas.Bool.{cases_eq, ne_eqb, and_parts}
use Rattle.std.proofs.Math.Bool.{and-true}
use Rattle.std.specs.Prelude.{true, false, not, ◌==◌, ◌||◌, Option, Some, None, IfSome, encode_utf8}
use Rattle.std.specs.Prelude.{encode_utf8_all}
use Rattle.std.specs.List.{list_all}
use Rattle.tok_core.specs.Private.Built.{IsBlank}
use Rattle.tok_lexical.specs.Comments.{is_line_doc, is_block_doc, is_not_line_feed, opens_line_doc}
use Rattle.tok_lexical.specs.Comments.{opens_block_doc, Closes, plain}
use Rattle.tok_lexical.specs.Errors.{error_kind}
use Rattle.tok_core.specs.Lexical.Meaning.{items}
use Rattle.tok_lexical.specs.Widths.{width}
use Rattle.tok_lexical.specs.Rules.{Spells, all_rules, rules_of}
use Rattle.tok_lexical.specs.declared.rule.Rule.{Rule}
use Rattle.tok_lexical.specs.declared.rule.Rule.TheVariants.{ByteOrderMark, Whitespace, LineComment}
use Rattle.tok_lexical.specs.declared.rule.Rule.TheVariants.{BlockComment}

-- what follows a line comment begins with a line feed
ends_line : (text body after : List ℕ) (c : ℕ) → IsLongestPrefix (Spells LineComment) text
    (47 ∷ 47 ∷ body) (c ∷ after) → list_all is_not_line_feed body ≡ true → c ≡ 10
ends_line text body after c t a = elim (cases_eq c 10) [
  | inl e ↦ e
  | inr n ↦
      let longer = list_all_push is_not_line_feed body c a (ap not (ne_eqb c 10 n)) in
      let none : c ∷ [] ≡ [] = t.longest (c ∷ []) after refl (body ++ c ∷ [], refl, longer) in
      absurd (cc)
]

line_doc : (body after : List ℕ) → ((c : ℕ) (rest : List ℕ) → after ≡ c ∷ rest → c ≡ 10) →
    is_line_doc (47 ∷ 47 ∷ (body ++ after)) ≡ is_line_doc (47 ∷ 47 ∷ body)
line_doc [] [] feed = refl
line_doc [] (x ∷ []) feed = rw (feed x [] refl) refl
line_doc [] (x ∷ y ∷ rest) feed = rw (feed x (y ∷ rest) refl) refl
line_doc (c ∷ []) [] feed = refl
line_doc (c ∷ []) (x ∷ rest) feed =
    rw (feed x rest refl) (ap (λ b. (c == 33) || b) (and-true (c == 47)))
line_doc (c ∷ d ∷ body) after feed = refl

block_doc : (body after : List ℕ) → Closes 1 body → is_block_doc (47 ∷ 42 ∷ (body ++ after))
    ≡ is_block_doc (47 ∷ 42 ∷ body)
block_doc [] after k = elim k [ ]
block_doc (c ∷ []) after (plain p k) = elim k [ ]
block_doc (c ∷ d ∷ body) after k = refl

line_piece : (text taken after : List ℕ) → IsLongestPrefix (Spells LineComment) text taken
    after → is_line_doc text ≡ is_line_doc taken
line_piece text taken after t =
    let (body, e, a) = t.spelled in
    let v : IsLongestPrefix (Spells LineComment) text (47 ∷ 47 ∷ body) after = rw e at t in
    rw (v.cut, e) (line_doc body after (λ c rest f. ends_line text body rest c (rw f at v) a))

block_piece : (text taken after : List ℕ) → IsLongestPrefix (Spells BlockComment) text taken
    after → is_block_doc text ≡ is_block_doc taken
block_piece text taken after t =
    let (body, e, k) = t.spelled in rw (t.cut, e) (block_doc body after k)

-- such a taken is not refused, adds nothing, and is as wide as its bytes
record MeansNothing (rule : Rule) (mode : Mode) (number at : ℕ) (taken after : List ℕ) : Type 0
  where
    pub passes : error_kind rule mode at taken after ≡ None
    pub adds_none : items number rule mode at taken after ≡ []
    pub wide : width rule taken ≡ length (encode_utf8_all taken)

line_nothing : (mode : Mode) (number at : ℕ) (text taken after : List ℕ) → is_line_doc text
    ≡ false → IsLongestPrefix (Spells LineComment) text taken after →
    MeansNothing LineComment mode number at taken after
line_nothing mode number at text taken after calm t =
    let none : is_line_doc taken ≡ false = sym (line_piece text taken after t) ∙ calm in
    record { passes = grind arith; adds_none = rw none refl; wide = refl }

block_nothing : (mode : Mode) (number at : ℕ) (text taken after : List ℕ) → is_block_doc text
    ≡ false → IsLongestPrefix (Spells BlockComment) text taken after →
    MeansNothing BlockComment mode number at taken after
block_nothing mode number at text taken after calm t =
    let none : is_block_doc taken ≡ false = sym (block_piece text taken after t) ∙ calm in
    record { passes = grind arith; adds_none = rw none refl; wide = refl }

pub recut : {mode : Mode} {number at end to : ℕ} {text rest after : List ℕ}
    {some others : List Item} → some ≡ others → end ≡ to → rest ≡ after →
    Cut mode number at text some end rest → Cut mode number at text others to after
recut i e r c = rw (← i, ← e, ← r) c

pub shorter : (of : List Rule) (rule : Rule) (text rest taken : List ℕ) → IsUtf8 text →
    IsUtf8 rest → IsFirstFit (chars text) of rule taken (chars rest) →
    length rest < length text
shorter of rule text rest taken u v d =
    let t = fits_longest d in
    let one = spelled_one rule taken t.spelled in
    let many = length-le-encodes taken in
    let l = cut_length text rest taken u v t.cut in
    omega arith

-- a front that one rule takes, in every mode
blank_front : (text rest : List ℕ) (rule : Rule) → IsUtf8 text → IsUtf8 rest →
    ((mode : Mode) (number at : ℕ) (taken after : List ℕ) →
    IsLongestPrefix (Spells rule) (chars text) taken after →
    MeansNothing rule mode number at taken after) →
    ((mode : Mode) → (taken : List ℕ) × IsFirstFit (chars text) (rules_of mode) rule taken
    (chars rest)) → IsBlank (chars text) (chars rest) (length text - length rest)
blank_front text rest rule u v nothings d mode number at =
    let p = d mode in
    let t = fits_longest p.1 in
    let nothing = nothings mode number at p.0 (chars rest) t in
    let l = cut_length text rest p.0 u v t.cut in
    let wide = nothing.wide in
    recut (append-nil (items number rule mode at p.0 (chars rest)) ∙ nothing.adds_none)
    (omega arith) refl (piece p.1 nothing.passes stop)

pub blank_none : (text rest : List ℕ) → rest ≡ text → IsBlank (chars text) (chars rest)
    (length text - length rest)
blank_none text rest e mode number at = rw e (recut refl (omega arith) refl stop)

-- one cut goes on from another
pub cut_then : {mode : Mode} {number at end to : ℕ} {text rest after : List ℕ}
    {some others : List Item} → Cut mode number at text some end rest →
    Cut mode number end rest others to after → Cut mode number at text (some ++ others) to after
cut_then stop d = d
cut_then (piece {more = more} e n c) d = rw (append_assoc _ more _) (piece e n (cut_then c d))

pub blank_more : (text mid rest : List ℕ) → length rest ≤ length mid → length mid ≤ length text →
    IsBlank (chars text) (chars mid) (length text - length mid) →
    IsBlank (chars mid) (chars rest) (length mid - length rest) →
    IsBlank (chars text) (chars rest) (length text - length rest)
blank_more text mid rest l m first second mode number at =
    recut refl (omega arith) refl
    (cut_then (first mode number at)
    (second mode number (at + (length text - length mid))))

first_rules : (more : List Rule) × (all_rules ≡ ByteOrderMark ∷ Whitespace ∷ more)
unfolding all_rules
first_rules = (_, refl)

decides_space : (mode : Mode) (c : ℕ) (more : List ℕ) → is_whitespace c ≡ true →
    IsFirstFit (c ∷ more) (rules_of mode) Whitespace (c ∷ []) more
decides_space mode c more h =
    rw first_rules.1 (later no_mark (here (takes_one is_whitespace (c ∷ more) more c refl h)))
  where
    no_mark : HasPrefix (Spells ByteOrderMark) (c ∷ more) → ⊥
    no_mark (front, after, cut, (d, pass, e)) = let same : c ≡ d = cc in grind arith

cut_spaces : (mode : Mode) (number at : ℕ) (front after : List ℕ) →
    list_all is_whitespace front ≡ true → Cut mode number at (front ++ after) []
    (at + length (encode_utf8_all front)) after
cut_spaces mode number at [] after h = recut refl (omega arith) refl stop
cut_spaces mode number at (x ∷ front) after h =
    let space = and_parts (is_whitespace x) (list_all is_whitespace front) h in
    let wide : length (encode_utf8_all (x ∷ [])) ≡ length (encode_utf8 x) =
    ap length (append-nil (encode_utf8 x)) in
    let both = length-append (encode_utf8 x) (encode_utf8_all front) in
    recut refl (omega arith) refl (piece (decides_space mode x (front ++ after) space.0) refl
    (cut_spaces mode number (at + length (encode_utf8_all (x ∷ []))) front after space.1))

pub blank_spaces : (text rest : List ℕ) → IsUtf8 text → IsUtf8 rest → (front : List ℕ)
    × Skips is_whitespace (chars text) front (chars rest) → IsBlank (chars text) (chars rest)
    (length text - length rest)
blank_spaces text rest u v (front, skips) mode number at =
    let l = cut_length text rest front u v skips.cut in
    rw skips.cut
    (recut refl (omega arith) refl (cut_spaces mode number at front (chars rest) skips.pass))

pub line_front : (mode : Mode) (text after body rest : List ℕ) →
    chars text ≡ 47 ∷ chars after → chars after ≡ 47 ∷ chars body → (front : List ℕ)
    × Skips is_not_line_feed (chars body) front (chars rest) → (taken : List ℕ)
    × IsFirstFit (chars text) (rules_of mode) LineComment taken (chars rest)
line_front mode text after body rest e f skips =
    let d = decides_line mode (chars after) (chars body) (chars rest) f skips in
    (d.0, rw e d.1)

pub blank_line : (text after body rest : List ℕ) → IsUtf8 text → IsUtf8 rest →
    chars text ≡ 47 ∷ chars after → chars after ≡ 47 ∷ chars body → opens_line_doc (chars body)
    ≡ false → (front : List ℕ) × Skips is_not_line_feed (chars body) front (chars rest) →
    IsBlank (chars text) (chars rest) (length text - length rest)
blank_line text after body rest u v e f calm skips =
    blank_front text rest LineComment u v
    (λ mode number at taken rest. line_nothing mode number at (chars text) taken rest
    (rw (e, f) calm))
    (λ mode. line_front mode text after body rest e f skips)

block_front : (mode : Mode) (text after body rest : List ℕ) → chars text ≡ 47 ∷ chars after →
    chars after ≡ 42 ∷ chars body → (front : List ℕ) × IsLongestPrefix (Closes 1) (chars body)
    front (chars rest) → (taken : List ℕ) × IsFirstFit (chars text) (rules_of mode)
    BlockComment taken (chars rest)
block_front mode text after body rest e f closed =
    let d = decides_block mode (chars after) (chars body) (chars rest) f closed in (d.0, rw e d.1)

-- a block comment, where one ends
module _ (text after body : List ℕ) (u : IsUtf8 text) (e : chars text ≡ 47 ∷ chars after)
    (f : chars after ≡ 42 ∷ chars body) where
  pub blank_block : (answer : Option (Bor (List ℕ))) → ReadsLongest (Closes 1) (chars body)
      answer → IfSome answer (λ rest. IsUtf8 rest.now) → opens_block_doc (chars body) ≡ false →
      IfSome answer
      (λ rest. IsBlank (chars text) (chars rest.now) (length text - length rest.now))
  blank_block None t v calm = tt
  blank_block (Some rest) t v calm =
      blank_front text rest.now BlockComment u v
      (λ mode number at taken rest. block_nothing mode number at (chars text) taken rest
      (rw (e, f) calm))
      (λ mode. block_front mode text after body rest.now e f t)

  pub shorter_block : (answer : Option (Bor (List ℕ))) → ReadsLongest (Closes 1) (chars body)
      answer → IfSome answer (λ rest. IsUtf8 rest.now) →
      IfSome answer (λ rest. length rest.now < length text)
  shorter_block None t v = tt
  shorter_block (Some rest) t v =
      let d = block_front Plain text after body rest.now e f t in
      shorter (rules_of Plain) BlockComment text rest.now d.0 u v d.1
