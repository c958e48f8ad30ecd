-- Where a source begins.
use Rattle.std.proofs.Common.{◌≡◌, ◌∙◌, ◌<◌, ℕ, suc, List, [], ◌∷◌, ◌++◌, refl, sym, ap, arith}
use Rattle.std.proofs.Common.{true, false, Bool, length, append_assoc}
use Rattle.std.specs.Prelude.{◌==◌, MatchBool}
use Rattle.std.proofs.lemmas.Bool.{cond_both, false≢true, eqb-true}
use Rattle.tok_lexical.specs.Characters.{is_whitespace}
use Rattle.tok_lexical.specs.Comments.{is_not_line_feed}
use Rattle.tok_lexical.specs.Pieces.{Skips, begins_with}
use Rattle.tok_lexical.specs.Fits.{IsFirstFit, here, later, NoneBefore}
use Rattle.tok_lexical.specs.Rules.{rules_of}
use Rattle.tok_lexical.specs.declared.edition.Edition.TheVariants.{Edition2021}
use Rattle.tok_lexical.specs.Sources.{is_blank_piece, Blanks, over, blank, OpensAttribute, Begins}
use Rattle.tok_lexical.specs.Sources.{shebang, no_shebang, past_mark, BeginsAt}
use Rattle.tok_lexical.specs.declared.rule.Mode.TheVariants.{Source}
use Rattle.tok_lexical.specs.declared.rule.Rule.{Rule}
use Rattle.tok_lexical.specs.declared.rule.Rule.TheVariants.{Whitespace, LineComment, BlockComment}
use Rattle.tok_lexical.proofs.EscapedChars.{heads, tails}
use Rattle.std.specs.Str.{chars, IsUtf8}
use Rattle.std.proofs.lemmas.Str.{length-le-encodes}
use Rattle.tok_lexical.proofs.Texts.{cut_length}
use Rattle.tok_lexical.proofs.Fits.{fits_longest, decides_unique}
use Rattle.tok_lexical.proofs.Heads.{spelled_one}
use Rattle.tok_lexical.proofs.Digits.{all_stops}

-- no blank piece is at the front of the text
abbrev pub IsLast : List ℕ → Type 0
IsLast text = (rule : Rule) → (taken after : List ℕ) →
    IsFirstFit text (rules_of (Source Edition2021))
    rule taken after → is_blank_piece rule taken ≡ true → ⊥

-- pieces after others
blanks_more : {text mid rest : List ℕ} → Blanks text mid → Blanks mid rest → Blanks text rest
blanks_more over b = b
blanks_more (blank d h a) b = blank d h (blanks_more a b)

-- one more such piece
pub blanks_one : {text mid rest : List ℕ} {rule : Rule} {taken : List ℕ} → Blanks text mid →
    IsFirstFit mid (rules_of (Source Edition2021)) rule taken rest → is_blank_piece rule taken
    ≡ true → Blanks text rest
blanks_one b d h = blanks_more b (blank d h over)

pub last_found : {text taken rest : List ℕ} {rule : Rule} →
    IsFirstFit text (rules_of (Source Edition2021)) rule taken rest → is_blank_piece rule taken
    ≡ false → IsLast text
last_found {taken = taken} d h q front after e k =
    let w = decides_unique d e in
    false≢true (rw (w.0, w.1) at (sym h) ∙ k)

pub none_decides : (rules : List Rule) (text : List ℕ) (rule : Rule) (piece rest : List ℕ)
    → NoneBefore rules text (length rules) → IsFirstFit text rules rule piece rest → ⊥
none_decides [] text rule piece rest n d = elim d [ ]
none_decides (r ∷ rules) text rule piece rest n (here t) =
    n.none 0 r (omega arith) (omega arith) (piece, rest, t.cut, t.spelled)
none_decides (r ∷ rules) text rule piece rest n (later m d) =
    none_decides rules text rule piece rest
    (record { none = λ j q k l. n.none (suc j) q (omega arith) (omega arith) }) d

pub last_none : (text : List ℕ) → NoneBefore (rules_of (Source Edition2021)) text
    (length (rules_of (Source Edition2021))) → IsLast text
last_none text n other front after d h = none_decides
    (rules_of (Source Edition2021)) text other front after n d

pub shorter_piece : (text rest : List ℕ) (rule : Rule) (taken : List ℕ) → IsUtf8 text →
    IsUtf8 rest → IsFirstFit (chars text) (rules_of (Source Edition2021)) rule taken (chars rest) →
    length rest < length text
shorter_piece text rest rule taken u v d =
    let t = fits_longest d in
    let one = spelled_one rule taken t.spelled in
    let many = length-le-encodes taken in
    let l = cut_length text rest taken u v t.cut in
    omega arith

-- such pieces end at one place
blanks_same : {text one other : List ℕ} → Blanks text one → IsLast one → Blanks text other →
    IsLast other → one ≡ other
blanks_same over n over m = refl
blanks_same over n (blank d h b) m = absurd (n _ _ _ d h)
blanks_same (blank d h a) n over m = absurd (m _ _ _ d h)
blanks_same {one = one} {other = other} (blank d h a) n (blank d' h' b) m =
    let w = decides_unique d d' in
    blanks_same (rw w.2 at a) n b m

-- a bracket is no such piece
bracket_last : (after : List ℕ) → IsLast (91 ∷ after)
bracket_last after rule taken rest d h = go rule d h
  where
    go : (rule : Rule) → IsFirstFit (91 ∷ after) (rules_of (Source Edition2021)) rule taken rest →
        is_blank_piece rule taken ≡ true → ⊥
    go Whitespace d h =
        let t = fits_longest d in
        let s = t.spelled in
        let head : 91 ≡ s.0 = cc (t.cut, s.2) in
        false≢true (ap is_whitespace head ∙ s.1)
    go LineComment d h =
        let t = fits_longest d in
        let whole : 91 ∷ after ≡ 47 ∷ 47 ∷ (t.spelled.0 ++ rest) = cc (t.cut, t.spelled.1) in
        omega (arith, heads 91 47 _ _ whole)
    go BlockComment d h =
        let t = fits_longest d in
        let whole : 91 ∷ after ≡ 47 ∷ 42 ∷ (t.spelled.0 ++ rest) = cc (t.cut, t.spelled.1) in
        omega (arith, heads 91 47 _ _ whole)
    go rule d h = absurd (false≢true h)

bracket_opens : (text rest : List ℕ) → begins_with 91 rest ≡ true → Blanks text rest →
    OpensAttribute text
bracket_opens text [] h b = absurd (false≢true h)
bracket_opens text (c ∷ rest) h b = (rest, rw (eqb-true c 91 h) at b)

pub attribute : (text rest : List ℕ) (found : Bool) → found ≡ begins_with 91 rest →
    Blanks text rest → IsLast rest → MatchBool found (OpensAttribute text) (OpensAttribute text →
    ⊥)
attribute text rest true e b n = bracket_opens text rest (sym e) b
attribute text rest false e b n = λ (after, c).
    let same = blanks_same b n c (bracket_last after) in
    false≢true (e ∙ ap (begins_with 91) same)

pub line_after : (text rest line : List ℕ) → text ≡ 35 ∷ 33 ∷ rest → (OpensAttribute rest → ⊥) →
    (front : List ℕ) × Skips is_not_line_feed text front line → Begins text line
line_after text rest line e n (front, s) = shebang (rest, e, n) s

pub not_begun : (text : List ℕ) → ((more : List ℕ) → text ≡ 35 ∷ 33 ∷ more → ⊥) → Begins text text
not_begun text n = no_shebang (λ (rest, e, o). n rest e)

pub is_attribute : (text rest : List ℕ) → text ≡ 35 ∷ 33 ∷ rest → OpensAttribute rest →
    Begins text text
is_attribute text rest e o = no_shebang (λ (other, f, n).
    n (rw (tails 33 33 rest other (tails 35 35 _ _ (sym e ∙ f))) at o))

-- a source begins at one place
skips_same : (text one other front other_front : List ℕ) → Skips is_not_line_feed text front
    one → Skips is_not_line_feed text other_front other → one ≡ other
skips_same text one other front other_front s t =
    (all_stops is_not_line_feed front other_front one other s.pass t.pass s.stops t.stops
    (sym s.cut ∙ t.cut)).1

pub begins_once : {text one other : List ℕ} → Begins text one → Begins text other → one ≡ other
begins_once {text} {one} {other} (shebang {front = f} i s) (shebang {front = g} j t) =
    skips_same text one other f g s t
begins_once (shebang i s) (no_shebang n) = absurd (n i)
begins_once (no_shebang n) (shebang i s) = absurd (n i)
begins_once (no_shebang n) (no_shebang m) = refl

-- what comes before is a front of the text
begins_cut : {text rest : List ℕ} → Begins text rest → (front : List ℕ) × (text ≡ front ++ rest)
begins_cut (shebang {front = front} i s) = (front, s.cut)
begins_cut (no_shebang n) = ([], refl)

mark_cut : (text : List ℕ) → (front : List ℕ) × (text ≡ front ++ past_mark text)
mark_cut [] = ([], refl)
mark_cut (c ∷ text) = cond_both (c == 0xFEFF) text (c ∷ text)
    (λ rest. (front : List ℕ) × (c ∷ text ≡ front ++ rest)) (λ e. (c ∷ [], refl)) (λ e. ([], refl))

pub source_cut : (text rest : List ℕ) → BeginsAt text rest → (front : List ℕ)
    × (text ≡ front ++ rest)
source_cut text rest b =
    let m = mark_cut text in
    let c = begins_cut b in
    (m.0 ++ c.0, cc (m.1, c.1, append_assoc m.0 c.0 rest))
