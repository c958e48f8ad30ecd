-- Entries and texts denote one forest.
use Rattle.std.proofs.Common.{◌≡◌, ℕ, ◌+◌, ◌-◌, ◌<◌, Bool, true, false, List, [], ◌∷◌, ◌++◌, length}
use Rattle.std.proofs.Common.{get_or, drop, refl, ap, sym, arith, append_assoc}
use Rattle.std.proofs.Math.Seq.{take-append_seam, drop-append_seam}
use Rattle.std.proofs.lemmas.Str.{encode_ascii}
use Rattle.std.specs.Prelude.{cond, nat_lt, encode_utf8}
use Rattle.tok_lexical.specs.Characters.{is_punct_or_apostrophe}
use Rattle.tok_lexical.specs.declared.delimiter.Delimiter.{Delimiter}
use Rattle.tok_lexical.specs.declared.delimiter.Delimiter.TheVariants as delimiters
use Rattle.tok_leaves.specs.declared.span.Span.{Span}
use Rattle.tok_leaves.specs.declared.punct.Spacing.{Spacing}
use Rattle.tok_leaves.specs.declared.punct.Spacing.TheVariants.{Alone, Joint}
use Rattle.tok_leaves.specs.Leaves.{Leaf, ident, punct, literal, leaf_span, leaf_text, leaf_spacing}
use Rattle.tok_leaves.specs.Spans.{source, opening_span, closing_span}
use Rattle.tok_core.specs.Forest.{Tree, leaf, group, Forest, no_trees, tree}
use Rattle.tok_core.specs.Weight.{weight}
use Rattle.tok_entries.specs.declared.entry.Entry.{Entry}
use Rattle.tok_entries.specs.Denotes.{Denotes}
use Rattle.tok_entries.specs.Entries.{edge, entries, texts, tree_entries, tree_texts, leaf_entry}
use Rattle.tok_entries.specs.Entries.{leaf_kind, spacing_number, delimiter_code, first_byte, end_byte}
use Rattle.tok_entries.specs.Texts.{IsForestIn, IsInSource, IsLeafText, IsTreeIn}
use Rattle.tok_entries.proofs.Fillings.{length-entries}

pub head : {A : Type 0} (x y : A) (xs ys : List A) → x ∷ xs ≡ y ∷ ys → x ≡ y
head x y xs ys e = ap (λ l. get_or l 0 x) e

pub tail : {A : Type 0} (x y : A) (xs ys : List A) → x ∷ xs ≡ y ∷ ys → xs ≡ ys
tail x y xs ys e = ap (λ l. drop 1 l) e

-- two lists that begin with lists of one length
pub fronts : {A : Type 0} (xs ys zs ws : List A) → length xs ≡ length ys → xs ++ zs ≡ ys ++ ws
    → xs ≡ ys
fronts xs ys zs ws h e =
    cc (take-append_seam xs zs, take-append_seam ys ws)

pub rests : {A : Type 0} (xs ys zs ws : List A) → length xs ≡ length ys → xs ++ zs ≡ ys ++ ws
    → zs ≡ ws
rests xs ys zs ws h e =
    cc (drop-append_seam xs zs, drop-append_seam ys ws)

pub span_once : (s r : Span) → IsInSource s → IsInSource r → first_byte s ≡ first_byte r
    → end_byte s ≡ end_byte r → s ≡ r
span_once s r (a, b, le, hs) (c, d, ge, hr) e f =
    let ea : a ≡ c = rw (hs, hr) at e in
    let eb : b ≡ d = rw (hs, hr) at f in
    cc

pub opening_first : (a b : ℕ) → first_byte (opening_span (source 0 a b)) ≡ a
opening_first a b = elim (nat_lt a b) as
    (λ (t : Bool). first_byte (cond t (source 0 a (a + 1)) (source 0 a b)) ≡ a)
    [ true ↦ refl | false ↦ refl ]

pub closing_last : (a b : ℕ) → end_byte (closing_span (source 0 a b)) ≡ b
closing_last a b = elim (nat_lt a b) as
    (λ (t : Bool). end_byte (cond t (source 0 (b - 1) b) (source 0 a b)) ≡ b)
    [ true ↦ refl | false ↦ refl ]

group_span_once : (s r : Span) → IsInSource s → IsInSource r
    → first_byte (opening_span s) ≡ first_byte (opening_span r)
    → end_byte (closing_span s) ≡ end_byte (closing_span r) → s ≡ r
group_span_once s r (a, b, le, hs) (c, d, ge, hr) e f =
    let ea : a ≡ c = cc (opening_first a b, opening_first c d) in
    let eb : b ≡ d = cc (closing_last a b, closing_last c d) in
    cc

pub delimiter_once : (d e : Delimiter) → delimiter_code d ≡ delimiter_code e → d ≡ e
delimiter_once delimiters.Parenthesis delimiters.Parenthesis h = refl
delimiter_once delimiters.Brace delimiters.Brace h = refl
delimiter_once delimiters.Bracket delimiters.Bracket h = refl
delimiter_once delimiters.None delimiters.None h = refl
delimiter_once d e h = absurd (omega (arith, h))

pub punct_is_small : (c : ℕ) → is_punct_or_apostrophe c ≡ true → c < 128
punct_is_small c h = grind (arith, h)

pub spacing_once : (p q : Spacing) → spacing_number p ≡ spacing_number q → p ≡ q
spacing_once Alone Alone h = refl
spacing_once Joint Joint h = refl
spacing_once p q h = absurd (omega (arith, h))

-- what two leaves share, of which the entries are equal and the texts begin alike
module _ (at : ℕ) (l m : Leaf) (bs cs : List ℕ) (e : leaf_entry at l ≡ leaf_entry at m)
    (h : leaf_text l ++ bs ≡ leaf_text m ++ cs) where
  pub same_length : length (leaf_text l) ≡ length (leaf_text m)
  same_length =
      let k : at + length (leaf_text l) ≡ at + length (leaf_text m) = ap (λ x. x.text_end) e in
      omega (arith, k)

  pub same_text : leaf_text l ≡ leaf_text m
  same_text = fronts (leaf_text l) (leaf_text m) bs cs same_length h

  same_rest : bs ≡ cs
  same_rest = rests (leaf_text l) (leaf_text m) bs cs same_length h

  same_kind : leaf_kind l ≡ leaf_kind m
  same_kind = ap (λ x. x.kind) e

  same_spacing : leaf_spacing l ≡ leaf_spacing m
  same_spacing = spacing_once (leaf_spacing l) (leaf_spacing m) (ap (λ x. x.spacing) e)

  same_span : IsInSource (leaf_span l) → IsInSource (leaf_span m) → leaf_span l ≡ leaf_span m
  same_span p q =
      span_once (leaf_span l) (leaf_span m) p q (ap (λ x. x.start) e) (ap (λ x. x.end) e)

pub leaf_once : (at : ℕ) (l m : Leaf) (bs cs : List ℕ) → leaf_entry at l ≡ leaf_entry at m
    → leaf_text l ++ bs ≡ leaf_text m ++ cs → IsLeafText l → IsLeafText m
    → IsInSource (leaf_span l) → IsInSource (leaf_span m) → l ≡ m
leaf_once at (ident t s) (ident u r) bs cs e h a b p q =
    cc (
      same_text at (ident t s) (ident u r) bs cs e h,
      same_span at (ident t s) (ident u r) bs cs e h p q,
    )
leaf_once at (literal t s) (literal u r) bs cs e h a b p q =
    cc (
      same_text at (literal t s) (literal u r) bs cs e h,
      same_span at (literal t s) (literal u r) bs cs e h p q,
    )
leaf_once at (punct c s v) (punct d t w) bs cs e h a b p q =
    let k : encode_utf8 c ≡ encode_utf8 d =
    same_text at (punct c s v) (punct d t w) bs cs e h in
    let n : c ∷ [] ≡ d ∷ [] =
    cc (encode_ascii c (punct_is_small c a), encode_ascii d (punct_is_small d b)) in
    cc (
      same_spacing at (punct c s v) (punct d t w) bs cs e h,
      same_span at (punct c s v) (punct d t w) bs cs e h p q,
    )
leaf_once at l m bs cs e h a b p q = absurd (omega (arith, same_kind at l m bs cs e h))

pub leaf_is_small : (l : Leaf) → leaf_kind l < 3
leaf_is_small (ident t s) = omega arith
leaf_is_small (punct c s v) = omega arith
leaf_is_small (literal t s) = omega arith

pub none : (at : ℕ) (t : Tree) (f : Forest) → entries at (tree t f) ≡ [] → ⊥
none at (leaf l) f e =
    let k : length (entries at (tree (leaf l) f)) ≡ 0 = ap (λ x. length x) e in
    let w : length (entries at (tree (leaf l) f)) ≡ 1 + weight f =
    length-entries at (tree (leaf l) f) in
    omega (arith, k, w)
none at (group d g s) f e =
    let k : length (entries at (tree (group d g s) f)) ≡ 0 = ap (λ x. length x) e in
    let w : length (entries at (tree (group d g s) f)) ≡ (2 + weight g) + weight f =
    length-entries at (tree (group d g s) f) in
    omega (arith, k, w)

mutual
  pub tree_once : (at : ℕ) (t u : Tree) (xs ys : List Entry) (bs cs : List ℕ)
      → tree_entries at t ++ xs ≡ tree_entries at u ++ ys
      → tree_texts t ++ bs ≡ tree_texts u ++ cs → IsTreeIn t → IsTreeIn u
      → (t ≡ u) × (xs ≡ ys) × (bs ≡ cs)
  tree_once at (leaf l) (leaf m) xs ys bs cs e h (a, p) (b, q) =
      let k : leaf_entry at l ≡ leaf_entry at m = head _ _ _ _ e in (
        cc (leaf_once at l m bs cs k h a b p q),
        tail _ _ _ _ e,
        same_rest at l m bs cs k h,
      )
  tree_once at (leaf l) (group d f s) xs ys bs cs e h a b =
      let k : leaf_kind l ≡ 3 = ap (λ x. x.kind) (head _ _ _ _ e) in
      absurd (omega (arith, k, leaf_is_small l))
  tree_once at (group d f s) (leaf l) xs ys bs cs e h a b =
      let k : 3 ≡ leaf_kind l = ap (λ x. x.kind) (head _ _ _ _ e) in
      absurd (omega (arith, k, leaf_is_small l))
  tree_once at (group d f s) (group c g r) xs ys bs cs e h (a, p) (b, q) =
      let z = edge 4 d (closing_span s) (at + length (texts f)) (weight f + 1) in
      let w = edge 4 c (closing_span r) (at + length (texts g)) (weight g + 1) in
      let o : edge 3 d (opening_span s) at (weight f + 1)
      ≡ edge 3 c (opening_span r) at (weight g + 1) = head _ _ _ _ e in
      let n : weight f + 1 ≡ weight g + 1 = ap (λ x. x.distance) o in
      let m : length (entries at f) ≡ length (entries at g) =
      omega (arith, n, length-entries at f, length-entries at g) in
      let i : entries at f ++ z ∷ xs ≡ entries at g ++ w ∷ ys =
      cc (append_assoc (entries at f) (z ∷ []) xs, append_assoc (entries at g) (w ∷ []) ys) in
      let ins : entries at f ≡ entries at g =
      fronts (entries at f) (entries at g) (z ∷ xs) (w ∷ ys) m i in
      let outs : z ∷ xs ≡ w ∷ ys =
      rests (entries at f) (entries at g) (z ∷ xs) (w ∷ ys) m i in
      let zw : z ≡ w = head z w xs ys outs in
      let (fg, rest) = forest_once at f g bs cs ins h a b in
      let ds : d ≡ c = delimiter_once d c (ap (λ x. x.delimiter) o) in
      let sr : s ≡ r =
      group_span_once s r p q (ap (λ x. x.start) o) (ap (λ x. x.end) zw) in (
        cc,
        tail z w xs ys outs,
        rest,
      )

  -- the same entries, and texts that begin alike, are of one forest
  forest_once : (at : ℕ) (f g : Forest) (bs cs : List ℕ) → entries at f ≡ entries at g
      → texts f ++ bs ≡ texts g ++ cs → IsForestIn f → IsForestIn g → (f ≡ g) × (bs ≡ cs)
  forest_once at no_trees no_trees bs cs e h a b = (refl, h)
  forest_once at no_trees (tree u g) bs cs e h a b =
      absurd (none at u g (sym e))
  forest_once at (tree t f) no_trees bs cs e h a b =
      absurd (none at t f e)
  forest_once at (tree t f) (tree u g) bs cs e h (a, c) (b, d) =
      let k : tree_texts t ++ (texts f ++ bs) ≡ tree_texts u ++ (texts g ++ cs) =
      cc (append_assoc (tree_texts t) (texts f) bs, append_assoc (tree_texts u) (texts g) cs) in
      let (tu, xs, ts) = tree_once at t u (entries (at + length (tree_texts t)) f)
      (entries (at + length (tree_texts u)) g) (texts f ++ bs) (texts g ++ cs) e k a b in
      let ys : entries (at + length (tree_texts u)) f ≡ entries (at + length (tree_texts u)) g =
      cc in
      let (fg, rest) = forest_once (at + length (tree_texts u)) f g bs cs ys ts c d in
      (cc, rest)

pub denoted_once : (es : List Entry) (bs : List ℕ) (f g : Forest) → Denotes es bs f
    → Denotes es bs g → f ≡ g
denoted_once es bs f g (ef, tf, af, lf) (eg, tg, ag, lg) =
    (forest_once 0 f g [] [] (cc) (cc) af ag).0
