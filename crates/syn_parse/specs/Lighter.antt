-- What is taken makes what is ahead weigh less, or no more.
use Rattle.std.proofs.Common.{◌≡◌, ap, subst, refl, arith, ℕ, ◌+◌, ◌<◌, ◌||◌, Bool, true, false}
use Rattle.std.proofs.Common.{List, [], ◌∷◌, ◌++◌, Option, Some, None}
use Rattle.std.proofs.lemmas.Bool.{false≢true}
use Rattle.tok_lexical.specs.declared.delimiter.Delimiter.{Delimiter}
use Rattle.tok_leaves.specs.declared.span.Span.{Span}
use Rattle.tok_core.specs.Forest.{Tree, leaf, group, Forest, tree}
use Rattle.tok_core.specs.Weight.{weight, tree_weight}
use Rattle.tok_buffer.specs.EachRead.{and_first, first_if, first_keyword, first_lifetime}
use Rattle.tok_buffer.specs.EachRead.{first_puncts}
use Rattle.tok_buffer.specs.Entry.{EnteredWith}
use Rattle.tok_buffer.specs.InFront.{first_group}
use Rattle.tok_buffer.specs.Reads.{is_joint_of, is_punct_of}
use Rattle.syn_parse.specs.Positions.{Missing}
use Rattle.syn_parse.specs.TreesAhead.{Ahead}
use Rattle.syn_parse.specs.Takings.{Lessens, Lightens, Lowers}
use Rattle.syn_parse.specs.Takes.{Taking, ◌>>=◌, gives, refuses, refuses_at, take_by, take_group}
use Rattle.syn_parse.specs.Takes.{where_ahead}
use Rattle.syn_parse.specs.Tokens.{TokenKind, any_ident, any_lifetime, ident, keyword, lifetime}
use Rattle.syn_parse.specs.Tokens.{literal, own, punct, punctuation, take_token}

-- a parser that takes something adds nothing to what is ahead
pub lightens_lower : {A : Type 0} (take : Taking A) → Lowers take → Lightens take
lightens_lower take h = record { less = λ a b v e. omega (arith, h.less a b v e) }

-- a parser adds nothing if either is known of it
pub lightens : (strict : Bool) {A : Type 0} (take : Taking A) → Lessens strict take → Lightens take
lightens strict take h = grind (arith, lightens_lower)

-- a value that takes no tree adds nothing to what is ahead
pub lightens_gives : {A : Type 0} (v : A) → Lightens (gives v)
lightens_gives v = record { less = λ a b w e. let k : a ≡ b = cc in rw k (omega arith) }

-- a parser that always fails at the next token finds no value
pub lessens_refuses : {strict : Bool} {A : Type 0} (words : List ℕ)
    → Lessens strict {A = A} (refuses words)
lessens_refuses words = record { less = λ a b w e. absurd (cc) }

-- nor does one that always fails at a given span
pub lessens_refuses_at : {strict : Bool} {A : Type 0} (span : Span) (words : List ℕ)
    → Lessens strict {A = A} (refuses_at span words)
lessens_refuses_at span words = record { less = λ a b w e. absurd (cc) }

-- two parsers in turn take something if one does and the other adds nothing; they add nothing if
-- neither does
pub lessens_then : (x y : Bool) {A B : Type 0} (m : Taking A) (k : A → Taking B) → Lessens x m
    → ((v : A) → Lessens y (k v)) → Lessens (x || y) (m >>= k)
lessens_then x y {A} {B} m k h g = grind arith

-- two parsers in turn take something if the first does, and the second adds nothing
pub lessens_bind : {strict : Bool} {A B : Type 0} (m : Taking A) (k : A → Taking B)
    → Lessens strict m → ((v : A) → Lightens (k v)) → Lessens strict (m >>= k)
lessens_bind {strict = false} m k h g = lessens_then false false m k h g
lessens_bind {strict = true} m k h g = lessens_then true false m k h g

-- a choice takes something if both branches do; it adds nothing if neither branch does
pub lessens_where : {strict : Bool} {A : Type 0} (test : Ahead → Bool) (m n : Taking A)
    → Lessens strict m → Lessens strict n → Lessens strict (where_ahead test m n)
lessens_where {strict} {A} test m n h g = grind arith

-- a read of trees, with the trees after them
abbrev Reading : Type 0
Reading = Forest → Option (List Tree × Forest)

-- less is left after each read
abbrev Shorter : Reading → Type 0
Shorter read = (f : Forest) (r : List Tree × Forest) → read f ≡ Some r → weight r.1 < weight f

-- each tree weighs something
tree-counts : (t : Tree) → 0 < tree_weight t
tree-counts (leaf l) = omega arith
tree-counts (group d inside span) = omega arith

-- equal reads leave equal trees
some-rest : {A B : Type 0} {x y : A × B} → Some x ≡ Some y → x.1 ≡ y.1
some-rest {A} {B} {x} {y} e = let k : x ≡ y = cc in ap (λ p. p.1) k

-- less is left after the first tree
pub if-shorter : (wanted : Tree → Bool) → Shorter (first_if wanted)
if-shorter wanted h r e = grind (arith, some-rest, tree-counts)

-- less is left after a keyword
word-shorter : (text : List ℕ) → Shorter (first_keyword text)
word-shorter text f r e = grind (arith, if-shorter)

-- less is left after two reads
and-shorter : (f : Forest) (g : Reading) → Shorter g → (x : Option (List Tree × Forest))
    → ((q : List Tree × Forest) → x ≡ Some q → weight q.1 < weight f) → (r : List Tree × Forest)
    → and_first x g ≡ Some r → weight r.1 < weight f
and-shorter f g h None k r e = absurd (cc)
and-shorter f g h (Some q) k r e = go (g q.1) refl e where
  go : (y : Option (List Tree × Forest)) → g q.1 ≡ y
      → elim y [ Some p ↦ Some (q.0 ++ p.0, p.1) | None ↦ None ] ≡ Some r → weight r.1 < weight f
  go None m e = absurd (cc)
  go (Some p) m e =
      subst (λ z. weight z < weight f) (some-rest e) (omega (arith, h q.1 p m, k q refl))

-- less is left after a punctuation
puncts-shorter : (text : List ℕ) → Shorter (first_puncts text)
puncts-shorter [] f r e = absurd (cc)
puncts-shorter (c ∷ []) f r e = if-shorter (is_punct_of c) f r e
puncts-shorter (c ∷ (d ∷ cs)) f r e =
    and-shorter f (first_puncts (d ∷ cs)) (puncts-shorter (d ∷ cs)) (first_if (is_joint_of c) f)
    (λ q k. if-shorter (is_joint_of c) f q k) r e

-- less is left after a lifetime
lifetime-shorter : (wanted : List ℕ → Bool) → Shorter (first_lifetime wanted)
lifetime-shorter wanted f r e = grind (arith, and-shorter, if-shorter)

-- a parser of a read takes something if less is left after the read
pub by-lowers : {T : Type 0} (read : Reading) (means : List Tree → T) (lack : Forest → Missing)
    → Shorter read → Lowers (take_by read means lack)
by-lowers {T} read means lack h = grind arith

-- a parse of a token takes something
pub lowers_token : {A : Type 0} (t : TokenKind A) → Lowers (take_token t)
unfolding take_token
lowers_token ident = by-lowers _ _ _ (if-shorter _)
lowers_token any_ident = by-lowers _ _ _ (if-shorter _)
lowers_token lifetime = by-lowers _ _ _ (lifetime-shorter _)
lowers_token any_lifetime = by-lowers _ _ _ (lifetime-shorter _)
lowers_token literal = by-lowers _ _ _ (if-shorter _)
lowers_token punct = by-lowers _ _ _ (if-shorter _)
lowers_token (own text) = by-lowers _ _ _ (word-shorter _)
lowers_token (keyword k) = by-lowers _ _ _ (word-shorter _)
lowers_token (punctuation k n) = by-lowers _ _ _ (puncts-shorter _)

-- a parse of a token adds nothing to what is ahead
pub lightens_token : {A : Type 0} (t : TokenKind A) → Lightens (take_token t)
lightens_token t = lightens_lower (take_token t) (lowers_token t)

-- the first group is the first tree, and has the delimiter that is asked for
pub group_is_first : (d : Delimiter) (f : Forest) (e : EnteredWith Forest)
    → first_group d f ≡ Some e → (f ≡ tree (group d e.content e.span) e.after) × (e.delimiter ≡ d)
group_is_first d f e h = grind (arith, false≢true)

-- a group weighs more than what is inside and what is after it
pub group_weighs : (d : Delimiter) (f : Forest) (e : EnteredWith Forest) → first_group d f ≡ Some e
    → weight e.content + weight e.after < weight f
group_weighs d f e h = grind (arith, group_is_first)

-- a parser of a group takes something, even if the group is empty
pub lowers_group : {A : Type 0} (d : Delimiter) (inner : Taking A) → Lowers (take_group d inner)
unfolding take_group
lowers_group {A} d inner = grind (arith, group_weighs)

-- a parse of a group adds nothing to what is ahead
pub lightens_group : {A : Type 0} (d : Delimiter) (inner : Taking A) → Lightens (take_group d inner)
lightens_group d inner = lightens_lower (take_group d inner) (lowers_group d inner)

-- with these, `search` proves that what is built of tokens and groups adds nothing
pub ruleset lightening = (
  lightens_gives,
  lessens_refuses,
  lessens_refuses_at,
  lessens_bind,
  lessens_where,
  lightens_token,
  lightens_group,
)

-- with these, `search` proves that it takes something
pub ruleset lowering = (lightening, lowers_token, lowers_group)
