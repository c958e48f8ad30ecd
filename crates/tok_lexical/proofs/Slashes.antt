-- What begins with a slash.
use Rattle.std.proofs.Common.{◌≡◌, ◌∙◌, ◌++◌, refl, sym, ℕ, List, [], ◌∷◌, ap, arith}
use Rattle.std.proofs.lemmas.Bool.{false≢true, eqb-true}
use Rattle.std.specs.Prelude.{false, ◌==◌, ◌||◌}
use Rattle.unicode_ident.proofs.IdentLemmas.{is_xid_start-ascii}
use Rattle.tok_lexical.specs.Characters.{is_punct}
use Rattle.tok_lexical.specs.Comments.{Closes, IsLineComment, IsBlockComment, is_not_line_feed}
use Rattle.tok_lexical.specs.Following.{begins_comment}
use Rattle.tok_lexical.specs.Pieces.{HasPrefix, IsLongestPrefix, Skips}
use Rattle.tok_lexical.specs.Fits.{IsFirstFit, here, later}
use Rattle.tok_lexical.specs.Rules.{Spells, rules_of}
use Rattle.tok_lexical.specs.Words.{IsIdentifier}
use Rattle.tok_lexical.specs.Private.Starts.{start_of}
use Rattle.tok_lexical.specs.declared.rule.Mode.{Mode}
use Rattle.tok_lexical.specs.declared.rule.Rule.TheVariants.{LineComment, BlockComment}
use Rattle.tok_lexical.specs.declared.rule.Rule.TheVariants.{OpenComment, Punct}
use Rattle.tok_lexical.specs.declared.start.Start.TheVariants as start
use Rattle.tok_lexical.proofs.NestedComments.{takes_marked}
use Rattle.tok_lexical.proofs.EscapedChars.{heads}
use Rattle.tok_lexical.proofs.First.{decides_begun, told}
use Rattle.tok_lexical.proofs.Identifiers.{no_name}
use Rattle.tok_lexical.proofs.Longest.{takes_after_pair, takes_one}

line_second : (text : List ℕ) → HasPrefix IsLineComment (47 ∷ text) → (more : List ℕ)
    × (text ≡ 47 ∷ more)
line_second text (piece, after, cut, (body, e, a)) =
    (body ++ after, cc)

block_second : (text : List ℕ) → HasPrefix IsBlockComment (47 ∷ text) → (more : List ℕ)
    × (text ≡ 42 ∷ more)
block_second text (piece, after, cut, (body, e, a)) =
    (body ++ after, cc)

open_second : (text : List ℕ) → HasPrefix (Spells OpenComment) (47 ∷ text) → (more : List ℕ)
    × (text ≡ 42 ∷ more)
open_second text (piece, after, cut, e) = (after, cc)

no_identifier : (text : List ℕ) → HasPrefix IsIdentifier (47 ∷ text) → ⊥
no_identifier text = no_name (47 ∷ text)
    (ap (λ b. b || (47 == 95)) (is_xid_start-ascii 47 (omega arith)))

no_line : (text mid : List ℕ) → text ≡ 42 ∷ mid → HasPrefix IsLineComment (47 ∷ text) → ⊥
no_line text mid e fits =
    let s = line_second text fits in
    absurd (omega (arith, heads 42 47 mid s.0 (sym e ∙ s.1)))

pub decides_line : (mode : Mode) (text mid rest : List ℕ) → text ≡ 47 ∷ mid → (front : List ℕ)
    × Skips is_not_line_feed mid front rest → (piece : List ℕ)
    × IsFirstFit (47 ∷ text) (rules_of mode) LineComment piece rest
decides_line mode text mid rest e s =
    let t = takes_after_pair 47 47 is_not_line_feed (47 ∷ text) mid rest (cc) s in
    (t.0, decides_begun mode 47 text start.Slash refl refl (here t.1))

pub decides_block : (mode : Mode) (text mid rest : List ℕ) → text ≡ 42 ∷ mid → (front : List ℕ)
    × IsLongestPrefix (Closes 1) mid front rest → (piece : List ℕ)
    × IsFirstFit (47 ∷ text) (rules_of mode) BlockComment piece rest
decides_block mode text mid rest e (front, t) = (
  47 ∷ 42 ∷ front,
  decides_begun mode 47 text start.Slash refl refl
      (later (no_line text mid e)
      (here (takes_marked (47 ∷ text) mid rest front (cc) t))),
)

decides_lone : (mode : Mode) (text : List ℕ) → ((more : List ℕ) → text ≡ 47 ∷ more → ⊥) →
    ((more : List ℕ) → text ≡ 42 ∷ more → ⊥) →
    IsFirstFit (47 ∷ text) (rules_of mode) Punct (47 ∷ []) text
decides_lone mode text no_slash no_star = decides_begun mode 47 text start.Slash refl refl
    (later (λ fits. let s = line_second text fits in no_slash s.0 s.1)
    (later (λ fits. let s = block_second text fits in no_star s.0 s.1)
    (later (λ fits. let s = open_second text fits in no_star s.0 s.1)
    (later (no_identifier text) (here (takes_one is_punct (47 ∷ text) text 47 refl refl))))))

-- a slash that begins no comment
pub decides_alone : (mode : Mode) (c : ℕ) (text more : List ℕ) → text ≡ c ∷ more →
    start_of c ≡ start.Slash → begins_comment text ≡ false → (piece : List ℕ)
    × IsFirstFit text (rules_of mode) Punct piece more
decides_alone mode c text more e is alone =
    let slash : c ≡ 47 = eqb-true c 47 (told c start.Slash is) in
    let whole : text ≡ 47 ∷ more = cc in
    let t = decides_lone mode more (λ after f. false≢true (rw (whole, f) at (sym alone)))
    (λ after f. false≢true (rw (whole, f) at (sym alone))) in
    (47 ∷ [], rw whole t)
