-- Errors and peeks at places with equal views.
use Rattle.std.proofs.Common.{arith, ◌≡◌, ◌∙◌, sym, refl, ℕ, Bool, List, ◌++◌, Option, Some, None}
use Rattle.std.specs.Prelude.{IfSome, codes, option_map}
use Rattle.std.proofs.lemmas.Option.{same_Some}
use Rattle.tok_core.specs.Forest.{Tree}
use Rattle.tok_buffer.specs.Buffer.{Laid}
use Rattle.tok_buffer.specs.Place.{Place}
use Rattle.tok_buffer.specs.Reached.{Reached}
use Rattle.tok_buffer.specs.Reads.{any_text, read_ident, read_lifetime, skip}
use Rattle.tok_buffer.specs.SameView.{SameView}
use Rattle.tok_buffer.specs.View.{view, with_view}
use Rattle.tok_buffer.proofs.View.Laws.{calls_lead_on, views_decide}
use Rattle.tok_types.specs.Views.{IgnoresInvisible}
use Rattle.tok_types.specs.Texts.{in_backquotes}
use Rattle.syn_parse.specs.Views.{ViewsDecideWords, ViewsDecideLookaheads}
use Rattle.syn_parse.specs.Reads.{Peeks2, Peeks3, PeeksPast}
use Rattle.syn_parse.specs.ErrorWords.{ident_words, lifetime_words, name_in}
use Rattle.syn_parse.proofs.SameWords.{alike-at_stream, alike-look}

-- words that depend on the trees read alone
same-words : (b c : Laid) (words : Option (List Tree × Place) → List ℕ) (some : List Tree → List ℕ)
    → ((r : List Tree × Place) → words (Some r) ≡ some r.0)
    → (r q : Option (List Tree × Place)) → with_view b.forest r ≡ with_view c.forest q
    → words r ≡ words q
same-words b c words some e r q h = grind (arith, same_Some)

pub views_decide_words : ViewsDecideWords
views_decide_words b c s t v =
    let calls = views_decide b c s.place t.place v in
    record {
      refused =
          λ words. alike-at_stream b c s.place t.place s.scope_span t.scope_span words v;
      idents =
          same-words b c ident_words
          (λ ts. codes "expected identifier, found keyword " ++ in_backquotes (name_in ts))
          (λ r. refl)
          (read_ident s.place) (read_ident t.place) calls.leaves.idents;
      lifetimes =
          same-words b c lifetime_words
          (λ ts. codes "unexpected keyword lifetime \"'" ++ (name_in ts ++ codes "\""))
          (λ r. refl)
          (read_lifetime any_text s.place) (read_lifetime any_text t.place)
          (calls.leaves.lifetimes any_text);
      punctuations = λ text. refl;
    }

pub views_decide_lookaheads : ViewsDecideLookaheads
views_decide_lookaheads b c l m v h = grind (arith, alike-look)

-- Invisible groups do not matter to a peek after the next token where they do not matter to the
-- peek
-- itself.
module _ (peeks : Place → Bool → Type 0) (see : IgnoresInvisible peeks) where
  past : (b c : Laid) (p q : Place) → SameView b c p q → (r u : Option Place) → IfSome r (Reached b)
      → IfSome u (Reached c)
      → option_map (view b.forest) r ≡ option_map (view c.forest) u
      → (x y : Bool) → PeeksPast peeks r x → PeeksPast peeks u y
      → x ≡ y
  past b c p q s None None h k e x y i j = i ∙ sym j
  past b c p q s None (Some u) h k e x y i j = absurd (cc)
  past b c p q s (Some r) None h k e x y i j = absurd (cc)
  past b c p q s (Some r) (Some u) h k e x y i j =
      see b c r u
      (record {
        left_filled = s.left_filled;
        right_filled = s.right_filled;
        left = h;
        right = k;
        same = cc;
      }) x y i j

  past-ignore : IgnoresInvisible (λ p found. PeeksPast peeks (skip p) found)
  past-ignore b c p q s x y i j =
      past b c p q s (skip p) (skip q) (calls_lead_on b p s.left).skips
      (calls_lead_on c q s.right).skips (views_decide b c p q s).skips x y i j

pub peeks2_ignore : (peeks : Place → Bool → Type 0) → IgnoresInvisible peeks
    → IgnoresInvisible (Peeks2 peeks)
peeks2_ignore peeks see = past-ignore peeks see

pub peeks3_ignore : (peeks : Place → Bool → Type 0) → IgnoresInvisible peeks
    → IgnoresInvisible (Peeks3 peeks)
peeks3_ignore peeks see = past-ignore (Peeks2 peeks) (peeks2_ignore peeks see)
