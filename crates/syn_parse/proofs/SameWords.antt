-- Errors at places with equal views have equal words.
use Rattle.std.proofs.Common.{arith, ◌≡◌, ℕ, List, [], ◌∷◌, Option, Some}
use Rattle.tok_leaves.specs.declared.span.Span.{Span}
use Rattle.tok_core.specs.Forest.{Tree}
use Rattle.tok_buffer.specs.Buffer.{Laid}
use Rattle.tok_buffer.specs.Place.{Place}
use Rattle.tok_buffer.specs.Messages.{at_stream}
use Rattle.tok_buffer.proofs.View.Alike.{Alike, ReadsAlike, alike-end, alike-delimiter}
use Rattle.syn_parse.specs.Lookahead.{list_words, look_message, names_message, unexpected}

module _ (f g : Laid) where
  -- words that depend on the trees read alone
  pub alike-words : (words : Option (List Tree × Place) → List ℕ) (some : List Tree → List ℕ)
      → ((r : List Tree × Place) → words (Some r) ≡ some r.0)
      → (r q : Option (List Tree × Place)) → ReadsAlike f g r q
      → words r ≡ words q
  alike-words words some e r q h = grind arith

  pub alike-at_stream : (p q : Place) (s t : Span) (w : List ℕ) → Alike f g p q
      → (at_stream p s w).text ≡ (at_stream q t w).text
  alike-at_stream p q s t w h = grind (arith, alike-end)

  alike-unexpected : (p q : Place) (s t : Span) → Alike f g p q
      → (unexpected p s).text ≡ (unexpected q t).text
  alike-unexpected p q s t h = grind (arith, alike-end)

  alike-names_message : (ds : List (List ℕ)) (p q : Place) (s t : Span) → Alike f g p q
      → (names_message ds p s).text ≡ (names_message ds q t).text
  alike-names_message [] p q s t h = alike-unexpected p q s t h
  alike-names_message (d ∷ ds) p q s t h = alike-at_stream p q s t (list_words (d ∷ ds)) h

  -- of a lookahead, by what it has noted
  pub alike-look : (missed : List (List ℕ)) (p q : Place) (s t : Span) → Alike f g p q
      → (look_message (record { place = p; scope_span = s; missed = missed })).text
      ≡ (look_message (record { place = q; scope_span = t; missed = missed })).text
  alike-look missed p q s t h = grind (arith, alike-delimiter, alike-names_message)
