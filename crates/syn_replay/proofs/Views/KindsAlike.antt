-- Reads, peeks and errors agree at places with equal views.
use Rattle.std.proofs.Common.{◌≡◌, refl, ℕ, Bool, true, is_some, List, Option, Some, None}
use Rattle.std.specs.Prelude.{codes, ◌++◌}
use Rattle.tok_lexical.specs.declared.delimiter.Delimiter.{Delimiter}
use Rattle.tok_lexical.specs.declared.delimiter.Delimiter.TheVariants.{Parenthesis, Brace, Bracket}
use Rattle.tok_core.specs.Forest.{Tree}
use Rattle.tok_buffer.specs.Buffer.{Laid}
use Rattle.tok_buffer.specs.Entry.{Entered, enter}
use Rattle.tok_buffer.specs.Place.{Place}
use Rattle.tok_buffer.specs.Reads.{any_text, read_ident, read_lifetime}
use Rattle.tok_buffer.specs.View.{IsVisibleDelimiter}
use Rattle.tok_buffer.proofs.View.Alike.{Alike, ReadsAlike, PlacesAlike, EntriesAlike}
use Rattle.tok_buffer.proofs.View.Alike.{alike-reading, alike-skip, alike-end, alike-enter}
use Rattle.tok_types.specs.Texts.{in_backquotes}
use Rattle.syn_parse.specs.State as parse
use Rattle.syn_parse.specs.ErrorWords.{ident_words, lifetime_words, name_in, refused_at}
use Rattle.syn_parse.proofs.SameWords.{alike-words, alike-at_stream}
use Rattle.syn_replay.specs.Kinds.{Kind, ident, ident_any, lifetime, lifetime_any, punctuation}
use Rattle.syn_replay.specs.Kinds.{read, peek_kind, Look, kind, paren, brace, bracket, the_end}
use Rattle.syn_replay.specs.Kinds.{invisible_group, group_tree, any_tree, peek, peek2, peek3}
use Rattle.syn_replay.specs.Kinds.{peek_past, ignores_invisible, refused_words, kind_missing}
use Rattle.syn_replay.proofs.Views.KindReads.{of_kind}
use Rattle.std.proofs.Common.{rules}

module _ (f g : Laid) where
  pub alike-kind : (k : Kind) (p q : Place) → Alike f g p q → ReadsAlike f g (read k p) (read k q)
  alike-kind k p q h = alike-reading f g p q h (of_kind k).1

  both_read : (r q : Option (List Tree × Place)) → ReadsAlike f g r q → is_some r ≡ is_some q
  both_read None None h = refl
  both_read None (Some q) h = absurd h
  both_read (Some r) None h = absurd h
  both_read (Some r) (Some q) h = refl

  both_entered : (r q : Option Entered) → EntriesAlike f g r q → is_some r ≡ is_some q
  both_entered None None h = refl
  both_entered None (Some q) h = absurd h
  both_entered (Some r) None h = absurd h
  both_entered (Some r) (Some q) h = refl

  pub alike-peek_kind : (k : Kind) (p q : Place) → Alike f g p q → peek_kind k p ≡ peek_kind k q
  alike-peek_kind lifetime p q h =
      both_read (read lifetime_any p) (read lifetime_any q) (alike-kind lifetime_any p q h)
  alike-peek_kind k p q h = both_read (read k p) (read k q) (alike-kind k p q h)

  alike-peek_group : (d : Delimiter) → IsVisibleDelimiter d → (p q : Place) → Alike f g p q
      → is_some (enter d p) ≡ is_some (enter d q)
  alike-peek_group d v p q h = both_entered (enter d p) (enter d q) (alike-enter f g p q h d v)

  pub alike-peek : (l : Look) → ignores_invisible l ≡ true → (p q : Place) → Alike f g p q
      → peek l p ≡ peek l q
  alike-peek (kind k) e p q h = alike-peek_kind k p q h
  alike-peek paren e p q h = alike-peek_group Parenthesis tt p q h
  alike-peek brace e p q h = alike-peek_group Brace tt p q h
  alike-peek bracket e p q h = alike-peek_group Bracket tt p q h
  alike-peek the_end e p q h = alike-end f g p q h
  alike-peek invisible_group e p q h = absurd (cc)
  alike-peek group_tree e p q h = absurd (cc)
  alike-peek any_tree e p q h = absurd (cc)

  alike-past : (test : Place → Bool) → ((p q : Place) → Alike f g p q → test p ≡ test q)
      → (r q : Option Place) → PlacesAlike f g r q → peek_past test r ≡ peek_past test q
  alike-past test same None None h = refl
  alike-past test same None (Some q) h = absurd h
  alike-past test same (Some r) None h = absurd h
  alike-past test same (Some r) (Some q) h = same r q h

  pub alike-peek2 : (l : Look) → ignores_invisible l ≡ true → (p q : Place) → Alike f g p q
      → peek2 l p ≡ peek2 l q
  alike-peek2 l e p q h = search (rules, alike-past, alike-peek, alike-skip)

  pub alike-peek3 : (l : Look) → ignores_invisible l ≡ true → (p q : Place) → Alike f g p q
      → peek3 l p ≡ peek3 l q
  alike-peek3 l e p q h = search (rules, alike-past, alike-peek2, alike-skip)

  -- The words of errors.
  abbrev name_words : List Tree → List ℕ
  name_words ts = codes "expected identifier, found keyword " ++ in_backquotes (name_in ts)

  abbrev lifetime_name_words : List Tree → List ℕ
  lifetime_name_words ts = codes "unexpected keyword lifetime \"'" ++ (name_in ts ++ codes "\"")

  alike-refused_words : (k : Kind) (p q : Place) → Alike f g p q
      → refused_words k p ≡ refused_words k q
  alike-refused_words ident p q h =
      alike-words f g ident_words name_words (λ r. refl) (read_ident p) (read_ident q)
      (alike-kind ident_any p q h)
  alike-refused_words lifetime p q h =
      alike-words f g lifetime_words lifetime_name_words (λ r. refl) (read_lifetime any_text p)
      (read_lifetime any_text q) (alike-kind lifetime_any p q h)
  alike-refused_words k p q h = refl

  refused-both : (s t : parse.State) (w v : List ℕ) → w ≡ v → Alike f g s.place t.place
      → (refused_at s w).text ≡ (refused_at t v).text
  refused-both s t w v e h = cc (alike-at_stream f g s.place t.place s.scope_span t.scope_span w h)

  pub alike-kind_missing : (k : Kind) (s t : parse.State) → Alike f g s.place t.place
      → (kind_missing k s).text ≡ (kind_missing k t).text
  alike-kind_missing (punctuation k) s t h = refl
  alike-kind_missing k s t h =
      refused-both s t (refused_words k s.place) (refused_words k t.place)
      (alike-refused_words k s.place t.place h) h
