-- Invisible groups do not matter to the words of errors.
use Rattle.std.specs.Prelude.{◌≡◌, ℕ, List}
use Rattle.tok_buffer.specs.Buffer.{Laid}
use Rattle.tok_buffer.specs.Reads.{any_text, read_ident, read_lifetime}
use Rattle.tok_buffer.specs.SameView.{SameView}
use Rattle.syn_parse.specs.Lookahead.{LookaheadView, look_message}
use Rattle.syn_parse.specs.State.{State}
use Rattle.syn_parse.specs.ErrorWords.{ident_words, lifetime_words, punctuation_message, refused_at}

-- errors at two streams have equal texts
pub record WordsAgree (s t : State) : Type 0 where
  pub refused : (words : List ℕ) → (refused_at s words).text ≡ (refused_at t words).text
  pub idents : ident_words (read_ident s.place) ≡ ident_words (read_ident t.place)
  pub lifetimes :
      lifetime_words (read_lifetime any_text s.place)
      ≡ lifetime_words (read_lifetime any_text t.place)
  pub punctuations :
      (text : List ℕ) → (punctuation_message text s).text ≡ (punctuation_message text t).text

-- errors at two streams have equal texts, if the views of their places are equal
abbrev pub ViewsDecideWords : Type 0
ViewsDecideWords =
    (b c : Laid) (s t : State) → SameView b c s.place t.place → WordsAgree s t

-- so have the errors of two lookaheads that have noted the same displays
abbrev pub ViewsDecideLookaheads : Type 0
ViewsDecideLookaheads =
    (b c : Laid) (l m : LookaheadView) → SameView b c l.place m.place → l.missed ≡ m.missed
    → (look_message l).text ≡ (look_message m).text
