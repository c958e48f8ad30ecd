-- The commands of lines, one line after the other.
use Rattle.std.proofs.Common.{◌≡◌, ℕ, ◌+◌, ◌<◌, ◌≤◌, Bool, true, false, List, [], ◌∷◌, ◌++◌, length}
use Rattle.std.proofs.Common.{map, Option, Some, None, IfSome, Bor, refl, ap, ◌∙◌}
use Rattle.std.proofs.Common.{append_assoc, arith, length-append, lt-ltb, le-ltb}
use Rattle.std.proofs.Math.ListN.{get_or-append}
use Rattle.std.proofs.Math.Seq.{get_or-append_seam}
use Rattle.std.proofs.lemmas.List.{append-nil, map-append}
use Rattle.std.proofs.lemmas.List.Elements.{All-append, All-cons, filter_map-append}
use Rattle.std.proofs.lemmas.List.Sums.{position_or_len_is}
use Rattle.std.specs.List.{All, cons_option, position, position_or_len}
use Rattle.std.specs.Option.{option_map, option_to_list}
use Rattle.std.specs.Str.{IsUtf8}
use Rattle.syn_replay.specs.Commands as spec
use Rattle.replay_program.specs.CommandText.{words, command, is_unreadable, unreadable_line}
use Rattle.replay_program.specs.CommandText.{commands_in}
use Rattle.replay_program.specs.Input.{lines, lines_left}
use Rattle.syn_replay.specs.ReportText.{as_line}
use Rattle.syn_replay.specs.Commands.{command_of}
use Rattle.syn_replay.specs.declared.command.Command.{Command}
use Rattle.replay_program.proofs.Lines.{left_len, left_less}

-- the lines before what is left are read
pub record AreRead (first left : Option (Bor (List ℕ))) (commands : List Command)
    (number : ℕ) : Type 0 where
  pub passed : List (List ℕ)
  pub readable : All (λ line. is_unreadable line ≡ false) passed
  pub all : lines_left first ≡ passed ++ lines_left left
  pub count : length passed ≡ number
  pub said : map command_of commands ≡ commands_in passed
  pub room : number + left_len left ≤ left_len first
  pub utf8 : IfSome left (λ rest. IsUtf8 rest.now)

commands_in-push : (ls : List (List ℕ)) (l : List ℕ)
    → commands_in (ls ++ l ∷ []) ≡ commands_in ls ++ option_to_list (command (words l))
commands_in-push ls l =
    filter_map-append (λ line. command (words line)) ls (l ∷ [])
    ∙ ap (λ z. commands_in ls ++ z) (one (command (words l)))
  where
    one : (c : Option spec.Command) → cons_option c [] ≡ option_to_list c
    one None = refl
    one (Some c) = refl

map-option_to_list : (o : Option Command)
    → map command_of (option_to_list o) ≡ option_to_list (option_map command_of o)
map-option_to_list None = refl
map-option_to_list (Some c) = refl

-- a line that can be read is passed
pub read_more : (first others : Option (Bor (List ℕ))) (rest : Bor (List ℕ)) (line : List ℕ)
    (commands more : List Command) (number : ℕ) (said : Option Command)
    → AreRead first (Some rest) commands number → lines rest.now ≡ line ∷ lines_left others
    → IfSome others (λ b. rest.now ≡ as_line line ++ b.now) → IfSome others (λ b. IsUtf8 b.now)
    → is_unreadable line ≡ false → command (words line) ≡ option_map command_of said
    → more ≡ commands ++ option_to_list said → AreRead first others more (number + 1)
read_more first others rest line commands more number said r e j u ok c m =
    let less : left_len others < left_len (Some rest) = left_less line rest others j in
    let one : map command_of (option_to_list said) ≡ option_to_list (command (words line)) =
    cc (map-option_to_list said) in record {
      passed = r.passed ++ line ∷ [];
      readable =
          All-append (λ l. is_unreadable l ≡ false) r.passed (line ∷ []) r.readable
          (All-cons (λ l. is_unreadable l ≡ false) line [] ok (λ k d inside. absurd (omega arith)));
      all =
          cc (r.all, append_assoc r.passed (line ∷ []) (lines_left others));
      count = length-append r.passed (line ∷ []) ∙ ap (λ n. n + 1) r.count;
      said =
          cc (
            map-append command_of commands (option_to_list said),
            r.said,
            commands_in-push r.passed line,
          );
      room = omega (arith, r.room);
      utf8 = u;
    }

-- the first that passes, after those that don't
position_at : (p : List ℕ → Bool) (xs ys : List (List ℕ)) (y : List ℕ) → All (λ x. p x ≡ false) xs
    → p y ≡ true → position p (xs ++ y ∷ ys) ≡ Some (length xs)
position_at p xs ys y fails passes =
    let len : length (xs ++ y ∷ ys) ≡ length xs + (length ys + 1) =
    length-append xs (y ∷ ys) ∙ omega arith in
    let at : position_or_len p (xs ++ y ∷ ys) ≡ length xs =
    position_or_len_is p (xs ++ y ∷ ys) (length xs) y (omega arith)
    (λ k small. ap p (get_or-append xs (y ∷ ys) y k small)
    ∙ fails k y small) (λ _. ap p (get_or-append_seam xs y ys y) ∙ passes) in
    let inside : position_or_len p (xs ++ y ∷ ys) < length (xs ++ y ∷ ys) =
    omega (arith, at, len) in
    rw (lt-ltb _ _ inside, at)

position_none : (p : List ℕ → Bool) (xs : List (List ℕ)) → All (λ x. p x ≡ false) xs
    → position p xs ≡ None
position_none p xs fails =
    let at : position_or_len p xs ≡ length xs =
    position_or_len_is p xs (length xs) [] (omega arith) (λ k small. fails k [] small)
    (λ past. absurd (omega arith)) in
    let past : length xs ≤ position_or_len p xs = omega (arith, at) in
    rw (le-ltb _ _ past)

-- the first line that can't be read
pub read_stop : (first others : Option (Bor (List ℕ))) (rest : Bor (List ℕ)) (line : List ℕ)
    (commands : List Command) (number : ℕ) → AreRead first (Some rest) commands number
    → lines rest.now ≡ line ∷ lines_left others → is_unreadable line ≡ true
    → unreadable_line (lines_left first) ≡ Some (number + 1)
read_stop first others rest line commands number r e bad =
    rw (
      r.all,
      e,
      position_at is_unreadable r.passed (lines_left others) line r.readable bad,
      r.count,
    )

pub read_done : (first : Option (Bor (List ℕ))) (commands : List Command) (number : ℕ)
    → AreRead first None commands number
    → (unreadable_line (lines_left first) ≡ None)
    × (map command_of commands ≡ commands_in (lines_left first))
read_done first commands number r =
    let all : lines_left first ≡ r.passed = r.all ∙ append-nil r.passed in (
      rw (all, position_none is_unreadable r.passed r.readable),
      rw all r.said,
    )
