-- Tokens by their names: the type of each, how it is taken, and what a peek of it sees.
use Rattle.std.specs.Prelude.{Bool}
use Rattle.tok_types.specs.Sees.{keyword_first, punctuation_first}
use Rattle.syn_parse.specs.Owned.{sees_own}
use Rattle.syn_parse.specs.Takes.{Taking}
use Rattle.syn_parse.specs.Tokens.{TokenKind, any_ident, any_lifetime, ident, keyword, lifetime}
use Rattle.syn_parse.specs.Tokens.{literal, own, punct, punctuation, sees_any_ident, sees_ident}
use Rattle.syn_parse.specs.Tokens.{sees_lifetime, sees_literal, sees_punct, take_token}
use Rattle.syn_parse.specs.TreesAhead.{Ahead}

-- the names of the keywords and the punctuation: those of their types in `token`
pub data Name : (A : Type 0) → TokenKind A → Type 1 where
  Abstract : Name _ (keyword 0)
  As : Name _ (keyword 1)
  Async : Name _ (keyword 2)
  Auto : Name _ (keyword 3)
  Await : Name _ (keyword 4)
  Become : Name _ (keyword 5)
  Box : Name _ (keyword 6)
  Break : Name _ (keyword 7)
  Const : Name _ (keyword 8)
  Continue : Name _ (keyword 9)
  Crate : Name _ (keyword 10)
  Default : Name _ (keyword 11)
  Do : Name _ (keyword 12)
  Dyn : Name _ (keyword 13)
  Else : Name _ (keyword 14)
  Enum : Name _ (keyword 15)
  Extern : Name _ (keyword 16)
  Final : Name _ (keyword 17)
  Fn : Name _ (keyword 18)
  For : Name _ (keyword 19)
  If : Name _ (keyword 20)
  Impl : Name _ (keyword 21)
  In : Name _ (keyword 22)
  Let : Name _ (keyword 23)
  Loop : Name _ (keyword 24)
  Macro : Name _ (keyword 25)
  Match : Name _ (keyword 26)
  Mod : Name _ (keyword 27)
  Move : Name _ (keyword 28)
  Mut : Name _ (keyword 29)
  Override : Name _ (keyword 30)
  Priv : Name _ (keyword 31)
  Pub : Name _ (keyword 32)
  Raw : Name _ (keyword 33)
  Ref : Name _ (keyword 34)
  Return : Name _ (keyword 35)
  Safe : Name _ (keyword 36)
  SelfType : Name _ (keyword 37)
  SelfValue : Name _ (keyword 38)
  Static : Name _ (keyword 39)
  Struct : Name _ (keyword 40)
  Super : Name _ (keyword 41)
  Trait : Name _ (keyword 42)
  Try : Name _ (keyword 43)
  «Type» : Name _ (keyword 44)
  Typeof : Name _ (keyword 45)
  Union : Name _ (keyword 46)
  Unsafe : Name _ (keyword 47)
  Unsized : Name _ (keyword 48)
  Use : Name _ (keyword 49)
  Virtual : Name _ (keyword 50)
  Where : Name _ (keyword 51)
  While : Name _ (keyword 52)
  Yield : Name _ (keyword 53)
  And : Name _ (punctuation 0 1)
  AndAnd : Name _ (punctuation 1 2)
  AndEq : Name _ (punctuation 2 2)
  At : Name _ (punctuation 3 1)
  Caret : Name _ (punctuation 4 1)
  CaretEq : Name _ (punctuation 5 2)
  Colon : Name _ (punctuation 6 1)
  Comma : Name _ (punctuation 7 1)
  Dollar : Name _ (punctuation 8 1)
  Dot : Name _ (punctuation 9 1)
  DotDot : Name _ (punctuation 10 2)
  DotDotDot : Name _ (punctuation 11 3)
  DotDotEq : Name _ (punctuation 12 3)
  Eq : Name _ (punctuation 13 1)
  EqEq : Name _ (punctuation 14 2)
  FatArrow : Name _ (punctuation 15 2)
  Ge : Name _ (punctuation 16 2)
  Gt : Name _ (punctuation 17 1)
  LArrow : Name _ (punctuation 18 2)
  Le : Name _ (punctuation 19 2)
  Lt : Name _ (punctuation 20 1)
  Minus : Name _ (punctuation 21 1)
  MinusEq : Name _ (punctuation 22 2)
  Ne : Name _ (punctuation 23 2)
  Not : Name _ (punctuation 24 1)
  Or : Name _ (punctuation 25 1)
  OrEq : Name _ (punctuation 26 2)
  OrOr : Name _ (punctuation 27 2)
  PathSep : Name _ (punctuation 28 2)
  Percent : Name _ (punctuation 29 1)
  PercentEq : Name _ (punctuation 30 2)
  Plus : Name _ (punctuation 31 1)
  PlusEq : Name _ (punctuation 32 2)
  Pound : Name _ (punctuation 33 1)
  Question : Name _ (punctuation 34 1)
  RArrow : Name _ (punctuation 35 2)
  Semi : Name _ (punctuation 36 1)
  Shl : Name _ (punctuation 37 2)
  ShlEq : Name _ (punctuation 38 3)
  Shr : Name _ (punctuation 39 2)
  ShrEq : Name _ (punctuation 40 3)
  Slash : Name _ (punctuation 41 1)
  SlashEq : Name _ (punctuation 42 2)
  Star : Name _ (punctuation 43 1)
  StarEq : Name _ (punctuation 44 2)
  Tilde : Name _ (punctuation 45 1)

-- the type of the token with this name
abbrev pub Token : {A : Type 0} {k : TokenKind A} → Name A k → Type 0
Token {A} name = A

-- a parse of the token with this name
abbrev pub take : {A : Type 0} {k : TokenKind A} → Name A k → Taking A
take {k = k} name = take_token k

-- a peek of a token of this kind; a lifetime may have any name
abbrev pub sees_token : {A : Type 0} → TokenKind A → Ahead → Bool
sees_token ident a = sees_ident a
sees_token any_ident a = sees_any_ident a
sees_token lifetime a = sees_lifetime a
sees_token any_lifetime a = sees_lifetime a
sees_token literal a = sees_literal a
sees_token punct a = sees_punct a
sees_token (own text) a = sees_own text a
sees_token (keyword k) a = keyword_first k a.trees
sees_token (punctuation k n) a = punctuation_first k n a.trees

-- a peek of the token with this name
abbrev pub sees : {A : Type 0} {k : TokenKind A} → Name A k → Ahead → Bool
sees {k = k} name = sees_token k
