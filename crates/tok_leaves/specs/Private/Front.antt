-- What is wrong at the front of the rest of a text.
use Rattle.std.specs.Prelude.{ℕ, List, [], ◌∷◌, Option, None, Some}
use Rattle.tok_leaves.specs.declared.ident_fault.IdentFault.{IdentFault}
use Rattle.tok_leaves.specs.declared.ident_fault.IdentFault.TheVariants.{Character}

-- the character at the front of a rest that begins at this byte
abbrev pub front_fault : ℕ → List ℕ → Option IdentFault
front_fault at [] = None
front_fault at (c ∷ rest) = Some (Character at c)
