-- Equality and order of places, and which of them share a scope or a buffer.
use Rattle.std.specs.Prelude.{◌==◌, ◌&&◌, Bool, true, false, if◌then◌else◌, Option, Some, None}
use Rattle.std.specs.declared.cmp.Ordering.{Ordering}
use Rattle.std.specs.declared.cmp.Ordering.TheVariants.{Equal}
use Rattle.std.specs.Ordering.{nat_cmp}
use Rattle.tok_buffer.specs.Place.{Place, empty_place, at}

-- equal by buffer number and count, whatever the scopes; the empty place equals itself alone
abbrev pub equal : Place → Place → Bool
equal empty_place empty_place = true
equal (at n s c l ls) (at m t d k ks) = n == m && c == d
equal p q = false

-- by count within one buffer; the empty place is unordered against others
abbrev pub order : Place → Place → Option Ordering
order empty_place empty_place = Some Equal
order (at n s c l ls) (at m t d k ks) = if n == m then Some (nat_cmp c d) else None
order p q = None

-- one buffer number; the empty place is in one buffer with itself alone
abbrev pub same_buffer : Place → Place → Bool
same_buffer empty_place empty_place = true
same_buffer (at n s c l ls) (at m t d k ks) = n == m
same_buffer p q = false

-- one buffer number and one scope, whatever the counts
abbrev pub same_scope : Place → Place → Bool
same_scope empty_place empty_place = true
same_scope (at n s c l ls) (at m t d k ks) = n == m && s == t
same_scope p q = false
