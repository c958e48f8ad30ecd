-- What a caller's handle owns.
use Rattle.std.specs.Prelude.{Option, None, Some}
use base.Fml.{Fml, feq}
use denote.RawPtr.{Ptr, null_ptr}
use mir.Syntax.{Ty}
use Rattle.std.specs.Global.{Global}
use Rattle.std.specs.Coded.{Coded, coded_option}
use Rattle.std_heap.specs.contracts.GlobalAllocator.TheImpl.{ghosts}
use Rattle.std_alloc.specs.Box.Ownership.{box_owns}
use Rattle.syn_tokens_c.specs.declared.kept.Kept.{Kept}
use Rattle.syn_tokens_c.specs.contracts.kept.Kept.{the_row}

-- the global allocator
abbrev pub heap : Global
heap = record { memory = record { seal = tt } }

-- the right to give the block at a pointer back to the allocator
abbrev pub may_free : Ty → Ptr → Fml
may_free = ghosts.dealloc_token heap

-- nothing, and the pointer is null; or the box that the pointer leads to, and the right to free it
abbrev pub holds : Ptr → Option Kept → Fml
holds p None = feq Ptr p null_ptr
holds p (Some kept) = box_owns may_free the_row p kept

-- how the value of a handle is stored
abbrev pub coded_held : Coded (Option Kept)
coded_held = coded_option the_row.coded
