-- The types of integers, whose names are suffixes of literals (Rust Reference: Integer literal
-- expressions; Numeric types).
use Rattle.std.specs.Prelude.{ℕ, ◌-◌, ◌^◌, List, codes}
use Rattle.tok_leaves.specs.declared.integer_type.IntegerType.{IntegerType}
use Rattle.tok_leaves.specs.declared.integer_type.IntegerType.TheVariants.{I8, I16, I32, I64, I128}
use Rattle.tok_leaves.specs.declared.integer_type.IntegerType.TheVariants.{Isize, U8, U16, U32, U64}
use Rattle.tok_leaves.specs.declared.integer_type.IntegerType.TheVariants.{U128, Usize}

-- the name of a type
abbrev pub integer_type_name : IntegerType → List ℕ
integer_type_name I8 = codes "i8"
integer_type_name I16 = codes "i16"
integer_type_name I32 = codes "i32"
integer_type_name I64 = codes "i64"
integer_type_name I128 = codes "i128"
integer_type_name Isize = codes "isize"
integer_type_name U8 = codes "u8"
integer_type_name U16 = codes "u16"
integer_type_name U32 = codes "u32"
integer_type_name U64 = codes "u64"
integer_type_name U128 = codes "u128"
integer_type_name Usize = codes "usize"

-- the largest number of a type; `isize` and `usize` have 64 bits
abbrev pub integer_type_max : IntegerType → ℕ
integer_type_max I8 = 2 ^ 7 - 1
integer_type_max I16 = 2 ^ 15 - 1
integer_type_max I32 = 2 ^ 31 - 1
integer_type_max I64 = 2 ^ 63 - 1
integer_type_max I128 = 2 ^ 127 - 1
integer_type_max Isize = 2 ^ 63 - 1
integer_type_max U8 = 2 ^ 8 - 1
integer_type_max U16 = 2 ^ 16 - 1
integer_type_max U32 = 2 ^ 32 - 1
integer_type_max U64 = 2 ^ 64 - 1
integer_type_max U128 = 2 ^ 128 - 1
integer_type_max Usize = 2 ^ 64 - 1
