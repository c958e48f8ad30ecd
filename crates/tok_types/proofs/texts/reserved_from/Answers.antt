use Rattle.std.proofs.Common.{sym, rules, tests}
use Rattle.tok_types.proofs.Reserved.{none_reserved, same_first}
use Rattle.tok_types.proofs.texts.reserved_from.Goals as goal

pub returns-in-83 : goal.returns-in-83
returns-in-83 c = same_first c.args.first 83 c.in-83.is

pub returns-in-95 : goal.returns-in-95
returns-in-95 c = same_first c.args.first 95 c.in-95.is

pub returns-in-97 : goal.returns-in-97
returns-in-97 c = same_first c.args.first 97 c.in-97.is

pub returns-in-98 : goal.returns-in-98
returns-in-98 c = same_first c.args.first 98 c.in-98.is

pub returns-in-99 : goal.returns-in-99
returns-in-99 c = same_first c.args.first 99 c.in-99.is

pub returns-in-100 : goal.returns-in-100
returns-in-100 c = same_first c.args.first 100 c.in-100.is

pub returns-in-101 : goal.returns-in-101
returns-in-101 c = same_first c.args.first 101 c.in-101.is

pub returns-in-102 : goal.returns-in-102
returns-in-102 c = same_first c.args.first 102 c.in-102.is

pub returns-in-105 : goal.returns-in-105
returns-in-105 c = same_first c.args.first 105 c.in-105.is

pub returns-in-108 : goal.returns-in-108
returns-in-108 c = same_first c.args.first 108 c.in-108.is

pub returns-in-109 : goal.returns-in-109
returns-in-109 c = same_first c.args.first 109 c.in-109.is

pub returns-in-111 : goal.returns-in-111
returns-in-111 c = same_first c.args.first 111 c.in-111.is

pub returns-in-112 : goal.returns-in-112
returns-in-112 c = same_first c.args.first 112 c.in-112.is

pub returns-in-114 : goal.returns-in-114
returns-in-114 c = same_first c.args.first 114 c.in-114.is

pub returns-in-115 : goal.returns-in-115
returns-in-115 c = same_first c.args.first 115 c.in-115.is

pub returns-in-116 : goal.returns-in-116
returns-in-116 c = same_first c.args.first 116 c.in-116.is

pub returns-in-117 : goal.returns-in-117
returns-in-117 c = same_first c.args.first 117 c.in-117.is

pub returns-in-118 : goal.returns-in-118
returns-in-118 c = same_first c.args.first 118 c.in-118.is

pub returns-in-119 : goal.returns-in-119
returns-in-119 c = same_first c.args.first 119 c.in-119.is

pub returns-in-121 : goal.returns-in-121
returns-in-121 c = same_first c.args.first 121 c.in-121.is

pub returns-in_default : goal.returns-in_default
returns-in_default c = sym (none_reserved c.args.first (search (tests, rules)))
