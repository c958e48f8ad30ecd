-- The words of a fault.
use Rattle.std.specs.Prelude.{ℕ, List, codes}
use Rattle.syn_punctuated.specs.declared.extends.PairsFault.{PairsFault}
use Rattle.syn_punctuated.specs.declared.extends.PairsFault.TheVariants.{AfterEnd, Memory}

-- the text of a fault
abbrev pub fault_text : PairsFault → List ℕ
fault_text AfterEnd = codes "a pair follows one without a separator"
fault_text Memory = codes "out of memory"
