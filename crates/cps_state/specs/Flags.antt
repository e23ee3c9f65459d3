-- Flags of a line, and their letters. From the manual's list of error flags; which rule has which letter is our profile's.
use Rattle.std.specs.Prelude.{ℕ, Bool, ◌||◌, List, [], ◌++◌, codes, if◌then◌else◌}
use Rattle.cps_state.specs.declared.flags.Flags.{Flags}

-- the flags of both
abbrev pub joined : Flags → Flags → Flags
joined a b = record {
  operand = a.operand || b.operand;
  twice = a.twice || b.twice;
  structure = a.structure || b.structure;
  location = a.location || b.location;
  operation = a.operation || b.operation;
  cut = a.cut || b.cut;
  undefined = a.undefined || b.undefined;
  width = a.width || b.width;
}

abbrev pub has_flag : Flags → Bool
has_flag a = a.operand || (a.twice || (a.structure || (a.location || (a.operation || (a.cut || (a.undefined || a.width))))))

-- a letter, where its flag is there
abbrev pub letter : Bool → List ℕ → List ℕ
letter is_there text = if is_there then text else []

-- the letters in alphabetical order
abbrev pub letters : Flags → List ℕ
letters a =
    letter a.operand (codes "A") ++ letter a.twice (codes "D") ++ letter a.structure (codes "E") ++ letter a.location (codes "L")
    ++ letter a.operation (codes "O") ++ letter a.cut (codes "T") ++ letter a.undefined (codes "U") ++ letter a.width (codes "V")
