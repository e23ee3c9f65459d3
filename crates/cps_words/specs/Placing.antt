-- Files that are put in their places, as far as that is known. Our own.
use Rattle.std.specs.Prelude.{ℕ, ◌-◌, List, [], ◌∷◌, ◌++◌, suc, Option, None, Some, Result, Ok, Err, option_map}

-- a file that was put in its place: its name, and its bytes
pub record Placed : Type 0 where
  pub name : List ℕ
  pub bytes : List ℕ

-- the known files, and then these
abbrev pub with_files : List Placed → Option (List Placed) → Option (List Placed)
with_files files known = option_map (λ (before : List Placed). before ++ files) known

-- the known files, and then one; none are known where its bytes aren't
abbrev pub with_placed : List ℕ → Option (List ℕ) → Option (List Placed) → Option (List Placed)
with_placed name (Some bytes) known = with_files (record { name = name; bytes = bytes } ∷ []) known
with_placed name None known = None

-- one draft more where it was made, if their number is known
abbrev pub one_more_on_ok : {D E : Type 0} → Result D E → Option ℕ → Option ℕ
one_more_on_ok (Ok draft) waiting = option_map suc waiting
one_more_on_ok (Err error) waiting = waiting

-- one draft less, if their number is known
abbrev pub one_less : Option ℕ → Option ℕ
one_less waiting = option_map (λ (count : ℕ). count - 1) waiting
