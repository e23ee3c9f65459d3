-- What an edit makes of the division: chunks from one number on, up to another, give way to others. Our own.
use Rattle.std.specs.Prelude.{ℕ, List, ◌++◌, take, drop}

abbrev pub recut : ℕ → ℕ → List ℕ → List ℕ → List ℕ
recut start end news olds = take start olds ++ (news ++ drop end olds)
