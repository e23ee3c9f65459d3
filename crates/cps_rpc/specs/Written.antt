-- What a writer took of a text. Our own.
use Rattle.std.specs.Prelude.{ℕ, List, Option}
use Rattle.std.specs.Io.KnownBytes.{Appends}
use Rattle.cps_text.specs.declared.counted.Counted.{Counted}
use Rattle.cps_text.specs.Counted.{inner_of}

-- from one moment to another a counted writer took a text
abbrev pub IsWritten : {W : Type 0} → (W → Option (List ℕ)) → Counted W → Counted W → List ℕ → Type 0
IsWritten contents old new text = Appends (contents (inner_of old)) (contents (inner_of new)) text
