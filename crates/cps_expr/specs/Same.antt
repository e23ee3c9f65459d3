-- Texts that are the same but for lower-case letters, which stand for capitals.
use Rattle.std.specs.Prelude.{ℕ, Bool, List, bytes_eq}
use Rattle.cps_text.specs.Text.{capitals}

abbrev pub is_same : List ℕ → List ℕ → Bool
is_same text other = bytes_eq (capitals text) (capitals other)
