-- For the loop over words, not part of what a reader believes: the words that are left to come.
use Rattle.std.specs.Prelude.{ℕ, List, [], Option, None, Some}
use Rattle.std.specs.Borrow.{Bor}

abbrev pub words_left : (List ℕ → Option (List ℕ)) → Option (Option (Bor (List ℕ))) → Option (List ℕ)
words_left read None = None
words_left read (Some None) = Some []
words_left read (Some (Some rest)) = read rest.now
