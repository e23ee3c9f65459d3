-- How long a source is at most. Our profile's.
use Rattle.std.specs.Prelude.{ℕ}
use Rattle.cps_text.specs.declared.limits.TheConstants.{MOST_LINES}

-- the most lines that a source has
abbrev pub most_lines : ℕ
most_lines = MOST_LINES
