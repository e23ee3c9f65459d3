-- The letters of flags, and of causes. Our own.
use Rattle.std.specs.Prelude.{Bool}
use Rattle.cps_state.specs.declared.flags.Flags.{Flags}
use Rattle.cps_state.specs.Made.{no_flags}
use Rattle.cps_cause.specs.declared.letter.Letter.{Letter}
use Rattle.cps_cause.specs.declared.letter.Letter.TheVariants.{A, D, E, L, O, T, U, V}
use Rattle.cps_cause.specs.declared.cause.Cause.{Cause}
use Rattle.cps_cause.specs.declared.cause.Cause.TheVariants as cause

-- whether the flag of a letter is there
abbrev pub has : Letter → Flags → Bool
has A flags = flags.operand
has D flags = flags.twice
has E flags = flags.structure
has L flags = flags.location
has O flags = flags.operation
has T flags = flags.cut
has U flags = flags.undefined
has V flags = flags.width

-- the flag of a letter, if it is there
abbrev pub only : Letter → Bool → Flags
only A is_there = record no_flags { operand = is_there }
only D is_there = record no_flags { twice = is_there }
only E is_there = record no_flags { structure = is_there }
only L is_there = record no_flags { location = is_there }
only O is_there = record no_flags { operation = is_there }
only T is_there = record no_flags { cut = is_there }
only U is_there = record no_flags { undefined = is_there }
only V is_there = record no_flags { width = is_there }

-- the letter of the flag that a cause gives
abbrev pub letter_of : Cause → Letter
letter_of (cause.Operation fault) = O
letter_of (cause.Location fault) = L
letter_of (cause.Definition fault) = D
letter_of (cause.Width fault) = V
letter_of (cause.Cut fault) = T
letter_of (cause.Symbol fault) = U
letter_of (cause.Operand fault) = A
letter_of (cause.Value fault) = A
letter_of (cause.Structure fault) = E
letter_of (cause.Limit fault) = E
letter_of (cause.General letter) = letter
