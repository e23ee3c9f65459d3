-- The words of the two machines, in octal digits. Our own.
use Rattle.std.specs.Prelude.{ℕ, ◌+◌, ◌-◌, ◌%◌, Bool, false, true, ◌==◌, nat_le, Option, None, Some, if◌then◌else◌}
use Rattle.cps_claims.specs.declared.layout.WordForm.{WordForm}
use Rattle.cps_claims.specs.declared.layout.WordForm.TheVariants.{Central, Peripheral}
use Rattle.cps_claims.specs.declared.layout.OctalFormat.{OctalFormat}
use Rattle.cps_claims.specs.declared.layout.OctalFormat.TheVariants as formats
use Rattle.cps_claims.specs.declared.layout.WordOffset.{WordOffset}
use Rattle.cps_claims.specs.declared.layout.WordOffset.TheVariants.{Up, Down}

-- the digits of a word
abbrev pub size_of : WordForm → ℕ
size_of Central = 20
size_of Peripheral = 4

-- the digits that stand together: a word of the central processor is four parcels, a peripheral processor's word is one
abbrev pub parcel_of : WordForm → ℕ
parcel_of Central = 5
parcel_of Peripheral = 4

-- Whether so many digits may be grouped in any way. They may where they fill words of the central processor.
abbrev pub need_no_groups : WordForm → ℕ → Bool
need_no_groups Central count = count % 20 == 0
need_no_groups Peripheral count = false

-- whether rows have whole words, behind which the next words go on, and may say that words stand again
abbrev pub is_dump : OctalFormat → Bool
is_dump formats.Rows = false
is_dump formats.Dump = true

-- addresses have six octal digits
abbrev pub most_words : ℕ
most_words = 262144

-- the address that is meant by one of the text; none stands before address 0
abbrev pub moved : WordOffset → ℕ → Option ℕ
moved (Up count) address = Some (address + count)
moved (Down count) address = if nat_le count address then Some (address - count) else None
