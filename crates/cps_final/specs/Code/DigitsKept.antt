-- For the code, not part of what a reader believes: digits that a row may show, as they are kept.
use Rattle.std.specs.Prelude.{Option, None, Some}
use Rattle.cps_final.specs.declared.octal_digits.OctalDigits.{OctalDigits}
use Rattle.cps_final.specs.declared.octal_digits.KeptCode.{KeptCode}
use Rattle.cps_final.specs.declared.octal_digits.KeptCode.TheVariants as code
use Rattle.cps_final.specs.declared.octal_digits.KeptShortCode.{KeptShortCode}
use Rattle.cps_final.specs.declared.octal_digits.KeptShortCode.TheVariants as short

abbrev pub code_in : KeptCode → Option OctalDigits
code_in code.Absent = None
code_in (code.Shown count number) = Some (record { count = count; number = number })

abbrev pub short_code_in : KeptShortCode → Option OctalDigits
short_code_in short.Absent = None
short_code_in (short.Shown count number) = Some (record { count = count; number = number })
