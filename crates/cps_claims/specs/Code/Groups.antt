-- For the loop that reads the digits of a row, not part of what a reader believes: groups so far.
use Rattle.std.specs.Prelude.{◌≡◌, ℕ, ◌%◌, ◌==◌, List, ◌++◌, Option, None, Some, option_map, if◌then◌else◌}
use Rattle.std.specs.Option.{option_or}
use Rattle.cps_claims.specs.declared.layout.OctalLayout.{OctalLayout}
use Rattle.cps_claims.specs.declared.groups.RowGroups.{RowGroups}
use Rattle.cps_claims.specs.declared.reason.UnreadReason.{UnreadReason}
use Rattle.cps_claims.specs.declared.reason.UnreadReason.TheVariants.{DamagedDigits, GroupOf}
use Rattle.cps_claims.specs.Words.{need_no_groups}
use Rattle.cps_claims.specs.Parts.{Part}
use Rattle.cps_claims.specs.Rows.{digits_of, wrong_group, is_damaged, part_of_word}

-- why so many digits aren't read
abbrev pub fault_by : OctalLayout → ℕ → RowGroups → Option UnreadReason
fault_by layout count groups =
    if groups.damaged then Some DamagedDigits
    else if need_no_groups layout.form count then None
    else option_or (option_map GroupOf groups.wrong) (part_of_word layout count)

-- the first group that is wrong, with one more behind those so far
abbrev pub first_wrong : ℕ → Option ℕ → ℕ → Option ℕ
first_wrong parcel (Some first) count = Some first
first_wrong parcel None count = if count % parcel == 0 then None else Some count

-- the digits that parts begin with are added
pub record AddsGroups (parcel : ℕ) (parts : List Part) (groups : RowGroups) (old new : List ℕ) : Type 0 where
  pub digits : new ≡ old ++ digits_of parts
  pub wrong : groups.wrong ≡ wrong_group parcel parts
  pub damaged : groups.damaged ≡ is_damaged parts
