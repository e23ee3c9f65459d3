-- Where an instruction of the central processor or a field begins, where a word is left, and what fills the bits that are skipped.
-- From the manual's rules for forcing upper and for instructions of 15 and 30 bits in a word of four parcels; what is pending is our profile's.
use Rattle.std.specs.Prelude.{◌≡◌, ℕ, zero, suc, ◌+◌, ◌-◌, ◌*◌, ◌/◌, ◌%◌, ◌^◌, ◌<◌, ◌≤◌, Bool, true, false, ◌&&◌, ◌||◌, not, ◌==◌, IsTrue, Option, None, Some, if◌then◌else◌, nat_le}
use Rattle.std.proofs.Math.Nat.{mod-lt}
use Rattle.std.proofs.Math.Dec.{lit<}
use Rattle.cps_code.specs.declared.place.Place.{Place}
use Rattle.cps_code.specs.declared.place.Filling.{Filling}
use Rattle.cps_code.specs.declared.place.Force.{Force}
use Rattle.cps_code.specs.declared.place.Force.TheVariants.{Free, NewWord, Cancel}
use Rattle.cps_code.specs.Bits.{word_bits, parcel_bits, bit_from_left, number_of_bits}
use Rattle.cps_code.specs.Least.{first_from}

-- a place as the number of bits before it, through all words
abbrev pub position : Place → ℕ
position place = word_bits * place.word + place.used

-- the place after so many bits, through all words
abbrev pub place_at : ℕ → Bool → Place
place_at at is_pending = record { word = at / word_bits; used = at % word_bits; is_pending = is_pending; in_word = mod-lt at (lit< tt) }

-- whether what comes next has to begin a word
abbrev pub is_forced : Bool → Force → Bool
is_forced is_pending Free = is_pending
is_forced is_pending NewWord = true
is_forced is_pending Cancel = false

-- `bits` bits may begin at `at`, not before `from`: an instruction at a parcel's border, with room in its word; 0 bits, of forcing alone and of a field, anywhere
pub record MayBegin (from bits : ℕ) (forced : Bool) (at : ℕ) : Type 0 where
  pub not_before : from ≤ at
  pub at_border : 0 < bits → at % parcel_bits ≡ 0
  pub has_room : at % word_bits + bits ≤ word_bits
  pub begins_word : IsTrue forced → at % word_bits ≡ 0

-- the same as a test of a place that is not before
abbrev pub may_begin : ℕ → Bool → ℕ → Bool
may_begin bits forced at = (bits == 0 || at % parcel_bits == 0) && nat_le (at % word_bits + bits) word_bits && (not forced || at % word_bits == 0)

-- the least place from `from` on at which `bits` bits may begin: no more than a word further
abbrev pub start_of : ℕ → ℕ → Bool → ℕ
start_of from bits forced = first_from (may_begin bits forced) from word_bits

-- a pass instruction
abbrev pub pass : ℕ
pass = 0o46000

-- pass instructions, one after the other
abbrev pub passes : ℕ → ℕ
passes zero = 0
passes (suc count) = passes count * 2 ^ parcel_bits + pass

-- what stands in a bit that is skipped: that of a pass instruction in a parcel that is skipped whole, else 0
abbrev pub skipped_bit : ℕ → ℕ → ℕ
skipped_bit from at = if nat_le from (at - at % parcel_bits) then bit_from_left parcel_bits pass (at % parcel_bits) else 0

-- what fills the bits from one place to another, bit by bit
abbrev pub IsFilling : ℕ → ℕ → Option Filling → Type 0
IsFilling from to None = from ≡ to
IsFilling from to (Some filling) =
    (from < to) × (filling.first ≡ from % word_bits) × (filling.width ≡ to - from) × (filling.number < 2 ^ filling.width)
    × ((at : ℕ) → from ≤ at → at < to → bit_from_left filling.width filling.number (at - from) ≡ skipped_bit from at)

-- the same as a number: that of the bits that are skipped
abbrev pub skipped : ℕ → ℕ → Option Filling
skipped from to =
    if from == to then None
    else Some (record { first = from % word_bits; width = to - from; number = number_of_bits (λ n. skipped_bit from (from + n)) (to - from) })
