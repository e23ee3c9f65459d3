-- The words that pieces make, one piece after another.
use Rattle.std.proofs.Common.{◌≡◌, ℕ, ◌-◌, ◌^◌, ◌<◌, Bool, true, false, cond, ◌||◌, List, [], Option, None, Some, is_some, unwrap_or, IfSome, refl, sym, ap, ◌∙◌}
use Rattle.std.specs.List.{list_any}
use Rattle.std.specs.Option.{option_map_or}
use Rattle.std.proofs.lemmas.Nat.Bits.{bit_at-zero}
use Rattle.cps_code.specs.Image.{Piece, word_at, covers_word, packed_bit, packed_word, ArePacked}
use Rattle.cps_code.specs.Bits.{bit_from_left, number_of_bits}
use Rattle.cps_code.specs.Code.Slots.{AreWords}
use Rattle.cps_code.proofs.NumberLemmas.{number_of_bits-same, number_of_bits-whole}

word_of : (stands : Option ℕ) (test : Bool) (bit : ℕ → ℕ) → IfSome stands (λ word. word < 2 ^ 60) → is_some stands ≡ test
    → ((at : ℕ) → at < 60 → bit_from_left 60 (unwrap_or stands 0) at ≡ bit at) → stands ≡ cond test (Some (number_of_bits bit 60)) None
word_of None test bit small is bits = rw (← is) refl
word_of (Some word) test bit small is bits =
    let whole = number_of_bits-whole word 60 small in
    let same = number_of_bits-same (bit_from_left 60 word) bit 60 bits in
    rw (← is) (ap Some (sym whole ∙ same))

-- a word that stands is the one that the pieces make
pub word_at-packed : (pieces : List Piece) (words : List (Option ℕ)) (address : ℕ) → AreWords words → ArePacked pieces words → word_at words address ≡ packed_word pieces address
word_at-packed pieces words address small packed =
    word_of (word_at words address) (list_any (covers_word address) pieces) (packed_bit pieces address) (small address) (packed.stand address) (packed.bits address)

chosen : {X : Type 0} (test : Bool) (f : X → ℕ) (x : X) (other : Option X) → option_map_or f (cond test (Some x) other) 0 ≡ cond test (f x) (option_map_or f other 0)
chosen true f x other = refl
chosen false f x other = refl

or_false : (b : Bool) → (b || false) ≡ b
or_false true = refl
or_false false = refl

pub packed-none : ArePacked [] []
packed-none = record { stand = λ address. refl; bits = λ address at within. bit_at-zero (59 - at) }
