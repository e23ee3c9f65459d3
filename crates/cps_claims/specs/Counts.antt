-- For which words an octal text claims digits. Our own.
use Rattle.std.specs.Prelude.{◌≡◌, ℕ, ◌<◌, ◌≤◌, Bool, true, false, ◌==◌, ◌&&◌, List}
use Rattle.std.specs.List.{list_any, range_with_len}
use Rattle.std.specs.Bool.{MatchBool}
use Rattle.cps_claims.specs.Claims.{Claimed, known}

abbrev pub is_for : ℕ → ℕ → Claimed → Bool
is_for address place claim = (claim.address == address) && (claim.place == place)

-- a word has at most 20 digits
unfoldable pub places : List ℕ
places = range_with_len 0 20

-- whether a digit of a word is claimed that can be read
abbrev pub is_given : List Claimed → ℕ → Bool
is_given claims address = list_any (λ claim. claim.address == address) (known claims)

pub record IsFirst (claims : List Claimed) (address : ℕ) : Type 0 where
  pub here : is_given claims address ≡ true
  pub before : (other : ℕ) → other < address → is_given claims other ≡ false

pub record IsLast (claims : List Claimed) (address : ℕ) : Type 0 where
  pub here : is_given claims address ≡ true
  pub behind : (other : ℕ) → address < other → is_given claims other ≡ false

abbrev pub GivesNone : List Claimed → Type 0
GivesNone claims = (address : ℕ) → is_given claims address ≡ false

-- whether a word is given between two addresses, both counted
abbrev pub SomeBetween : List Claimed → ℕ → ℕ → Bool → Type 0
SomeBetween claims low high result = MatchBool result
    ((address : ℕ) × (low ≤ address) × (address ≤ high) × (is_given claims address ≡ true))
    ((address : ℕ) → low ≤ address → address ≤ high → is_given claims address ≡ false)
