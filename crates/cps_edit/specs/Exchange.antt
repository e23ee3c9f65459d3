-- A move of lines: two runs that stand side by side change places. Our own.
use Rattle.std.specs.Prelude.{ℕ, ◌+◌, ◌-◌, ◌≤◌, nat_lt, nat_eq, Bool, ◌||◌, List, ◌++◌, take, drop, if◌then◌else◌}
use Rattle.cps_edit.specs.declared.exchange.Exchange.{Exchange}

-- the items after the first `keep`, up to the first `mid`, and the items after these, up to the first `from`
abbrev pub exchange_at : ℕ → ℕ → ℕ → Exchange
exchange_at keep mid from = record { keep = keep; mid = mid; from = from }

-- so many items have both runs
pub record IsWithin (count : ℕ) (e : Exchange) : Type 0 where
  pub first : e.keep ≤ e.mid
  pub second : e.mid ≤ e.from
  pub all : e.from ≤ count

-- a list in which they have changed places
abbrev pub exchanged : {X : Type 0} → Exchange → List X → List X
exchanged e xs = take e.keep xs ++ (drop e.mid (take e.from xs) ++ (drop e.keep (take e.mid xs) ++ drop e.from xs))

-- one of them has no item, so that nothing changes its place
abbrev pub is_idle : Exchange → Bool
is_idle e = nat_eq e.keep e.mid || nat_eq e.mid e.from

-- the exchange that undoes it
abbrev pub back_of : Exchange → Exchange
back_of e = exchange_at e.keep (e.keep + (e.from - e.mid)) e.from

-- the lines from one number to another go after the line of a third, 0 for the front; lines count from 1, as they stand before
abbrev pub move : ℕ → ℕ → ℕ → Exchange
move first last after = if nat_lt after first then exchange_at after (first - 1) last else exchange_at (first - 1) last after
