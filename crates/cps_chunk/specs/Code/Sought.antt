-- For the code that seeks changed keys in chunks, not part of what a reader believes.
use Rattle.std.specs.Prelude.{◌≡◌, ℕ, Bool, true, false, List, Option, IfSome, map, is_some}
use Rattle.std.specs.List.{list_any}
use Rattle.cps_state.specs.declared.hashing.Hashing.{Hashing}
use Rattle.cps_state.specs.declared.key.Key.{Key}
use Rattle.cps_state.specs.Course.{Trace}
use Rattle.cps_state.specs.Keys.{same_key}
use Rattle.cps_final.specs.declared.changes.Changes.{Changes}
use Rattle.cps_final.specs.Code.Kept.{changes_in, keys_in}
use Rattle.cps_chunk.specs.KeyFilter.{mark_of, has}
use Rattle.cps_chunk.specs.declared.chunk.Chunk.{Chunk}

-- the keys that are sought are those that are changed, if any are
abbrev pub AreSought : Hashing → Changes → Option (List ℕ) → Type 0
AreSought hashing changes sought = IfSome sought (λ marks. marks ≡ map (mark_of hashing) (keys_in changes))

-- no changed key has its mark in a chunk
pub record IsUntouchedBy (hashing : Hashing) (changes : Changes) (chunk : Chunk) : Type 0 where
  pub reads : (k : Key) → is_some (changes_in changes k) ≡ true → has chunk.reads (mark_of hashing k) ≡ false
  pub puts : (k : Key) → is_some (changes_in changes k) ≡ true → has chunk.puts (mark_of hashing k) ≡ false

-- so it is where those that are sought are the changed ones
abbrev pub IsUntouched : Chunk → Option (List ℕ) → Type 0
IsUntouched chunk sought = (hashing : Hashing) (changes : Changes) → AreSought hashing changes sought → IsUntouchedBy hashing changes chunk

-- whether a key is asked by one of some lines
abbrev pub is_asked : List Trace → Key → Bool
is_asked traces k = list_any (λ trace. list_any (λ asked. same_key asked.key k) trace.asks) traces
