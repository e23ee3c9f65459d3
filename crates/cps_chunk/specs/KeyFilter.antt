-- A filter of keys: a key whose bit is 0 is none of those that were marked. Our own.
use Rattle.std.specs.Prelude.{◌≡◌, ℕ, ◌/◌, ◌%◌, ◌^◌, Bool, true, ◌&&◌, nat_eq, List, fold, flat_map, map, slice_index}
use Rattle.std.specs.List.{list_all}
use Rattle.std.specs.Int.{bit_at}
use Rattle.std.specs.Hash.FoldHasher.{write, finish}
use Rattle.cps_state.specs.declared.hashing.Hashing.{Hashing}
use Rattle.cps_state.specs.declared.key.Key.{Key}
use Rattle.cps_state.specs.declared.key.Key.TheVariants as key
use Rattle.cps_state.specs.contracts.key.KeyHash.TheImpl.{hash_input-value}
use Rattle.cps_state.specs.Course.{Trace}
use Rattle.cps_final.specs.LineNames.{later_names}
use Rattle.cps_chunk.specs.declared.key_filter.KeyFilter.{KeyFilter}

-- a key's mark: the first 22 bits of its hash, which are the numbers of its two bits in a filter
unfoldable pub mark_of : Hashing → Key → ℕ
mark_of hashing k = finish (fold write hashing.begun (hash_input-value.it k)) / 2 ^ 42 % 2 ^ 22

-- whether a bit is 1
abbrev pub is_set : KeyFilter → ℕ → Bool
is_set filter bit = nat_eq (bit_at (slice_index filter.bits (bit / 64)) (bit % 64)) 1

-- whether a mark is there
abbrev pub has : KeyFilter → ℕ → Bool
has filter mark = is_set filter (mark / 2048) && is_set filter (mark % 2048)

-- all these keys have their marks
abbrev pub AreMarked : Hashing → KeyFilter → List Key → Type 0
AreMarked hashing marks keys = list_all (λ k. has marks (mark_of hashing k)) keys ≡ true

-- no bit is lost
abbrev pub HasBits : KeyFilter → KeyFilter → Type 0
HasBits old new = (bit : ℕ) → is_set old bit ≡ true → is_set new bit ≡ true

-- no mark is lost
abbrev pub HasAll : KeyFilter → KeyFilter → Type 0
HasAll old new = (mark : ℕ) → has old mark ≡ true → has new mark ≡ true

-- the keys that a line puts, those that it asks, and those of the labels that its contents name
abbrev pub puts_at : Trace → List Key
puts_at trace = map (λ p. p.key) trace.puts

abbrev pub asks_at : Trace → List Key
asks_at trace = map (λ asked. asked.key) trace.asks

abbrev pub names_at : Trace → List Key
names_at trace = map key.Label (later_names trace)

-- the same of lines
abbrev pub keys_put : List Trace → List Key
keys_put traces = flat_map puts_at traces

abbrev pub keys_asked : List Trace → List Key
keys_asked traces = flat_map asks_at traces

abbrev pub keys_named : List Trace → List Key
keys_named traces = flat_map names_at traces
