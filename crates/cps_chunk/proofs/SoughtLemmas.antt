-- Changed keys that are sought in chunks.
use Rattle.std.proofs.Common.{◌≡◌, ℕ, refl, sym, ap, ◌∙◌, Bool, true, false, ◌||◌, List, [], ◌∷◌, map, Some}
use Rattle.std.specs.Prelude.{is_some}
use Rattle.std.specs.List.{list_any}
use Rattle.std.proofs.lemmas.Bool.{or_parts}
use Rattle.cps_state.specs.declared.hashing.Hashing.{Hashing}
use Rattle.cps_state.specs.declared.key.Key.{Key}
use Rattle.cps_state.specs.Course.{Trace}
use Rattle.cps_final.specs.Changes.{agreed}
use Rattle.cps_final.specs.declared.changes.Changes.{Changes}
use Rattle.cps_final.specs.Code.Kept.{changes_in, keys_in}
use Rattle.cps_final.specs.Layout.{puts_of}
use Rattle.cps_final.specs.Run.{run_of}
use Rattle.cps_chunk.specs.declared.chunk.Chunk.{Chunk}
use Rattle.cps_chunk.specs.declared.key_filter.KeyFilter.{KeyFilter}
use Rattle.cps_chunk.specs.KeyFilter.{AreMarked, has, keys_asked, keys_put, mark_of}
use Rattle.cps_chunk.specs.Noted.{stands}
use Rattle.cps_chunk.specs.Code.Sought.{AreSought, IsUntouchedBy}
use Rattle.cps_chunk.proofs.AbsentLemmas.{not-put}
use Rattle.cps_chunk.proofs.KeysLemmas.{none-had, settled-none}
use Rattle.cps_chunk.proofs.PassedLemmas.{unmarked-stands}

pub any-map : {X Y : Type 0} (p : Y → Bool) (f : X → Y) (xs : List X) → list_any p (map f xs) ≡ list_any (λ x. p (f x)) xs
any-map p f [] = refl
any-map p f (x ∷ xs) = ap (λ b. p (f x) || b) (any-map p f xs)

pub or-none : (a b : Bool) → (a || b) ≡ false → (a ≡ false) × (b ≡ false)
or-none a b none = or_parts a b none

module _ (hashing : Hashing) (changes : Changes) where
  none-in : (filter : KeyFilter) (marks : List ℕ) → marks ≡ map (mark_of hashing) (keys_in changes) → list_any (has filter) marks ≡ false
      → (k : Key) → is_some (changes_in changes k) ≡ true → has filter (mark_of hashing k) ≡ false
  none-in filter marks are none =
      none-had (λ k. has filter (mark_of hashing k)) changes (sym (any-map (has filter) (mark_of hashing) (keys_in changes)) ∙ ap (list_any (has filter)) (sym are) ∙ none)

  -- none of those that are sought has its mark
  pub none-sought : (chunk : Chunk) (marks : List ℕ) → AreSought hashing changes (Some marks) → list_any (has chunk.reads) marks ≡ false → list_any (has chunk.puts) marks ≡ false
      → IsUntouchedBy hashing changes chunk
  none-sought chunk marks are reads puts = record { reads = none-in chunk.reads marks are reads; puts = none-in chunk.puts marks are puts }

  -- then lines of the chunk do what they did, and put no changed key
  module _ (chunk : Chunk) (out : IsUntouchedBy hashing changes chunk) (ts : List Trace) where
    pub untouched-stands : AreMarked hashing chunk.reads (keys_asked ts) → stands (changes_in changes) (run_of ts).asks ≡ true
    untouched-stands marked = unmarked-stands hashing chunk.reads (changes_in changes) out.reads ts marked

    pub untouched-agreed : AreMarked hashing chunk.puts (keys_put ts) → agreed (changes_in changes) (puts_of ts) ≡ changes_in changes
    untouched-agreed marked =
        settled-none (changes_in changes) (puts_of ts) (λ k there. ap is_some (not-put hashing chunk.puts k (out.puts k there) ts marked))
