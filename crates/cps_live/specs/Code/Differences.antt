-- For the code that compares final values, not part of what a reader believes: a test by the labels that have other ones.
use Rattle.std.specs.Prelude.{◌≡◌, ℕ, Bool, true, false, not, is_some, List, Option, None, Some, IfSome, map, option_map}
use Rattle.std.specs.List.{list_any}
use Rattle.cps_text.specs.declared.name.Name.{Name}
use Rattle.cps_expr.specs.Value.{same_name}
use Rattle.cps_state.specs.declared.hashing.Hashing.{Hashing}
use Rattle.cps_state.specs.declared.key.Key.TheVariants as key
use Rattle.cps_chunk.specs.declared.key_filter.KeyFilter.{KeyFilter}
use Rattle.cps_chunk.specs.KeyFilter.{AreMarked, keys_named, mark_of}
use Rattle.cps_final.specs.Code.Kept.{changes_in}
use Rattle.cps_final.specs.Finals.{Named, label, setting, block, literal}
use Rattle.cps_final.specs.Agreeing.{same_at}
use Rattle.cps_final.specs.Code.Ends.{was_of, now_of}
use Rattle.cps_final.specs.declared.ends.Ends.{Ends}
use Rattle.cps_state.specs.Course.{Trace}
use Rattle.cps_final.specs.NamedFinals.{all_pass, names_in}
use Rattle.cps_live.specs.Code.NamesRead.{HasReadBy}
use Rattle.cps_live.specs.declared.names_read.NamesRead.{NamesRead}
use Rattle.cps_live.specs.declared.differences.Differences.{Differences}

-- all but the labels that are known to have other final values; where these aren't known, what has the same
abbrev pub passes_by : Ends → Option (List Name) → Named → Bool
passes_by ends None named = same_at (was_of ends) (now_of ends) named
passes_by ends (Some labels) (label name) = not (list_any (λ other. same_name other name) labels)
passes_by ends (Some labels) (setting name) = same_at (was_of ends) (now_of ends) (setting name)
passes_by ends (Some labels) (block name) = true
passes_by ends (Some labels) (literal word) = true

abbrev pub passes : Differences → Named → Bool
passes differences named = passes_by differences.ends (option_map (λ labels. labels.items) differences.labels) named

-- they say of all that can be named whether it has the same final value
abbrev pub AreExact : Differences → Type 0
AreExact differences = (named : Named) → passes differences named ≡ same_at (was_of differences.ends) (now_of differences.ends) named

-- where none of the labels with other final values is read, all that lines name has the same, if they read no symbols but these
abbrev pub AreKnown : NamesRead → Differences → Type 0
AreKnown read differences = differences.unread ≡ true → (ts : List Trace) → HasReadBy read ts → all_pass (passes differences) (names_in ts) ≡ true

-- the marks of labels
abbrev pub marks_of : Hashing → List Name → List ℕ
marks_of hashing labels = map (λ name. mark_of hashing (key.Label name)) labels

-- the labels are sought by these
abbrev pub AreSoughtBy : Hashing → Differences → Type 0
AreSoughtBy hashing differences = IfSome differences.labels (λ labels. differences.sought ≡ marks_of hashing labels.items)

-- all that lines name has the same final value whose labels have these marks
abbrev pub PassMarked : Differences → KeyFilter → Type 0
PassMarked differences marks =
    (hashing : Hashing) (ts : List Trace) → AreSoughtBy hashing differences → AreMarked hashing marks (keys_named ts) → all_pass (passes differences) (names_in ts) ≡ true

-- each block and each literal stands where it stood
pub record PlacesStandIn (ends : Ends) : Type 0 where
  pub blocks : (name : Option Name) → was_of ends (block name) ≡ now_of ends (block name)
  pub literals : (word : ℕ) → was_of ends (literal word) ≡ now_of ends (literal word)

-- these are the labels that are changed and have other final values
pub record IsListed (ends : Ends) (labels : List Name) : Type 0 where
  pub differ : (name : Name) → list_any (λ other. same_name other name) labels ≡ true → same_at (was_of ends) (now_of ends) (label name) ≡ false
  pub changed : (name : Name) → is_some (changes_in ends.patch.now.changes (key.Label name)) ≡ true → same_at (was_of ends) (now_of ends) (label name) ≡ false
      → list_any (λ other. same_name other name) labels ≡ true
