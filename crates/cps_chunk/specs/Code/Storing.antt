-- For the code, not part of what a reader believes: what lines leave for where blocks and literals stand: their puts at counters, their literals, and the name that they give the program.
use Rattle.std.specs.Prelude.{◌≡◌, ℕ, ◌+◌, Bool, true, false, List, ◌++◌, length, drop, filter, flat_map, Option}
use Rattle.cps_text.specs.declared.name.Name.{Name}
use Rattle.cps_state.specs.declared.key.Key.{Key}
use Rattle.cps_state.specs.declared.key.Key.TheVariants as key
use Rattle.cps_state.specs.declared.key.Put.{Put}
use Rattle.cps_state.specs.Course.{Trace}
use Rattle.cps_state.specs.Keys.{first_state}
use Rattle.cps_final.specs.Layout.{puts_of}
use Rattle.cps_final.specs.Finals.{Finals, finals_of, program_of}
use Rattle.cps_final.specs.Pool.{literals_in}
use Rattle.cps_final.specs.Code.Storage.{IsStored}
use Rattle.cps_final.specs.declared.storage.Storage.{Storage}
use Rattle.cps_chunk.specs.declared.sparse.SparseItem.{SparseItem}
use Rattle.cps_chunk.specs.Sparse.{AreWithin, renewed}

abbrev pub is_counter : Key → Bool
is_counter (key.Counter block) = true
is_counter _ = false

-- what lines put at counters
abbrev pub counters_in : List Put → List Put
counters_in puts = filter (λ (p : Put). is_counter p.key) puts

pub record Left : Type 0 where
  pub puts : List Put
  pub literals : List ℕ
  pub program : Option Name

abbrev pub left_by : List Trace → Left
left_by traces = record {
  puts = counters_in (puts_of traces);
  literals = flat_map literals_in traces;
  program = program_of traces;
}

-- where blocks and literals stand behind lines, whatever stands at keys
abbrev pub stored_by : List Trace → Finals
stored_by traces = record (finals_of traces) { state = first_state }

-- lines that leave the same may stand in the place of one another
abbrev pub LeftLaw : Type 0
LeftLaw = (front olds news behind : List Trace) → left_by olds ≡ left_by news
    → stored_by (front ++ (olds ++ behind)) ≡ stored_by (front ++ (news ++ behind))

-- ---- for the code that keeps where they stand

-- it is that of some lines more
abbrev pub StoresAlso : Storage → Storage → List Trace → Type 0
StoresAlso old new traces = (before : List Trace) → IsStored old before → IsStored new (before ++ traces)

-- The first so many lines, from a place on, are stored with what is new among them, and the rest stands behind them with these that are left.
pub record StoresSome (old new : Storage) (from : ℕ) (olds whole : List Trace) (done : ℕ) (left : List (SparseItem Trace)) : Type 0 where
  pub first : List Trace
  pub stores : StoresAlso old new first
  pub rest : first ++ renewed (from + done) left (drop done olds) ≡ whole
  pub within : AreWithin (from + done) (from + length olds) left
