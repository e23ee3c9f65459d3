-- For the code that goes through chunks, not part of what a reader believes: what is kept of a chunk is that of its lines.
use Rattle.std.specs.Prelude.{◌≡◌, ℕ, ◌≤◌, List, [], ◌∷◌, length, take, drop, map, None, IfSome}
use Rattle.cps_state.specs.declared.hashing.Hashing.{Hashing}
use Rattle.cps_state.specs.Course.{Trace}
use Rattle.cps_final.specs.Code.RunGathering.{kept_run}
use Rattle.cps_final.specs.NamedFinals.{names_in}
use Rattle.cps_final.specs.Code.Storage.{IsStored}
use Rattle.cps_chunk.specs.declared.chunk.Chunk.{Chunk}
use Rattle.cps_chunk.specs.KeyFilter.{AreMarked, HasAll, keys_put, keys_asked, keys_named}

-- a chunk of lines which did this, and so is what was gathered
pub record IsChunkOf (hashing : Hashing) (traces : List Trace) (chunk : Chunk) : Type 0 where
  pub lines : length traces ≡ chunk.lines
  pub puts : AreMarked hashing chunk.puts (keys_put traces)
  pub asks : AreMarked hashing chunk.reads (keys_asked traces)
  pub names : AreMarked hashing chunk.reads (keys_named traces)
  pub run : IfSome chunk.run (λ run. run ≡ kept_run traces)
  pub names_kept : IfSome chunk.names (λ names. names ≡ names_in traces)
  pub storage : IfSome chunk.storage (λ storage. IsStored storage traces)

-- what a line did was marked, no mark was lost, and nothing is gathered
pub record WasMarked (hashing : Hashing) (trace : Trace) (old new : Chunk) : Type 0 where
  pub kept_puts : HasAll old.puts new.puts
  pub kept_reads : HasAll old.reads new.reads
  pub puts : AreMarked hashing new.puts (keys_put (trace ∷ []))
  pub asks : AreMarked hashing new.reads (keys_asked (trace ∷ []))
  pub names : AreMarked hashing new.reads (keys_named (trace ∷ []))
  pub no_run : new.run ≡ None
  pub no_names : new.names ≡ None
  pub no_storage : new.storage ≡ None

-- how many lines each chunk has
abbrev pub lengths_of : List Chunk → List ℕ
lengths_of chunks = map (λ chunk. chunk.lines) chunks

-- the chunks of lines which did this
abbrev pub AreChunksOf : Hashing → List Chunk → List Trace → Type 0
AreChunksOf hashing [] traces = traces ≡ []
AreChunksOf hashing (chunk ∷ chunks) traces =
    (chunk.lines ≤ length traces) × IsChunkOf hashing (take chunk.lines traces) chunk × AreChunksOf hashing chunks (drop chunk.lines traces)
