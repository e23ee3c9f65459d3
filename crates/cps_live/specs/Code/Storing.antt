-- For the code that makes an edit, not part of what a reader believes: where blocks and literals stand behind it.
use Rattle.std.specs.Prelude.{◌≡◌, ℕ, List, [], ◌∷◌, ◌++◌, take, drop, map, Option, None, Some}
use Rattle.cps_state.specs.Course.{Trace}
use Rattle.cps_final.specs.Code.Storage.{IsStored}
use Rattle.cps_final.specs.declared.storage.Storage.{Storage}
use Rattle.cps_edit.specs.Passes.{traces_of}
use Rattle.cps_edit.specs.Splice.{Splice, spliced}
use Rattle.cps_chunk.specs.Sparse.{renewed}
use Rattle.cps_chunk.specs.Code.Storing.{Left, left_by, stored_by}
use Rattle.cps_chunk.specs.declared.put.ChunkSplice.{ChunkSplice}
use Rattle.cps_live.specs.declared.news.News.{News}

-- what the lines do behind an edit
abbrev pub edited : ChunkSplice → News Trace → List Trace → List Trace
edited cut news traces = take cut.keep traces ++ (news.entered.items ++ renewed cut.from news.renewed.items (drop cut.from traces))

-- where blocks and literals stand behind these lines now; None: where they stood before
abbrev pub IsStoredBehind : List Trace → Option Storage → List Trace → Type 0
IsStoredBehind olds None news = stored_by olds ≡ stored_by news
IsStoredBehind olds (Some storage) news = IsStored storage news

-- where they stand in a source behind an edit
abbrev pub IsStorageOf : List (List ℕ) → Splice → Option Storage → Type 0
IsStorageOf lines splice next = IsStoredBehind (traces_of lines) next (traces_of (spliced lines splice))

-- what each line leaves for where they stand
abbrev pub left_by_each : List Trace → List Left
left_by_each traces = map (λ (trace : Trace). left_by (trace ∷ [])) traces
