-- For the code, not part of what a reader believes: where lines come to stand that an edit redoes.
use Rattle.std.specs.Prelude.{◌≡◌, ℕ, ◌+◌, ◌-◌, nat_lt, List, map, vec_len, if◌then◌else◌}
use Rattle.cps_final.specs.Outcome.{Outcome}
use Rattle.cps_chunk.specs.declared.put.ChunkSplice.{ChunkSplice}
use Rattle.cps_chunk.specs.declared.sparse.SparseItem.{SparseItem}
use Rattle.cps_live.specs.declared.news.News.{News}
use Rattle.cps_live.specs.declared.redone.Redone.{Redone}

-- where a line comes to stand: among the first `keep` where it stood, and else so far behind a place as it stood behind the first `from`
abbrev pub place_behind : ℕ → ℕ → ℕ → ℕ → ℕ
place_behind keep from behind at = if nat_lt at keep then at else at - from + behind

-- the same of lines with so many new ones in the place of those after the first `keep` up to the first `from`
abbrev pub places_behind : {X : Type 0} → ℕ → ℕ → ℕ → List (SparseItem X) → List ℕ
places_behind keep from count news = map (λ new. place_behind keep from (keep + count) new.at) news

-- of those that pass two makes anew
abbrev pub ArePlacesOf : ChunkSplice → News Outcome → Redone → Type 0
ArePlacesOf cut news redone = redone.places.items ≡ places_behind cut.keep cut.from (vec_len news.entered) news.renewed.items
