mod DivisionLemmas
pub mod ExchangeLemmas
mod PieceLemmas
mod ChunkRunLemmas
mod PiecesLemmas
mod OldChunkLemmas
mod DeletionLemmas
mod PlaceLemmas
mod PutLemmas
mod ChunkCutLemmas
mod DivisionRows
pub mod StayingLemmas
mod TightLemmas
pub mod MarkLemmas
pub mod AbsentLemmas
pub mod ChunkLemmas
pub mod PastLemmas
mod NamedOnceLemmas
pub mod MovedChunkLemmas
pub mod SparseLemmas
pub mod ReplayedLemmas
pub mod ComparedLemmas
pub mod NotedLemmas
pub mod ReplayLemmas
pub mod RedoLemmas
pub mod LeavingLemmas
pub mod StoringLemmas
pub mod RunLemmas
pub mod KeysLemmas
pub mod PassedLemmas
pub mod SoughtLemmas
pub mod WalkLemmas
pub mod GoLemmas
pub mod EnterLemmas
pub mod OverLemmas
pub mod ExchangedLemmas
pub mod MovedLemmas
pub mod FrontsLemmas
pub mod CountingLemmas
pub mod CarryLemmas
pub mod SpanLemmas
pub mod AlongLemmas
pub mod CutLemmas
pub mod PlanLemmas
pub mod ItemLemmas
pub mod PartLemmas
pub mod TouchedLemmas
pub mod MoveSpanLemmas
pub mod SeamLemmas
pub mod WeightLemmas
pub mod FrontLemmas
pub mod MoveLooksLemmas
pub mod NamedLemmas
pub mod ListLemmas
mod StandLemmas
mod PlacingStands
mod StatementStands
mod LineStands
mod LocalStands
pub mod EditCounts
mod PutLines
mod ChunkEnds
mod ChunkFillings
mod PutChunks
mod ChunkCounterparts
mod TouchedCounterparts
