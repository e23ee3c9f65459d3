use Rattle.cps_chunk.proofs.ExchangeLemmas.{exchanged-divides, exchanged-stay}
use Rattle.cps_chunk.proofs.division_laws.an_exchange_divides_again.Goals as goal

pub returns : goal.returns
returns c = λ e count lengths division within. (
  exchanged-divides e.keep e.mid e.from count lengths division within.first within.second within.all,
  exchanged-stay e.keep e.mid e.from count lengths division,
)
