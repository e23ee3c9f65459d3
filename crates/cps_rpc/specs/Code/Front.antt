-- For the code, not part of what a reader believes: what stands at the front of bytes.
use Rattle.std.specs.Prelude.{◌≡◌, ℕ, ◌-◌, ◌≤◌, List, length, map, Option, Some, ⊤}
use Rattle.httparse.specs.Spans.{header_bytes}
use Rattle.httparse.specs.declared.spans.HeaderSpan.{HeaderSpan}
use Rattle.cps_rpc.specs.declared.front.Front.{Front}
use Rattle.cps_rpc.specs.declared.front.Front.TheVariants.{Part, Message, Malformed}
use Rattle.cps_rpc.specs.Header.{length_told}

-- P of where a message begins and ends, if there is one
abbrev pub IfMessage : Front → (ℕ → ℕ → Type 0) → Type 0
IfMessage Part P = ⊤
IfMessage (Message start end) P = P start end
IfMessage Malformed P = ⊤

-- the length that fields tell, by where their names and values stand
abbrev pub told_by : List ℕ → List HeaderSpan → Option ℕ
told_by bytes headers = length_told (map (header_bytes bytes) headers)

-- a message stands behind a header with these fields that ends at `start`: it is as long as they tell, and has come whole
abbrev pub IsBehindHeader : List ℕ → List HeaderSpan → ℕ → ℕ → ℕ → Type 0
IsBehindHeader bytes headers start from end = (from ≡ start) × (start ≤ end) × (end ≤ length bytes) × (told_by bytes headers ≡ Some (end - start))
