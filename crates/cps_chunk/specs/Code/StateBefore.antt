-- For the code that looks backwards, not part of what a reader believes: what stands at a key behind lines, sought from the last of them
-- on, in those chunks alone that have the key's mark.
use Rattle.std.specs.Prelude.{◌-◌, List, [], ◌∷◌, length, take, drop, reverse, Option, None, if◌then◌else◌}
use Rattle.std.specs.Option.{option_or}
use Rattle.cps_state.specs.declared.hashing.Hashing.{Hashing}
use Rattle.cps_state.specs.declared.key.Key.{Key}
use Rattle.cps_state.specs.declared.key.Answer.{Answer}
use Rattle.cps_state.specs.Course.{Trace, last_put}
use Rattle.cps_state.specs.Keys.{State}
use Rattle.cps_final.specs.Layout.{puts_of}
use Rattle.cps_chunk.specs.declared.chunk.Chunk.{Chunk}
use Rattle.cps_chunk.specs.declared.state_before.StateBefore.{StateBefore}
use Rattle.cps_chunk.specs.KeyFilter.{has, mark_of}

-- in chunks from the last one on
abbrev pub sought_from : Hashing → List Chunk → List Trace → Key → Option Answer
sought_from hashing [] traces k = None
sought_from hashing (chunk ∷ before) traces k =
    let start = length traces - chunk.lines in
    let here : Option Answer = if has chunk.puts (mark_of hashing k) then last_put (puts_of (drop start traces)) k else None in
    option_or here (sought_from hashing before (take start traces) k)

-- in chunks in their order
abbrev pub sought : Hashing → List Chunk → List Trace → Key → Option Answer
sought hashing chunks traces k = sought_from hashing (reverse chunks) traces k

-- what is found at a key: in the lines that are in no chunk, in the chunks, else before all lines
abbrev pub found : State → StateBefore → State
found first past k =
    let in_chunks : Option Answer = sought past.hashing past.chunks.now past.front.now k in
    option_or (last_put (puts_of past.loose.now) k) (option_or in_chunks (first k))
