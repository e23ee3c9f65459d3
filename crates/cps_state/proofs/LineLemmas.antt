-- What a course makes of a line is what it makes in the line's state.
use Rattle.std.proofs.Common.{◌≡◌, refl, Bool, true, false, List, length}
use Rattle.std.specs.Prelude.{if◌then◌else◌}
use Rattle.cps_state.specs.Course.{Course, stop, ask, put, stand, fill, mark, tell, settle, begin, Running, run, answer_at, with_ask, with_put_made, stood, filled, marked, with_read, settled_by, begun, too_much}
use Rattle.cps_state.specs.declared.item.Item.{Item}
use Rattle.cps_state.specs.Keys.{State}
use Rattle.cps_state.specs.Code.Line.{Line, runs}

-- what was done, and whether all of it was
abbrev ended : {S : Type 0} → Line S × Bool → Running × Bool
ended line = (line.0.done, line.1)

stopped : {S : Type 0} (stops : Bool) (here : Line S) (line : Line S × Bool) (on : Running × Bool) → ended line ≡ on
    → ended (if stops then (here, false) else line) ≡ (if stops then (here.done, false) else on)
stopped true here line on same = refl
stopped false here line on same = same

pub runs-done : {S : Type 0} (course : Course) (answer : S → State) (state : S) (before : List Item) (done : Running)
    → ended (runs course answer (record { state = state; before = before; done = done })) ≡ run course (answer state) done
runs-done stop answer state before done = refl
runs-done (ask k next) answer state before done = runs-done (next (answer_at (answer state) done k)) answer state before (with_ask (answer state) done k)
runs-done (put p rest) answer state before done = runs-done rest answer state before (with_put_made done p)
runs-done (stand block rest) answer state before done = runs-done rest answer state before (stood done block)
runs-done (fill made rest) answer state before done = runs-done rest answer state before (filled done made)
runs-done (mark flags rest) answer state before done = runs-done rest answer state before (marked done flags)
runs-done (tell name rest) answer state before done = runs-done rest answer state before (with_read done name)
runs-done (settle rest) answer state before done = runs-done rest answer state before (settled_by done)
runs-done (begin depth text rest) answer state before done =
    stopped (too_much (length done.finished) depth) (record { state = state; before = before; done = done })
    (runs rest answer (record { state = state; before = before; done = begun done depth text }))
    (run rest (answer state) (begun done depth text)) (runs-done rest answer state before (begun done depth text))

-- the statements of the lines before stay
kept : {S : Type 0} (stops : Bool) (here : Line S) (line : Line S × Bool) (before : List Item) → here.before ≡ before → line.0.before ≡ before
    → (if stops then (here, false) else line).0.before ≡ before
kept true here line before is was = is
kept false here line before is was = was

pub runs-before : {S : Type 0} (course : Course) (answer : S → State) (state : S) (before : List Item) (done : Running)
    → (runs course answer (record { state = state; before = before; done = done })).0.before ≡ before
runs-before stop answer state before done = refl
runs-before (ask k next) answer state before done = runs-before (next (answer_at (answer state) done k)) answer state before (with_ask (answer state) done k)
runs-before (put p rest) answer state before done = runs-before rest answer state before (with_put_made done p)
runs-before (stand block rest) answer state before done = runs-before rest answer state before (stood done block)
runs-before (fill made rest) answer state before done = runs-before rest answer state before (filled done made)
runs-before (mark flags rest) answer state before done = runs-before rest answer state before (marked done flags)
runs-before (tell name rest) answer state before done = runs-before rest answer state before (with_read done name)
runs-before (settle rest) answer state before done = runs-before rest answer state before (settled_by done)
runs-before (begin depth text rest) answer state before done =
    kept (too_much (length done.finished) depth) (record { state = state; before = before; done = done })
    (runs rest answer (record { state = state; before = before; done = begun done depth text })) before refl (runs-before rest answer state before (begun done depth text))
