-- Which chunks an edit touches, by the sources before it and after it and by their divisions alone. A chunk of the new division is touched if it isn't an old
-- chunk with the same lines, or if something that its lines ask of the state in front of them has another answer there now, or if something that
-- they name has another final value. Our own.
use Rattle.std.specs.Prelude.{ℕ, ◌+◌, ◌-◌, Bool, true, not, ◌&&◌, nat_eq, List, [], ◌∷◌, ◌++◌, length, take, drop, map, Option, None, Some, if◌then◌else◌}
use Rattle.std.specs.List.{list_any}
use Rattle.std.specs.Cmp.Lexicographic.{pointwise}
use Rattle.cps_state.specs.Keys.{State, first_state}
use Rattle.cps_state.specs.Course.{Trace}
use Rattle.cps_final.specs.Outcome.{Resolved}
use Rattle.cps_chunk.specs.Staying.{stay_in_front, stay_behind}
use Rattle.cps_edit.specs.declared.exchange.Exchange.{Exchange}
use Rattle.cps_edit.specs.Exchange.{exchanged}
use Rattle.cps_edit.specs.Numbers.{numbers, exchanged_numbers}
use Rattle.cps_edit.specs.Passes.{state_after, traces_of}
use Rattle.cps_final.specs.Holds.{holds}
use Rattle.cps_final.specs.Agreeing.{same_named}
use Rattle.cps_edit.specs.Splice.{Splice, spliced}
use Rattle.cps_edit.specs.Disturbed.{finals_in}
use Rattle.cps_edit.specs.Renewed.{nones}
use Rattle.cps_final.specs.Run.{run_of}
use Rattle.cps_final.specs.NamedFinals.{statements_of}

-- a list cut into pieces of these lengths
abbrev pub cut : {X : Type 0} → List ℕ → List X → List (List X)
cut [] xs = []
cut (n ∷ lengths) xs = take n xs ∷ cut lengths (drop n xs)

-- what the lines of each chunk of the new division did before the edit; None: it isn't an old chunk with the same lines
abbrev pub done_before : List Trace → ℕ → ℕ → List ℕ → List ℕ → List (Option (List Trace))
done_before traces front behind olds news =
    map Some (take front (cut olds traces)) ++ (nones (length news - front - behind) ++ map Some (drop (length olds - behind) (cut olds traces)))

abbrev pub is_touched : Resolved → Resolved → State → Option (List Trace) → Bool
is_touched was now state None = true
is_touched was now state (Some traces) = not (holds (run_of traces).asks state && same_named was now (statements_of traces))

-- how many chunks of these lines are touched, the first of them in this state
abbrev pub touched_from : Resolved → Resolved → State → List (List (List ℕ)) → List (Option (List Trace)) → ℕ
touched_from was now state [] dones = 0
touched_from was now state (lines ∷ chunks) [] = 0
touched_from was now state (lines ∷ chunks) (done ∷ dones) =
    (if is_touched was now state done then 1 else 0) + touched_from was now (state_after state lines) chunks dones

-- how many chunks an edit touches that makes one division of another
abbrev pub touched_of : List (List ℕ) → Splice → List ℕ → List ℕ → ℕ
touched_of lines splice olds news =
    touched_from (finals_in lines) (finals_in (spliced lines splice)) first_state (cut news (spliced lines splice))
    (done_before (traces_of lines) (stay_in_front splice.keep olds news) (stay_behind (length lines - splice.from) olds news) olds news)

-- ---- a move

-- What the lines of each chunk did before a move, by the numbers that they had; None: these aren't the numbers of the lines of an old chunk.
abbrev pub did_as_chunks : List (List ℕ) → List (List ℕ) → List (List Trace) → List (Option (List Trace))
did_as_chunks olds [] dones = []
did_as_chunks olds (ns ∷ news) [] = []
did_as_chunks olds (ns ∷ news) (done ∷ dones) = (if list_any (pointwise nat_eq ns) olds then Some done else None) ∷ did_as_chunks olds news dones

-- how many chunks a move touches that makes one division of another
abbrev pub touched_of_exchange : List (List ℕ) → Exchange → List ℕ → List ℕ → ℕ
touched_of_exchange lines e olds news =
    touched_from (finals_in lines) (finals_in (exchanged e lines)) first_state (cut news (exchanged e lines))
    (did_as_chunks (cut olds (numbers 0 (length lines))) (cut news (exchanged_numbers (length lines) e)) (cut news (exchanged e (traces_of lines))))
