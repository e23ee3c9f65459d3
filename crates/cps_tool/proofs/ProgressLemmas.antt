-- How far a script has come, byte by byte and line by line.
use Rattle.std.proofs.Common.{◌≡◌, ℕ, Bool, true, false, not, ◌&&◌, List, [], ◌∷◌, ◌++◌, map, Option, Result, Ok, Err, refl, sym, ap, subst, ◌∙◌, append_assoc, append-nil, inl, inr}
use Rattle.std.specs.List.{list_all}
use Rattle.std.specs.Io.KnownBytes.{Appends, Consumes, IsAtEnd}
use Rattle.std.specs.Prelude.{IfSome, None, Some}
use Rattle.std.proofs.KnownBytes.{Appends-nil, Appends-trans}
use Rattle.std.proofs.lemmas.List.Folds.{list_all-append}
use Rattle.std.proofs.lemmas.List.{map-append}
use Rattle.cps_input.specs.declared.begun_line.BegunLine.{BegunLine}
use Rattle.cps_state.specs.Work.{Counts, no_work}
use Rattle.cps_text.specs.declared.counted.Counted.{Counted}
use Rattle.cps_tool.specs.declared.writing.RunFault.{RunFault}
use Rattle.cps_tool.specs.declared.writing.RunFault.TheVariants as faults
use Rattle.cps_tool.specs.declared.script.Flow.{Flow}
use Rattle.cps_tool.specs.declared.script.Flow.TheVariants.{GoesOn, Ends}
use Rattle.cps_input.specs.Code.BegunLine.{IsBegun}
use Rattle.cps_tool.specs.Command.{is_quit}
use Rattle.cps_tool.specs.EditReplies.{Standing, at, beginning}
use Rattle.cps_input.proofs.SplitLemmas.{left_true, right_true, splits-none, splits-line, splits-piece, split_of}
use Rattle.cps_input.specs.Lines.{Splits, has_no_newline, without_return, last_line, newline}
use Rattle.cps_tool.specs.Reply.{Response, reply_text}
use Rattle.cps_tool.specs.Script.{Run, RunsScript, Script, FrontOfScript, LinesOfScript, IsAnswered, HasQuit, LacksQuit, IsReadToEnd, AreAnswered, goes_on, command_lines, before_quit}
use Rattle.cps_tool.specs.Code.Progress.{MatchFlow, IsReplied, IsPartlyReplied, IsLast, Progress, Takes, Finishes}

-- ---- running lines

and_false : (a : Bool) → (a && false) ≡ false
and_false true = refl
and_false false = refl

pub run-more : (lines : List (List ℕ)) (start mid new : Standing) (text line : List ℕ) (response : Response) → Run start lines text mid → IsAnswered mid line response new
    → Run start (lines ++ line ∷ []) (text ++ reply_text response) new
run-more [] start mid new text line response run answer =
    let none = run.0 in let same = run.1 in
    (response, new, [], rw (← same) answer, (refl, refl), rw none (sym (append-nil (reply_text response))))
run-more (first ∷ lines) start mid new text line response run answer =
    let later = run-more lines run.1 mid new run.2 line response run.4 answer in
    (run.0, run.1, run.2 ++ reply_text response, run.3, later, ap (λ t. t ++ reply_text response) run.5 ∙ append_assoc (reply_text run.0) run.2 (reply_text response))

not_quit : (test : Bool) → not test ≡ true → test ≡ false
not_quit true h = cc
not_quit false h = refl

pub before_quit-going : (lines later : List (List ℕ)) → list_all goes_on lines ≡ true → before_quit (lines ++ later) ≡ lines ++ before_quit later
before_quit-going [] later going = refl
before_quit-going (line ∷ lines) later going =
    let here = not_quit (is_quit line) (left_true (goes_on line) (list_all goes_on lines) going) in
    let there = before_quit-going lines later (right_true (goes_on line) (list_all goes_on lines) going) in
    rw here (ap (λ ls. line ∷ ls) there)

pub going-last : (lines : List (List ℕ)) (rest : List ℕ) → list_all goes_on (map without_return lines) ≡ true → is_quit (without_return rest) ≡ false
    → list_all goes_on (map without_return lines ++ without_return rest ∷ []) ≡ true
going-last lines rest going here = rw (list_all-append goes_on (map without_return lines) (without_return rest ∷ []), going, here) refl

pub going-more : (lines : List (List ℕ)) (rest : List ℕ) → list_all goes_on (map without_return lines) ≡ true → is_quit (without_return rest) ≡ false
    → list_all goes_on (map without_return (lines ++ rest ∷ [])) ≡ true
going-more lines rest going here =
    rw (map-append without_return lines (rest ∷ []), list_all-append goes_on (map without_return lines) (without_return rest ∷ []), going, here) refl

-- with no line that ends the script, all are its command lines
whole_run : (lines : List (List ℕ)) → list_all goes_on (map without_return lines) ≡ true → before_quit (map without_return lines) ≡ map without_return lines
whole_run lines going = ap before_quit (sym (append-nil (map without_return lines))) ∙ before_quit-going (map without_return lines) [] going ∙ append-nil (map without_return lines)

-- ---- taking bytes

pub takes-none : (line : BegunLine) (now : Standing) (before : Option (List ℕ)) → Takes (Ok GoesOn) line line now now before before []
takes-none line now before = λ start taken text so_far. ([], Appends-nil before, rw (append-nil, append-nil) so_far)

pub takes-piece : (line new : BegunLine) (now : Standing) (before : Option (List ℕ)) (piece : List ℕ) → has_no_newline piece ≡ true
    → ((begun : List ℕ) → IsBegun line begun → IsBegun new (begun ++ piece)) → Takes (Ok GoesOn) line new now now before before piece
takes-piece line new now before piece other push = λ start taken text so_far. (
  [],
  Appends-nil before,
  rw append-nil (record {
    lines = so_far.lines;
    rest = so_far.rest ++ piece;
    splits = splits-piece taken so_far.lines so_far.rest piece so_far.splits other;
    begun = push so_far.rest so_far.begun;
    going = so_far.going;
    run = so_far.run;
  }),
)

pub takes-line : (line fresh : BegunLine) (old new : Standing) (before after : Option (List ℕ)) → IsBegun fresh []
    → ((begun : List ℕ) → IsBegun line begun → IsReplied (without_return begun) old new before after)
    → Takes (Ok GoesOn) line fresh old new before after (newline ∷ [])
takes-line line fresh old new before after empty answer = λ start taken text so_far.
    let a = answer so_far.rest so_far.begun in (
      reply_text a.1,
      a.3,
      record {
        lines = so_far.lines ++ so_far.rest ∷ [];
        rest = [];
        splits = splits-line taken [] so_far.lines [] so_far.rest [] so_far.splits splits-none;
        begun = empty;
        going = going-more so_far.lines so_far.rest so_far.going a.0;
        run = rw (map-append without_return so_far.lines (so_far.rest ∷ [])) (run-more (map without_return so_far.lines) start old new text (without_return so_far.rest) a.1 so_far.run a.2);
      },
    )

quit_cuts : (lines later : List (List ℕ)) (rest last : List ℕ) → list_all goes_on (map without_return lines) ≡ true → is_quit (without_return rest) ≡ true
    → command_lines (lines ++ rest ∷ later) last ≡ map without_return lines
quit_cuts lines later rest last going here =
    rw (
      map-append without_return lines (rest ∷ later),
      append_assoc (map without_return lines) (map without_return (rest ∷ later)) (last_line last),
      before_quit-going (map without_return lines) (map without_return (rest ∷ later) ++ last_line last) going,
      here,
    )
    (append-nil (map without_return lines))

-- a line that ends the script stands among the lines
quit_ends : (lines later : List (List ℕ)) (rest : List ℕ) → is_quit (without_return rest) ≡ true → list_all goes_on (map without_return (lines ++ rest ∷ later)) ≡ false
quit_ends lines later rest here =
    rw (map-append without_return lines (rest ∷ later), list_all-append goes_on (map without_return lines) (map without_return (rest ∷ later)), here)
    (and_false (list_all goes_on (map without_return lines)))

pub takes-quit : (line fresh : BegunLine) (old new : Standing) (before after : Option (List ℕ))
    → ((begun : List ℕ) → IsBegun line begun → IsLast (without_return begun) old new before after)
    → Takes (Ok Ends) line fresh old new before after (newline ∷ [])
takes-quit line fresh old new before after answer = λ start taken text so_far.
    let a = answer so_far.rest so_far.begun in
    let same = a.1 in (
      [],
      a.2,
      λ more. let split = split_of more in
          let splits : Splits (taken ++ (newline ∷ []) ++ more) (so_far.lines ++ so_far.rest ∷ split.lines) split.rest
          = rw append_assoc (splits-line taken more so_far.lines split.lines so_far.rest split.rest so_far.splits split.splits) in (
            record {
              lines = so_far.lines ++ so_far.rest ∷ split.lines;
              rest = split.rest;
              splits = splits;
              run = rw (quit_cuts so_far.lines split.lines so_far.rest split.rest so_far.going a.0, append-nil, same) so_far.run;
            },
            (so_far.lines ++ so_far.rest ∷ split.lines, split.rest, splits, quit_ends so_far.lines split.lines so_far.rest a.0),
          ),
    )

pub takes-fault : (fault : RunFault) (line fresh : BegunLine) (old new : Standing) (before after : Option (List ℕ))
    → ((begun : List ℕ) → IsBegun line begun → IsPartlyReplied (without_return begun) old new before after)
    → Takes (Err fault) line fresh old new before after (newline ∷ [])
takes-fault fault line fresh old new before after answer = λ start taken text so_far.
    let a = answer so_far.rest so_far.begun in
    let w = a.3 in
    let cut = w.2 in (
      w.0,
      w.1,
      w.3,
      λ more last left. let split = split_of more in record {
        lines = so_far.lines ++ so_far.rest ∷ split.lines;
        rest = split.rest;
        earlier = map without_return so_far.lines;
        final = without_return so_far.rest;
        later = map without_return split.lines;
        splits = rw append_assoc (splits-line taken more so_far.lines split.lines so_far.rest split.rest so_far.splits split.splits);
        commands = inl (sym (map-append without_return so_far.lines (so_far.rest ∷ split.lines)));
        going = going-last so_far.lines so_far.rest so_far.going a.0;
        replies = text;
        mid = old;
        run = so_far.run;
        response = a.1;
        answers = a.2;
        front = w.0;
        written = refl;
        cut = cut;
      },
    )

-- ---- the end of the bytes

last_line-some : (rest : List ℕ) → (rest ≡ [] → ⊥) → last_line rest ≡ without_return rest ∷ []
last_line-some [] some = absurd (some refl)
last_line-some (b ∷ bytes) some = refl

pub finishes-empty : (line : BegunLine) (now : Standing) (before : Option (List ℕ)) → ((begun : List ℕ) → IsBegun line begun → begun ≡ []) → Finishes (Ok tt) line now now before before
finishes-empty line now before empty = λ start taken text so_far.
    let none : last_line so_far.rest ≡ [] = ap last_line (empty so_far.rest so_far.begun) in
    let whole : command_lines so_far.lines so_far.rest ≡ map without_return so_far.lines
    = rw (none, append-nil) (whole_run so_far.lines so_far.going) in (
      [],
      Appends-nil before,
      record {
        lines = so_far.lines;
        rest = so_far.rest;
        splits = so_far.splits;
        run = rw (whole, append-nil) so_far.run;
      },
    )

pub finishes-line : (flow : Flow) (line : BegunLine) (old new : Standing) (before after : Option (List ℕ)) → ((begun : List ℕ) → IsBegun line begun → begun ≡ [] → ⊥)
    → ((begun : List ℕ) → IsBegun line begun → MatchFlow flow
    (IsReplied (without_return begun) old new before after) (IsLast (without_return begun) old new before after))
    → Finishes (Ok tt) line old new before after
finishes-line GoesOn line old new before after some answer = λ start taken text so_far.
    let a = answer so_far.rest so_far.begun in
    let here = a.0 in
    let one = last_line-some so_far.rest (some so_far.rest so_far.begun) in
    let whole : command_lines so_far.lines so_far.rest ≡ map without_return so_far.lines ++ without_return so_far.rest ∷ []
    = rw (one, before_quit-going (map without_return so_far.lines) (without_return so_far.rest ∷ []) so_far.going, here) refl in (
      reply_text a.1,
      a.3,
      record {
        lines = so_far.lines;
        rest = so_far.rest;
        splits = so_far.splits;
        run = rw whole (run-more (map without_return so_far.lines) start old new text (without_return so_far.rest) a.1 so_far.run a.2);
      },
    )
finishes-line Ends line old new before after some answer = λ start taken text so_far.
    let a = answer so_far.rest so_far.begun in
    let here = a.0 in
    let same = a.1 in
    let one = last_line-some so_far.rest (some so_far.rest so_far.begun) in
    let whole : command_lines so_far.lines so_far.rest ≡ map without_return so_far.lines
    = rw (one, before_quit-going (map without_return so_far.lines) (without_return so_far.rest ∷ []) so_far.going, here) (append-nil (map without_return so_far.lines)) in (
      [],
      a.2,
      record {
        lines = so_far.lines;
        rest = so_far.rest;
        splits = so_far.splits;
        run = rw (whole, append-nil, same) so_far.run;
      },
    )

pub finishes-fault : (fault : RunFault) (line : BegunLine) (old new : Standing) (before after : Option (List ℕ)) → ((begun : List ℕ) → IsBegun line begun → begun ≡ [] → ⊥)
    → ((begun : List ℕ) → IsBegun line begun → IsPartlyReplied (without_return begun) old new before after)
    → Finishes (Err fault) line old new before after
finishes-fault fault line old new before after some answer = λ start taken text so_far.
    let a = answer so_far.rest so_far.begun in
    let w = a.3 in
    let cut = w.2 in (
      w.0,
      w.1,
      w.3,
      λ last left end. record {
        lines = so_far.lines;
        rest = so_far.rest;
        earlier = map without_return so_far.lines;
        final = without_return so_far.rest;
        later = [];
        splits = so_far.splits;
        commands = inr (end, ap (λ l. map without_return so_far.lines ++ l) (sym (last_line-some so_far.rest (some so_far.rest so_far.begun))));
        going = going-last so_far.lines so_far.rest so_far.going a.0;
        replies = text;
        mid = old;
        run = so_far.run;
        response = a.1;
        answers = a.2;
        front = w.0;
        written = refl;
        cut = cut;
      },
    )

-- ---- from the first byte to the last

pub progress-none : (line : BegunLine) (start : Standing) → IsBegun line [] → Progress start [] line [] start
progress-none line start empty = record { lines = []; rest = []; splits = splits-none; begun = empty; going = refl; run = (refl, refl) }

-- before the first line
pub progress-from : (line : BegunLine) (source : List (List ℕ)) (work : Counts) → work ≡ no_work → IsBegun line [] → Progress (beginning source) [] line [] (at source work)
progress-from line source work none empty = subst (λ w. Progress (beginning source) [] line [] (at source w)) (sym none) (progress-none line (beginning source) empty)

pub progress-lines : (start : Standing) (taken : List ℕ) (line : BegunLine) (text : List ℕ) (now : Standing) → Progress start taken line text now → LinesOfScript start taken text now
progress-lines start taken line text now so_far = record { lines = so_far.lines; rest = so_far.rest; splits = so_far.splits; going = so_far.going; run = so_far.run }

pub progress-lacks : (start : Standing) (taken : List ℕ) (line : BegunLine) (text : List ℕ) (now : Standing) → Progress start taken line text now → LacksQuit taken
progress-lacks start taken line text now so_far = (so_far.lines, so_far.rest, so_far.splits, so_far.going)

-- what a run says of what it took, and of its reads
abbrev pub RunSays : (List ℕ → List ℕ → Type 0) → Standing → Standing → Option (List ℕ) → Option (List ℕ) → Option (List ℕ) → Option (List ℕ) → Type 0
RunSays Reads start new input left output after =
    (before last text : List ℕ) × Consumes input left (before ++ last) × Script start (before ++ last) text new × Appends output after text
    × Reads before last × IsReadToEnd before last left

-- what a run says of the whole input
abbrev pub WholeSays : Standing → Standing → Option (List ℕ) → Option (List ℕ) → Option (List ℕ) → Type 0
WholeSays start new input before after = IfSome input (λ bytes. (text : List ℕ) × Script start bytes text new × Appends before after text)

pub finished-ok : (Reads : List ℕ → List ℕ → Type 0) (line : BegunLine) (start old new : Standing) (input left before between after : Option (List ℕ)) (taken text : List ℕ)
    → Progress start taken line text old → Consumes input left taken → IsAtEnd left → Appends before between text → Reads taken []
    → Finishes (Ok tt) line old new between after → RunSays Reads start new input left before after
finished-ok Reads line start old new input left before between after taken text so_far consumed end appends reads finishes =
    let f = finishes start taken text so_far in (
      taken,
      [],
      text ++ f.0,
      rw append-nil consumed,
      rw append-nil f.2,
      Appends-trans before between after text f.0 appends f.1,
      reads,
      (progress-lacks start taken line text old so_far, inl (refl, end)),
    )

pub finished-whole : (line : BegunLine) (start old new : Standing) (input left before between after : Option (List ℕ)) (taken text : List ℕ)
    → Progress start taken line text old → Consumes input left taken → IsAtEnd left → Appends before between text
    → Finishes (Ok tt) line old new between after → WholeSays start new input before after
finished-whole line start old new None left before between after taken text so_far consumed end appends finishes = tt
finished-whole line start old new (Some xs) None before between after taken text so_far consumed end appends finishes = absurd consumed
finished-whole line start old new (Some xs) (Some ys) before between after taken text so_far consumed end appends finishes =
    let f = finishes start taken text so_far in
    (text ++ f.0, rw (consumed, end, append-nil) f.2, Appends-trans before between after text f.0 appends f.1)

pub ended-ok : (Reads : List ℕ → List ℕ → Type 0) (start new : Standing) (input left before after : Option (List ℕ)) (taken bytes text : List ℕ) → Consumes input left (taken ++ bytes)
    → Appends before after text → LacksQuit taken → Reads taken bytes
    → ((more : List ℕ) → Script start (taken ++ bytes ++ more) text new × HasQuit (taken ++ bytes ++ more)) → RunSays Reads start new input left before after
ended-ok Reads start new input left before after taken bytes text consumed appends lacks reads ends =
    let e = rw append-nil at (ends []) in
    (taken, bytes, text, consumed, e.0, appends, reads, (lacks, inr e.1))

pub ended-whole : (start new : Standing) (input left before after : Option (List ℕ)) (taken bytes text : List ℕ) → Consumes input left (taken ++ bytes)
    → Appends before after text
    → ((more : List ℕ) → Script start (taken ++ bytes ++ more) text new × HasQuit (taken ++ bytes ++ more)) → WholeSays start new input before after
ended-whole start new None left before after taken bytes text consumed appends ends = tt
ended-whole start new (Some xs) None before after taken bytes text consumed appends ends = absurd consumed
ended-whole start new (Some xs) (Some ys) before after taken bytes text consumed appends ends =
    let e = ends ys in (text, rw consumed e.0, appends)

-- what a run says that a failed write ended
abbrev pub FaultSays : (List ℕ → List ℕ → Type 0) → Standing → Standing → Option (List ℕ) → Option (List ℕ) → Option (List ℕ) → Option (List ℕ) → Type 0
FaultSays Reads start new input left output after =
    (before last text unsaid : List ℕ) × Consumes input left (before ++ last) × FrontOfScript start (before ++ last) last left text unsaid new
    × Appends output after text × Reads before last × AreAnswered start before text

-- the replies so far stand before what is added to them
answered-before : (start : Standing) (taken : List ℕ) (line : BegunLine) (text added : List ℕ) (now : Standing)
    → Progress start taken line text now → AreAnswered start taken (text ++ added)
answered-before start taken line text added now so_far = (text, added, now, progress-lines start taken line text now so_far, refl)

pub finished-fault : (Reads : List ℕ → List ℕ → Type 0) (fault : RunFault) (line : BegunLine) (start old new : Standing) (input left before between after : Option (List ℕ)) (taken text : List ℕ)
    → Progress start taken line text old → Consumes input left taken → IsAtEnd left → Appends before between text → Reads taken []
    → Finishes (Err fault) line old new between after → FaultSays Reads start new input left before after
finished-fault Reads fault line start old new input left before between after taken text so_far consumed end appends reads finishes =
    let f = finishes start taken text so_far in (
      taken,
      [],
      text ++ f.0,
      f.1,
      rw append-nil consumed,
      rw append-nil (f.3 [] left (refl, end)),
      Appends-trans before between after text f.0 appends f.2,
      reads,
      answered-before start taken line text f.0 old so_far,
    )

pub failed-fault : (Reads : List ℕ → List ℕ → Type 0) (fault : RunFault) (line next : BegunLine) (start old new : Standing) (input left before between after : Option (List ℕ)) (taken bytes text : List ℕ)
    → Progress start taken line text old → Consumes input left (taken ++ bytes) → Appends before between text → Reads taken bytes
    → Takes (Err fault) line next old new between after bytes → FaultSays Reads start new input left before after
failed-fault Reads fault line next start old new input left before between after taken bytes text so_far consumed appends reads takes =
    let t = takes start taken text so_far in (
      taken,
      bytes,
      text ++ t.0,
      t.1,
      consumed,
      rw append-nil at (t.3 [] bytes left),
      Appends-trans before between after text t.0 appends t.2,
      reads,
      answered-before start taken line text t.0 old so_far,
    )

-- ---- taking further bytes

-- where a flow is one of the two
pub takes-as : (flow same : Flow) (a b : BegunLine) (old new : Standing) (before after : Option (List ℕ)) (bytes : List ℕ) → flow ≡ same
    → Takes (Ok flow) a b old new before after bytes → Takes (Ok same) a b old new before after bytes
takes-as flow same a b old new before after bytes is takes = let P : Flow → Type 0 = λ f. Takes (Ok f) a b old new before after bytes in subst P is takes

pub takes-then : (result : Result Flow RunFault) (a b c : BegunLine) (old mid new : Standing) (before between after : Option (List ℕ)) (front back : List ℕ)
    → Takes (Ok GoesOn) a b old mid before between front → Takes result b c mid new between after back → Takes result a c old new before after (front ++ back)
takes-then (Ok GoesOn) a b c old mid new before between after front back first second = λ start taken text so_far.
    let f = first start taken text so_far in
    let s = second start (taken ++ front) (text ++ f.0) f.2 in
    (f.0 ++ s.0, Appends-trans before between after f.0 s.0 f.1 s.1, rw (← append_assoc taken front back, ← append_assoc text f.0 s.0) s.2)
takes-then (Ok Ends) a b c old mid new before between after front back first second = λ start taken text so_far.
    let f = first start taken text so_far in
    let s = second start (taken ++ front) (text ++ f.0) f.2 in
    (f.0 ++ s.0, Appends-trans before between after f.0 s.0 f.1 s.1, λ more. rw (← append_assoc taken front back, ← append_assoc text f.0 s.0) (s.2 more))
takes-then (Err fault) a b c old mid new before between after front back first second = λ start taken text so_far.
    let f = first start taken text so_far in
    let s = second start (taken ++ front) (text ++ f.0) f.2 in
    (f.0 ++ s.0, s.1, Appends-trans before between after f.0 s.0 f.1 s.2, λ more last left. rw (← append_assoc taken front back, ← append_assoc text f.0 s.0) (s.3 more last left))

pub takes-ended : (a b : BegunLine) (old new : Standing) (before after : Option (List ℕ)) (front back : List ℕ) → Takes (Ok Ends) a b old new before after front → Takes (Ok Ends) a b old new before after (front ++ back)
takes-ended a b old new before after front back first = λ start taken text so_far.
    let f = first start taken text so_far in
    (f.0, f.1, λ more. rw (← append_assoc taken front back, append_assoc (taken ++ front) back more) (f.2 (back ++ more)))

pub takes-failed : (fault : RunFault) (a b : BegunLine) (old new : Standing) (before after : Option (List ℕ)) (front back : List ℕ) → Takes (Err fault) a b old new before after front → Takes (Err fault) a b old new before after (front ++ back)
takes-failed fault a b old new before after front back first = λ start taken text so_far.
    let f = first start taken text so_far in
    (f.0, f.1, f.2, λ more last left. rw (← append_assoc taken front back, append_assoc (taken ++ front) back more) (f.3 (back ++ more) last left))

-- ---- a run

-- a fault that is no read fault
pub runs-failed : {R W : Type 0} (remaining : R → Option (List ℕ)) (contents : W → Option (List ℕ)) (old new : List (List ℕ)) (fault : RunFault)
    (reader reader' : Counted R) (writer writer' : Counted W) → (fault ≡ faults.ReadFault → ⊥)
    → RunsScript remaining contents old new (Err faults.WriteFault) reader reader' writer writer' → RunsScript remaining contents old new (Err fault) reader reader' writer writer'
runs-failed remaining contents old new faults.ReadFault reader reader' writer writer' other run = absurd (other refl)
runs-failed remaining contents old new faults.WriteFault reader reader' writer writer' other run = run
