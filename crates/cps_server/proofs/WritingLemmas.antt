-- Diagnostics as they are written.
use Rattle.std.proofs.Common.{rules, ◌≡◌, refl, ap, subst, sym, ◌∙◌, append_assoc, arith, ℕ, zero, suc, ◌+◌, ◌-◌, ◌<◌, ℤ, Bool, true, false, List, [], ◌∷◌, ◌++◌, map, drop, Option, Some, None}
use Rattle.std.specs.Prelude.{IfSome, codes, decimal, length, nat_lt, slice_get, slice_index_or, take, unwrap_or, Result, Ok, Err, OnOk, is_ok, if◌then◌else◌}
use Rattle.std.proofs.lemmas.Bool.Decides.{nat_tests}
use Rattle.std.proofs.lemmas.Fmt.{decimal_digit}
use Rattle.std.proofs.lemmas.List.{append-nil, drop-map, length-drop, length-map, length-take, take-map, take-take}
use Rattle.std.proofs.lemmas.List.Elements.{All-append, All-nil}
use Rattle.json.specs.Print.{escape_byte}
use Rattle.serde_json.specs.Data.{Data, Members, member, number, object, string, unsigned}
use Rattle.serde_json.specs.Find.{of_integer}
use Rattle.serde_json.specs.View.{items_of}
use Rattle.serde_json.specs.Written.{comma_if, compact_text, items_text, members_text}
use Rattle.cps_rpc.specs.declared.encoding.Encoding.{Encoding}
use Rattle.cps_rpc.specs.Lines.{source_lines}
use Rattle.cps_cause.specs.declared.letter.Letter.{Letter}
use Rattle.cps_cause.specs.declared.letter.Letter.TheVariants.{A, D, E, L, O, T, U, V}
use Rattle.cps_server.specs.declared.mark_kind.MarkKind.{MarkKind}
use Rattle.cps_server.specs.declared.mark_kind.MarkKind.TheVariants.{Flag, Wrong}
use Rattle.cps_server.specs.declared.first_marks.FirstMarks.{FirstMarks}
use Rattle.cps_server.specs.declared.mark.Mark as made
use Rattle.cps_server.specs.Marks.{Mark, place_of}
use Rattle.cps_server.specs.Document.{source_of_text}
use Rattle.cps_server.specs.Ranges.{location, position, told_units}
use Rattle.cps_server.specs.Symbols.{line_of}
use Rattle.cps_server.specs.declared.diagnostic.Relation.{Relation}
use Rattle.cps_server.specs.declared.diagnostic.Stretch.{Stretch}
use Rattle.cps_server.specs.declared.idle_lines.IdleLines.{IdleLines}
use Rattle.cps_server.specs.declared.note_form.NoteForm.{NoteForm}
use Rattle.cps_server.specs.declared.queried_text.QueriedText.{QueriedText}
use Rattle.cps_server.specs.Diagnostics.{IsRelation, Listener, MayRelate, TellsBeside, TellsIdle, TellsMark, TellsMarks, diagnostic, letter_name, more_message, most_told, note_severity, published, range_among, relation, report, tags, told_of_more, with_relation}
use Rattle.cps_server.specs.Code.Listing.{ListsMarks}
use Rattle.cps_server.specs.Code.Writing.{AddsAllBeside, AddsBeside, AddsIdle, AddsMark, AddsMarks, AddsNote, IsIdleAmong, IsOther, ListsText, columns_stretch, counted_text, diagnostic_text, document_text, form_for, idle_text, end_text, information_text, list_text, listener_of, message_text, more_text, note_text, position_text, published_text, range_text, relation_json, relation_text, stretch_for, stretch_json, tags_text, version_text, written_report}

-- ---- a diagnostic

joins : (a b c d e : List ℕ) → a ++ (b ++ (c ++ (d ++ e))) ≡ a ++ b ++ c ++ d ++ e
joins a b c d e = simp append_assoc

position-written : (line character : ℕ) → compact_text (position line character) ≡ position_text line character
unfolding escape_byte
position-written line character = joins (codes "{\"character\":") (decimal character) (codes ",\"line\":") (decimal line) (codes "}")

range-written : (at : Stretch) → compact_text (stretch_json at) ≡ range_text at
unfolding escape_byte
range-written at =
    joins (codes "{\"end\":") (compact_text (position at.last at.end)) (codes ",\"start\":") (compact_text (position at.line at.start)) (codes "}")
    ∙ (λ i. codes "{\"end\":" ++ position-written at.last at.end i ++ codes ",\"start\":" ++ position-written at.line at.start i ++ codes "}")

tag-joins : (a d e f : List ℕ) → a ++ ((d ++ e) ++ f) ≡ (a ++ d ++ e) ++ f
tag-joins a d e f = simp append_assoc

tags-written : (is_unnecessary : Bool) → members_text true (tags is_unnecessary) ≡ tags_text is_unnecessary ++ codes "}"
unfolding escape_byte
tags-written false = refl
tags-written true = tag-joins (codes ",\"tags\":[") (decimal 1) (codes "]") (codes "}")

abbrev behind : ℕ → Bool → Members
behind severity is_unnecessary =
    member (codes "severity") (number (unsigned severity)) (member (codes "source") (string (codes "compass")) (tags is_unnecessary))

behind-written : (severity : ℕ) (is_unnecessary : Bool)
    → members_text true (behind severity is_unnecessary)
    ≡ codes ",\"severity\":" ++ (decimal severity ++ (codes ",\"source\":\"compass\"" ++ (tags_text is_unnecessary ++ codes "}")))
unfolding escape_byte
behind-written severity is_unnecessary =
    ap (λ end. codes ",\"severity\":" ++ (decimal severity ++ (codes ",\"source\":\"compass\"" ++ end))) (tags-written is_unnecessary)

place-joins : (a r u v e m w f : List ℕ) → a ++ ((r ++ (u ++ (v ++ e))) ++ (m ++ (w ++ f))) ≡ a ++ r ++ u ++ v ++ (e ++ m) ++ w ++ f
place-joins a r u v e m w f = simp append_assoc

place-written : (uri words : List ℕ) (at : Stretch)
    → compact_text (relation (location uri (stretch_json at)) words)
    ≡ codes "{\"location\":{\"range\":" ++ range_text at ++ codes ",\"uri\":" ++ compact_text (string uri) ++ codes "},\"message\":"
    ++ compact_text (string words) ++ codes "}"
unfolding escape_byte
place-written uri words at =
    place-joins (codes "{\"location\":{\"range\":") (compact_text (stretch_json at)) (codes ",\"uri\":") (compact_text (string uri)) (codes "}")
    (codes ",\"message\":") (compact_text (string words)) (codes "}")
    ∙ ap (λ range. codes "{\"location\":{\"range\":" ++ range ++ codes ",\"uri\":" ++ compact_text (string uri) ++ codes "},\"message\":"
    ++ compact_text (string words) ++ codes "}") (range-written at)

list-joins : (n a r u v m w f e rest : List ℕ)
    → n ++ (((a ++ r ++ u ++ v ++ m ++ w ++ f) ++ e) ++ rest) ≡ ((n ++ a) ++ r ++ u ++ v ++ m ++ w ++ (f ++ e)) ++ rest
list-joins n a r u v m w f e rest = simp append_assoc

relation-written : (place : Option Relation) (rest : Members)
    → members_text true (with_relation (relation_json place) rest) ≡ relation_text place ++ members_text true rest
unfolding escape_byte
relation-written None rest = refl
relation-written (Some r) rest =
    ap (λ json. codes ",\"relatedInformation\":[" ++ ((json ++ codes "]") ++ members_text true rest)) (place-written r.uri.now r.words.now r.stretch)
    ∙ list-joins (codes ",\"relatedInformation\":[") (codes "{\"location\":{\"range\":") (range_text r.stretch) (codes ",\"uri\":")
    (compact_text (string r.uri.now)) (codes "},\"message\":") (compact_text (string r.words.now)) (codes "}") (codes "]") (members_text true rest)

front-joins : (a m b r rest : List ℕ) → a ++ (m ++ (b ++ (r ++ rest))) ≡ (a ++ m ++ b ++ r) ++ rest
front-joins a m b r rest = simp append_assoc

report-written : (severity : ℕ) (at : Stretch) (message : List ℕ) (place : Option Relation) (is_unnecessary : Bool)
    → members_text false (report severity (stretch_json at) message (relation_json place) is_unnecessary)
    ≡ written_report severity at message place is_unnecessary
unfolding escape_byte
report-written severity at message place is_unnecessary =
    front-joins (codes "\"message\":") (compact_text (string message)) (codes ",\"range\":") (compact_text (stretch_json at))
    (members_text true (with_relation (relation_json place) (behind severity is_unnecessary)))
    ∙ (λ i. (codes "\"message\":" ++ compact_text (string message) ++ codes ",\"range\":" ++ range-written at i)
    ++ relation-written place (behind severity is_unnecessary) i)
    ∙ ap (λ end. message_text at message ++ (relation_text place ++ end)) (behind-written severity is_unnecessary)
    ∙ sym (append_assoc (message_text at message) (relation_text place) (end_text severity is_unnecessary))

flag-written : (letter : Letter) (range : Data) (message : List ℕ) (place : Option Data)
    → compact_text (diagnostic (Flag letter) range message place)
    ≡ codes "{\"code\":\"" ++ letter_name letter ++ codes "\"," ++ members_text false (report 1 range message place false)
unfolding escape_byte
flag-written A range message place = refl
flag-written D range message place = refl
flag-written E range message place = refl
flag-written L range message place = refl
flag-written O range message place = refl
flag-written T range message place = refl
flag-written U range message place = refl
flag-written V range message place = refl

diagnostic-written : (kind : MarkKind) (at : Stretch) (message : List ℕ) (place : Option Relation)
    → compact_text (diagnostic kind (stretch_json at) message (relation_json place)) ≡ diagnostic_text kind at message place
diagnostic-written (Flag letter) at message place =
    flag-written letter (stretch_json at) message (relation_json place)
    ∙ ap (λ rest. codes "{\"code\":\"" ++ letter_name letter ++ codes "\"," ++ rest) (report-written 1 at message place false)
diagnostic-written Wrong at message place = ap (λ rest. codes "{" ++ rest) (report-written 1 at message place false)

information-written : (at : Stretch) (message : List ℕ)
    → compact_text (object (report 3 (stretch_json at) message None false)) ≡ information_text at message
information-written at message = ap (λ rest. codes "{" ++ rest) (report-written 3 at message None false)

idle-written : (at : Stretch) (message : List ℕ) → compact_text (object (report 4 (stretch_json at) message None true)) ≡ idle_text at message
idle-written at message = ap (λ rest. codes "{" ++ rest) (report-written 4 at message None true)

note-written : (form : NoteForm) (at : Stretch) (message : List ℕ)
    → compact_text (object (report (note_severity form.is_unread) (stretch_json at) message None form.is_tagged)) ≡ note_text form at message
note-written form at message = ap (λ rest. codes "{" ++ rest) (report-written (note_severity form.is_unread) at message None form.is_tagged)

-- where a mark of this line shows
abbrev pub stretch_of : Encoding → List ℕ → made.Mark → Stretch
stretch_of encoding line mark = columns_stretch encoding line mark.line mark.columns.first mark.columns.last

-- another place is one of the text
other-related : (deck : QueriedText) (place : Relation) → IsOther deck place
    → IsRelation (listener_of deck) (source_lines deck.document.now) (relation (location place.uri.now (stretch_json place.stretch)) place.words.now)
other-related deck place other = record {
  takes = other.takes;
  line = other.line;
  first = other.first;
  last = other.last;
  words = place.words.now;
  there = other.there;
  is = (λ i. relation (location (other.uri i) (stretch_json (other.stretch i))) place.words.now);
}

may-relate : (deck : QueriedText) (place : Option Relation) → IfSome place (IsOther deck)
    → MayRelate (listener_of deck) (source_lines deck.document.now) (relation_json place)
may-relate deck None may = tt
may-relate deck (Some place) may = other-related deck place may

pub mark-added : (deck : QueriedText) (mark : made.Mark) (line : List ℕ) (stretch : Stretch) (message : List ℕ) (place : Option Relation) (old new : List ℕ)
    → line ≡ slice_index_or (source_lines deck.document.now) mark.line [] → stretch ≡ stretch_of deck.encoding line mark → IfSome place (IsOther deck)
    → new ≡ old ++ diagnostic_text mark.kind stretch message place
    → AddsMark (listener_of deck) (source_lines deck.document.now) (place_of mark) old new
mark-added deck mark line stretch message place old new there shows may added = (
  diagnostic mark.kind (range_among deck.encoding (source_lines deck.document.now) (place_of mark)) message (relation_json place),
  (message, relation_json place, may-relate deck place may, refl),
  added ∙ (λ i. old ++ diagnostic_text mark.kind (shows i) message place)
      ∙ (λ i. old ++ diagnostic_text mark.kind (stretch_of deck.encoding (there i) mark) message place)
      ∙ ap (λ text. old ++ text) (sym (diagnostic-written mark.kind at message place)),
)
  where
    at : Stretch
    at = stretch_of deck.encoding (slice_index_or (source_lines deck.document.now) mark.line []) mark

-- ---- more marks

more-told : (encoding : Encoding) (lines : List (List ℕ)) (mark : made.Mark) (marks : List made.Mark) (count : ℕ) (line : List ℕ) (stretch : Stretch)
    (message old mid new : List ℕ) → line ≡ slice_index_or lines mark.line [] → stretch ≡ stretch_of encoding line mark → message ≡ more_message count
    → mid ≡ old ++ codes "," → new ≡ mid ++ information_text stretch message → new ≡ old ++ counted_text encoding lines (map place_of (mark ∷ marks)) count
more-told encoding lines mark marks count line stretch message old mid new there shows counts comma added =
    added ∙ (λ i. comma i ++ information_text (shows i) (counts i))
    ∙ (λ i. old ++ codes "," ++ information_text (stretch_of encoding (there i) mark) (more_message count))
    ∙ ap (λ text. old ++ codes "," ++ text) (sym (information-written at (more_message count)))
    ∙ append_assoc old (codes ",") _
  where
    at : Stretch
    at = stretch_of encoding (slice_index_or lines mark.line []) mark

pub more-added : (encoding : Encoding) (lines : List (List ℕ)) (marks : List made.Mark) (count : ℕ) (mark : made.Mark) (line : List ℕ) (stretch : Stretch)
    (message old mid new : List ℕ) → slice_get marks 0 ≡ Some mark → line ≡ slice_index_or lines mark.line [] → stretch ≡ stretch_of encoding line mark
    → message ≡ more_message count → mid ≡ old ++ codes "," → new ≡ mid ++ information_text stretch message
    → new ≡ old ++ counted_text encoding lines (map place_of marks) count
more-added encoding lines [] count mark line stretch message old mid new first there shows counts comma added = absurd (search rules)
more-added encoding lines (one ∷ marks) count mark line stretch message old mid new first there shows counts comma added =
    let same : mark ≡ one = sym (ap (λ o. unwrap_or o mark) first) in
    more-told encoding lines one marks count line stretch message old mid new (there ∙ ap (λ (m : made.Mark). slice_index_or lines m.line []) same)
    (shows ∙ ap (stretch_of encoding line) same) counts comma added

-- where no mark is left out, nothing is added
pub none-more : (encoding : Encoding) (lines : List (List ℕ)) (marks : List made.Mark) (count : ℕ) (old : List ℕ) → slice_get marks 0 ≡ None
    → old ≡ old ++ counted_text encoding lines (map place_of marks) count
none-more encoding lines [] count old none = sym (append-nil old)
none-more encoding lines (one ∷ marks) count old none = absurd (search rules)

-- the first of the marks that are left out is enough
counted-more : (encoding : Encoding) (lines : List (List ℕ)) (count : ℕ) (marks : List Mark) → count ≡ length marks
    → counted_text encoding lines (take 1 marks) count ≡ more_text encoding lines marks
counted-more encoding lines count [] same = refl
counted-more encoding lines count (mark ∷ marks) same =
    ap (λ n. codes "," ++ compact_text (object (report 3 (range_among encoding lines mark) (more_message n) None false))) same

-- behind others stands what is told of more, and of lines that nothing assembles
ends-more : (encoding : Encoding) (lines : List (List ℕ)) (later : Bool) (marks : List Mark) (idle : List Data) → (0 < length marks → later ≡ true)
    → more_text encoding lines marks ++ items_text later (items_of idle) ≡ items_text later (items_of (told_of_more encoding lines marks ++ idle))
ends-more encoding lines later [] idle some = refl
ends-more encoding lines later (mark ∷ marks) idle some =
    let told = told_of_more encoding lines (mark ∷ marks) ++ idle in
    let json = object (report 3 (range_among encoding lines mark) (more_message (length (mark ∷ marks))) None false) in
    (λ i. codes "," ++ compact_text json ++ items_text (some (omega arith) i) (items_of idle))
    ∙ append_assoc (codes ",") (compact_text json) (items_text true (items_of idle))
    ∙ sym (λ i. items_text (some (omega arith) i) (items_of told))

some-first : (marks : List Mark) → 0 < length (drop most_told marks) → nat_lt 0 (length (take most_told marks)) ≡ true
some-first marks more =
    let dropped = length-drop most_told marks in
    let taken = length-take most_told marks in
    grind (arith, nat_tests)

-- ---- lines that nothing assembles

-- where these lines show
abbrev pub idle_stretch : Encoding → List ℕ → IdleLines → ℕ → Stretch
idle_stretch encoding line lines place = record { line = lines.first; start = 0; last = lines.last; end = told_units encoding line place }

pub idle-added : (deck : QueriedText) (lines : IdleLines) (line message : List ℕ) (place : ℕ) (stretch : Stretch) (old new : List ℕ)
    → deck.client.takes_unnecessary ≡ true → IsIdleAmong (length (source_of_text deck.document.now)) lines → line ≡ line_of deck.document.now lines.last
    → stretch ≡ idle_stretch deck.encoding line lines place → new ≡ old ++ idle_text stretch message
    → AddsIdle (listener_of deck) deck.document.now old new
idle-added deck lines line message place stretch old new takes among there shows added = (
  object (report 4 (stretch_json at) message None true),
  record {
    takes = takes;
    first = lines.first;
    last = lines.last;
    place = place;
    message = message;
    forward = among.forward;
    within = among.within;
    is = refl;
  },
  added ∙ (λ i. old ++ idle_text (shows i) message) ∙ (λ i. old ++ idle_text (idle_stretch deck.encoding (there i) lines place) message)
      ∙ ap (λ text. old ++ text) (sym (idle-written at message)),
)
  where
    at : Stretch
    at = idle_stretch deck.encoding (line_of deck.document.now lines.last) lines place

-- one more is told behind others
pub idle-behind : (later : Bool) (json : Data) (told rest : List Data) (first : Bool) (all list mid new : List ℕ) → mid ≡ list ++ comma_if later
    → new ≡ mid ++ compact_text json
    → list ++ items_text later (items_of (json ∷ rest)) ≡ all ++ items_text first (items_of (told ++ json ∷ rest))
    → new ++ items_text true (items_of rest) ≡ all ++ items_text first (items_of ((told ++ json ∷ []) ++ rest))
idle-behind later json told rest first all list mid new comma added is =
    (λ i. added i ++ items_text true (items_of rest))
    ∙ ap (λ text. text ++ compact_text json ++ items_text true (items_of rest)) comma
    ∙ append_assoc (list ++ comma_if later) (compact_text json) (items_text true (items_of rest))
    ∙ append_assoc list (comma_if later) (compact_text json ++ items_text true (items_of rest))
    ∙ is ∙ ap (λ ds. all ++ items_text first (items_of ds)) (sym (append_assoc told (json ∷ []) rest))

-- ---- notes

pub note-added : (deck : QueriedText) (line first last : ℕ) (is_unread : Bool) (form : NoteForm) (stretch : Stretch) (message text old new : List ℕ)
    → line < length (source_of_text deck.document.now) → form ≡ form_for deck is_unread → stretch ≡ stretch_for deck line first last
    → text ≡ note_text form stretch message → new ≡ old ++ text → AddsNote (listener_of deck) deck.document.now old new
note-added deck line first last is_unread form stretch message text old new within formed shows tells added = (
  object (report (note_severity is_unread) (stretch_json (stretch_for deck line first last)) message None (form_for deck is_unread).is_tagged),
  record {
    line = line;
    first = first;
    last = last;
    is_unread = is_unread;
    message = message;
    within = within;
    is = refl;
  },
  added ∙ ap (λ t. old ++ t) (tells ∙ (λ i. note_text (formed i) (shows i) message) ∙ sym (note-written (form_for deck is_unread) (stretch_for deck line first last) message)),
)

-- ---- what is told beside marks

pub none-beside : (to : Listener) (text : List ℕ) (later : Bool) (old : List ℕ) → AddsBeside to text later later old old
none-beside to text later old = ([], All-nil (TellsBeside to text), λ more. refl)

pub beside-both : (to : Listener) (text : List ℕ) (later now end : Bool) (a b d : List ℕ) → AddsBeside to text later now a b → AddsBeside to text now end b d
    → AddsAllBeside to text later a d
beside-both to text later now end a b d one two = (
  one.0 ++ two.0,
  All-append (TellsBeside to text) one.0 two.0 one.1 two.1,
  two.2 [] ∙ (λ i. b ++ items_text now (items_of (append-nil two.0 i))) ∙ one.2 two.0,
)

-- ---- the first of some marks

drop-fewer : {X : Type 0} (n : ℕ) (xs : List X) → drop n (take (suc n) xs) ≡ take 1 (drop n xs)
drop-fewer zero xs = refl
drop-fewer (suc n) [] = refl
drop-fewer (suc n) (x ∷ xs) = drop-fewer n xs

pub list-made : (to : Listener) (text : List ℕ) (marks : FirstMarks) (first left : List made.Mark) (count : ℕ) (list mid behind idle new : List ℕ)
    (later : Bool) → ListsMarks text marks → first ≡ take most_told marks.first.items → left ≡ drop most_told marks.first.items
    → count ≡ marks.count - most_told → later ≡ nat_lt 0 (length first)
    → list ≡ codes "[" → AddsMarks to (source_lines text) (map place_of first) list mid
    → behind ≡ mid ++ counted_text to.encoding (source_lines text) (map place_of left) count → AddsAllBeside to text later behind idle
    → new ≡ idle ++ codes "]" → ListsText to text new
list-made to text marks first left count list mid behind idle new later lists is_first is_left counts is_later opened adds more_added adds_idle ended = (
  adds.0 ++ (told ++ adds_idle.0),
  record {
    marks = places;
    of_text = lists.1;
    first = adds.0;
    each = subst (λ ms. TellsMarks to lines ms adds.0) front adds.1;
    beside = adds_idle.0;
    each_beside = adds_idle.1;
    all = refl;
  },
  ended ∙ adds_idle.2 ∙ ap (λ text. text ++ items_text later (items_of adds_idle.0)) (more_added ∙ ap (λ text. mid ++ text) more)
      ∙ append_assoc mid (more_text encoding lines (drop most_told places)) (items_text later (items_of adds_idle.0))
      ∙ ap (λ b. mid ++ (more_text encoding lines (drop most_told places) ++ items_text b (items_of adds_idle.0))) is_later_of
      ∙ ap (λ text. mid ++ text)
      (ends-more encoding lines (nat_lt 0 (length (take most_told places))) (drop most_told places) adds_idle.0 (some-first places))
      ∙ (λ i. mid ++ items_text (nat_lt 0 (length (sym front i))) (items_of (told ++ adds_idle.0)))
      ∙ adds.2 (told ++ adds_idle.0)
      ∙ ap (λ list. list ++ items_text false (items_of (adds.0 ++ (told ++ adds_idle.0)))) opened,
)
  where
    encoding : Encoding
    encoding = to.encoding

    lines : List (List ℕ)
    lines = source_lines text

    places : List Mark
    places = lists.0

    told : List Data
    told = told_of_more to.encoding (source_lines text) (drop most_told lists.0)

    front : map place_of first ≡ take most_told places
    front =
        ap (map place_of) is_first ∙ sym (take-map place_of most_told marks.first.items) ∙ ap (take most_told) lists.2.first
        ∙ take-take most_told (most_told + 1) places (omega arith)

    is_later_of : later ≡ nat_lt 0 (length (take most_told places))
    is_later_of =
        is_later ∙ ap (λ n. nat_lt 0 n) (sym (length-map first place_of) ∙ ap length front)

    next : most_told + 1 ≡ suc most_told
    next = omega arith

    back : map place_of left ≡ take 1 (drop most_told places)
    back = ap (map place_of) is_left ∙ sym (drop-map place_of most_told marks.first.items) ∙ ap (drop most_told) lists.2.first
        ∙ ap (λ n. drop most_told (take n places)) next ∙ drop-fewer most_told places

    so_many : count ≡ length (drop most_told places)
    so_many = counts ∙ ap (λ n. n - most_told) lists.2.count ∙ sym (length-drop most_told places)

    more : counted_text encoding lines (map place_of left) count ≡ more_text encoding lines (drop most_told places)
    more = ap (λ (ms : List Mark). counted_text encoding lines ms count) back ∙ counted-more encoding lines count (drop most_told places) so_many

-- ---- the end of a diagnostic

pub tag-known : tags_text true ≡ codes ",\"tags\":[1]"
tag-known = ap (λ (d : List ℕ). codes ",\"tags\":[" ++ d ++ codes "]") (decimal_digit 1 (omega arith))

pub end-known : (severity : ℕ) (is_unnecessary : Bool) (digit tags : List ℕ) → decimal severity ≡ digit → tags_text is_unnecessary ≡ tags
    → end_text severity is_unnecessary ≡ codes ",\"severity\":" ++ (digit ++ (codes ",\"source\":\"compass\"" ++ (tags ++ codes "}")))
end-known severity is_unnecessary digit tags d t = λ i. codes ",\"severity\":" ++ (d i ++ (codes ",\"source\":\"compass\"" ++ (t i ++ codes "}")))

-- ---- parts that are appended one after another

pub seven-appended : (old a b d e f g h : List ℕ) → ((((((old ++ a) ++ b) ++ d) ++ e) ++ f) ++ g) ++ h ≡ old ++ (a ++ b ++ d ++ e ++ f ++ g ++ h)
seven-appended old a b d e f g h = simp append_assoc

-- a range, in fewer parts than its positions have
pub range-appended : (old a b d e f i j k l : List ℕ)
    → (((((((((old ++ (a ++ b)) ++ i) ++ d) ++ j) ++ (e ++ (f ++ b))) ++ k) ++ d) ++ l) ++ (e ++ e))
    ≡ old ++ (a ++ (b ++ i ++ d ++ j ++ e) ++ f ++ (b ++ k ++ d ++ l ++ e) ++ e)
range-appended old a b d e f i j k l = simp append_assoc

-- where the last of them came
pub on-ok-items : {T E : Type 0} (r : Result T E) (new old more : List ℕ) → new ≡ (if is_ok r then old ++ more else old) → OnOk r (new ≡ old ++ more)
on-ok-items (Ok x) new old more is = is
on-ok-items (Err e) new old more is = tt

-- ---- what is told with a list

ends-alone : (head list entry uri end : List ℕ) → head ++ (list ++ (entry ++ (uri ++ end)) ++ end) ≡ head ++ list ++ (entry ++ uri ++ []) ++ (end ++ end)
ends-alone head list entry uri end = simp append_assoc

ends-with : (head list entry uri name version end : List ℕ)
    → head ++ (list ++ (entry ++ (uri ++ (name ++ (version ++ end)))) ++ end) ≡ head ++ list ++ (entry ++ uri ++ (name ++ version)) ++ (end ++ end)
ends-with head list entry uri name version end = simp append_assoc

abbrev head : List ℕ
head = codes "{\"jsonrpc\":\"2.0\",\"method\":\"textDocument/publishDiagnostics\",\"params\":{\"diagnostics\":"

pub published-written : (uri : List ℕ) (version : Option ℤ) (told : List Data) → compact_text (published uri version told) ≡ published_text uri version (list_text told)
unfolding escape_byte
published-written uri None told = ends-alone head (list_text told) (codes ",\"uri\":") (compact_text (string uri)) (codes "}")
published-written uri (Some version) told =
    ends-with head (list_text told) (codes ",\"uri\":") (compact_text (string uri)) (codes ",\"version\":") (compact_text (number (of_integer version))) (codes "}")

-- the same of a list that is empty
pub closed-written : (uri : List ℕ) → published_text uri None (codes "[]") ≡ compact_text (published uri None [])
closed-written uri = sym (published-written uri None [])

-- ---- what is added

pub version-added : (version : Option ℤ) (given : ℤ) (json : Data) (old mid new : List ℕ) → version ≡ Some given → json ≡ number (of_integer given)
    → mid ≡ old ++ codes ",\"version\":" → new ≡ mid ++ compact_text json → new ≡ old ++ version_text version
version-added version given json old mid new there is named added =
    added ∙ (λ i. named i ++ compact_text (is i)) ∙ append_assoc old (codes ",\"version\":") (compact_text (number (of_integer given)))
    ∙ ap (λ version. old ++ version_text version) (sym there)

later : (at : ℕ) → nat_lt 0 (at + 1) ≡ true
later at = grind (arith, nat_tests)

pub published-added : (uri : List ℕ) (version : Option ℤ) (list old named listed told new : List ℕ) → named ≡ old ++ head → listed ≡ named ++ list
    → told ≡ listed ++ document_text uri version → new ≡ told ++ codes "}}" → new ≡ old ++ published_text uri version list
published-added uri version list old named listed told new is_named is_listed is_told is_new =
    is_new ∙ ap (λ text. text ++ codes "}}") (is_told ∙ ap (λ text. text ++ document_text uri version) (is_listed ∙ ap (λ text. text ++ list) is_named))
    ∙ four old head list (document_text uri version) (codes "}}")
  where
    four : (a b c d e : List ℕ) → a ++ b ++ c ++ d ++ e ≡ a ++ (b ++ c ++ d ++ e)
    four a b c d e = simp append_assoc

pub item-added : (at : ℕ) (json : Data) (rest : List Data) (list mid new all : List ℕ) → mid ≡ list ++ comma_if (nat_lt 0 at) → new ≡ mid ++ compact_text json
    → list ++ items_text (nat_lt 0 at) (items_of (json ∷ rest)) ≡ all → new ++ items_text (nat_lt 0 (at + 1)) (items_of rest) ≡ all
item-added at json rest list mid new all comma added is =
    (λ i. added i ++ items_text (later at i) (items_of rest))
    ∙ ap (λ text. text ++ compact_text json ++ items_text true (items_of rest)) comma
    ∙ append_assoc (list ++ comma_if (nat_lt 0 at)) (compact_text json) (items_text true (items_of rest))
    ∙ append_assoc list (comma_if (nat_lt 0 at)) (compact_text json ++ items_text true (items_of rest))
    ∙ is

pub mark-next : (to : Listener) (lines : List (List ℕ)) (marks : List made.Mark) (at : ℕ) (mark : made.Mark) (json : Data) (rest : List Data)
    → drop at marks ≡ mark ∷ drop (at + 1) marks → TellsMark to lines (place_of mark) json
    → TellsMarks to lines (map place_of (drop (at + 1) marks)) rest → TellsMarks to lines (map place_of (drop at marks)) (json ∷ rest)
mark-next to lines marks at mark json rest dropped tells each =
    subst (λ ms. TellsMarks to lines (map place_of ms) (json ∷ rest)) (sym dropped) (tells, each)
