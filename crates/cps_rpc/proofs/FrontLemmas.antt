-- What stands behind a header that has ended.
use Rattle.std.proofs.Common.{◌≡◌, ℕ, ◌+◌, ◌-◌, ◌<◌, ◌≤◌, List, [], ◌++◌, length, take, drop, map, replicate, Some, None, Option, IsSomeAnd, sym, ap, ◌∙◌, arith, slice_range, length-take, length-drop, length-append, inr}
use Rattle.std.proofs.lemmas.List.Folds.{drop_split}
use Rattle.std.proofs.lemmas.List.{append-nil, length-map, length-replicate}
use Rattle.httparse.specs.Grammar.{print_section, ReadsSection}
use Rattle.httparse.specs.Spans.{header_bytes, name_and_value, IsSectionOf}
use Rattle.httparse.proofs.GrammarLemmas.{section_unique, ReadsSection-append}
use Rattle.httparse.specs.declared.spans.HeaderSpan.{HeaderSpan}
use Rattle.cps_rpc.specs.declared.front.Front.{Front}
use Rattle.cps_rpc.specs.declared.front.Front.TheVariants.{Part, Message, Malformed}
use Rattle.cps_rpc.specs.Header.{IsHeader, length_told, most_fields}
use Rattle.cps_rpc.specs.Messages.{BeginsWithMessage, HasNoMessage, NeverHasMessage, IsPart}
use Rattle.cps_rpc.specs.Code.Front.{IfMessage, told_by}

-- a section whose headers tell the length of a message is its header
section_header : (bytes : List ℕ) (headers : List HeaderSpan) (start count : ℕ) (section : IsSectionOf bytes 0 headers (start, count))
    (message : List ℕ) → length headers ≤ most_fields → told_by bytes (take count headers) ≡ Some (length message) → IsHeader section.0 message
section_header bytes headers start count section message few told =
    let same : length (map (header_bytes bytes) (take count headers)) ≡ length (map name_and_value section.0) = ap length section.2.fields_are in
    let fewer : length (take count headers) ≤ length headers = omega (arith, length-take count headers) in
    record {
      valid = section.2.reads.0;
      few = omega (arith, same, fewer, length-map (take count headers) (header_bytes bytes), length-map section.0 name_and_value);
      told = sym (ap length_told section.2.fields_are) ∙ told;
    }

-- a message that bytes begin with has the length that a section at their front tells, and stands behind it
behind_section : (bytes more : List ℕ) (headers : List HeaderSpan) (start count : ℕ) (section : IsSectionOf bytes 0 headers (start, count))
    (message rest : List ℕ) → BeginsWithMessage (bytes ++ more) message rest
    → (told_by bytes (take count headers) ≡ Some (length message)) × (drop start bytes ++ more ≡ message ++ rest)
behind_section bytes more headers start count section message rest begins =
    let longer = ReadsSection-append bytes section.0 section.1 (drop start bytes) more section.2.reads in
    let reads : ReadsSection (bytes ++ more) begins.fields begins.last (message ++ rest) = (begins.header.valid, begins.whole) in
    let same = section_unique (bytes ++ more) section.0 begins.fields section.1 begins.last (drop start bytes ++ more) (message ++ rest) longer reads in
    (ap length_told section.2.fields_are ∙ ap (λ fields. length_told (map name_and_value fields)) same.0 ∙ begins.header.told, same.2)

-- ---- a message

length-slice_range : (bytes : List ℕ) (from start end : ℕ) → from ≡ start → end ≤ length bytes
    → length (slice_range bytes from end) ≡ end - start
length-slice_range bytes from start end is within = omega (arith, is, length-take (end - from) (drop from bytes), length-drop from bytes)

pub message_behind : (bytes : List ℕ) (headers : List HeaderSpan) (start count : ℕ) → IsSectionOf bytes 0 headers (start, count)
    → length headers ≤ most_fields
    → (front : Front)
    → IfMessage front (λ from end.
    (from ≡ start) × (start ≤ end) × (end ≤ length bytes) × (told_by bytes (take count headers) ≡ Some (end - start)))
    → IfMessage front (λ from end. BeginsWithMessage bytes (slice_range bytes from end) (drop end bytes))
message_behind bytes headers start count section few Part is = tt
message_behind bytes headers start count section few Malformed is = tt
message_behind bytes headers start count section few (Message from end) is =
    let told = is.3 ∙ ap Some (sym (length-slice_range bytes from start end is.0 is.2)) in
    record {
      fields = section.0;
      last = section.1;
      header = section_header bytes headers start count section (slice_range bytes from end) few told;
      whole = rw is.0 (section.2.reads.1 ∙ ap (λ rest. print_section section.0 section.1 ++ rest) (drop_split bytes start end is.1));
    }

-- ---- a part of a message

start_within : (bytes : List ℕ) (headers : List HeaderSpan) (start count : ℕ) → IsSectionOf bytes 0 headers (start, count)
    → start ≤ length bytes
start_within bytes headers start count section =
    let parts = length-append (print_section section.0 section.1) (drop start bytes) in
    omega (arith, section.2.len_is, ap length section.2.reads.1, parts)

-- too few bytes have come for a message
part_none : (bytes : List ℕ) (headers : List HeaderSpan) (start count : ℕ) → IsSectionOf bytes 0 headers (start, count)
    → (size : ℕ) → told_by bytes (take count headers) ≡ Some size → length bytes < start + size → HasNoMessage bytes
part_none bytes headers start count section size is short message rest begins =
    let behind = behind_section bytes [] headers start count section message rest (rw append-nil begins) in
    let same : size ≡ length message = cc (sym is ∙ behind.0) in
    let within = start_within bytes headers start count section in
    omega (arith, ap length behind.1, within, length-append (drop start bytes) [], length-append message rest, length-drop start bytes)

pub part_behind : (bytes : List ℕ) (headers : List HeaderSpan) (start count : ℕ) → IsSectionOf bytes 0 headers (start, count)
    → length headers ≤ most_fields
    → (told : Option ℕ) → told_by bytes (take count headers) ≡ told → IsSomeAnd told (λ size. length bytes < start + size)
    → IsPart bytes
part_behind bytes headers start count section few None is short = absurd short
part_behind bytes headers start count section few (Some size) is short =
    let part = drop start bytes in
    let missing = replicate (size - length part) 0 in
    let come : length part ≡ length bytes - start = length-drop start bytes in
    let left : length missing ≡ size - length part = length-replicate (size - length part) 0 in
    let within = start_within bytes headers start count section in
    let all : size ≡ length (part ++ missing) = omega (arith, length-append part missing) in
    record {
      none = part_none bytes headers start count section size is short;
      ends = inr record {
        fields = section.0;
        last = section.1;
        part = part;
        missing = missing;
        header = section_header bytes headers start count section (part ++ missing) few (is ∙ ap Some all);
        some = omega arith;
        whole = section.2.reads.1;
      };
    }

-- ---- no message

pub never_behind : (bytes : List ℕ) (headers : List HeaderSpan) (start count : ℕ) → IsSectionOf bytes 0 headers (start, count)
    → told_by bytes (take count headers) ≡ None → NeverHasMessage bytes
never_behind bytes headers start count section none more message rest begins =
    cc (sym none ∙ (behind_section bytes more headers start count section message rest begins).0)
