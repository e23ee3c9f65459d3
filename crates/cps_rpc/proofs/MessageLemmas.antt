-- Bytes that begin with a message.
use Rattle.std.proofs.Common.{◌≡◌, ◌++◌, length, take, drop, map, refl, sym, ap, ◌∙◌}
use Rattle.std.proofs.lemmas.List.{take_at, drop_at, append_assoc}
use Rattle.httparse.specs.Grammar.{print_section}
use Rattle.httparse.specs.Spans.{name_and_value}
use Rattle.httparse.proofs.GrammarLemmas.{section_unique, ReadsSection-append}
use Rattle.cps_rpc.specs.Header.{length_told}
use Rattle.cps_rpc.specs.StreamLaws.{OneReading, MessageStays}

pub one_message : OneReading
one_message bytes message other rest left a b =
    let same = section_unique bytes a.fields b.fields a.last b.last (message ++ rest) (other ++ left) (a.header.valid, a.whole) (b.header.valid, b.whole) in
    let told = ap (λ fields. length_told (map name_and_value fields)) same.0 in
    let size : length message ≡ length other = cc (sym a.header.told ∙ told ∙ b.header.told) in (
      sym (take_at message rest _ refl) ∙ ap (take (length message)) same.2 ∙ take_at other left _ (sym size),
      sym (drop_at message rest _ refl) ∙ ap (drop (length message)) same.2 ∙ drop_at other left _ (sym size),
    )

pub message_stays : MessageStays
message_stays bytes message rest more a =
    let longer = ReadsSection-append bytes a.fields a.last (message ++ rest) more (a.header.valid, a.whole) in
    record {
      fields = a.fields;
      last = a.last;
      header = a.header;
      whole = longer.1 ∙ ap (λ behind. print_section a.fields a.last ++ behind) (append_assoc message rest more);
    }
