use Rattle.std.proofs.Common.{rules, sym, subst, ◌∙◌, All}
use Rattle.std.proofs.lemmas.List.Elements.{All-push}
use Rattle.std.specs.Vec.Iter.{into_iter_items}
use Rattle.cps_state.specs.Made.{IsContent}
use Rattle.cps_pass.proofs.SizedLemmas.{fields-next, fields-end}
use Rattle.cps_pass.proofs.fields.size_fields.Goals as goal

pub loop-field-preserved : goal.loop-field-preserved
loop-field-preserved g c = record {
  left = λ next rest. fields-next c.in-Some.field (into_iter_items c.loop-field.field-iterator) (into_iter_items c.next.new.self) c.args.here
      c.loop-field.contents.items c.push.new.self.items c.loop-field.flags c.joined-flags.result c.in_ok-width.width g.L.Lookup.answer _ _
      (search rules) (search rules) (search rules) c.in_ok-width.ensures next rest ∙ c.loop-field.invariant.left next rest;
  each = subst (All IsContent) (sym c.in_ok-push.ensures.items) (All-push IsContent c.loop-field.contents.items c.field_with.result c.loop-field.invariant.each c.field_with.ensures.is);
}

pub loop-field-preserved-in_ok-push : goal.loop-field-preserved-in_ok-push
loop-field-preserved-in_ok-push g c = record {
  left = λ next rest. fields-next c.in-Some.field (into_iter_items c.loop-field.field-iterator) (into_iter_items c.next.new.self) c.args.here
      c.loop-field.contents.items c.push.new.self.items c.loop-field.flags c.joined-flags.result c.in_ok-width.width g.L.Lookup.answer _ _
      (search rules) (search rules) (search rules) c.in_ok-width.ensures next rest ∙ c.loop-field.invariant.left next rest;
  each = subst (All IsContent) (sym c.in_ok-push.ensures.items) (All-push IsContent c.loop-field.contents.items c.field_with.result c.loop-field.invariant.each c.field_with.ensures.is);
}

pub returns-clause-sized : goal.returns-clause-sized
returns-clause-sized g c = λ next rest.
    fields-end (into_iter_items c.loop-field.field-iterator) c.args.fields c.args.here c.loop-field.contents.items c.loop-field.flags g.L.Lookup.answer c.args.recorder.now c.loop-field.recorder
    (search rules) next rest (c.loop-field.invariant.left next rest)
