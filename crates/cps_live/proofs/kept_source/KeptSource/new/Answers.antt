use Rattle.std.proofs.Common.{rules, List, ap, subst, sym, ◌∙◌}
use Rattle.cps_chunk.specs.Division.{AreChunks}
use Rattle.cps_edit.specs.Passes.{traces_of}
use Rattle.cps_final.specs.Finals.{finals_of}
use Rattle.cps_chunk.specs.declared.chunk.Chunk.{Chunk}
use Rattle.cps_chunk.specs.Code.Chunk.{lengths_of}
use Rattle.cps_live.proofs.kept_source.KeptSource.new.Goals as goal

pub returns-clause-kept : goal.returns-clause-kept
returns-clause-kept c = record {
  lines = record {
    first = c.first.ensures;
    did = search rules;
    made = search rules;
    chunks = search rules;
    divided = subst (λ (cs : List Chunk). AreChunks (lengths_of cs)) (sym c.new-4.ensures.items) tt;
    read = search rules;
  };
  finals = c.new-5.ensures ∙ ap (λ ls. finals_of (traces_of ls)) (sym c.new.ensures.items);
}
