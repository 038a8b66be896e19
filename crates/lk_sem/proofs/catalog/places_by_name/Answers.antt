use Rattle.std.proofs.Common.{◌∙◌, sym, ap}
use Rattle.lk_ast.specs.declared.table.TableDef.{TableDef}
use Rattle.lk_sem.proofs.PlacesFound.{place_put}
use Rattle.lk_sem.proofs.catalog.places_by_name.Goals as goal

pub loop-place-preserved : goal.loop-place-preserved
loop-place-preserved c = λ name.
    place_put c.args.defs.now c.loop-place.place c.index-defs-place.result c.in_ok-name.name c.loop-place.places c.insert.new.self c.loop-place-test.true c.loop-place.auto.place c.index-defs-place.is
    (c.in_ok-name.ensures.ok ∙ c.as_str.ensures ∙ sym (ap (λ (def : TableDef). def.name) c.index-defs-place.is)) c.in_ok-insert.ensures.updates name
    ∙ c.loop-place.invariant name
