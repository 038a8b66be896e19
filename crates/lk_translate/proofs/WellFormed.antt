-- The SQL of what is inlined is well formed, since its parts have kinds.
use Rattle.std.proofs.Common.{sym, subst, List, [], ◌∷◌}
use Rattle.lk_ast.specs.Tables.{HaveColumns}
use Rattle.lk_ast.specs.declared.declaration.Program.{Program}
use Rattle.lk_ground.specs.declared.program.GroundProgram.{GroundProgram}
use Rattle.lk_inline.specs.Law.{HasKinds, KindsLaw}
use Rattle.lk_inline.specs.Law as kinded
use Rattle.lk_norm.specs.Law as norm
use Rattle.lk_query.specs.declared.query.Inlined.{Inlined}
use Rattle.lk_query.specs.declared.query.Inlined.TheVariants as inlined
use Rattle.lk_translate.specs.Law.{GoodLaw, IsGood, IsGoodCode, IsMeant}
use Rattle.lk_translate.specs.Translation.{inlined_code}
use Rattle.lk_translate.specs.declared.translated.Translated.{Translated}
use Rattle.lk_types.specs.Each.{Each}

by_kinds : norm.GoodLaw → norm.GoodChangeLaw → (p : Program) (found : Inlined) → HasKinds p found → IsGood p found
by_kinds queries changes p _ (kinded.query {q = query} kinds scopes ordered typed) = λ columns. queries query kinds scopes ordered (typed columns)
by_kinds queries changes p _ (kinded.change {c = change} kinds scopes ordered typed none) = changes change kinds scopes ordered typed

pub well-formed : KindsLaw → norm.GoodLaw → norm.GoodChangeLaw → GoodLaw
well-formed kinds queries changes p bound g has helpers site block of_text proper found at = by_kinds queries changes p found (kinds p bound g has helpers site block of_text proper found at)

-- ---- where each table has a column

module _ (p : Program) (columns : HaveColumns p) where
  code_good : (found : Inlined) → IsGood p found → IsGoodCode (inlined_code found)
  code_good (inlined.Query query) good = good columns
  code_good (inlined.Change change) good = good

  pub all_good : (g : GroundProgram) (all : List Translated) → Each (IsMeant p g) all → Each (λ (one : Translated). IsGoodCode one.code) all
  all_good g [] meant = tt
  all_good g (one ∷ all) meant = (subst IsGoodCode (sym meant.0.code) (code_good meant.0.found meant.0.good), all_good g all meant.1)
