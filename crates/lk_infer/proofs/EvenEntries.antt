-- Functions with schemes in which all rows of effects with one tail have the same effects before it.
use Rattle.std.proofs.Common.{◌≡◌, List, [], ◌∷◌, ◌++◌, sym, subst}
use Rattle.lk_ast.specs.declared.declaration.FunDef.{FunDef}
use Rattle.lk_types.specs.Each.{Each}
use Rattle.lk_types.specs.declared.scheme.Scheme.{Scheme}
use Rattle.lk_typing.specs.EffectRows.{IsEvenScheme}
use Rattle.lk_typing.specs.Names.{Named}
use Rattle.lk_typing.specs.Programs.{entries}

pub even_entries : (fs : List FunDef) (schemes : List Scheme) (earlier : Named Scheme) → Each IsEvenScheme schemes → Each (λ entry. IsEvenScheme entry.1) earlier
    → Each (λ entry. IsEvenScheme entry.1) (entries fs schemes ++ earlier)
even_entries [] schemes earlier even before = before
even_entries (f ∷ fs) [] earlier even before = before
even_entries (f ∷ fs) (scheme ∷ schemes) earlier even before = (even.0, even_entries fs schemes earlier even.1 before)
